-- Numbers that are not refused by a step on a table, and the way back: what fits a step is not refused. Assumes nothing.
use Prim.Native.Nat.{ℕ, ◌+◌, ◌*◌, ◌/◌, ◌%◌, ◌≤◌, ◌<◌}
use native.Mathlib.Omega.{arith}
use mathlib.Core.Path.{◌≡◌}
use Rattle.std.proofs.lemmas.Bool.Decides.{nat_tests}
use Rattle.layers.specs.Layers.{table_number}
use Rattle.layers.proofs.Numbers.{table-passed}
use Rattle.tables.specs.Fits.{TableFits, KeyFits, DrawFits}
use Rattle.tables.specs.Tables.{key_number, alphas_number}

whole-table : (t : ℕ) → t % 96 ≡ 0 → t / 96 ≤ 4096 → TableFits (t / 6) t
whole-table t z m = record { long = omega arith; part = record { whole = omega arith; most = omega arith } }

pub table_fits : (t : ℕ) → table_number t ≡ 0 → TableFits (t / 6) t
table_fits t e = let p = table-passed t e in whole-table t p.0 p.1

pub key_fits : (t k r : ℕ) → key_number t k r ≡ 0 → KeyFits (t / 6) (k / 6) r t k
unfolding key_number
key_fits t k r e =
    record { table = whole-table t (grind (arith, nat_tests)) (grind (arith, nat_tests)); keys = grind (arith, nat_tests); round = grind (arith, nat_tests) }

pub alphas_fit : (t a from : ℕ) → alphas_number t a from ≡ 0 → TableFits (t / 6) t × DrawFits (t / 6) (a / 3) from a
unfolding alphas_number
alphas_fit t a from e =
    (whole-table t (grind (arith, nat_tests)) (grind (arith, nat_tests)), record { alphas = grind (arith, nat_tests); within = grind (arith, nat_tests) })

-- ---- the way back

module _ (n t : ℕ) (f : TableFits n t) where
  pub table_passes : table_number t ≡ 0
  unfolding table_number
  table_passes = let l = f.long in let w = f.part.whole in let m = f.part.most in grind (arith, nat_tests)

  pub key_passes : (k r : ℕ) → k % 96 ≡ 0 → r < k / 96 → key_number t k r ≡ 0
  unfolding key_number
  key_passes k r z h = let l = f.long in let w = f.part.whole in let m = f.part.most in grind (arith, nat_tests)

  pub alphas_pass : (a from : ℕ) → a % 3 ≡ 0 → from + 4 * n ≤ a / 3 → alphas_number t a from ≡ 0
  unfolding alphas_number
  alphas_pass a from z h = let l = f.long in let w = f.part.whole in let m = f.part.most in grind (arith, nat_tests)
