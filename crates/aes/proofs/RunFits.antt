-- A run that is not refused fits: what its lengths are, as a type and as its steps need them. Assumes nothing.
use Prim.Native.Nat.{ℕ, ◌*◌, ◌/◌, ◌%◌, ◌≤◌}
use native.Mathlib.Omega.{arith}
use mathlib.Core.Path.{◌≡◌}
use mathlib.Core.Logic.{⊎_elim}
use mathlib.Core.Bool.{false}
use lib.Dec.{eqb}
use lib.ListN.{length}
use Rattle.std.proofs.lemmas.Bool.Decides.{nat_tests}
use Rattle.chain.specs.Chain.{inversion_need}
use Rattle.needs.specs.Needs.{rounds_of, block_need, need_of, key_table_bytes, run_number}
use Rattle.tables.specs.Fits.{TableFits}
use Rattle.aes.specs.declared.run.Run.{Run}
use Rattle.needs.proofs.Numbers.{rounds-most, rounds_need}

-- a state table, a key table and an alpha buffer of a run of R rounds on n positions
pub record RunFits (n R t k a : ℕ) : Type 0 where
  pub table : TableFits n t
  pub first : 1 ≤ R
  pub last : R ≤ 14
  pub keys : k ≡ key_table_bytes R
  pub alphas : a ≡ 3 * (R * inversion_need n)

-- ---- a run that is not refused

pub run_fits : (kind v R t k a : ℕ) → eqb kind 2 ≡ false → R ≡ rounds_of v → run_number kind v t k a ≡ 0 → RunFits (t / 6) R t k a
unfolding run_number need_of inversion_need
run_fits kind v R t k a w d e =
    let z : t % 96 ≡ 0 = grind (arith, nat_tests) in
    let m : t / 96 ≤ 4096 = grind (arith, nat_tests) in
    let n : a ≡ 3 * (t / 96 * block_need v) = grind (arith, nat_tests) in
    let c = rounds_need kind v (grind (arith, nat_tests)) in
    rw d
    (record {
      table = record { long = omega arith; part = record { whole = omega arith; most = omega arith } };
      first = ⊎_elim (λ x. omega (arith, x.0)) (λ x. omega (arith, x.0)) c;
      last = rounds-most v;
      keys = grind (arith, nat_tests);
      alphas = ⊎_elim (λ x. rw x.0 (omega (arith, rw x.1 at n))) (λ x. rw x.0 (omega (arith, rw x.1 at n))) c;
    })

-- ---- and what it is given fits every step

pub fitted : (run : Run) (t : ℕ) → t ≡ 6 * run.n → RunFits run.n run.rounds t (length run.keys.now) (length run.alphas.now)
fitted run t e =
    record {
      table = record { long = e; part = run.blocks };
      first = run.first;
      last = run.last;
      keys = run.key_table;
      alphas = run.buffer;
    }
