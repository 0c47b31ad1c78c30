-- What the refusals of a run and of a round key half leave: numbers that are not refused. Assumes nothing.
use Prim.Native.Nat.{ℕ, ◌+◌, ◌*◌, ◌≤◌, ◌<◌}
use native.Mathlib.Omega.{arith}
use mathlib.Core.Path.{◌≡◌, refl}
use mathlib.Core.Logic.{◌⊎◌, inl, inr}
use mathlib.Core.Bool.{Bool, true, false, cond}
use lib.Dec.{eqb}
use Rattle.std.proofs.lemmas.Bool.Decides.{nat_tests}
use Rattle.layers.specs.Layers.{most_blocks}
use Rattle.needs.specs.Needs.{rounds_of, block_need, schedule_need, need_of, has_variant, key_table_bytes, need_number}
use Rattle.needs.specs.Keys.{half_number, half_index}

-- ---- variants

most_of : (a b : Bool) → cond a 10 (cond b 14 0) ≤ 14
most_of true b = omega arith
most_of false true = omega arith
most_of false false = omega arith

pub rounds-most : (v : ℕ) → rounds_of v ≤ 14
unfolding rounds_of
rounds-most v = most_of (eqb v 128) (eqb v 256)

-- for a function's attribute
pub ruleset round_bounds = (rounds-most)

-- a variant has 10 rounds or 14, and its need is that of as many inversions
abbrev pub Has : ℕ → ℕ → ℕ → ℕ → Type 0
Has rounds need R b = (rounds ≡ R) × (need ≡ b)

cases_of : (p q s : Bool) → cond p true (cond q false s) ≡ true
    → Has (cond p 10 (cond s 14 0)) (cond p 640 896) 10 640 ⊎ Has (cond p 10 (cond s 14 0)) (cond p 640 896) 14 896
cases_of true q s e = inl (refl, refl)
cases_of false true s e = let z : ◌≡◌ {A = ℕ} 0 1 = cc in absurd (omega arith)
cases_of false false true e = inr (refl, refl)
cases_of false false false e = let z : ◌≡◌ {A = ℕ} 0 1 = cc in absurd (omega arith)

pub rounds_need : (kind v : ℕ) → has_variant kind v ≡ true
    → Has (rounds_of v) (block_need v) 10 640 ⊎ Has (rounds_of v) (block_need v) 14 896
unfolding has_variant rounds_of block_need
rounds_need kind v e = cases_of (eqb v 128) (eqb kind 1) (eqb v 256) e

-- ---- a need that is not refused

pub need_fits : (kind v blocks : ℕ) → need_number kind v blocks ≡ 0 → blocks ≤ most_blocks
unfolding need_number
need_fits kind v blocks e = grind (arith, nat_tests)

need-most : (a b : Bool) (n : ℕ) → n ≤ 4096 → cond a (cond b 160 208) (n * cond b 640 896) ≤ 3670016
need-most true true n h = omega arith
need-most true false n h = omega arith
need-most false true n h = omega arith
need-most false false n h = omega arith

pub need-small : (kind v n : ℕ) → n ≤ most_blocks → need_of kind v n ≤ 3670016
unfolding need_of schedule_need block_need
need-small kind v n h = need-most (eqb kind 2) (eqb v 128) n h

-- ---- a round key half that is not refused

pub record HalfFits (v k party r : ℕ) : Type 0 where
  pub keys : k ≡ key_table_bytes (rounds_of v)
  pub whose : party ≤ 2
  pub round : r ≤ rounds_of v

pub half_fits : (v k party r : ℕ) → half_number v k party r ≡ 0 → HalfFits v k party r
unfolding half_number
half_fits v k party r e = record { keys = grind (arith, nat_tests); whose = grind (arith, nat_tests); round = grind (arith, nat_tests) }

index_of : (party : ℕ) (sii : Bool) → party ≤ 2 → cond sii (2 * party + 1) (2 * party) < 6
index_of party true h = omega arith
index_of party false h = omega arith

pub index-most : (party : ℕ) (sii : Bool) → party ≤ 2 → half_index party sii < 6
unfolding half_index
index-most party sii h = index_of party sii h
