-- The answer to the need question from its number: a count where it is 0, and otherwise the refusal that has the number. Assumes nothing.
use Prim.Native.Nat.{ℕ, ◌<◌}
use mathlib.Core.Path.{◌≡◌, refl}
use mathlib.Core.Bool.{false}
use lib.Dec.{eqb}
use borrow.Author.Tests.{eq-eqb, ne_eqb}
use Rattle.std.specs.Prelude.{Ok, Err}
use Rattle.rep3.specs.Answers.{Answer, refusal_number, number_of}
use Rattle.rep3.specs.declared.Refusal.{Refusal}
use Rattle.rep3.proofs.Refusals.{refusal, no_zero}
use Rattle.rep3.proofs.Determined.{refusal-back}
use Rattle.needs.specs.Needs.{need_of, need_number}
use Rattle.needs.specs.Needed.{needed_of}

-- the number of a refusal is not 0
pub above_zero : (a : Answer) → (a ≡ Ok tt → ⊥) → 0 < number_of a
above_zero (Ok x) h = absurd (h refl)
above_zero (Err r) h = refusal r

module _ (kind variant blocks : ℕ) where
  pub counted : (n : ℕ) → need_number kind variant blocks ≡ 0 → n ≡ need_of kind variant blocks → Ok n ≡ needed_of kind variant blocks
  unfolding needed_of
  counted n z e = rw (e, eq-eqb _ _ z)

  pub refused : (r : Refusal) → refusal_number r ≡ need_number kind variant blocks → Err r ≡ needed_of kind variant blocks
  unfolding needed_of
  refused r e =
      let d : eqb (refusal_number r) 0 ≡ false = ne_eqb (refusal_number r) 0 (no_zero r) in
      rw (← e, d, refusal-back)
