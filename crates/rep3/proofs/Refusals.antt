-- A refusal leaves a list as it was, the number 0 is no refusal's, a called step whose number comes to 0 is done, and what a chain of
-- refusals that gives 0 shows. Assumes nothing.
use mathlib.Core.Path.{◌≡◌, refl, ap, ◌∙◌}
use mathlib.Core.List.{List}
use mathlib.Core.Bool.{Bool, true, false, cond}
use native.Mathlib.Omega.{arith}
use Prim.Native.Nat.{ℕ, zero, suc, ◌<◌}
use Rattle.std.specs.Prelude.{Ok, Err}
use Rattle.rep3.specs.Answers.{Answer, refusal_number, number_of, when_done}
use Rattle.rep3.specs.declared.Refusal.{Refusal}
use Rattle.rep3.specs.declared.Refusal.TheVariants.{Length, TooMany, Message, Block, Keys, Alphas, Variant, Party, Round, Header, Mode, Count}

-- no refusal has the number 0
pub refusal : (r : Refusal) → 0 < refusal_number r
refusal Length = omega arith
refusal TooMany = omega arith
refusal Message = omega arith
refusal Block = omega arith
refusal Keys = omega arith
refusal Alphas = omega arith
refusal Variant = omega arith
refusal Party = omega arith
refusal Round = omega arith
refusal Header = omega arith
refusal Mode = omega arith
refusal Count = omega arith

kept : (n : ℕ) (new old : List ℕ) → 0 < n → when_done n new old ≡ old
kept zero new old h = absurd (omega arith)
kept (suc n) new old h = refl

-- a list after a refusal is as it was
pub refused : (r : Refusal) (new old : List ℕ) → when_done (refusal_number r) new old ≡ old
refused r new old = kept (refusal_number r) new old (refusal r)

pub no_zero : {X : Type 0} (r : Refusal) → refusal_number r ≡ 0 → X
no_zero r e = let h : 0 < refusal_number r = refusal r in absurd (omega arith)

-- what is done has the number 0, and nothing else
pub done : (a : Answer) → a ≡ Ok tt → number_of a ≡ 0
done a e = ap (λ (r : Answer). number_of r) e

pub is_done : (r : Answer) → number_of r ≡ 0 → r ≡ Ok tt
is_done (Ok x) e = refl
is_done (Err r) e = no_zero r e

-- a called step whose number comes to 0 is done, and left the new list
pub step-done : (r : Answer) (k : ℕ) (new old xs : List ℕ) → k ≡ 0 → number_of r ≡ k → xs ≡ when_done (number_of r) new old
    → (r ≡ Ok tt) × (xs ≡ new)
step-done r k new old xs z e h = (is_done r (e ∙ z), rw (e ∙ z) at h)

-- a chain `cond t rest k` with k not 0 that gives 0: the test held, and so on with the rest
pub passed : (t : Bool) (rest k : ℕ) → cond t rest (suc k) ≡ 0 → (t ≡ true) × (rest ≡ 0)
passed true rest k e = (refl, e)
passed false rest k e = absurd (omega arith)
