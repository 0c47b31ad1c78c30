-- A promise that gives an answer's number, and a lent list by that number, leaves one outcome: two that meet it are equal. This is how
-- docs/PROMISES.md shows for each operation that no second answer would satisfy its promise. Assumes nothing.
use mathlib.Core.Path.{◌≡◌, refl, sym, ap, ◌∙◌}
use mathlib.Core.List.{List}
use Prim.Native.Nat.{ℕ}
use Rattle.std.specs.Prelude.{Ok, Err}
use Rattle.rep3.specs.Answers.{Answer, refusal_of, refusal_number, number_of, when_done}
use Rattle.rep3.proofs.Refusals.{no_zero}
use Rattle.rep3.specs.declared.Refusal.{Refusal}
use Rattle.rep3.specs.declared.Refusal.TheVariants.{Length, TooMany, Message, Block, Keys, Alphas, Variant, Party, Round, Header, Mode, Count}

pub refusal-back : (r : Refusal) → refusal_of (refusal_number r) ≡ r
unfolding refusal_of
refusal-back Length = refl
refusal-back TooMany = refl
refusal-back Message = refl
refusal-back Block = refl
refusal-back Keys = refl
refusal-back Alphas = refl
refusal-back Variant = refl
refusal-back Party = refl
refusal-back Round = refl
refusal-back Header = refl
refusal-back Mode = refl
refusal-back Count = refl

-- a number has one answer
pub same_answer : (a b : Answer) → number_of a ≡ number_of b → a ≡ b
same_answer (Ok x) (Ok y) e = refl
same_answer (Ok x) (Err r) e = no_zero r (sym e)
same_answer (Err r) (Ok x) e = no_zero r e
same_answer (Err r) (Err q) e = ap Err (sym (refusal-back r) ∙ ap refusal_of e ∙ refusal-back q)

-- the promise: the answer's number is k, and the lent list is new where k is 0 and otherwise old
abbrev pub Promised : ℕ → List ℕ → List ℕ → Answer → List ℕ → Type 0
Promised k new old a xs = (number_of a ≡ k) × (xs ≡ when_done (number_of a) new old)

pub determined : (k : ℕ) (new old : List ℕ) (a b : Answer) (xs ys : List ℕ)
    → Promised k new old a xs → Promised k new old b ys → (a ≡ b) × (xs ≡ ys)
determined k new old a b xs ys p q =
    let e : number_of a ≡ number_of b = p.0 ∙ sym q.0 in
    (same_answer a b e, p.1 ∙ ap (λ (n : ℕ). when_done n new old) e ∙ sym q.1)
