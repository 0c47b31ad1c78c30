-- A step that is given what fits is not refused: a layer on a part, a round key on a part, an inversion. Assumes nothing.
use Prim.Native.Nat.{ℕ, ◌/◌}
use native.Mathlib.Omega.{arith}
use mathlib.Core.Path.{◌≡◌, sym, ap, ap₂, ◌∙◌}
use mathlib.Core.List.{List}
use Rattle.std.proofs.lemmas.Bool.Decides.{nat_tests}
use lib.ListN.{length}
use Rattle.fips197.specs.State.{add_round_key}
use Rattle.lists.specs.Lists.{chunk}
use Rattle.std.specs.Prelude.{Ok}
use Rattle.rep3.specs.Answers.{Answer, number_of, when_done}
use Rattle.rep3.proofs.Refusals.{step-done}
use Rattle.layers.specs.Layers.{each_block, layer_number, keyed_number}
use Rattle.chain.specs.Chain.{inversion_need, most_inversion}
use Rattle.chain.specs.Powers.{AlphasFit}
use Rattle.chida.specs.Positions.{parties_number}
use Rattle.chida.specs.Inversion.{inversion_of}
use Rattle.tables.specs.Fits.{PartFits, TableFits}

-- a step that is done leaves the new list
abbrev pub Stepped : Answer → List ℕ → List ℕ → Type 0
Stepped a new out = (a ≡ Ok tt) × (out ≡ new)

-- what is done meets the promise of a step
pub done-is : (a : Answer) (new old out : List ℕ) → number_of a ≡ 0 → out ≡ new → out ≡ when_done (number_of a) new old
done-is a new old out z e = e ∙ sym (ap (λ (n : ℕ). when_done n new old) z)

layer_passes : (n : ℕ) → PartFits n → layer_number n ≡ 0
unfolding layer_number
layer_passes n f = grind (arith, nat_tests)

pub layer_stepped : (a : Answer) (n : ℕ) (new old out : List ℕ) → PartFits n → number_of a ≡ layer_number n
    → out ≡ when_done (number_of a) new old → Stepped a new out
layer_stepped a n new old out f = step-done a _ new old out (layer_passes n f)

keyed_passes : (n k : ℕ) → PartFits n → k ≡ 16 → keyed_number n k ≡ 0
unfolding keyed_number
keyed_passes n k f e = grind (arith, nat_tests)

-- part is chunk k of the table as it was, and key its round key
pub key_stepped : (a : Answer) (n w r k : ℕ) (keys old part key out : List ℕ) → PartFits n → length part ≡ n → length key ≡ 16
    → key ≡ chunk 16 r (chunk w k keys) → part ≡ chunk n k old
    → number_of a ≡ keyed_number (length part) (length key) → out ≡ when_done (number_of a) (each_block (λ b. add_round_key b key) part) part
    → Stepped a (each_block (λ b. add_round_key b (chunk 16 r (chunk w k keys))) (chunk n k old)) out
key_stepped a n w r k keys old part key out f lp lk ek ep e o =
    let z : keyed_number (length part) (length key) ≡ 0 = rw lp (keyed_passes n (length key) f lk) in
    let s = step-done a _ _ _ out z e o in
    (s.0, s.1 ∙ ap₂ (λ (x y : List ℕ). each_block (λ b. add_round_key b x) y) ek ep)

parties_pass : (n t a0 a1 a2 : ℕ) → TableFits n t → AlphasFit n a0 a1 a2 → parties_number t a0 a1 a2 ≡ 0
unfolding parties_number inversion_need most_inversion
parties_pass n t a0 a1 a2 f g = let l = f.long in let w = f.part.whole in let m = f.part.most in grind (arith, nat_tests)

pub parties_stepped : (a : Answer) (n t a0 a1 a2 : ℕ) (new old out : List ℕ) → TableFits n t → AlphasFit n a0 a1 a2
    → number_of a ≡ parties_number t a0 a1 a2 → out ≡ when_done (number_of a) new old → Stepped a new out
parties_stepped a n t a0 a1 a2 new old out f g = step-done a _ new old out (parties_pass n t a0 a1 a2 f g)

pub inversion_stepped : (a : Answer) (n a0 a1 a2 : ℕ) (α : ℕ → List ℕ) (old out : List ℕ) → TableFits n (length old) → AlphasFit n a0 a1 a2
    → number_of a ≡ parties_number (length old) a0 a1 a2 → out ≡ when_done (number_of a) (inversion_of (length old / 6) α old) old
    → Stepped a (inversion_of n α old) out
inversion_stepped a n a0 a1 a2 α old out f g e o =
    let l : length old / 6 ≡ n = omega (arith, f.long) in
    let s = parties_stepped a n _ a0 a1 a2 _ old out f g e o in
    (s.0, rw l at s.1)
