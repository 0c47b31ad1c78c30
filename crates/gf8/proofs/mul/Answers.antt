-- `gf8::mul` meets its contract. Assumes nothing.
use Rattle.std.proofs.Common.{◌≡◌, ℕ, suc, ◌+◌, ◌-◌, ◌/◌, ap, ap₂, sym, ◌∙◌, arith, rules}
use Rattle.fips197.specs.Field.{◌⊕◌}
use Rattle.fips197.proofs.Sums.{⊕_zero, zero_⊕}
use Rattle.gf8.proofs.Steps.{steps_n, steps_are, steps-turn}
use Rattle.gf8.proofs.mul.Goals as goal

pub loop-i-init : goal.loop-i-init
loop-i-init c = zero_⊕ _ ∙ steps_are c.args.a c.args.b (search rules) (search rules)

pub loop-i-preserved : goal.loop-i-preserved
loop-i-preserved c =
    let k = c.loop-i in
    let e : suc (8 - (k.i + 1)) ≡ 8 - k.i = omega arith in
    ap₂ (λ (s r : ℕ). s ⊕ steps_n (8 - (k.i + 1)) r (k.y / 2))
    (c.add-sum.ensures ∙ ap (λ (m : ℕ). k.sum ⊕ m) c.masked.ensures) c.xtime-x.ensures
    ∙ steps-turn k.sum k.x k.y (8 - (k.i + 1))
    ∙ ap (λ (n : ℕ). k.sum ⊕ steps_n n k.x k.y) e
    ∙ k.invariant

pub returns : goal.returns
unfolding steps_n
returns c =
    let k = c.loop-i in
    let e : 8 - k.i ≡ 0 = omega arith in
    sym (⊕_zero k.sum) ∙ sym (ap (λ (n : ℕ). k.sum ⊕ steps_n n k.x k.y) e) ∙ k.invariant
