-- The loop of `gf8::mul`: what is summed so far and the steps that are left make the product. Assumes nothing.
use Rattle.std.proofs.Common.{◌≡◌, ◌-◌}
use Rattle.fips197.specs.Field.{◌⊕◌, ◌·◌}
use Rattle.gf8.proofs.Steps.{steps_n}
use Rattle.gf8.proofs.mul.Given as goal

abbrev pub invariant-loop-i : goal.invariant-loop-i
invariant-loop-i l = l.sum ⊕ steps_n (8 - l.i) l.x l.y ≡ l.fn.a · l.fn.b
