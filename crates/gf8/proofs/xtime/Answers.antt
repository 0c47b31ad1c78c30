-- `gf8::xtime` meets its contract. Assumes nothing.
use Rattle.std.proofs.Common.{ℕ, ◌*◌, ◌%◌, ap, ◌∙◌}
use Rattle.fips197.specs.Field.{◌⊕◌, bit, xtime}
use Rattle.gf8.proofs.xtime.Goals as goal

pub returns : goal.returns
unfolding xtime bit
returns c = c.add.ensures ∙ ap (λ (m : ℕ). c.args.a * 2 % 256 ⊕ m) c.masked.ensures
