-- `gf8::add` meets its contract. Assumes nothing.
use Rattle.std.proofs.Common.{refl}
use Rattle.fips197.specs.Field.{◌⊕◌}
use Rattle.gf8.proofs.add.Goals as goal

pub returns : goal.returns
unfolding ◌⊕◌
returns c = refl
