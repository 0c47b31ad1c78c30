-- `layers::blocks::store` meets its contract. Assumes nothing.
use Rattle.std.proofs.Common.{refl, arith}
use Rattle.lists.specs.Lists.{tab}
use Rattle.lists.proofs.Filling.{filling_start, filling-more, filling_end}
use Rattle.fips197.specs.State.{state_of}
use Rattle.layers.specs.Rows.{bytes_of}
use Rattle.layers.proofs.blocks.store.Goals as goal

pub loop-k-init : goal.loop-k-init
loop-k-init c = filling_start _ _ _ c.requires

pub loop-k-preserved : goal.loop-k-preserved
loop-k-preserved c = filling-more _ _ _ _ _ c.loop-k.invariant _ (omega arith) refl

pub returns : goal.returns
unfolding bytes_of state_of tab
returns c = filling_end _ _ _ _ _ c.loop-k.invariant (omega arith)
