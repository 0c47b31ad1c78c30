-- The loop of `tables::parts::on_parts`: the parts below k are changed, and the others as they were. Assumes nothing.
use Rattle.lists.specs.Lists.{chunk}
use Rattle.lists.proofs.Putting.{Putting}
use Rattle.tables.specs.Tables.{layer_of}
use Rattle.tables.proofs.parts.on_parts.Given as goal

abbrev pub invariant-loop-k : goal.invariant-loop-k
invariant-loop-k l = Putting l.n 6 (λ i. layer_of l.layer i (chunk l.n i l.initial.state)) l.initial.state l.k l.state
