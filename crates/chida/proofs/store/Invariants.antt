-- The loop of `chida::store`: the positions of x stand in the parts below k of the table. Assumes nothing.
use Rattle.lists.specs.Lists.{chunk}
use Rattle.lists.proofs.Putting.{Putting}
use Rattle.chida.specs.Positions.{pasted}
use Rattle.chida.proofs.store.Given as goal

abbrev pub invariant-loop-k : goal.invariant-loop-k
invariant-loop-k l = Putting l.at.layer 6 (λ i. pasted l.at.from (chunk l.at.count i l.x) (chunk l.at.layer i l.initial.table)) l.initial.table l.k l.table
