-- The loop of `chida::load`: the parts below k of x are cut out of the table's. Assumes nothing.
use Rattle.std.proofs.Common.{take, drop}
use Rattle.lists.specs.Lists.{chunk}
use Rattle.lists.proofs.Putting.{Putting}
use Rattle.chida.proofs.load.Given as goal

abbrev pub invariant-loop-k : goal.invariant-loop-k
invariant-loop-k l = Putting l.at.count 6 (λ i. take l.at.count (drop l.at.from (chunk l.at.layer i l.table))) l.initial.x l.k l.x
