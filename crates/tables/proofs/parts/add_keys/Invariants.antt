-- The loop of `tables::parts::add_keys`: the parts below k have their round key added, and the others are as they were. Assumes nothing.
use Rattle.fips197.specs.State.{add_round_key}
use Rattle.lists.specs.Lists.{chunk}
use Rattle.lists.proofs.Putting.{Putting}
use Rattle.layers.specs.Layers.{each_block}
use Rattle.tables.proofs.parts.add_keys.Given as goal

abbrev pub invariant-loop-k : goal.invariant-loop-k
invariant-loop-k l =
    Putting l.n 6 (λ i. each_block (λ b. add_round_key b (chunk 16 l.r (chunk l.w i l.keys))) (chunk l.n i l.initial.state)) l.initial.state
    l.k l.state
