-- The loop of `layers::blocks::store`: the first k bytes are those of the rows, and the rest is as it was. Assumes nothing.
use Rattle.std.proofs.Common.{◌/◌, ◌%◌}
use Rattle.lists.proofs.Filling.{Filling}
use Rattle.layers.specs.Layers.{block_bytes}
use Rattle.layers.specs.Rows.{byte_of, row}
use Rattle.layers.proofs.blocks.store.Given as goal

abbrev pub invariant-loop-k : goal.invariant-loop-k
invariant-loop-k l = Filling (λ i. byte_of (row l.fn.s (i / 4)) (i % 4)) block_bytes l.initial.b l.k l.b
