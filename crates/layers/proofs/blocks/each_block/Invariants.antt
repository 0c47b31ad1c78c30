-- The loop of `layers::blocks::each_block`: the first k blocks are changed, and the rest is as it was. Assumes nothing.
use Rattle.std.proofs.Common.{ℕ, ◌/◌, List, length}
use Rattle.lists.proofs.Chunked.{Chunked}
use Rattle.layers.specs.Layers.{block_bytes, Computes}
use Rattle.layers.proofs.blocks.each_block.Given as goal

abbrev pub invariant-loop-k : goal.invariant-loop-k
invariant-loop-k g l =
    (f : List ℕ → List ℕ) → Computes (goal.F-post g l.change) f
    → Chunked block_bytes (λ _. f) (length l.initial.part / block_bytes) l.initial.part l.k l.part
