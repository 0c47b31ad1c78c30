-- `layers::blocks::each_block` meets its contract. Assumes nothing.
use Rattle.std.proofs.Common.{refl, arith, ◌∙◌}
use Rattle.lists.proofs.Chunked.{chunked_start, chunked-more}
use Rattle.layers.specs.Layers.{block_bytes}
use Rattle.layers.proofs.blocks.each_block.Goals as goal

pub loop-k-init : goal.loop-k-init
loop-k-init g c = λ f h. chunked_start _ _ _ _ (omega arith)

pub loop-k-preserved : goal.loop-k-preserved
loop-k-preserved g c = λ f h.
    let i = c.loop-k.invariant f h in
    chunked-more block_bytes _ (λ _. h.keeps) _ _ _ _ _ _ _ i (omega arith) refl refl
    (c.store.ensures ∙ rw c.load.ensures.rows at (h.gives _ _ (rw c.load.ensures.rows c.load.ensures.bytes) c.change.ensures))
