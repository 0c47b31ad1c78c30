-- `tables::parts::on_parts` meets its contract. Assumes nothing.
use Rattle.std.proofs.Common.{refl, ap, ◌∙◌, ◌*◌, arith}
use Rattle.lists.proofs.Puts.{part-long}
use Rattle.lists.proofs.Chunks.{chunk_in, part-chunk}
use Rattle.lists.proofs.Putting.{putting-more, putting_end}
use Rattle.tables.specs.Tables.{layer_of}
use Rattle.tables.proofs.parts.on_parts.Goals as goal

pub loop-k-preserved : goal.loop-k-preserved
loop-k-preserved c =
    let s = c.args in
    let l = c.loop-k in
    let g = c.on_part-step in
    let room = chunk_in s.n l.k 6 _ l.invariant.long (omega arith) in
    let y = part-chunk s.n l.k (l.k * s.n) _ l.state refl refl ∙ l.invariant.rest l.k (omega arith) in
    putting-more _ _ _ _ _ _ l.invariant _ _ _ (omega arith) refl refl
    (g.auto.part ∙ part-long s.n _ _ _ refl room) (g.ensures.bytes ∙ ap (layer_of s.layer l.k) y)

pub returns-clause-bytes : goal.returns-clause-bytes
returns-clause-bytes c = putting_end _ _ _ _ _ _ c.loop-k.invariant (omega arith)
