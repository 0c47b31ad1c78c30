-- `chida::store` meets its contract. Assumes nothing.
use Rattle.std.proofs.Common.{refl, ◌∙◌, ◌*◌, arith}
use Rattle.lists.proofs.Puts.{part-long}
use Rattle.lists.proofs.Chunks.{part-chunk}
use Rattle.lists.proofs.Putting.{putting_start, putting-more, putting_end}
use Rattle.chida.specs.Positions.{stored}
use Rattle.chida.proofs.Positions.{ranges_of}
use Rattle.chida.proofs.store.Goals as goal

pub loop-k-init : goal.loop-k-init
loop-k-init c = putting_start _ _ _ _ c.requires.large

pub loop-k-preserved : goal.loop-k-preserved
loop-k-preserved c =
    let s = c.args in
    let l = c.loop-k in
    let g = c.paste in
    let t = ranges_of s.at l.k c.loop-k-test.true in
    let y = part-chunk s.at.count l.k (l.k * s.at.count) _ s.x.now refl refl in
    let z = part-chunk s.at.layer l.k (l.k * s.at.layer) _ l.table refl refl ∙ l.invariant.rest l.k (omega arith) in
    putting-more _ _ _ _ _ _ l.invariant _ _ _ (omega arith) refl refl
    (g.auto.part ∙ part-long s.at.layer _ _ _ refl (omega (arith, t, l.invariant.long))) (rw (y, z) at g.ensures)

pub returns : goal.returns
unfolding stored
returns c = putting_end _ _ _ _ _ _ c.loop-k.invariant (omega arith)
