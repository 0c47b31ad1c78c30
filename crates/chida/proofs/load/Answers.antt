-- `chida::load` meets its contract. Assumes nothing.
use Rattle.std.proofs.Common.{refl, ◌∙◌, arith}
use Rattle.lists.proofs.Puts.{part-long}
use Rattle.lists.proofs.Putting.{putting_start, putting-more, putting_end}
use Rattle.chida.specs.Positions.{cut}
use Rattle.chida.proofs.Positions.{ranges_of, loaded}
use Rattle.chida.proofs.load.Goals as goal

pub loop-k-init : goal.loop-k-init
loop-k-init c = putting_start _ _ _ _ c.requires.small

pub loop-k-preserved : goal.loop-k-preserved
loop-k-preserved c =
    let s = c.args in
    let l = c.loop-k in
    let g = c.copy_from_slice in
    let t = ranges_of s.at l.k c.loop-k-test.true in
    let e = g.ensures.after ∙ loaded s.at.layer s.at.from s.at.count l.k _ _ _ refl refl t.within in
    putting-more _ _ _ _ _ _ l.invariant _ _ _ (omega arith) refl refl
    (g.auto.self ∙ part-long s.at.count _ _ _ refl (omega (arith, t, l.invariant.long))) e

pub returns : goal.returns
unfolding cut
returns c = putting_end _ _ _ _ _ _ c.loop-k.invariant (omega arith)
