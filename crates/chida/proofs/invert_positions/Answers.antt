-- `chida::invert_positions` meets its contract: what was loaded is inverted, not refused, and stored. Assumes nothing.
use Rattle.std.proofs.Common.{arith, ap, ◌∙◌, List, ℕ, ◌+◌, ◌*◌, length}
use Rattle.joint.specs.Joint.{space_size, held, drawn}
use Rattle.joint.proofs.JointProduct.{box_front}
use Rattle.chain.specs.Chain.{chain_of}
use Rattle.chain.proofs.Inverting.{counted, inverted}
use Rattle.chida.specs.Positions.{stored}
use Rattle.chida.proofs.OpensInversion.{length-chain_of}
use Rattle.chida.proofs.Cut.{length_cut}
use Rattle.chida.proofs.invert_positions.Goals as goal

pub slice_bounds-x-end : goal.slice_bounds-x-end
unfolding space_size
slice_bounds-x-end c = let h = c.args.at.space in omega arith

pub returns-in_default : goal.returns-in_default
returns-in_default c =
    let at = c.args.at in
    let g = c.invert-answer in
    let loaded = ap length c.load.ensures ∙ length_cut at.layer at.from at.count at.within _ c.requires.long in
    let f = box_front (6 * at.count) c.load.new.x _ loaded in
    let d = inverted at.count at.layer at.from g.result _ _ _ _ g.new.x (ap length f ∙ loaded) (counted at _ _ _ c.requires.alphas_fit)
    g.ensures.number g.ensures.bytes in
    absurd (c.in_default.not-Ok tt d.0)

pub returns-clause-bytes : goal.returns-clause-bytes
returns-clause-bytes c =
    let at = c.args.at in
    let g = c.invert-answer in
    let alphas : ℕ → ℕ → List ℕ = λ u. drawn (u * at.layer + at.from) at.count (held c.args.alphas.now) in
    let loaded = ap length c.load.ensures ∙ length_cut at.layer at.from at.count at.within _ c.requires.long in
    let f = box_front (6 * at.count) c.load.new.x _ loaded in
    let d = inverted at.count at.layer at.from g.result _ _ _ _ g.new.x (ap length f ∙ loaded) (counted at _ _ _ c.requires.alphas_fit)
    g.ensures.number g.ensures.bytes in
    let e = d.1 ∙ ap (chain_of at.count alphas) (f ∙ c.load.ensures) in
    let y = box_front _ _ _ (ap length e ∙ length-chain_of _ _ _) ∙ e in
    c.store.ensures ∙ ap (λ (l : List ℕ). stored at.layer at.from at.count l c.args.table.now) y
