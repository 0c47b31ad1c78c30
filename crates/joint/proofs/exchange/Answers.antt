-- `joint::exchange` meets its contract. Assumes nothing.
use Rattle.std.proofs.Common.{◌∙◌}
use Rattle.joint.proofs.JointProduct.{all-exchanged}
use Rattle.joint.proofs.exchange.Goals as goal

pub returns-clause-bytes : goal.returns-clause-bytes
returns-clause-bytes c =
    let r = c.requires in
    let g = c.receive in
    let h = c.receive-taken1 in
    let k = c.receive-taken0 in
    all-exchanged c.args.n _ _ _ r.first r.second r.third _ _ _ _ (g.auto.out ∙ h.auto.out ∙ k.auto.out ∙ r.out)
    k.ensures.parts h.ensures.parts g.ensures.parts
