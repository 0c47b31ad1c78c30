-- `joint::multiply` meets its contract. Assumes nothing.
use Rattle.std.proofs.Common.{ap, ◌∙◌, length}
use Rattle.joint.proofs.JointProduct.{length-first_half, box_front, product-sent}
use Rattle.joint.proofs.multiply.Goals as goal

pub returns-clause-bytes : goal.returns-clause-bytes
returns-clause-bytes c =
    let s = c.args in
    let k0 = c.send-sent0.ensures in
    let k1 = c.send-sent1.ensures in
    let k2 = c.send-sent2.ensures in
    c.exchange.ensures.bytes ∙ product-sent s.n s.place _ _ _ _ _ _ _ _
    (box_front _ _ _ (ap length k0.bytes ∙ length-first_half _ _ _ _ _ _) ∙ k0.bytes)
    (box_front _ _ _ (ap length k1.bytes ∙ length-first_half _ _ _ _ _ _) ∙ k1.bytes)
    (box_front _ _ _ (ap length k2.bytes ∙ length-first_half _ _ _ _ _ _) ∙ k2.bytes)
