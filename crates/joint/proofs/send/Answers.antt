-- `joint::send` meets its contract. Assumes nothing.
use Rattle.std.proofs.Common.{refl, ◌∙◌}
use Rattle.rep3.proofs.Refusals.{step-done}
use Rattle.joint.proofs.Exchanging.{send_zero, send-is}
use Rattle.joint.proofs.send.Goals as goal

pub returns : goal.returns
returns c =
    let s = c.args in
    let m = c.mul_first_half.ensures in
    let d = step-done _ _ _ _ _ (send_zero s.n s.p _ _ _ refl refl refl _ _ _ _ c.requires) m.number m.bytes in
    record { done = d.0; bytes = d.1 ∙ send-is s.n s.p _ _ _ refl refl refl _ _ _ _ c.requires.outbox }
