-- `joint::mul_tables` meets its contract. Assumes nothing.
use Rattle.std.proofs.Common.{sym}
use Rattle.joint.proofs.JointProduct.{joint_fits}
use Rattle.joint.proofs.mul_tables.Goals as goal

pub multiply-requires : goal.multiply-requires
multiply-requires c = joint_fits _ _ _ _ _ _ _ (sym c.in_ok-joint_check.ensures)
