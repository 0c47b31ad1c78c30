-- `halves::mul_first_half` meets its contract. Assumes nothing.
use Rattle.std.proofs.Common.{refl, sym, arith}
use Rattle.halves.proofs.Filled.{filled_start, filled_end}
use Rattle.halves.proofs.Fits.{mul_fits}
use Rattle.halves.proofs.mul_first_half.Goals as goal

pub loop-j-init : goal.loop-j-init
loop-j-init c = (mul_fits _ _ _ _ _ _ (sym c.in_ok-mul_check.ensures), filled_start _ _ _ _ _ _ _ refl)

pub returns-clause-bytes : goal.returns-clause-bytes
returns-clause-bytes c = filled_end _ _ _ _ _ _ _ _ _ c.loop-j.invariant.1 (omega arith)
