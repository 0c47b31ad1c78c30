-- `halves::output_round` meets its contract. Assumes nothing.
use Rattle.std.proofs.Common.{refl, sym, ◌∙◌, arith}
use Rattle.lists.proofs.Filling.{filling_start, filling-more, filling_end}
use Rattle.halves.proofs.Fits.{open_fits, opens_sum}
use Rattle.halves.proofs.output_round.Goals as goal

pub loop-k-init : goal.loop-k-init
loop-k-init c = (open_fits _ _ _ _ (sym c.in_ok-open_check.ensures), filling_start _ _ _ refl)

pub loop-k-preserved : goal.loop-k-preserved
loop-k-preserved c = let l = c.loop-k in (l.invariant.0, filling-more _ _ _ _ _ l.invariant.1 _ (omega arith) (cc))

pub returns-clause-bytes : goal.returns-clause-bytes
returns-clause-bytes c = let l = c.loop-k.invariant in filling_end _ _ _ _ _ l.1 (omega arith) ∙ opens_sum _ _ _ _ l.0
