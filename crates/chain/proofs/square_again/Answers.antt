-- `chain::square_again` meets its contract. Assumes nothing.
use Rattle.std.proofs.Common.{refl, ap, ◌∙◌, arith}
use Rattle.lists.proofs.Filling.{filling_start, filling-more, filling_read, filling_end, mapped}
use Rattle.fips197.specs.Field.{square}
use Rattle.chain.proofs.square_again.Goals as goal

pub loop-x-init : goal.loop-x-init
loop-x-init c = filling_start _ _ _ refl

pub loop-x-preserved : goal.loop-x-preserved
loop-x-preserved c =
    let i = c.loop-x.invariant in
    filling-more _ _ _ _ _ i _ (omega arith) (c.square.ensures ∙ ap square (filling_read _ _ _ _ _ i _ 0 (omega arith)))

pub returns : goal.returns
returns c = filling_end _ _ _ _ _ c.loop-x.invariant (omega arith) ∙ mapped _ square c.args.v.now refl
