-- `aes::run::Run::inverse` meets its contract: the last round follows the others. Assumes nothing.
use Rattle.std.proofs.Common.{◌∙◌, arith}
use Rattle.aes.proofs.Rounds.{turns-none, turns_more, inverse-turned, inverse-is}
use Rattle.aes.proofs.run.Run.inverse.Goals as goal

pub loop-r-init : goal.loop-r-init
loop-r-init c = (c.add_key-begun.auto.state ∙ c.requires, turns-none _ _)

pub loop-r-preserved : goal.loop-r-preserved
loop-r-preserved c =
    let i = c.loop-r.invariant in
    let g = c.inverse_round-step in
    (g.auto.state ∙ i.0, g.ensures.bytes ∙ turns_more _ _ _ _ i.1)

pub returns-clause-bytes : goal.returns-clause-bytes
returns-clause-bytes c =
    let rounds = inverse-turned _ _ _ _ _ _ _ _ _ (omega arith) c.add_key-begun.ensures.bytes c.loop-r.invariant.1 in
    inverse-is _ _ _ _ _ _ _ _ rounds c.shift_and_sub-substituted.ensures.bytes c.add_key.ensures.bytes
