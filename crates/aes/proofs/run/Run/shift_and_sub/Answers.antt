-- `aes::run::Run::shift_and_sub` meets its contract: the step is not refused. Assumes nothing.
use Rattle.std.proofs.Common.{refl}
use Rattle.aes.proofs.RunFits.{fitted}
use Rattle.aes.proofs.RunSteps.{inv_sub-done}
use Rattle.aes.proofs.run.Run.shift_and_sub.Goals as goal

pub returns : goal.returns
returns c =
    let run = c.args.self.now in
    let g = c.shift_and_sub in
    let d = inv_sub-done run.n run.rounds c.args.state.now run.keys.now run.alphas.now (fitted run _ c.requires.table) g.result c.args.r _ _ c.requires.round refl g.ensures.number g.ensures.bytes in
    record { done = d.0; bytes = d.1 }
