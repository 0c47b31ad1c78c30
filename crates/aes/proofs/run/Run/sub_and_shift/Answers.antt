-- `aes::run::Run::sub_and_shift` meets its contract: the step is not refused. Assumes nothing.
use Rattle.std.proofs.Common.{refl}
use Rattle.aes.proofs.RunFits.{fitted}
use Rattle.aes.proofs.RunSteps.{sub-done}
use Rattle.aes.proofs.run.Run.sub_and_shift.Goals as goal

pub returns : goal.returns
returns c =
    let run = c.args.self.now in
    let g = c.sub_and_shift in
    let d = sub-done run.n run.rounds c.args.state.now run.keys.now run.alphas.now (fitted run _ c.requires.table) g.result c.args.r _ _ c.requires.round refl g.ensures.number g.ensures.bytes in
    record { done = d.0; bytes = d.1 }
