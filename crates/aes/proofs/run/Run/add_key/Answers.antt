-- `aes::run::Run::add_key` meets its contract: the step is not refused. Assumes nothing.
use Rattle.aes.proofs.RunFits.{fitted}
use Rattle.aes.proofs.RunSteps.{key-done}
use Rattle.aes.proofs.run.Run.add_key.Goals as goal

pub returns : goal.returns
returns c =
    let run = c.args.self.now in
    let g = c.add_key in
    let d = key-done run.n run.rounds c.args.state.now run.keys.now run.alphas.now (fitted run _ c.requires.table) g.result _ _ c.requires.round g.ensures.number g.ensures.bytes in
    record { done = d.0; bytes = d.1 }
