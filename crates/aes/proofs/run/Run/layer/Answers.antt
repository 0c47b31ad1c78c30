-- `aes::run::Run::layer` meets its contract: the step is not refused. Assumes nothing.
use Rattle.aes.proofs.RunFits.{fitted}
use Rattle.aes.proofs.RunSteps.{layer-done}
use Rattle.aes.proofs.run.Run.layer.Goals as goal

pub returns : goal.returns
returns c =
    let run = c.args.self.now in
    let g = c.on_table in
    let d = layer-done run.n run.rounds c.args.state.now run.keys.now run.alphas.now (fitted run _ c.requires) g.result c.args.layer _ g.ensures.number g.ensures.bytes in
    record { done = d.0; bytes = d.1 }
