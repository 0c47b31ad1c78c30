-- The loop of `aes::run::Run::cipher`: the state is that after r rounds. Assumes nothing.
use Rattle.std.proofs.Common.{◌≡◌, ◌*◌, length}
use Rattle.aes.proofs.Rounds.{turns}
use Rattle.aes.specs.Steps.{cipher_round}
use Rattle.aes.proofs.run.Run.cipher.Given as goal

abbrev pub invariant-loop-r : goal.invariant-loop-r
invariant-loop-r l = (length l.state ≡ 6 * l.self.n) × (l.state ≡ turns (cipher_round l.self.n l.self.rounds l.self.keys.now l.self.alphas.now) l.r l.initial.state)
