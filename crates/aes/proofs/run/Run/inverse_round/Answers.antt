-- `aes::run::Run::inverse_round` meets its contract: its steps make a round. Assumes nothing.
use Rattle.aes.proofs.Rounds.{inverse_round-is}
use Rattle.aes.proofs.run.Run.inverse_round.Goals as goal

pub returns-clause-bytes : goal.returns-clause-bytes
returns-clause-bytes c =
    inverse_round-is _ _ _ _ _ _ _ _ _ c.shift_and_sub-substituted.ensures.bytes c.add_key-keyed.ensures.bytes c.layer.ensures.bytes
