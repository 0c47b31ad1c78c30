-- `aes::run::Run::cipher_round` meets its contract: its steps make a round. Assumes nothing.
use Rattle.aes.proofs.Rounds.{cipher_round-is}
use Rattle.aes.proofs.run.Run.cipher_round.Goals as goal

pub returns-clause-bytes : goal.returns-clause-bytes
returns-clause-bytes c =
    cipher_round-is _ _ _ _ _ _ _ _ _ c.sub_and_shift-shifted.ensures.bytes c.layer-mixed.ensures.bytes c.add_key.ensures.bytes
