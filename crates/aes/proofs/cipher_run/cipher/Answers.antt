-- `aes::cipher_run::cipher` meets its contract: what is not refused fits the run. Assumes nothing.
use Rattle.std.proofs.Common.{refl, sym}
use Rattle.aes.proofs.RunFits.{run_fits}
use Rattle.aes.proofs.cipher_run.cipher.Goals as goal

pub invariant_of-run : goal.invariant_of-run
invariant_of-run c =
    let f = run_fits 0 _ _ _ _ _ refl c.rounds_of.ensures (sym c.in_ok-run_check.ensures) in
    record { blocks = f.table.part; first = f.first; last = f.last; key_table = f.keys; buffer = f.alphas }

pub cipher-requires : goal.cipher-requires
cipher-requires c = (run_fits 0 _ _ _ _ _ refl c.rounds_of.ensures (sym c.in_ok-run_check.ensures)).table.long
