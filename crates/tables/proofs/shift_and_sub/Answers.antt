-- `tables::shift_and_sub` meets its contract: only what is lent of the alphas of the three parties counts. Assumes nothing.
use Rattle.std.proofs.Common.{◌∙◌}
use Rattle.tables.proofs.Alphas.{lent-alphas}
use Rattle.tables.proofs.shift_and_sub.Goals as goal

pub returns-clause-bytes : goal.returns-clause-bytes
returns-clause-bytes c =
    let p = c.party_alphas-parties.ensures in
    rw c.shift_sub.ensures.done (c.shift_sub.ensures.bytes ∙ lent-alphas _ _ _ _ _ _ p.first p.second p.third)
