-- `tables::sub_and_shift` meets its contract: only what is lent of the alphas of the three parties counts. Assumes nothing.
use Rattle.std.proofs.Common.{ap, ◌∙◌, ◌/◌, ℕ, List, length}
use Rattle.tables.specs.Tables.{on_table}
use Rattle.tables.specs.declared.parts.Layer.TheVariants.{ShiftRows, Affine}
use Rattle.tables.proofs.Alphas.{lent-alphas}
use Rattle.tables.proofs.sub_and_shift.Goals as goal

pub returns-clause-bytes : goal.returns-clause-bytes
returns-clause-bytes c =
    let n = length c.args.state.now / 6 in
    let p = c.party_alphas-parties.ensures in
    rw c.sub_shift.ensures.done (c.sub_shift.ensures.bytes
    ∙ ap (λ (t : List ℕ). on_table n ShiftRows (on_table n Affine t)) (lent-alphas n _ _ _ _ _ p.first p.second p.third))
