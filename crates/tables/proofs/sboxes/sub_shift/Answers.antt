-- `tables::sboxes::sub_shift` meets its contract: no step is refused. Assumes nothing.
use Rattle.std.proofs.Common.{ap, ◌∙◌}
use Rattle.tables.specs.Tables.{on_table}
use Rattle.tables.specs.declared.parts.Layer.TheVariants.{ShiftRows, Affine}
use Rattle.tables.proofs.Stepping.{inversion_stepped}
use Rattle.tables.proofs.sboxes.sub_shift.Goals as goal

pub returns-in_default : goal.returns-in_default
returns-in_default c =
    let g = c.gf8_inv_parties-inverted in
    let d = inversion_stepped g.result c.args.n _ _ _ _ _ _ c.requires.table c.requires.alphas_fit g.ensures.number g.ensures.bytes in
    absurd (c.in_default.not-Ok tt d.0)

pub returns-clause-bytes : goal.returns-clause-bytes
returns-clause-bytes c =
    let n = c.args.n in
    let g = c.gf8_inv_parties-inverted in
    let d = inversion_stepped g.result n _ _ _ _ _ _ c.requires.table c.requires.alphas_fit g.ensures.number g.ensures.bytes in
    c.on_parts.ensures.bytes
    ∙ ap (on_table n ShiftRows) (c.on_parts-substituted.ensures.bytes ∙ ap (on_table n Affine) d.1)
