-- `tables::parts::on_part` meets its contract: in each arm the part fits the layer. Assumes nothing.
use Rattle.std.proofs.Common.{◌∙◌}
use Rattle.fips197.specs.Field.{affine, inv_affine}
use Rattle.tables.specs.Tables.{held_constant}
use Rattle.tables.proofs.Stepping.{layer_stepped}
use Rattle.tables.proofs.PartMaps.{map-then-add, add-then-map}
use Rattle.tables.proofs.parts.on_part.Goals as goal

pub returns-in-ShiftRows : goal.returns-in-ShiftRows
returns-in-ShiftRows c =
    let g = c.shift_rows in
    let d = layer_stepped g.result _ _ _ _ c.requires.whole g.ensures.number g.ensures.bytes in
    record { done = d.0; bytes = rw c.in-ShiftRows.is d.1 }

pub returns-in-InvShiftRows : goal.returns-in-InvShiftRows
returns-in-InvShiftRows c =
    let g = c.inv_shift_rows in
    let d = layer_stepped g.result _ _ _ _ c.requires.whole g.ensures.number g.ensures.bytes in
    record { done = d.0; bytes = rw c.in-InvShiftRows.is d.1 }

pub returns-in-MixColumns : goal.returns-in-MixColumns
returns-in-MixColumns c =
    let g = c.mix_columns in
    let d = layer_stepped g.result _ _ _ _ c.requires.whole g.ensures.number g.ensures.bytes in
    record { done = d.0; bytes = rw c.in-MixColumns.is d.1 }

pub returns-in-InvMixColumns : goal.returns-in-InvMixColumns
returns-in-InvMixColumns c =
    let g = c.inv_mix_columns in
    let d = layer_stepped g.result _ _ _ _ c.requires.whole g.ensures.number g.ensures.bytes in
    record { done = d.0; bytes = rw c.in-InvMixColumns.is d.1 }

pub returns-in-Affine-clause-bytes : goal.returns-in-Affine-clause-bytes
unfolding held_constant
returns-in-Affine-clause-bytes c = rw c.in-Affine.is (c.with_constant.ensures.bytes ∙ map-then-add affine _ c.args.part.now)

pub returns-in-InvAffine-clause-bytes : goal.returns-in-InvAffine-clause-bytes
unfolding held_constant
returns-in-InvAffine-clause-bytes c =
    rw c.in-InvAffine.is (c.with_constant-in-InvAffine.ensures.bytes ∙ add-then-map inv_affine _ c.args.part.now)
