-- `tables::sboxes::shift_sub` meets its contract: no step is refused. Assumes nothing.
use Rattle.std.proofs.Common.{ap, ◌∙◌, length}
use Rattle.joint.specs.Joint.{held}
use Rattle.chida.specs.Inversion.{inversion_of}
use Rattle.tables.specs.Fits.{TableFits}
use Rattle.tables.specs.Tables.{on_table}
use Rattle.tables.specs.declared.parts.Layer.TheVariants.{InvAffine}
use Rattle.tables.proofs.Stepping.{inversion_stepped}
use Rattle.tables.proofs.sboxes.shift_sub.Goals as goal

pub returns : goal.returns
returns c =
    let n = c.args.n in
    let g = c.gf8_inv_parties in
    let t : TableFits n (length c.on_parts-mapped.new.state) = rw (c.on_parts-mapped.auto.state, c.on_parts-shifted.auto.state) c.requires.table in
    let d = inversion_stepped g.result n _ _ _ _ _ _ t c.requires.alphas_fit g.ensures.number g.ensures.bytes in
    record {
      done = d.0;
      bytes =
          d.1 ∙ ap (inversion_of n (held c.args.alphas.now))
          (c.on_parts-mapped.ensures.bytes ∙ ap (on_table n InvAffine) c.on_parts-shifted.ensures.bytes);
    }
