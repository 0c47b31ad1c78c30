-- `chida::gf8_inv_layer` meets its contract: the thirds of its buffer are not refused. Assumes nothing.
use Rattle.std.proofs.Common.{refl, sym, ◌∙◌, ◌*◌, ◌/◌, length, arith}
use Rattle.rep3.proofs.Refusals.{step-done}
use Rattle.chida.proofs.InversionLayer.{buffer_fits, thirds_zero, thirds_are, third-long}
use Rattle.chida.proofs.gf8_inv_layer.Goals as goal

pub returns : goal.returns
returns c =
    let al = c.args.alphas.now in
    let k = length al / 3 in
    let n = c.in_ok-inversion_check.ensures in
    let f = buffer_fits _ _ (sym n) in
    let g = c.gf8_inv_parties.ensures in
    let z = thirds_zero _ _ _ _ _ _ refl f
    (third-long _ _ al al f 0 0 k (omega arith) (omega arith) (omega arith))
    (third-long _ _ al al f 1 k (2 * k) (omega arith) (omega arith) (omega arith))
    (third-long _ _ al al f 2 (2 * k) (3 * k) (omega arith) (omega arith) (omega arith)) in
    let d = step-done _ _ _ _ _ z g.number g.bytes in
    record { number = rw d.0 n; bytes = rw d.0 (d.1 ∙ thirds_are _ _ al _ f) }
