-- The loop of `chida::gf8_inv_parties`: the positions of the turns before k are inverted. Assumes nothing.
use Rattle.std.proofs.Common.{◌*◌, length, min}
use Rattle.joint.specs.Joint.{held}
use Rattle.chida.proofs.InversionLayer.{PartiesFit, Inverted}
use Rattle.chida.proofs.gf8_inv_parties.Given as goal

abbrev pub invariant-loop-k : goal.invariant-loop-k
invariant-loop-k l = PartiesFit l.n (length l.initial.table) (length l.alphas.a0.now) (length l.alphas.a1.now) (length l.alphas.a2.now) × Inverted l.n (held l.alphas) l.initial.table (min (l.k * 256) l.n) l.table
