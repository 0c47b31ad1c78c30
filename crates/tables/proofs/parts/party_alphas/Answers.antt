-- `tables::parts::party_alphas` meets its contract: each party's alphas stand in its part of the buffer, from the place on. Assumes nothing.
use Rattle.std.proofs.Common.{refl, ◌+◌, ◌*◌, arith}
use Rattle.chain.specs.Chain.{inversion_need}
use Rattle.lists.proofs.Puts.{part-long}
use Rattle.tables.proofs.SubChunks.{sub_part}
use Rattle.tables.proofs.parts.party_alphas.Goals as goal

pub returns : goal.returns
unfolding inversion_need
returns c =
    let s = c.args in
    let f = c.requires in
    let al = s.alphas.now in
    let need = 4 * s.n in
    let b = s.w + s.from in
    record {
      fit =
          record {
            first = part-long need s.from _ al refl (omega (arith, f));
            second = part-long need b _ al refl (omega (arith, f));
            third = part-long need (s.w + b) _ al refl (omega (arith, f));
          };
      first = sub_part need s.from s.w 0 s.from _ (omega arith) refl f.within al;
      second = sub_part need s.from s.w 1 b _ (omega arith) refl f.within al;
      third = sub_part need s.from s.w 2 (s.w + b) _ (omega arith) refl f.within al;
    }
