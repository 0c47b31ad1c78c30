-- `chida::gf8_inv_parties` meets its contract. Assumes nothing.
use Rattle.std.proofs.Common.{sym, arith}
use Rattle.joint.specs.Joint.{space_size}
use Rattle.chida.proofs.Turns.{turn_of, turns_start, turns_end}
use Rattle.chida.proofs.InversionLayer.{parties_fit, inverted_start, inverted-more, inverted_end, inverted-long}
use Rattle.chida.proofs.gf8_inv_parties.Goals as goal

pub loop-k-init : goal.loop-k-init
loop-k-init c =
    let f = parties_fit _ _ _ _ (sym c.in_ok-parties_check.ensures) in
    (f, rw (turns_start _) (inverted_start _ _ _ f.table))

-- by arithmetic, and not by turn_of, which is of turns of 256: positions of other turns would fit as well, and what refuses them is the loop
pub invariant_of-at : goal.invariant_of-at
unfolding space_size
invariant_of-at c =
    let m = c.min.ensures in
    let e = c.div_ceil-k-end.ensures in
    let h = c.loop-k-test.true in
    record { space = omega arith; within = omega arith; most = c.loop-k.invariant.0.most }

pub invert_positions-step-requires : goal.invert_positions-step-requires
invert_positions-step-requires c =
    let f = c.loop-k.invariant.0 in
    record {
      long = inverted-long _ _ _ _ _ c.loop-k.invariant.1;
      alphas_fit = record { first = f.first; second = f.second; third = f.third };
    }

pub loop-k-preserved : goal.loop-k-preserved
loop-k-preserved c =
    let t = turn_of _ c.loop-k.k _ _ c.div_ceil-k-end.ensures c.loop-k-test.true c.min.ensures in
    let i = rw t.begins at c.loop-k.invariant.1 in
    (c.loop-k.invariant.0, rw (← t.ends) (inverted-more _ _ _ _ _ i _ t.within _ c.invert_positions-step.ensures.bytes))

pub returns-clause-bytes : goal.returns-clause-bytes
returns-clause-bytes c = inverted_end _ _ _ _ _ c.loop-k.invariant.1 (turns_end _ _ _ c.div_ceil-k-end.ensures c.loop-k-test.false)
