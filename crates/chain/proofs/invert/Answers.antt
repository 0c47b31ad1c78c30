-- `chain::invert` meets its contract: lengths that are not refused fit the chain. Assumes nothing.
use Rattle.std.proofs.Common.{sym, refl, arith}
use Rattle.joint.specs.Joint.{space_size}
use Rattle.chain.specs.Chain.{inversion_need, most_inversion}
use Rattle.chain.proofs.Inverting.{chain_fits, table_front}
use Rattle.chain.proofs.invert.Goals as goal

pub invariant_of-at : goal.invariant_of-at
unfolding most_inversion
invariant_of-at c =
    let f = (chain_fits _ _ _ _ _ _ (sym c.in_ok-chain_check.ensures)).1 in
    record { space = f.space; within = f.within; most = f.most }

pub slice_bounds-x2-end : goal.slice_bounds-x2-end
unfolding space_size
slice_bounds-x2-end c = let f = chain_fits _ _ _ _ _ _ (sym c.in_ok-chain_check.ensures) in omega (arith, f.0, f.1.space)

pub chain-requires-clause-alphas_fit : goal.chain-requires-clause-alphas_fit
unfolding inversion_need
chain-requires-clause-alphas_fit c =
    let f = (chain_fits _ _ _ _ _ _ (sym c.in_ok-chain_check.ensures)).1 in
    record { first = f.first; second = f.second; third = f.third }

pub chain-requires-clause-powers_fit : goal.chain-requires-clause-powers_fit
chain-requires-clause-powers_fit c =
    let f = chain_fits _ _ _ _ _ _ (sym c.in_ok-chain_check.ensures) in
    let l = table_front _ _ _ f.0 refl f.1.space in
    record { first = f.0; second = l; third = l; twelfth = l; fifteenth = l; fourteenth = l }
