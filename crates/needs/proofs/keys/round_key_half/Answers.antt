-- `needs::keys::round_key_half` meets its contract: the check gives the number, and that the half lies within the key table. Assumes nothing.
use Rattle.std.proofs.Common.{◌≤◌, ◌+◌, ◌*◌, length, refl, sym, arith}
use Rattle.needs.specs.Keys.{half_of}
use Rattle.needs.proofs.Numbers.{half_fits, index-most}
use Rattle.needs.proofs.KeyParts.{key-part, key-room}
use Rattle.needs.proofs.keys.round_key_half.Goals as goal
use Rattle.needs.proofs.keys.round_key_half.Goals.{After-half_index}

-- the half is within the key table
room : (c : After-half_index)
    → c.half_index.result * (16 * (c.rounds_of.result + 1)) + 16 * c.args.round + 16 ≤ length c.args.keys.now
room c =
    let a = c.args in
    let f = half_fits _ _ _ _ (sym c.in-Ok.ensures) in
    rw (c.half_index.ensures, c.rounds_of.ensures)
    (key-room _ a.round _ _ _ refl refl f.round _ f.keys (index-most a.party a.sii f.whose))

pub half_index-requires : goal.half_index-requires
half_index-requires c = (half_fits _ _ _ _ (sym c.in-Ok.ensures)).whose

pub overflow_mul-start : goal.overflow_mul-start
overflow_mul-start c = omega (arith, room (goal.at.overflow_mul-start c).After-half_index)

pub overflow_add-start : goal.overflow_add-start
overflow_add-start c = omega (arith, room (goal.at.overflow_add-start c).After-half_index)

pub overflow_add-end : goal.overflow_add-end
overflow_add-end c = omega (arith, room (goal.at.overflow_add-end c).After-half_index)

pub slice_bounds-result-end-2 : goal.slice_bounds-result-end-2
slice_bounds-result-end-2 c = omega (arith, room (goal.at.slice_bounds-result-end-2 c).After-half_index)

pub returns : goal.returns
unfolding half_of
returns c =
    let a = c.args in
    let z = sym c.in-Ok.ensures in
    let f = half_fits _ _ _ _ z in
    rw (z, c.half_index.ensures, c.rounds_of.ensures) (key-part _ _ _ _ _ refl refl f.round a.keys.now)
