-- The loop of `chain::square_again`: the bytes before the index are squares. Assumes nothing.
use Rattle.std.proofs.Common.{length, get_or}
use Rattle.lists.proofs.Filling.{Filling}
use Rattle.fips197.specs.Field.{square}
use Rattle.chain.proofs.square_again.Given as goal

abbrev pub invariant-loop-x : goal.invariant-loop-x
invariant-loop-x l = Filling (λ k. square (get_or l.initial.v k 0)) (length l.initial.v) l.initial.v l.x-index l.v
