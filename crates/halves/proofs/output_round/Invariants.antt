-- The loop of `halves::output_round`: all shares have one length, and opened is filled up to k. Assumes nothing.
use Rattle.std.proofs.Common.{length, get_or}
use Rattle.lists.proofs.Filling.{Filling}
use Rattle.fips197.specs.Field.{◌⊕◌}
use Rattle.halves.proofs.Fits.{Opens}
use Rattle.halves.proofs.output_round.Given as goal

abbrev pub invariant-loop-k : goal.invariant-loop-k
invariant-loop-k l = Opens l.n (length l.si) (length l.sii) (length l.received) × Filling (λ i. get_or l.si i 0 ⊕ get_or l.sii i 0 ⊕ get_or l.received i 0) l.n l.initial.opened l.k l.opened
