-- The loop of `halves::mul_first_half`: all slices have one length, and ci is filled up to j. Assumes nothing.
use Rattle.std.proofs.Common.{length}
use Rattle.halves.proofs.Filled.{Filled}
use Rattle.halves.proofs.Fits.{Alike}
use Rattle.halves.proofs.mul_first_half.Given as goal

abbrev pub invariant-loop-j : goal.invariant-loop-j
invariant-loop-j l = Alike l.n (length l.ai) (length l.aii) (length l.bi) (length l.bii) (length l.alphas) × Filled l.ai l.aii l.bi l.bii l.alphas l.n l.initial.ci l.j l.ci
