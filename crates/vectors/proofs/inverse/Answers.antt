-- `vectors::inverse` meets its contract: it is the chain to x^254. Assumes nothing.
use Rattle.fips197.specs.Chain.{x2, x3, x12, x15, x14, x240, x254}
use Rattle.fips197.proofs.Inverse.{chain}
use Rattle.vectors.proofs.inverse.Goals as goal

pub returns : goal.returns
unfolding x2 x3 x12 x15 x14 x240 x254
returns c = rw (← chain) (cc)
