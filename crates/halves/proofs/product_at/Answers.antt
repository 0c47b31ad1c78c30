-- `halves::product_at` meets its contract: the product distributes over b_i + b_(i+1). Assumes nothing.
use Rattle.fips197.proofs.Product.{·-right}
use Rattle.halves.specs.Product.{product_at}
use Rattle.halves.proofs.product_at.Goals as goal

pub returns : goal.returns
unfolding product_at
returns c = rw (← ·-right) (cc)
