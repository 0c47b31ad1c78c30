-- `gf8::masked` meets its contract: the mask is 255 or 0. Assumes nothing.
use Rattle.std.proofs.Common.{ℕ, ◌*◌, ◌%◌, ap, ◌∙◌, bit_and, rules}
use lib.Bits.{and_mask}
use Rattle.fips197.proofs.Additive.{odd_lt}
use Rattle.gf8.proofs.Steps.{mask_taken}
use Rattle.gf8.proofs.masked.Goals as goal

pub returns : goal.returns
returns c =
    ap (λ (d : ℕ). bit_and c.args.x (d * 255)) (and_mask c.args.y 1)
    ∙ mask_taken c.args.x (c.args.y % 2) (search rules) (odd_lt c.args.y)
