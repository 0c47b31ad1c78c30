-- One multiplication and one opening among three parties (document 01, "The rules of computing"), and when each is refused ("Numbers that
-- come back"). Assumes nothing.
use Rattle.std.specs.Prelude.{ℕ, cond, List, leb, eqb, get_or}
use Rattle.fips197.specs.Field.{◌⊕◌, ◌·◌}
use Rattle.fips197.specs.State.{◌⊞◌}
use Rattle.lists.specs.Lists.{tab}
use Rattle.rep3.specs.Tables.{six_parts, si_part, sii_part, share_of}

-- the product of one party at one position: c_i = a_i b_i + a_i b_(i+1) + a_(i+1) b_i + alpha_i
unfoldable pub product_at : ℕ → ℕ → ℕ → ℕ → ℕ → ℕ
product_at ai aii bi bii alpha = ai · bi ⊕ ai · bii ⊕ aii · bi ⊕ alpha

-- a party's first half of a product: that at each of the n positions
unfoldable pub first_half : ℕ → List ℕ → List ℕ → List ℕ → List ℕ → List ℕ → List ℕ
first_half n ai aii bi bii alphas = tab n (λ j. product_at (get_or ai j 0) (get_or aii j 0) (get_or bi j 0) (get_or bii j 0) (get_or alphas j 0))

-- what a party opens: si + sii + what came from the previous party
unfoldable pub open_of : List ℕ → List ℕ → List ℕ → List ℕ
open_of si sii received = si ⊞ sii ⊞ received

-- ---- the joint product of two share tables of n positions; alphas p are party p's

-- what party p computes, and sends to the previous party
unfoldable pub sent : ℕ → List ℕ → List ℕ → (ℕ → List ℕ) → ℕ → List ℕ
sent n x y alphas p = first_half n (si_part n p x) (sii_part n p x) (si_part n p y) (sii_part n p y) (alphas p)

-- each party's si is what it computed, and its sii what the next party sent
unfoldable pub product_of : ℕ → List ℕ → List ℕ → (ℕ → List ℕ) → List ℕ
product_of n x y alphas = six_parts (λ k. sent n x y alphas (share_of k))

-- ---- refusals

-- the most positions of one product or opening
unfoldable pub most_product : ℕ
most_product = 131072

-- 1: a slice's length is not that of the output; 2: too many positions
unfoldable pub mul_number : ℕ → ℕ → ℕ → ℕ → ℕ → ℕ → ℕ
mul_number ci ai aii bi bii alphas =
    cond (eqb ai ci) (cond (eqb aii ci) (cond (eqb bi ci) (cond (eqb bii ci) (cond (eqb alphas ci) (cond (leb ci most_product) 0 2) 1) 1) 1) 1) 1

-- 2: too many positions in the slice to be filled; 3: the message's length is not that of the slice it fills
unfoldable pub take_number : ℕ → ℕ → ℕ
take_number cii received = cond (leb cii most_product) (cond (eqb received cii) 0 3) 2

-- 1: a share's length is not that of the output; 2: too many positions; 3: the message's length is not that of the shares opened
unfoldable pub open_number : ℕ → ℕ → ℕ → ℕ → ℕ
open_number out si sii received = cond (eqb si out) (cond (eqb sii out) (cond (leb out most_product) (cond (eqb received out) 0 3) 2) 1) 1
