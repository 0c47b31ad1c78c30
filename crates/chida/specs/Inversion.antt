-- Inversion of a share table (document 01, "The rules of computing"): the chain x2, x3, x12, x15 and x14, x240, x254 on shares, and when it is
-- refused. Assumes nothing.
use Rattle.std.specs.Prelude.{ℕ, ◌*◌, ◌/◌, ◌%◌, cond, List, leb, eqb}
use Rattle.lists.specs.Lists.{chunk}
use Rattle.chain.specs.Chain.{chain_of, inversion_need, most_inversion}

-- each party's 4 n alphas are used front to back: n for x3, n for x15, n for x14, n for x254
unfoldable pub inversion_of : ℕ → (ℕ → List ℕ) → List ℕ → List ℕ
inversion_of n alphas x = chain_of n (λ u p. chunk n u (alphas p)) x

-- 1: the table is not in six equal parts; 2: too many positions
unfoldable pub positions_number : ℕ → ℕ
positions_number table = cond (eqb (table % 6) 0) (cond (leb (table / 6) most_inversion) 0 2) 1

-- 1: the table is not in six equal parts; 2: too many positions; 6: the alphas are not what three parties need
unfoldable pub inversion_number : ℕ → ℕ → ℕ
inversion_number table alphas =
    cond (eqb (table % 6) 0) (cond (leb (table / 6) most_inversion) (cond (eqb alphas (3 * inversion_need (table / 6))) 0 6) 2) 1
