-- Some positions of a table taken out and put back, and when an inversion with each party's alphas lent apart is refused. Assumes nothing.
use Rattle.std.specs.Prelude.{ℕ, ◌*◌, ◌/◌, ◌%◌, ◌≡◌, cond, List, ◌++◌, leb, eqb, length, take, drop}
use Rattle.lists.specs.Lists.{chunk}
use Rattle.rep3.specs.Tables.{six_parts}
use Rattle.chain.specs.Chain.{inversion_need, most_inversion}

-- a table of n positions, and one of m
pub record PartsFit (n m table x : ℕ) : Type 0 where
  pub large : table ≡ 6 * n
  pub small : x ≡ 6 * m

-- the m positions of a table of n from s
unfoldable pub cut : ℕ → ℕ → ℕ → List ℕ → List ℕ
cut n s m t = six_parts (λ k. take m (drop s (chunk n k t)))

-- ys put into zs from s
unfoldable pub pasted : ℕ → List ℕ → List ℕ → List ℕ
pasted s ys zs = take s zs ++ (ys ++ drop (length ys) (drop s zs))

-- a table x of m positions put into one of n from s
unfoldable pub stored : ℕ → ℕ → ℕ → List ℕ → List ℕ → List ℕ
stored n s m x t = six_parts (λ k. pasted s (chunk m k x) (chunk n k t))

-- 1: the table is not in six equal parts; 2: too many positions; 6: a party's alphas are not what it needs
unfoldable pub parties_number : ℕ → ℕ → ℕ → ℕ → ℕ
parties_number table a0 a1 a2 =
    cond (eqb (table % 6) 0)
    (cond (leb (table / 6) most_inversion)
    (cond (eqb a0 (inversion_need (table / 6))) (cond (eqb a1 (inversion_need (table / 6))) (cond (eqb a2 (inversion_need (table / 6))) 0 6) 6) 6) 2)
    1
