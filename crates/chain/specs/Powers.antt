-- What the inner steps of the chain are given, and when it is refused. Assumes nothing.
use Rattle.std.specs.Prelude.{ℕ, ◌+◌, ◌*◌, ◌/◌, ◌%◌, ◌≡◌, cond, leb, eqb}
use Rattle.joint.specs.Joint.{space_size}
use Rattle.chain.specs.Chain.{inversion_need, most_inversion}

-- the 4 n alphas of each party for a layer of n positions
pub record AlphasFit (n a0 a1 a2 : ℕ) : Type 0 where
  pub first : a0 ≡ inversion_need n
  pub second : a1 ≡ inversion_need n
  pub third : a2 ≡ inversion_need n

-- the tables of an inversion's powers
pub record PowersFit (m x x2 x3 x12 x15 x14 : ℕ) : Type 0 where
  pub first : x ≡ 6 * m
  pub second : x2 ≡ 6 * m
  pub third : x3 ≡ 6 * m
  pub twelfth : x12 ≡ 6 * m
  pub fifteenth : x15 ≡ 6 * m
  pub fourteenth : x14 ≡ 6 * m

-- 1: x is not in six equal parts; 2: too many positions at a time, or in the layer; 1: its positions are not within the layer's n; 6: a
-- party's alphas are not what the layer needs
unfoldable pub chain_number : ℕ → ℕ → ℕ → ℕ → ℕ → ℕ → ℕ
chain_number x a0 a1 a2 n s =
    cond (eqb (x % 6) 0)
    (cond (leb (x / 6) space_size)
    (cond (leb n most_inversion)
    (cond (leb (s + x / 6) n)
    (cond (eqb a0 (inversion_need n)) (cond (eqb a1 (inversion_need n)) (cond (eqb a2 (inversion_need n)) 0 6) 6) 6) 1) 2) 2)
    1
