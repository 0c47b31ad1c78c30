-- MixColumns and InvMixColumns undo each other: the product of the matrices of (5.6) and (5.10), computed as in 4.3, is 01 00 00 00.
-- And the four equations that stand below (5.6). Assumes nothing.
use mathlib.Core.Path.{◌≡◌, refl, ap₂, ◌∙◌}
use mathlib.Core.List.{List, [], ◌∷◌}
use Prim.Native.Nat.{ℕ, ◌+◌, ◌%◌, ◌<◌}
use lib.Dec.{lit<}
use Rattle.fips197.specs.Field.{◌⊕◌, bit, times_n, modulus, reduce_n, ◌·◌}
use Rattle.fips197.specs.State.{Block, at, state_of, mix_with, mix_columns, inv_mix_columns}
use Rattle.fips197.proofs.Sums.{v, ◌and◌, same_sum, ⊕_zero}
use Rattle.fips197.proofs.Additive.{at_zero}
use Rattle.fips197.proofs.Product.{·-left, ·-right, ·_assoc, ·_comm, ·-one}
use Rattle.fips197.proofs.States.{state_of-rows, state_of-at, at-state_of, at_byte}

zero_· : (x : ℕ) → 0 · x ≡ 0
zero_· x = at_zero (λ (a : ℕ). a · x) (·-left x)

one_· : (x : ℕ) → x < 256 → 1 · x ≡ x
one_· x h = ·_comm 1 x ∙ ·-one x h

-- a row of a matrix times a column, both from the same place on
abbrev row : (a0 a1 a2 a3 x0 x1 x2 x3 : ℕ) → ℕ
row a0 a1 a2 a3 x0 x1 x2 x3 = a0 · x0 ⊕ a1 · x1 ⊕ a2 · x2 ⊕ a3 · x3

-- the row of the matrix for row r, times column c
abbrev row_at : (a0 a1 a2 a3 : ℕ) → (ℕ → ℕ → ℕ) → ℕ → ℕ → ℕ
row_at a0 a1 a2 a3 x r c = row a0 a1 a2 a3 (x r c) (x ((r + 1) % 4) c) (x ((r + 2) % 4) c) (x ((r + 3) % 4) c)

row_unit : (x0 x1 x2 x3 : ℕ) → x0 < 256 → row 1 0 0 0 x0 x1 x2 x3 ≡ x0
row_unit x0 x1 x2 x3 h = simp (one_·, zero_·, ⊕_zero)

-- a matrix a, and then a matrix b
module _ (b0 b1 b2 b3 a0 a1 a2 a3 : ℕ) where
  abbrev a : ℕ → ℕ → ℕ → ℕ → ℕ
  a x0 x1 x2 x3 = row a0 a1 a2 a3 x0 x1 x2 x3

  abbrev b : ℕ → ℕ → ℕ → ℕ → ℕ
  b x0 x1 x2 x3 = row b0 b1 b2 b3 x0 x1 x2 x3

  row-row : (x0 x1 x2 x3 : ℕ) → b (a x0 x1 x2 x3) (a x1 x2 x3 x0) (a x2 x3 x0 x1) (a x3 x0 x1 x2)
      ≡ row (b a0 a3 a2 a1) (b a1 a0 a3 a2) (b a2 a1 a0 a3) (b a3 a2 a1 a0) x0 x1 x2 x3
  row-row x0 x1 x2 x3 =
      simp (·-left, ·-right, ·_assoc)
      (same_sum
      (b0 · (a0 · x0) ∷ b0 · (a1 · x1) ∷ b0 · (a2 · x2) ∷ b0 · (a3 · x3)
      ∷ b1 · (a0 · x1) ∷ b1 · (a1 · x2) ∷ b1 · (a2 · x3) ∷ b1 · (a3 · x0)
      ∷ b2 · (a0 · x2) ∷ b2 · (a1 · x3) ∷ b2 · (a2 · x0) ∷ b2 · (a3 · x1)
      ∷ b3 · (a0 · x3) ∷ b3 · (a1 · x0) ∷ b3 · (a2 · x1) ∷ b3 · (a3 · x2) ∷ [])
      (v 0 and v 1 and v 2 and v 3 and (v 4 and v 5 and v 6 and v 7)
      and (v 8 and v 9 and v 10 and v 11) and (v 12 and v 13 and v 14 and v 15))
      (v 0 and v 7 and v 10 and v 13 and (v 1 and v 4 and v 11 and v 14)
      and (v 2 and v 5 and v 8 and v 15) and (v 3 and v 6 and v 9 and v 12)) tt)

  mix_with-undone : b a0 a3 a2 a1 ≡ 1 → b a1 a0 a3 a2 ≡ 0 → b a2 a1 a0 a3 ≡ 0 → b a3 a2 a1 a0 ≡ 0
      → (s : List ℕ) → Block s → mix_with b0 b1 b2 b3 (mix_with a0 a1 a2 a3 s) ≡ s
  unfolding mix_with state_of at
  mix_with-undone e0 e1 e2 e3 s h =
      state_of-rows (row_at b0 b1 b2 b3 (row_at a0 a1 a2 a3 (at s))) (at s)
      (λ c. undone (at s 0 c) (at s 1 c) (at s 2 c) (at s 3 c) (at_byte s 0 c h))
      (λ c. undone (at s 1 c) (at s 2 c) (at s 3 c) (at s 0 c) (at_byte s 1 c h))
      (λ c. undone (at s 2 c) (at s 3 c) (at s 0 c) (at s 1 c) (at_byte s 2 c h))
      (λ c. undone (at s 3 c) (at s 0 c) (at s 1 c) (at s 2 c) (at_byte s 3 c h))
      ∙ state_of-at s h.sixteen
    where
      undone : (x0 x1 x2 x3 : ℕ) → x0 < 256 → b (a x0 x1 x2 x3) (a x1 x2 x3 x0) (a x2 x3 x0 x1) (a x3 x0 x1 x2) ≡ x0
      undone x0 x1 x2 x3 l = row-row x0 x1 x2 x3 ∙ simp (e0, e1, e2, e3) (row_unit x0 x1 x2 x3 l)

pub inv_mix_columns-mix_columns : (s : List ℕ) → Block s → inv_mix_columns (mix_columns s) ≡ s
unfolding ◌⊕◌ bit times_n modulus reduce_n ◌·◌ mix_columns inv_mix_columns
inv_mix_columns-mix_columns s h = mix_with-undone _ _ _ _ _ _ _ _ refl refl refl refl s h

pub mix_columns-inv_mix_columns : (s : List ℕ) → Block s → mix_columns (inv_mix_columns s) ≡ s
unfolding ◌⊕◌ bit times_n modulus reduce_n ◌·◌ mix_columns inv_mix_columns
mix_columns-inv_mix_columns s h = mix_with-undone _ _ _ _ _ _ _ _ refl refl refl refl s h

-- ---- the four equations

row_ones : (x0 x1 x2 x3 : ℕ) → x2 < 256 → x3 < 256 → row 2 3 1 1 x0 x1 x2 x3 ≡ 2 · x0 ⊕ 3 · x1 ⊕ x2 ⊕ x3
row_ones x0 x1 x2 x3 h2 h3 = ap₂ (λ (p q : ℕ). 2 · x0 ⊕ 3 · x1 ⊕ p ⊕ q) (one_· x2 h2) (one_· x3 h3)

pub mix_columns_equations : (s : List ℕ) (c : ℕ) → Block s → c < 4
    → (at (mix_columns s) 0 c ≡ 0x02 · at s 0 c ⊕ 0x03 · at s 1 c ⊕ at s 2 c ⊕ at s 3 c)
    × (at (mix_columns s) 1 c ≡ at s 0 c ⊕ 0x02 · at s 1 c ⊕ 0x03 · at s 2 c ⊕ at s 3 c)
    × (at (mix_columns s) 2 c ≡ at s 0 c ⊕ at s 1 c ⊕ 0x02 · at s 2 c ⊕ 0x03 · at s 3 c)
    × (at (mix_columns s) 3 c ≡ 0x03 · at s 0 c ⊕ at s 1 c ⊕ at s 2 c ⊕ 0x02 · at s 3 c)
unfolding mix_columns mix_with
mix_columns_equations s c h hc =
    let s0 = at s 0 c in
    let s1 = at s 1 c in
    let s2 = at s 2 c in
    let s3 = at s 3 c in
    let byte : (r : ℕ) → at s r c < 256 = λ r. at_byte s r c h in
    let standard = v 0 and v 1 and v 2 and v 3 in (
      at-state_of _ 0 c (lit< tt) hc ∙ row_ones s0 s1 s2 s3 (byte 2) (byte 3),
      at-state_of _ 1 c (lit< tt) hc ∙ row_ones s1 s2 s3 s0 (byte 3) (byte 0)
          ∙ same_sum (s0 ∷ 2 · s1 ∷ 3 · s2 ∷ s3 ∷ []) (v 1 and v 2 and v 3 and v 0) standard tt,
      at-state_of _ 2 c (lit< tt) hc ∙ row_ones s2 s3 s0 s1 (byte 0) (byte 1)
          ∙ same_sum (s0 ∷ s1 ∷ 2 · s2 ∷ 3 · s3 ∷ []) (v 2 and v 3 and v 0 and v 1) standard tt,
      at-state_of _ 3 c (lit< tt) hc ∙ row_ones s3 s0 s1 s2 (byte 1) (byte 2)
          ∙ same_sum (3 · s0 ∷ s1 ∷ s2 ∷ 2 · s3 ∷ []) (v 3 and v 0 and v 1 and v 2) standard tt,
    )
