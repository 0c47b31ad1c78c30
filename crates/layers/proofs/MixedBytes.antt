-- A byte of MixColumns and of InvMixColumns, gathered by powers of {02}, is the standard's sum of four products. Assumes nothing.
use Prim.Native.Nat.{ℕ, ◌+◌, ◌%◌, ◌<◌}
use mathlib.Core.Path.{◌≡◌, sym, ap, ◌∙◌, fun_ext}
use mathlib.Core.List.{List, [], ◌∷◌}
use Rattle.fips197.specs.Field.{◌⊕◌, bit, times_n, modulus, reduce_n, ◌·◌}
use Rattle.fips197.specs.State.{Block, at, state_of, mix_with, mix_columns, inv_mix_columns}
use Rattle.fips197.proofs.Sums.{v, ◌and◌, same_sum}
use Rattle.fips197.proofs.Product.{·-left, ·-right, ·_assoc, ·_comm, ·-one}
use Rattle.fips197.proofs.States.{at_byte}
use Rattle.layers.specs.Rows.{mixed_byte, inv_mixed_byte}

one : (x : ℕ) → x < 256 → 0x01 · x ≡ x
one x h = ·_comm 1 x ∙ ·-one x h

-- the code has the factor second, since the product goes by its bits
pub times_two : (x : ℕ) → x · 0x02 ≡ 0x02 · x
times_two x = ·_comm x 2

two_two : (x : ℕ) → 0x02 · (0x02 · x) ≡ 0x04 · x
unfolding ◌⊕◌ ◌·◌ bit times_n modulus reduce_n
two_two x = sym (·_assoc 2 2 x)

two-four : (x : ℕ) → 0x02 · (0x04 · x) ≡ 0x08 · x
unfolding ◌⊕◌ ◌·◌ bit times_n modulus reduce_n
two-four x = sym (·_assoc 2 4 x)

-- factors as sums of powers
plus : (a b x : ℕ) → (a ⊕ b) · x ≡ a · x ⊕ b · x
plus a b x = ·-left x a b

three : (x : ℕ) → x < 256 → 0x03 · x ≡ 0x02 · x ⊕ x
unfolding ◌⊕◌
three x h = plus 2 1 x ∙ ap (λ (y : ℕ). 2 · x ⊕ y) (one x h)

nine : (x : ℕ) → x < 256 → 0x09 · x ≡ 0x08 · x ⊕ x
unfolding ◌⊕◌
nine x h = plus 8 1 x ∙ ap (λ (y : ℕ). 8 · x ⊕ y) (one x h)

eleven : (x : ℕ) → x < 256 → 0x0b · x ≡ 0x08 · x ⊕ 0x02 · x ⊕ x
unfolding ◌⊕◌
eleven x h = plus 10 1 x ∙ ap (λ (y : ℕ). 10 · x ⊕ y) (one x h) ∙ ap (λ (y : ℕ). y ⊕ x) (plus 8 2 x)

thirteen : (x : ℕ) → x < 256 → 0x0d · x ≡ 0x08 · x ⊕ 0x04 · x ⊕ x
unfolding ◌⊕◌
thirteen x h = plus 12 1 x ∙ ap (λ (y : ℕ). 12 · x ⊕ y) (one x h) ∙ ap (λ (y : ℕ). y ⊕ x) (plus 8 4 x)

fourteen : (x : ℕ) → 0x0e · x ≡ 0x08 · x ⊕ 0x04 · x ⊕ 0x02 · x
unfolding ◌⊕◌
fourteen x = plus 12 2 x ∙ ap (λ (y : ℕ). y ⊕ 2 · x) (plus 8 4 x)

module _ (a b c d : ℕ) (hb : b < 256) (hc : c < 256) (hd : d < 256) where
  mixed_byte_lem : mixed_byte a b c d ≡ 0x02 · a ⊕ 0x03 · b ⊕ 0x01 · c ⊕ 0x01 · d
  mixed_byte_lem =
      rw (three b hb, one c hc, one d hd, ·-right 2 a b)
      (same_sum (2 · a ∷ 2 · b ∷ b ∷ c ∷ d ∷ [])
      (v 0 and v 1 and (v 2 and (v 3 and v 4))) (v 0 and (v 1 and v 2) and v 3 and v 4) tt)

  inv_mixed_byte_lem : inv_mixed_byte a b c d ≡ 0x0e · a ⊕ 0x0b · b ⊕ 0x0d · c ⊕ 0x09 · d
  inv_mixed_byte_lem =
      rw (fourteen a, eleven b hb, thirteen c hc, nine d hd)
      (simp (·-right, two_two, two-four)
      (same_sum (8 · a ∷ 8 · b ∷ 8 · c ∷ 8 · d ∷ 4 · a ∷ 4 · c ∷ 2 · a ∷ 2 · b ∷ b ∷ c ∷ d ∷ [])
      (v 0 and v 1 and (v 2 and v 3) and (v 4 and v 5) and (v 6 and v 7) and (v 8 and (v 9 and v 10)))
      (v 0 and v 4 and v 6 and (v 1 and v 7 and v 8) and (v 2 and v 5 and v 9) and (v 3 and v 10)) tt))

-- the byte in row r and column c from those of its column, from row r on
abbrev pub column_by : List ℕ → (ℕ → ℕ → ℕ → ℕ → ℕ) → ℕ → ℕ → ℕ
column_by s f r c = f (at s r c) (at s ((r + 1) % 4) c) (at s ((r + 2) % 4) c) (at s ((r + 3) % 4) c)

module _ (s : List ℕ) (h : Block s) where
  -- f and g agree on bytes
  same_columns : (f g : ℕ → ℕ → ℕ → ℕ → ℕ) → ((x0 x1 x2 x3 : ℕ) → x1 < 256 → x2 < 256 → x3 < 256 → f x0 x1 x2 x3 ≡ g x0 x1 x2 x3)
      → state_of (column_by s f) ≡ state_of (column_by s g)
  same_columns f g e =
      ap state_of (fun_ext (λ r. fun_ext (λ c.
      e _ _ _ _ (at_byte s ((r + 1) % 4) c h) (at_byte s ((r + 2) % 4) c h) (at_byte s ((r + 3) % 4) c h))))

  pub mixed_state : state_of (column_by s mixed_byte) ≡ mix_columns s
  unfolding mix_columns mix_with
  mixed_state = same_columns mixed_byte _ mixed_byte_lem

  pub inv_mixed_state : state_of (column_by s inv_mixed_byte) ≡ inv_mix_columns s
  unfolding inv_mix_columns mix_with
  inv_mixed_state = same_columns inv_mixed_byte _ inv_mixed_byte_lem
