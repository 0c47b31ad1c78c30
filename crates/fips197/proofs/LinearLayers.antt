-- The layers of a round that have no S-box are additive: a layer of a sum of two states is the sum of the layer of each. Assumes nothing.
use mathlib.Core.Path.{◌≡◌}
use mathlib.Core.List.{List, [], ◌∷◌}
use Prim.Native.Nat.{ℕ, ◌+◌, ◌-◌, ◌*◌, ◌%◌}
use lib.ListN.{length}
use Rattle.fips197.specs.Field.{◌·◌}
use Rattle.fips197.specs.State.{◌⊞◌, at, from_bytes, to_bytes, shift_rows, mix_with, mix_columns, inv_shift_rows, inv_mix_columns}
use Rattle.fips197.proofs.Sums.{v, ◌and◌, same_sum}
use Rattle.fips197.proofs.Product.{·-right}
use Rattle.fips197.proofs.Vectors.{get_or_⊞}
use Rattle.fips197.proofs.States.{state_of_⊞, at_⊞}

module _ (x y : List ℕ) (e : length x ≡ length y) where
  pub from_bytes-additive : from_bytes (x ⊞ y) ≡ from_bytes x ⊞ from_bytes y
  unfolding from_bytes
  from_bytes-additive = state_of_⊞ _ _ _ (λ r c. get_or_⊞ x y (r + 4 * c) e)

  pub to_bytes-additive : to_bytes (x ⊞ y) ≡ to_bytes x ⊞ to_bytes y
  unfolding to_bytes
  to_bytes-additive = state_of_⊞ _ _ _ (λ c r. at_⊞ x y r c e)

  pub shift_rows-additive : shift_rows (x ⊞ y) ≡ shift_rows x ⊞ shift_rows y
  unfolding shift_rows
  shift_rows-additive = state_of_⊞ _ _ _ (λ r c. at_⊞ x y r ((c + r) % 4) e)

  pub inv_shift_rows-additive : inv_shift_rows (x ⊞ y) ≡ inv_shift_rows x ⊞ inv_shift_rows y
  unfolding inv_shift_rows
  inv_shift_rows-additive = state_of_⊞ _ _ _ (λ r c. at_⊞ x y r ((c + (4 - r)) % 4) e)

  pub mix_with-additive : (a0 a1 a2 a3 : ℕ) → mix_with a0 a1 a2 a3 (x ⊞ y) ≡ mix_with a0 a1 a2 a3 x ⊞ mix_with a0 a1 a2 a3 y
  unfolding mix_with
  mix_with-additive a0 a1 a2 a3 =
      state_of_⊞ _ _ _ (λ r c.
      simp (at_⊞, ·-right)
      (same_sum
      (a0 · at x r c ∷ a0 · at y r c ∷ a1 · at x ((r + 1) % 4) c ∷ a1 · at y ((r + 1) % 4) c
      ∷ a2 · at x ((r + 2) % 4) c ∷ a2 · at y ((r + 2) % 4) c ∷ a3 · at x ((r + 3) % 4) c ∷ a3 · at y ((r + 3) % 4) c ∷ [])
      (v 0 and v 1 and (v 2 and v 3) and (v 4 and v 5) and (v 6 and v 7))
      (v 0 and v 2 and v 4 and v 6 and (v 1 and v 3 and v 5 and v 7)) tt))

  pub mix_columns-additive : mix_columns (x ⊞ y) ≡ mix_columns x ⊞ mix_columns y
  unfolding mix_columns
  mix_columns-additive = mix_with-additive _ _ _ _

  pub inv_mix_columns-additive : inv_mix_columns (x ⊞ y) ≡ inv_mix_columns x ⊞ inv_mix_columns y
  unfolding inv_mix_columns
  inv_mix_columns-additive = mix_with-additive _ _ _ _
