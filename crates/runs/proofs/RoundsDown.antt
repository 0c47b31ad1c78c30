-- The rounds of Figure 12 of FIPS-197 counted up as they are done, from round Nr - 1 down, instead of by the round keys still to come.
-- Assumes nothing.
use Prim.Native.Nat.{ℕ, zero, suc, ◌+◌, ◌-◌}
use native.Mathlib.Omega.{arith}
use mathlib.Core.Path.{◌≡◌, ap, ◌∙◌}
use mathlib.Core.List.{List}
use Rattle.fips197.specs.State.{add_round_key, inv_sub_bytes, inv_shift_rows, inv_mix_columns}
use Rattle.fips197.specs.Cipher.{inv_rounds, inv_cipher_state}

-- AddRoundKey with the last round key, and r rounds
unfoldable pub rounds_down : ℕ → (ℕ → List ℕ) → ℕ → List ℕ → List ℕ
rounds_down Nr w zero s = add_round_key s (w Nr)
rounds_down Nr w (suc r) s = inv_mix_columns (add_round_key (inv_sub_bytes (inv_shift_rows (rounds_down Nr w r s))) (w (Nr - 1 - r)))

module _ (Nr : ℕ) (w : ℕ → List ℕ) (s : List ℕ) where
  -- r rounds done and m to come
  rest : (r m : ℕ) → m + r ≡ Nr - 1 → inv_rounds w m (rounds_down Nr w r s) ≡ inv_rounds w (Nr - 1) (add_round_key s (w Nr))
  unfolding rounds_down inv_rounds
  rest zero m e = let p : m ≡ Nr - 1 = omega arith in ap (λ (k : ℕ). inv_rounds w k (add_round_key s (w Nr))) p
  rest (suc r) m e =
      let p : Nr - 1 - r ≡ suc m = omega arith in
      ap (λ (k : ℕ). inv_rounds w m (inv_mix_columns (add_round_key (inv_sub_bytes (inv_shift_rows (rounds_down Nr w r s))) (w k)))) p
      ∙ rest r (suc m) (omega arith)

  pub inv_cipher_state-down : add_round_key (inv_sub_bytes (inv_shift_rows (rounds_down Nr w (Nr - 1) s))) (w 0) ≡ inv_cipher_state Nr w s
  unfolding inv_cipher_state inv_rounds
  inv_cipher_state-down = ap (λ (y : List ℕ). add_round_key (inv_sub_bytes (inv_shift_rows y)) (w 0)) (rest (Nr - 1) 0 (omega arith))
