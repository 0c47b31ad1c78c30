-- The Cipher and the Inverse Cipher of FIPS-197, sections 5.1 and 5.3, over the number Nr of rounds (10, 12 or 14 in the standard) and any
-- round keys: w r is the round key of round r, as a state by rows. Assumes nothing.
use Rattle.std.specs.Prelude.{List, ℕ, zero, suc, ◌-◌}
use Rattle.fips197.specs.State.{from_bytes, to_bytes, sub_bytes, shift_rows, mix_columns, add_round_key, inv_sub_bytes, inv_shift_rows, inv_mix_columns}

-- Figure 5: the first AddRoundKey and the rounds 1 to n of the loop
unfoldable pub rounds : (ℕ → List ℕ) → ℕ → List ℕ → List ℕ
rounds w zero s = add_round_key s (w 0)
rounds w (suc n) s = add_round_key (mix_columns (shift_rows (sub_bytes (rounds w n s)))) (w (suc n))

-- Figure 5 on the state: the rounds 1 to Nr - 1, then the last round, which has no MixColumns. (The standard has no cipher of 0 rounds; for
-- Nr = 0 this is the cipher of 1 round with the round key w 0 for both.)
unfoldable pub cipher_state : ℕ → (ℕ → List ℕ) → List ℕ → List ℕ
cipher_state Nr w s = add_round_key (shift_rows (sub_bytes (rounds w (Nr - 1) s))) (w Nr)

-- Figure 5: state = in, .., out = state
unfoldable pub cipher : ℕ → (ℕ → List ℕ) → List ℕ → List ℕ
cipher Nr w input = to_bytes (cipher_state Nr w (from_bytes input))

-- Figure 12: the rounds n down to 1 of the loop
unfoldable pub inv_rounds : (ℕ → List ℕ) → ℕ → List ℕ → List ℕ
inv_rounds w zero s = s
inv_rounds w (suc n) s = inv_rounds w n (inv_mix_columns (add_round_key (inv_sub_bytes (inv_shift_rows s)) (w (suc n))))

-- Figure 12 on the state: AddRoundKey with the last round key, the rounds Nr - 1 down to 1, then the last round, which has no InvMixColumns
unfoldable pub inv_cipher_state : ℕ → (ℕ → List ℕ) → List ℕ → List ℕ
inv_cipher_state Nr w s = add_round_key (inv_sub_bytes (inv_shift_rows (inv_rounds w (Nr - 1) (add_round_key s (w Nr))))) (w 0)

-- Figure 12: state = in, .., out = state
unfoldable pub inv_cipher : ℕ → (ℕ → List ℕ) → List ℕ → List ℕ
inv_cipher Nr w input = to_bytes (inv_cipher_state Nr w (from_bytes input))
