-- The layers of a round give sixteen places, and of sixteen bytes sixteen bytes. Assumes nothing.
use mathlib.Core.Path.{◌≡◌, sym, ◌∙◌}
use mathlib.Core.List.{List}
use Prim.Native.Nat.{ℕ, ◌+◌, ◌-◌, ◌*◌, ◌%◌}
use lib.ListN.{length, length-map}
use Rattle.fips197.specs.Field.{sbox, inv_sbox}
use Rattle.fips197.specs.State.{Block, at, from_bytes, to_bytes, sub_bytes, shift_rows, mix_with, mix_columns, add_round_key, inv_shift_rows, inv_sub_bytes, inv_mix_columns}
use Rattle.fips197.proofs.Sums.{⊕_byte}
use Rattle.fips197.proofs.Product.{·_lt}
use Rattle.fips197.proofs.Inverse.{sbox_lt, inv_sbox_lt}
use Rattle.fips197.proofs.Vectors.{length_⊞}
use Rattle.fips197.proofs.States.{length-state_of, bytes-map, bytes_⊞, bytes-state_of}

-- ---- sixteen places

pub length-from_bytes : (s : List ℕ) → length (from_bytes s) ≡ 16
unfolding from_bytes
length-from_bytes s = length-state_of _

pub length-to_bytes : (s : List ℕ) → length (to_bytes s) ≡ 16
unfolding to_bytes
length-to_bytes s = length-state_of _

pub length-sub_bytes : (s : List ℕ) → length (sub_bytes s) ≡ length s
unfolding sub_bytes
length-sub_bytes s = length-map s sbox

pub length-inv_sub_bytes : (s : List ℕ) → length (inv_sub_bytes s) ≡ length s
unfolding inv_sub_bytes
length-inv_sub_bytes s = length-map s inv_sbox

pub length-shift_rows : (s : List ℕ) → length (shift_rows s) ≡ 16
unfolding shift_rows
length-shift_rows s = length-state_of _

pub length-inv_shift_rows : (s : List ℕ) → length (inv_shift_rows s) ≡ 16
unfolding inv_shift_rows
length-inv_shift_rows s = length-state_of _

pub length-mix_with : (a0 a1 a2 a3 : ℕ) (s : List ℕ) → length (mix_with a0 a1 a2 a3 s) ≡ 16
unfolding mix_with
length-mix_with a0 a1 a2 a3 s = length-state_of _

pub length-mix_columns : (s : List ℕ) → length (mix_columns s) ≡ 16
unfolding mix_columns
length-mix_columns s = length-mix_with _ _ _ _ s

pub length-inv_mix_columns : (s : List ℕ) → length (inv_mix_columns s) ≡ 16
unfolding inv_mix_columns
length-inv_mix_columns s = length-mix_with _ _ _ _ s

pub length-add_round_key : (s k : List ℕ) → length s ≡ length k → length (add_round_key s k) ≡ length s
unfolding add_round_key
length-add_round_key = length_⊞

-- ---- sixteen bytes

pub block-from_bytes : (s : List ℕ) → Block s → Block (from_bytes s)
unfolding from_bytes
block-from_bytes s h = record { sixteen = length-from_bytes s; bytes = bytes-state_of _ (λ r c. h.bytes (r + 4 * c)) }

pub block-to_bytes : (s : List ℕ) → Block s → Block (to_bytes s)
unfolding to_bytes at
block-to_bytes s h = record { sixteen = length-to_bytes s; bytes = bytes-state_of _ (λ c r. h.bytes (4 * r + c)) }

pub block-sub_bytes : (s : List ℕ) → Block s → Block (sub_bytes s)
unfolding sub_bytes
block-sub_bytes s h = record { sixteen = length-sub_bytes s ∙ h.sixteen; bytes = bytes-map sbox sbox_lt s }

pub block-inv_sub_bytes : (s : List ℕ) → Block s → Block (inv_sub_bytes s)
unfolding inv_sub_bytes
block-inv_sub_bytes s h = record { sixteen = length-inv_sub_bytes s ∙ h.sixteen; bytes = bytes-map inv_sbox inv_sbox_lt s }

pub block-shift_rows : (s : List ℕ) → Block s → Block (shift_rows s)
unfolding shift_rows at
block-shift_rows s h = record { sixteen = length-shift_rows s; bytes = bytes-state_of _ (λ r c. h.bytes (4 * r + (c + r) % 4)) }

pub block-inv_shift_rows : (s : List ℕ) → Block s → Block (inv_shift_rows s)
unfolding inv_shift_rows at
block-inv_shift_rows s h = record { sixteen = length-inv_shift_rows s; bytes = bytes-state_of _ (λ r c. h.bytes (4 * r + (c + (4 - r)) % 4)) }

pub block-mix_with : (a0 a1 a2 a3 : ℕ) (s : List ℕ) → Block (mix_with a0 a1 a2 a3 s)
unfolding mix_with
block-mix_with a0 a1 a2 a3 s = record {
  sixteen = length-mix_with a0 a1 a2 a3 s;
  bytes = bytes-state_of _ (λ r c.
      ⊕_byte _ _ (⊕_byte _ _ (⊕_byte _ _ (·_lt a0 (at s r c)) (·_lt a1 (at s ((r + 1) % 4) c))) (·_lt a2 (at s ((r + 2) % 4) c)))
      (·_lt a3 (at s ((r + 3) % 4) c)));
}

pub block-mix_columns : (s : List ℕ) → Block (mix_columns s)
unfolding mix_columns
block-mix_columns s = block-mix_with _ _ _ _ s

pub block-inv_mix_columns : (s : List ℕ) → Block (inv_mix_columns s)
unfolding inv_mix_columns
block-inv_mix_columns s = block-mix_with _ _ _ _ s

pub block-add_round_key : (s k : List ℕ) → Block s → Block k → Block (add_round_key s k)
unfolding add_round_key
block-add_round_key s k hs hk = record {
  sixteen = length_⊞ s k (hs.sixteen ∙ sym hk.sixteen) ∙ hs.sixteen;
  bytes = bytes_⊞ s k hs.bytes hk.bytes;
}
