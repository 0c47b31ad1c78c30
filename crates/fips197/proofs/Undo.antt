-- Each layer of the Inverse Cipher undoes its layer of the Cipher, and the other way round (MixColumns has a file of its own); and a state
-- is its block in another order. Assumes nothing.
use mathlib.Core.Path.{◌≡◌, refl, ap₂}
use mathlib.Core.List.{List, [], ◌∷◌, map}
use Prim.Native.Nat.{ℕ, suc, ◌<◌}
use native.Mathlib.Nat.{le_of_eq}
use lib.ListN.{length}
use Rattle.fips197.specs.Field.{sbox, inv_sbox}
use Rattle.fips197.specs.State.{Bytes, at, state_of, from_bytes, to_bytes, sub_bytes, shift_rows, add_round_key, inv_sub_bytes, inv_shift_rows}
use Rattle.fips197.proofs.Inverse.{inv_sbox-sbox, sbox-inv_sbox}
use Rattle.fips197.proofs.Vectors.{⊞_cancel}
use Rattle.fips197.proofs.States.{state_of-at}

-- ---- places moved

pub inv_shift_rows-shift_rows : (s : List ℕ) → length s ≡ 16 → inv_shift_rows (shift_rows s) ≡ s
unfolding inv_shift_rows shift_rows state_of at
inv_shift_rows-shift_rows s h = state_of-at s h

pub shift_rows-inv_shift_rows : (s : List ℕ) → length s ≡ 16 → shift_rows (inv_shift_rows s) ≡ s
unfolding inv_shift_rows shift_rows state_of at
shift_rows-inv_shift_rows s h = state_of-at s h

pub from_bytes-to_bytes : (s : List ℕ) → length s ≡ 16 → from_bytes (to_bytes s) ≡ s
unfolding from_bytes to_bytes state_of at
from_bytes-to_bytes s h = state_of-at s h

pub to_bytes-from_bytes : (s : List ℕ) → length s ≡ 16 → to_bytes (from_bytes s) ≡ s
unfolding from_bytes to_bytes state_of at
to_bytes-from_bytes s h = state_of-at s h

-- ---- each byte by itself

map-undone : (f g : ℕ → ℕ) → ((x : ℕ) → x < 256 → g (f x) ≡ x) → (s : List ℕ) → Bytes s → map g (map f s) ≡ s
map-undone f g e [] h = refl
map-undone f g e (x ∷ s) h = ap₂ ◌∷◌ (e x (h 0)) (map-undone f g e s (λ i. h (suc i)))

pub inv_sub_bytes-sub_bytes : (s : List ℕ) → Bytes s → inv_sub_bytes (sub_bytes s) ≡ s
unfolding inv_sub_bytes sub_bytes
inv_sub_bytes-sub_bytes = map-undone sbox inv_sbox inv_sbox-sbox

pub sub_bytes-inv_sub_bytes : (s : List ℕ) → Bytes s → sub_bytes (inv_sub_bytes s) ≡ s
unfolding inv_sub_bytes sub_bytes
sub_bytes-inv_sub_bytes = map-undone inv_sbox sbox sbox-inv_sbox

-- 5.3.4: AddRoundKey is its own inverse
pub add_round_key_twice : (s k : List ℕ) → length s ≡ length k → add_round_key (add_round_key s k) k ≡ s
unfolding add_round_key
add_round_key_twice s k e = ⊞_cancel s k (le_of_eq e)
