-- A block row by row: from and to its bytes, a map of each column, and the sum with a round key. Assumes nothing.
use Prim.Native.Nat.{ℕ, ◌+◌, ◌/◌, ◌%◌, ◌<◌}
use native.Mathlib.Omega.{arith}
use mathlib.Core.Path.{◌≡◌, refl, sym, ap, ◌∙◌, subst}
use mathlib.Core.List.{List, [], ◌∷◌}
use lib.Dec.{lit<}
use lib.ListN.{length, get_or}
use Rattle.std.specs.Simd.{first_chunks}
use Rattle.lists.specs.Lists.{chunk}
use Rattle.fips197.specs.Field.{◌⊕◌}
use Rattle.fips197.specs.State.{◌⊞◌, Bytes, at, state_of, mix_columns, inv_mix_columns, add_round_key}
use Rattle.fips197.proofs.States.{length-state_of, state_of-rows, state_of-at}
use Rattle.layers.specs.Layers.{block_bytes}
use Rattle.layers.specs.Rows.{row_of, byte_of, row, row_by, mixed_byte, inv_mixed_byte, bytes_of}
use Rattle.layers.proofs.MixedBytes.{column_by, mixed_state, inv_mixed_state}

-- ---- from and to sixteen bytes

pub length-bytes_of : (s : List (List ℕ)) → length (bytes_of s) ≡ block_bytes
unfolding bytes_of
length-bytes_of s = length-state_of _

loaded : (b : List ℕ) → length b ≡ 16 → bytes_of (first_chunks 4 4 b) ≡ b
unfolding bytes_of state_of
loaded b e = subst (λ (xs : List ℕ). bytes_of (first_chunks 4 4 xs) ≡ xs) (state_of-at b e) refl

pub rows_loaded : (b : List ℕ) (s : List (List ℕ)) → length b ≡ 16 → s ≡ first_chunks 4 (length b / 4) b
    → bytes_of (get_or s 0 [] ∷ get_or s 1 [] ∷ get_or s 2 [] ∷ get_or s 3 [] ∷ []) ≡ b
rows_loaded b s e p = let n : length b / 4 ≡ 4 = omega arith in rw (p, n) (loaded b e)

chunks : (b : List ℕ) → length b ≡ 16 → state_of (λ r. byte_of (chunk 4 r b)) ≡ b
unfolding state_of chunk
chunks b e = subst (λ (xs : List ℕ). state_of (λ r. byte_of (chunk 4 r xs)) ≡ xs) (state_of-at b e) refl

pub rows_stored : (b : List ℕ) (s : List (List ℕ)) → length b ≡ 16 → ((r : ℕ) → r < 4 → chunk 4 r b ≡ row s r) → b ≡ bytes_of s
unfolding bytes_of
rows_stored b s e h =
    let same : (r : ℕ) → r < 4 → (c : ℕ) → byte_of (chunk 4 r b) c ≡ byte_of (row s r) c = λ r l c. ap (λ (p : List ℕ). byte_of p c) (h r l) in
    sym (chunks b e) ∙ state_of-rows _ _ (same 0 (lit< tt)) (same 1 (lit< tt)) (same 2 (lit< tt)) (same 3 (lit< tt))

-- ---- layers: t has the rows that a layer gives for those of s

module _ (s t : List (List ℕ)) where
  -- row r by f from the rows of s from r on
  abbrev pub IsMixed : (ℕ → ℕ → ℕ → ℕ → ℕ) → ℕ → Type 0
  IsMixed f r = row t r ≡ row_by f (row s r) (row s ((r + 1) % 4)) (row s ((r + 2) % 4)) (row s ((r + 3) % 4))

  pub mixed : (f : ℕ → ℕ → ℕ → ℕ → ℕ) → IsMixed f 0 → IsMixed f 1 → IsMixed f 2 → IsMixed f 3 → bytes_of t ≡ state_of (column_by (bytes_of s) f)
  unfolding bytes_of state_of at
  mixed f p q r u = rw (p, q, r, u)

  pub rows_mixed : Bytes (bytes_of s) → IsMixed mixed_byte 0 → IsMixed mixed_byte 1 → IsMixed mixed_byte 2 → IsMixed mixed_byte 3
      → bytes_of t ≡ mix_columns (bytes_of s)
  rows_mixed h p q r u = mixed mixed_byte p q r u ∙ mixed_state (bytes_of s) (record { sixteen = length-bytes_of s; bytes = h })

  pub rows_inv_mixed : Bytes (bytes_of s) → IsMixed inv_mixed_byte 0 → IsMixed inv_mixed_byte 1 → IsMixed inv_mixed_byte 2 → IsMixed inv_mixed_byte 3
      → bytes_of t ≡ inv_mix_columns (bytes_of s)
  rows_inv_mixed h p q r u = mixed inv_mixed_byte p q r u ∙ inv_mixed_state (bytes_of s) (record { sixteen = length-bytes_of s; bytes = h })

  module _ (k : List (List ℕ)) where
    -- row r the sum of those of s and of the key k
    abbrev pub IsAdded : ℕ → Type 0
    IsAdded r = row t r ≡ row_of (λ c. byte_of (row s r) c ⊕ byte_of (row k r) c)

    pub rows_added : IsAdded 0 → IsAdded 1 → IsAdded 2 → IsAdded 3 → bytes_of t ≡ add_round_key (bytes_of s) (bytes_of k)
    unfolding bytes_of state_of add_round_key ◌⊞◌
    rows_added p q r u = rw (p, q, r, u)
