-- The blocks of a list of bytes are blocks of bytes, and maps that keep such blocks keep the list's bytes. Assumes nothing.
use Prim.Native.Nat.{ℕ, zero, suc, ◌+◌, ◌*◌, ◌/◌, ◌≤◌, ◌<◌}
use native.Mathlib.Nat.{suc-mul}
use native.Mathlib.Omega.{arith}
use mathlib.Core.Path.{◌≡◌}
use mathlib.Core.List.{List, [], ◌∷◌, ◌++◌}
use lib.ListN.{length, take, drop, length-drop}
use lib.Seq.{get_or-drop, length-take-le}
use Rattle.lists.specs.Lists.{chunk, map_chunks}
use Rattle.fips197.specs.State.{Bytes, Block}
use Rattle.fips197.proofs.States.{bytes_nil, bytes_cons}
use Rattle.layers.specs.Layers.{block_bytes, each_block}
use Rattle.layers.proofs.EachBlock.{length_block}

pub bytes_take : (n : ℕ) (xs : List ℕ) → Bytes xs → Bytes (take n xs)
bytes_take zero xs h = bytes_nil
bytes_take (suc n) [] h = bytes_nil
bytes_take (suc n) (x ∷ xs) h = bytes_cons x (take n xs) (h 0) (bytes_take n xs (λ i. h (suc i)))

pub bytes_drop : (n : ℕ) (xs : List ℕ) → Bytes xs → Bytes (drop n xs)
bytes_drop n xs h i = rw get_or-drop (h (n + i))

pub bytes-append : (xs ys : List ℕ) → Bytes xs → Bytes ys → Bytes (xs ++ ys)
bytes-append [] ys h g = g
bytes-append (x ∷ xs) ys h g = bytes_cons x (xs ++ ys) (h 0) (bytes-append xs ys (λ i. h (suc i)) g)

pub block-chunk : (xs : List ℕ) → Bytes xs → (k : ℕ) → k < length xs / block_bytes → Block (chunk block_bytes k xs)
unfolding chunk
block-chunk xs h k l = record {
  sixteen = length_block xs k l;
  bytes = bytes_take block_bytes (drop (k * block_bytes) xs) (bytes_drop (k * block_bytes) xs h);
}

module _ (f : List ℕ → List ℕ) (keeps : (b : List ℕ) → Block b → Block (f b)) where
  bytes-map_chunks : (n : ℕ) (xs : List ℕ) → Bytes xs → n * block_bytes ≤ length xs → Bytes (map_chunks block_bytes (λ _. f) n xs)
  unfolding map_chunks
  bytes-map_chunks zero xs h l = h
  bytes-map_chunks (suc n) xs h l =
      let p : block_bytes + n * block_bytes ≤ length xs = omega (arith, suc-mul n block_bytes) in
      let t : length (take block_bytes xs) ≡ block_bytes = length-take-le block_bytes xs (omega arith) in
      bytes-append (f (take block_bytes xs)) _ (keeps (take block_bytes xs) (record { sixteen = t; bytes = bytes_take block_bytes xs h })).bytes
      (bytes-map_chunks n (drop block_bytes xs) (bytes_drop block_bytes xs h) (rw length-drop (omega arith)))

  pub bytes-each_block : (xs : List ℕ) → Bytes xs → Bytes (each_block f xs)
  bytes-each_block xs h = bytes-map_chunks (length xs / block_bytes) xs h (omega arith)
