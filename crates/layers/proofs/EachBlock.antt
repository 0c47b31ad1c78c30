-- The laws of each_block f, where f keeps a block's sixteen bytes: the length and the blocks of what it gives, two maps one after the other,
-- a map that undoes another, and additive maps. They hold for every length, since what is left over after the last block stays.
-- Assumes nothing.
use Prim.Native.Nat.{ℕ, zero, suc, ◌+◌, ◌*◌, ◌/◌, ◌≤◌, ◌<◌}
use native.Mathlib.Nat.{suc-mul}
use native.Mathlib.Omega.{arith}
use mathlib.Core.Path.{◌≡◌, refl, sym, ap, ap₂, ◌∙◌}
use mathlib.Core.List.{List, ◌++◌}
use lib.ListN.{length, take, drop, length-drop}
use lib.Seq.{length-take-le}
use Rattle.lists.specs.Lists.{chunk, map_chunks}
use Rattle.lists.proofs.Chunks.{length-chunk, apart}
use Rattle.lists.proofs.Chunked.{length-map_chunks}
use Rattle.lists.proofs.MapChunks.{chunk-map_chunks, map_chunks-then, map_chunks_cong, map_chunks-same}
use Rattle.fips197.specs.State.{◌⊞◌}
use Rattle.fips197.proofs.Vectors.{length_⊞, take_⊞, drop_⊞, append_⊞}
use Rattle.layers.specs.Layers.{block_bytes, each_block}
pub use Rattle.layers.specs.Layers.{KeepsBlock}

-- f goes through sums of blocks
abbrev pub AdditiveOnBlocks : (List ℕ → List ℕ) → Type 0
AdditiveOnBlocks f = (x y : List ℕ) → length x ≡ block_bytes → length y ≡ block_bytes → f (x ⊞ y) ≡ f x ⊞ f y

-- whole blocks lie within
within : (n : ℕ) → n / block_bytes * block_bytes ≤ n
within n = omega arith

pub length_block : (xs : List ℕ) (k : ℕ) → k < length xs / block_bytes → length (chunk block_bytes k xs) ≡ block_bytes
length_block xs k h =
    length-chunk block_bytes k xs (let p = apart block_bytes k (length xs / block_bytes) h in omega (arith, within (length xs)))

-- two maps that agree on the blocks
pub each_block_cong : (f g : List ℕ → List ℕ) (xs : List ℕ)
    → ((k : ℕ) → k < length xs / block_bytes → f (chunk block_bytes k xs) ≡ g (chunk block_bytes k xs)) → each_block f xs ≡ each_block g xs
each_block_cong f g xs e = map_chunks_cong block_bytes (λ _. f) (λ _. g) (length xs / block_bytes) xs e

module _ (f : List ℕ → List ℕ) (keeps : KeepsBlock f) where
  pub length-each_block : (xs : List ℕ) → length (each_block f xs) ≡ length xs
  length-each_block xs = length-map_chunks block_bytes (λ _. f) (λ _. keeps) (length xs / block_bytes) xs (within (length xs))

  -- block k
  pub chunk-each_block : (xs : List ℕ) (k : ℕ) → k < length xs / block_bytes → chunk block_bytes k (each_block f xs) ≡ f (chunk block_bytes k xs)
  chunk-each_block xs k h = chunk-map_chunks block_bytes (λ _. f) (λ _. keeps) (length xs / block_bytes) xs (within (length xs)) k h

  -- f, and then g
  pub each_block-then : (g : List ℕ → List ℕ) (xs : List ℕ) → each_block g (each_block f xs) ≡ each_block (λ b. g (f b)) xs
  each_block-then g xs =
      ap (λ (n : ℕ). map_chunks block_bytes (λ _. g) (n / block_bytes) (each_block f xs)) (length-each_block xs)
      ∙ map_chunks-then block_bytes (λ _. f) (λ _. g) (λ _. keeps) (length xs / block_bytes) xs (within (length xs))

  -- g undoes f on the blocks of xs
  pub each_block-undone-at : (g : List ℕ → List ℕ) (xs : List ℕ)
      → ((k : ℕ) → k < length xs / block_bytes → g (f (chunk block_bytes k xs)) ≡ chunk block_bytes k xs) → each_block g (each_block f xs) ≡ xs
  each_block-undone-at g xs e =
      each_block-then g xs ∙ each_block_cong (λ b. g (f b)) (λ b. b) xs e ∙ map_chunks-same block_bytes (length xs / block_bytes) xs

  additive : AdditiveOnBlocks f → (n : ℕ) (x y : List ℕ) → length x ≡ length y → n * block_bytes ≤ length x
      → map_chunks block_bytes (λ _. f) n (x ⊞ y) ≡ map_chunks block_bytes (λ _. f) n x ⊞ map_chunks block_bytes (λ _. f) n y
  unfolding map_chunks
  additive a zero x y e h = refl
  additive a (suc n) x y e h =
      let r : block_bytes + n * block_bytes ≤ length x = omega (arith, suc-mul n block_bytes) in
      let p : length (take block_bytes x) ≡ block_bytes = length-take-le block_bytes x (omega arith) in
      let q : length (take block_bytes y) ≡ block_bytes = length-take-le block_bytes y (omega arith) in
      let d : length (drop block_bytes x) ≡ length (drop block_bytes y) = omega (arith, length-drop block_bytes x, length-drop block_bytes y) in
      ap₂ ◌++◌ (ap f (take_⊞ block_bytes x y) ∙ a (take block_bytes x) (take block_bytes y) p q)
      (ap (map_chunks block_bytes (λ _. f) n) (drop_⊞ block_bytes x y)
      ∙ additive a n (drop block_bytes x) (drop block_bytes y) d (omega (arith, length-drop block_bytes x)))
      ∙ sym (append_⊞ (f (take block_bytes x)) _ (f (take block_bytes y)) _ (keeps _ p ∙ sym (keeps _ q)))

  pub each_block-additive : AdditiveOnBlocks f → (x y : List ℕ) → length x ≡ length y → each_block f (x ⊞ y) ≡ each_block f x ⊞ each_block f y
  each_block-additive a x y e =
      ap (λ (n : ℕ). map_chunks block_bytes (λ _. f) (n / block_bytes) (x ⊞ y)) (length_⊞ x y e)
      ∙ additive a (length x / block_bytes) x y e (within (length x))
      ∙ ap (λ (n : ℕ). each_block f x ⊞ map_chunks block_bytes (λ _. f) (n / block_bytes) y) e
