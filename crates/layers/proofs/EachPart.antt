-- A change of each block of a table is the same change of each part of whole blocks, and a change of each byte is one of each block.
-- Assumes nothing.
use Prim.Native.Nat.{ℕ, ◌+◌, ◌*◌, ◌/◌, ◌≤◌, ◌<◌}
use native.Mathlib.Nat.{mul_assoc, mul_comm}
use native.Mathlib.Omega.{arith}
use mathlib.Core.Path.{◌≡◌, sym, ap, ◌∙◌}
use mathlib.Core.List.{List, map}
use lib.ListN.{length, length-map}
use Rattle.lists.specs.Lists.{chunk}
use Rattle.lists.proofs.Chunks.{apart, chunk_in, length-chunk}
use Rattle.lists.proofs.ChunkOfChunk.{chunk_of-chunk}
use Rattle.lists.proofs.Joined.{by_chunks, chunk-map}
use Rattle.layers.specs.Layers.{block_bytes, each_block}
use Rattle.layers.proofs.EachBlock.{KeepsBlock, length-each_block, chunk-each_block}

-- part k of c parts of b blocks
module _ (f : List ℕ → List ℕ) (keeps : KeepsBlock f) (b c : ℕ) (t : List ℕ) (e : length t ≡ c * (16 * b)) where
  pub part-each_block : (k : ℕ) → k < c → chunk (16 * b) k (each_block f t) ≡ each_block f (chunk (16 * b) k t)
  part-each_block k h =
      let within : k * (16 * b) + 16 * b ≤ length t = chunk_in (16 * b) k c (length t) e h in
      let le : length (each_block f t) ≡ length t = length-each_block f keeps t in
      let lp : length (chunk (16 * b) k t) ≡ 16 * b = length-chunk (16 * b) k t within in
      let lq : length (chunk (16 * b) k (each_block f t)) ≡ 16 * b = length-chunk (16 * b) k (each_block f t) (omega arith) in
      by_chunks 16 b _ _ (omega arith) (length-each_block f keeps (chunk (16 * b) k t) ∙ omega arith)
      (λ j g.
      chunk_of-chunk 16 b k j (each_block f t) g ∙ chunk-each_block f keeps t (k * b + j) (inside k j h g)
      ∙ ap f (sym (chunk_of-chunk 16 b k j t g)) ∙ sym (chunk-each_block f keeps (chunk (16 * b) k t) j (omega arith)))
    where
      inside : (k j : ℕ) → k < c → j < b → k * b + j < length t / block_bytes
      inside k j h g =
          let d : length t ≡ 16 * (c * b) = e ∙ sym (mul_assoc c 16 b) ∙ ap (λ (z : ℕ). z * b) (mul_comm c 16) ∙ mul_assoc 16 c b in
          omega (arith, apart b k c h)

pub map-each_block : (f : ℕ → ℕ) (b : ℕ) (xs : List ℕ) → length xs ≡ 16 * b → each_block (map f) xs ≡ map f xs
map-each_block f b xs e =
    let keeps : KeepsBlock (map f) = λ s l. length-map s f ∙ l in
    by_chunks 16 b _ _ (length-each_block (map f) keeps xs ∙ omega arith) (length-map xs f ∙ omega arith)
    (λ k h. chunk-each_block (map f) keeps xs k (omega arith) ∙ sym (chunk-map f 16 k xs))
