-- Data in byte order: rows_from_bytes and bytes_from_rows keep a state table consistent and are the standard's change of order on what it
-- opens to, so that what a run opens to on states is known on blocks of bytes as well. Assumes nothing.
use Prim.Native.Nat.{ℕ, ◌*◌}
use native.Mathlib.Omega.{arith}
use mathlib.Core.Path.{◌≡◌, sym, ap, ◌∙◌}
use mathlib.Core.List.{List}
use lib.ListN.{length}
use Rattle.fips197.specs.State.{from_bytes, to_bytes}
use Rattle.fips197.proofs.Layers.{length-from_bytes, length-to_bytes}
use Rattle.fips197.proofs.LinearLayers.{from_bytes-additive, to_bytes-additive}
use Rattle.rep3.specs.Tables.{Consistent, opened}
use Rattle.layers.specs.Layers.{each_block}
use Rattle.layers.proofs.EachBlock.{KeepsBlock, length-each_block, each_block-then}
use Rattle.runs.proofs.Alone.{Alone, alone-consistent, alone-opened}
use Rattle.runs.proofs.Layers.{alone_blocks}

rows : (b : ℕ) → Alone (16 * b) (each_block from_bytes) (each_block from_bytes)
rows b = alone_blocks b from_bytes (λ s _. length-from_bytes s) (λ x y p q. from_bytes-additive x y (p ∙ sym q))

bytes : (b : ℕ) → Alone (16 * b) (each_block to_bytes) (each_block to_bytes)
bytes b = alone_blocks b to_bytes (λ s _. length-to_bytes s) (λ x y p q. to_bytes-additive x y (p ∙ sym q))

module _ (b : ℕ) (t : List ℕ) (e : length t ≡ 96 * b) where
  six : length t ≡ 6 * (16 * b)
  six = omega arith

  pub length-rows : length (each_block from_bytes t) ≡ 96 * b
  length-rows = length-each_block from_bytes (λ s _. length-from_bytes s) t ∙ e

  pub rows-consistent : Consistent (16 * b) t → Consistent (16 * b) (each_block from_bytes t)
  rows-consistent = alone-consistent (rows b) t six

  pub rows-opened : opened (16 * b) (each_block from_bytes t) ≡ each_block from_bytes (opened (16 * b) t)
  rows-opened = alone-opened (rows b) t six

  pub bytes-consistent : Consistent (16 * b) t → Consistent (16 * b) (each_block to_bytes t)
  bytes-consistent = alone-consistent (bytes b) t six

  pub bytes-opened : opened (16 * b) (each_block to_bytes t) ≡ each_block to_bytes (opened (16 * b) t)
  bytes-opened = alone-opened (bytes b) t six

-- f on each state, between the two changes of order
pub each_between : (f : List ℕ → List ℕ) → KeepsBlock f → (x : List ℕ)
    → each_block to_bytes (each_block f (each_block from_bytes x)) ≡ each_block (λ s. to_bytes (f (from_bytes s))) x
each_between f keeps x =
    ap (each_block to_bytes) (each_block-then from_bytes (λ s _. length-from_bytes s) f x)
    ∙ each_block-then (λ s. f (from_bytes s)) (λ s _. keeps (from_bytes s) (length-from_bytes s)) to_bytes x
