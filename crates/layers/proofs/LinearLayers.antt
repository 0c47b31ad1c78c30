-- The layers without a key, on each block, are additive: what they give for a sum of two lists of one length is the sum of what they give
-- for each. Assumes nothing.
use mathlib.Core.Path.{◌≡◌, sym, ◌∙◌}
use mathlib.Core.List.{List}
use Prim.Native.Nat.{ℕ}
use lib.ListN.{length}
use Rattle.fips197.specs.State.{◌⊞◌, from_bytes, to_bytes, shift_rows, inv_shift_rows, mix_columns, inv_mix_columns}
use Rattle.fips197.proofs.Layers.{length-from_bytes, length-to_bytes, length-shift_rows, length-inv_shift_rows, length-mix_columns, length-inv_mix_columns}
use Rattle.fips197.proofs.LinearLayers.{from_bytes-additive, to_bytes-additive, shift_rows-additive, inv_shift_rows-additive, mix_columns-additive, inv_mix_columns-additive}
use Rattle.layers.specs.Layers.{each_block}
use Rattle.layers.proofs.EachBlock.{each_block-additive}

module _ (x y : List ℕ) (e : length x ≡ length y) where
  each : (f : List ℕ → List ℕ) → ((b : List ℕ) → length (f b) ≡ 16)
      → ((p q : List ℕ) → length p ≡ length q → f (p ⊞ q) ≡ f p ⊞ f q) → each_block f (x ⊞ y) ≡ each_block f x ⊞ each_block f y
  each f l a = each_block-additive f (λ b _. l b) (λ p q u v. a p q (u ∙ sym v)) x y e

  pub each-from_bytes-additive : each_block from_bytes (x ⊞ y) ≡ each_block from_bytes x ⊞ each_block from_bytes y
  each-from_bytes-additive = each from_bytes length-from_bytes from_bytes-additive

  pub each-to_bytes-additive : each_block to_bytes (x ⊞ y) ≡ each_block to_bytes x ⊞ each_block to_bytes y
  each-to_bytes-additive = each to_bytes length-to_bytes to_bytes-additive

  pub each-shift_rows-additive : each_block shift_rows (x ⊞ y) ≡ each_block shift_rows x ⊞ each_block shift_rows y
  each-shift_rows-additive = each shift_rows length-shift_rows shift_rows-additive

  pub each-inv_shift_rows-additive : each_block inv_shift_rows (x ⊞ y) ≡ each_block inv_shift_rows x ⊞ each_block inv_shift_rows y
  each-inv_shift_rows-additive = each inv_shift_rows length-inv_shift_rows inv_shift_rows-additive

  pub each-mix_columns-additive : each_block mix_columns (x ⊞ y) ≡ each_block mix_columns x ⊞ each_block mix_columns y
  each-mix_columns-additive = each mix_columns length-mix_columns mix_columns-additive

  pub each-inv_mix_columns-additive : each_block inv_mix_columns (x ⊞ y) ≡ each_block inv_mix_columns x ⊞ each_block inv_mix_columns y
  each-inv_mix_columns-additive = each inv_mix_columns length-inv_mix_columns inv_mix_columns-additive
