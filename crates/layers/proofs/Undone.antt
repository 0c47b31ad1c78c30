-- The operations that undo each other, over the very maps that their promises name: bytes_from_rows and rows_from_bytes, inv_shift_rows and
-- shift_rows, inv_mix_columns and mix_columns (on bytes, which lent slices are), and add_round_key with itself. Assumes nothing.
use Prim.Native.Nat.{ℕ}
use mathlib.Core.Path.{◌≡◌, sym, ◌∙◌}
use mathlib.Core.List.{List}
use lib.ListN.{length}
use Rattle.lists.specs.Lists.{chunk}
use Rattle.fips197.specs.State.{Bytes, Block, from_bytes, to_bytes, shift_rows, inv_shift_rows, mix_columns, inv_mix_columns, add_round_key}
use Rattle.fips197.proofs.Layers.{length-from_bytes, length-to_bytes, length-shift_rows, length-inv_shift_rows, length-mix_columns, length-inv_mix_columns, length-add_round_key}
use Rattle.fips197.proofs.Undo.{from_bytes-to_bytes, to_bytes-from_bytes, inv_shift_rows-shift_rows, shift_rows-inv_shift_rows, add_round_key_twice}
use Rattle.fips197.proofs.MixColumns.{inv_mix_columns-mix_columns, mix_columns-inv_mix_columns}
use Rattle.layers.specs.Layers.{block_bytes, each_block}
use Rattle.layers.proofs.EachBlock.{KeepsBlock, length_block, each_block-undone-at}
use Rattle.layers.proofs.BlockBytes.{block-chunk}

module _ (f g : List ℕ → List ℕ) (keeps : KeepsBlock f) where
  -- g undoes f on every list of sixteen
  pub each_block-undone : ((b : List ℕ) → length b ≡ block_bytes → g (f b) ≡ b) → (xs : List ℕ) → each_block g (each_block f xs) ≡ xs
  each_block-undone e xs = each_block-undone-at f keeps g xs (λ k l. e (chunk block_bytes k xs) (length_block xs k l))

  -- g undoes f on sixteen bytes
  pub each_block-undone-bytes : ((b : List ℕ) → Block b → g (f b) ≡ b) → (xs : List ℕ) → Bytes xs → each_block g (each_block f xs) ≡ xs
  each_block-undone-bytes e xs h = each_block-undone-at f keeps g xs (λ k l. e (chunk block_bytes k xs) (block-chunk xs h k l))

pub bytes_from_rows_undoes-rows_from_bytes : (xs : List ℕ) → each_block to_bytes (each_block from_bytes xs) ≡ xs
bytes_from_rows_undoes-rows_from_bytes = each_block-undone from_bytes to_bytes (λ b _. length-from_bytes b) to_bytes-from_bytes

pub rows_from_bytes_undoes-bytes_from_rows : (xs : List ℕ) → each_block from_bytes (each_block to_bytes xs) ≡ xs
rows_from_bytes_undoes-bytes_from_rows = each_block-undone to_bytes from_bytes (λ b _. length-to_bytes b) from_bytes-to_bytes

pub inv_shift_rows_undoes-shift_rows : (xs : List ℕ) → each_block inv_shift_rows (each_block shift_rows xs) ≡ xs
inv_shift_rows_undoes-shift_rows = each_block-undone shift_rows inv_shift_rows (λ b _. length-shift_rows b) inv_shift_rows-shift_rows

pub shift_rows_undoes-inv_shift_rows : (xs : List ℕ) → each_block shift_rows (each_block inv_shift_rows xs) ≡ xs
shift_rows_undoes-inv_shift_rows = each_block-undone inv_shift_rows shift_rows (λ b _. length-inv_shift_rows b) shift_rows-inv_shift_rows

pub inv_mix_columns_undoes-mix_columns : (xs : List ℕ) → Bytes xs → each_block inv_mix_columns (each_block mix_columns xs) ≡ xs
inv_mix_columns_undoes-mix_columns =
    each_block-undone-bytes mix_columns inv_mix_columns (λ b _. length-mix_columns b) inv_mix_columns-mix_columns

pub mix_columns_undoes-inv_mix_columns : (xs : List ℕ) → Bytes xs → each_block mix_columns (each_block inv_mix_columns xs) ≡ xs
mix_columns_undoes-inv_mix_columns =
    each_block-undone-bytes inv_mix_columns mix_columns (λ b _. length-inv_mix_columns b) mix_columns-inv_mix_columns

pub add_round_key_undoes_itself : (key : List ℕ) → length key ≡ block_bytes → (xs : List ℕ)
    → each_block (λ b. add_round_key b key) (each_block (λ b. add_round_key b key) xs) ≡ xs
add_round_key_undoes_itself key l =
    each_block-undone (λ b. add_round_key b key) (λ b. add_round_key b key) (λ b e. length-add_round_key b key (e ∙ sym l) ∙ e)
    (λ b e. add_round_key_twice b key (e ∙ sym l))
