-- The changes of a block: each keeps its sixteen bytes, and the two changes of order are one. Assumes nothing.
use Prim.Native.Nat.{ℕ}
use mathlib.Core.Path.{◌≡◌, refl, sym, ◌∙◌}
use mathlib.Core.List.{List}
use lib.ListN.{length}
use Rattle.fips197.specs.State.{at, state_of, from_bytes, to_bytes, add_round_key}
use Rattle.fips197.proofs.Layers.{length-from_bytes, length-shift_rows, length-inv_shift_rows, length-mix_columns, length-inv_mix_columns, length-add_round_key}
use Rattle.layers.specs.Layers.{block_bytes, each_block}

pub length_added : (k b : List ℕ) → length k ≡ block_bytes → length b ≡ block_bytes → length (add_round_key b k) ≡ block_bytes
length_added k b h e = length-add_round_key b k (e ∙ sym h) ∙ e

-- rows for columns and columns for rows
pub one_order : (xs : List ℕ) → each_block to_bytes xs ≡ each_block from_bytes xs
unfolding from_bytes to_bytes state_of at
one_order xs = refl

pub ruleset changes = (length-from_bytes, length-shift_rows, length-inv_shift_rows, length-mix_columns, length-inv_mix_columns, length_added, one_order)
