-- When a layer and a change of order are not refused: whole blocks, 4,096 of them at the most, and a key of one block. Assumes nothing.
use Prim.Native.Nat.{ℕ, ◌*◌, ◌/◌, ◌%◌, ◌≤◌}
use native.Mathlib.Omega.{arith}
use mathlib.Core.Path.{◌≡◌}
use borrow.Author.Tests.{eq-eqb, le-leb}
use Rattle.std.proofs.lemmas.Bool.Decides.{nat_tests}
use Rattle.layers.specs.Layers.{block_bytes, table_bytes, most_blocks, blocks_number, layer_number, keyed_number, table_number}

-- ---- a length that is not refused

passed : (m n : ℕ) → blocks_number m n ≡ 0 → (n % m ≡ 0) × (n / m ≤ most_blocks)
passed m n e = (grind (arith, nat_tests), grind (arith, nat_tests))

pub layer-passed : (n : ℕ) → layer_number n ≡ 0 → (n % block_bytes ≡ 0) × (n / block_bytes ≤ most_blocks)
unfolding layer_number
layer-passed n e = passed block_bytes n e

pub keyed-passed : (n k : ℕ) → keyed_number n k ≡ 0 → (n % block_bytes ≡ 0) × (n / block_bytes ≤ most_blocks) × (k ≡ block_bytes)
unfolding keyed_number
keyed-passed n k e = (grind (arith, nat_tests), grind (arith, nat_tests), grind (arith, nat_tests))

pub table-passed : (n : ℕ) → table_number n ≡ 0 → (n % table_bytes ≡ 0) × (n / table_bytes ≤ most_blocks)
unfolding table_number
table-passed n e = passed table_bytes n e

-- ---- b blocks are not refused

passes : (m n : ℕ) → n % m ≡ 0 → n / m ≤ most_blocks → blocks_number m n ≡ 0
passes m n p q = simp (eq-eqb _ _ p, le-leb _ _ q)

pub layer_passes : (b : ℕ) → b ≤ most_blocks → layer_number (b * block_bytes) ≡ 0
unfolding layer_number
layer_passes b h = passes block_bytes (b * block_bytes) (omega arith) (omega arith)

pub keyed_passes : (b : ℕ) → b ≤ most_blocks → keyed_number (b * block_bytes) block_bytes ≡ 0
unfolding keyed_number
keyed_passes b h = passes block_bytes (b * block_bytes) (omega arith) (omega arith)

pub table_passes : (b : ℕ) → b ≤ most_blocks → table_number (b * table_bytes) ≡ 0
unfolding table_number
table_passes b h = passes table_bytes (b * table_bytes) (omega arith) (omega arith)
