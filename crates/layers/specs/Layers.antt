-- The layers of a part and of a state table, and their refusals (document 01, "Numbers that come back"). Assumes nothing.
use Rattle.std.specs.Prelude.{◌≡◌, ℕ, zero, suc, ◌/◌, ◌%◌, cond, List, [], ◌++◌, leb, eqb, length}
use Rattle.fips197.specs.State.{Bytes}
use Rattle.lists.specs.Lists.{map_chunks}
use Rattle.layers.specs.Rows.{bytes_of}

-- a block's bytes in a part, and of a round key
abbrev pub block_bytes : ℕ
block_bytes = 16

-- a block's bytes in a state table of six parts
abbrev pub table_bytes : ℕ
table_bytes = 96

abbrev pub most_blocks : ℕ
most_blocks = 4096

-- n bytes, of which a block has m: 4 unless whole blocks, then 2 if over 4,096 of them
abbrev pub blocks_number : ℕ → ℕ → ℕ
blocks_number m n = cond (eqb (n % m) 0) (cond (leb (n / m) most_blocks) 0 2) 4

-- a layer on a part of n bytes
unfoldable pub layer_number : ℕ → ℕ
layer_number n = blocks_number block_bytes n

-- a layer with a round key of k bytes: the same, then 5 unless the key is one block
unfoldable pub keyed_number : ℕ → ℕ → ℕ
keyed_number n k = cond (eqb (n % block_bytes) 0) (cond (leb (n / block_bytes) most_blocks) (cond (eqb k block_bytes) 0 5) 2) 4

-- a change of order on a state table of n bytes
unfoldable pub table_number : ℕ → ℕ
table_number n = blocks_number table_bytes n

-- each block changed by f: of a part, or of a state table, whose six parts hold as many blocks each and so make one row of blocks
abbrev pub each_block : (List ℕ → List ℕ) → List ℕ → List ℕ
each_block f xs = map_chunks block_bytes (λ _. f) (length xs / block_bytes) xs

-- a round key repeated for b blocks
unfoldable pub repeated : ℕ → List ℕ → List ℕ
repeated zero k = []
repeated (suc b) k = k ++ repeated b k

-- f gives sixteen for sixteen
abbrev pub KeepsBlock : (List ℕ → List ℕ) → Type 0
KeepsBlock f = (b : List ℕ) → length b ≡ block_bytes → length (f b) ≡ block_bytes

-- a change of a block, of which `post s t` holds where it gives the rows t for the rows s, does to a block of bytes what f does, which keeps sixteen
pub record Computes (post : List (List ℕ) → List (List ℕ) → Type 0) (f : List ℕ → List ℕ) : Type 0 where
  pub keeps : KeepsBlock f
  pub gives : (s t : List (List ℕ)) → Bytes (bytes_of s) → post s t → bytes_of t ≡ f (bytes_of s)
