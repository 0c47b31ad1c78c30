-- What the inner steps on a table are given. Assumes nothing.
use Rattle.std.specs.Prelude.{ℕ, ◌+◌, ◌*◌, ◌/◌, ◌%◌, ◌≤◌, ◌≡◌, cond, eqb}
use Rattle.rep3.specs.declared.RssShare.{RssShare}
use Rattle.layers.specs.Layers.{block_bytes, most_blocks}

-- a part of n bytes in whole blocks
pub record PartFits (n : ℕ) : Type 0 where
  pub whole : n % block_bytes ≡ 0
  pub most : n / block_bytes ≤ most_blocks

-- a state table of n positions, in whole blocks
pub record TableFits (n t : ℕ) : Type 0 where
  pub long : t ≡ 6 * n
  pub part : PartFits n

-- a state table of n positions, and a key table with parts of w bytes, round key r among them
pub record KeyFits (n w r t k : ℕ) : Type 0 where
  pub table : TableFits n t
  pub keys : k ≡ 6 * w
  pub round : r * 16 + 16 ≤ w

-- an alpha buffer with parts of w, in each of which an inversion's alphas for n positions stand from a place
pub record DrawFits (n w from a : ℕ) : Type 0 where
  pub alphas : a ≡ 3 * w
  pub within : from + 4 * n ≤ w

-- what part k holds of a party's share
abbrev pub half_held : RssShare → ℕ → ℕ
half_held s k = cond (eqb (k % 2) 0) s.si s.sii
