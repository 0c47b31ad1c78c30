-- Round key r of R + 1, as it lies in part k of a key table. Assumes nothing.
use Prim.Native.Nat.{ℕ, ◌+◌, ◌-◌, ◌*◌, ◌≤◌, ◌<◌}
use native.Mathlib.Nat.{mul_comm}
use native.Mathlib.Omega.{arith}
use mathlib.Core.Path.{◌≡◌, ap, ◌∙◌}
use mathlib.Core.List.{List}
use lib.ListN.{take, drop}
use Rattle.tables.proofs.SubChunks.{sub-chunk, sub-room}
use Rattle.needs.specs.Needs.{key_table_bytes}
use Rattle.needs.specs.Keys.{round_key_part}

module _ (R r k a e : ℕ) (pa : a ≡ k * (16 * (R + 1)) + 16 * r) (pe : e ≡ a + 16) (h : r ≤ R) where
  from : a ≡ k * (16 * (R + 1)) + r * 16
  from = pa ∙ ap (λ (x : ℕ). k * (16 * (R + 1)) + x) (mul_comm 16 r)

  pub key-part : (keys : List ℕ) → take (e - a) (drop a keys) ≡ round_key_part R keys r k
  unfolding round_key_part
  key-part keys = sub-chunk 16 r (16 * (R + 1)) k a e from pe (omega arith) keys

  pub key-room : (l : ℕ) → l ≡ key_table_bytes R → k < 6 → e ≤ l
  unfolding key_table_bytes
  key-room l p q = sub-room 16 (r * 16) (16 * (R + 1)) k a e from pe (omega arith) 6 l (omega arith) q
