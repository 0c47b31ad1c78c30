-- A part of a chunk, as it is lent: a round key of a part of a key table, and an inversion's alphas of a party's. Assumes nothing.
use Prim.Native.Nat.{ℕ, ◌+◌, ◌-◌, ◌*◌, ◌≤◌, ◌<◌}
use native.Mathlib.Omega.{arith}
use mathlib.Core.Path.{◌≡◌, sym}
use mathlib.Core.List.{List}
use lib.ListN.{take, drop}
use Rattle.lists.specs.Lists.{chunk}
use Rattle.lists.proofs.Chunks.{chunk_in}
use Rattle.lists.proofs.Parts.{part_of-chunk}

-- m elements from s in chunk k of w, from a to e
module _ (m s w k a e : ℕ) (pa : a ≡ k * w + s) (pe : e ≡ a + m) (h : s + m ≤ w) where
  pub sub_part : (xs : List ℕ) → take (e - a) (drop a xs) ≡ take m (drop s (chunk w k xs))
  sub_part xs = let d : e - a ≡ m = omega arith in rw (d, pa) (sym (part_of-chunk s m w k xs h))

  pub sub-room : (c l : ℕ) → l ≡ c * w → k < c → e ≤ l
  sub-room c l p q = omega (arith, chunk_in w k c l p q)

-- chunk r of m elements in it
pub sub-chunk : (m r w k a e : ℕ) → a ≡ k * w + r * m → e ≡ a + m → r * m + m ≤ w → (xs : List ℕ)
    → take (e - a) (drop a xs) ≡ chunk m r (chunk w k xs)
unfolding chunk
sub-chunk m r w k a e pa pe h xs = sub_part m (r * m) w k a e pa pe h xs
