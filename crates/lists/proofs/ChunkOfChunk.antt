-- A chunk of a chunk is a chunk of the list. Assumes nothing.
use Prim.Native.Nat.{ℕ, ◌+◌, ◌*◌, ◌<◌}
use native.Mathlib.Nat.{add-mul, mul_assoc, mul_comm}
use native.Mathlib.Omega.{arith}
use mathlib.Core.Path.{◌≡◌, ap, ◌∙◌}
use mathlib.Core.List.{List}
use lib.ListN.{take, drop}
use Rattle.lists.specs.Lists.{chunk}
use Rattle.lists.proofs.Chunks.{apart}
use Rattle.lists.proofs.Parts.{part_of-chunk}

-- chunk j of the b small chunks in large chunk k
pub chunk_of-chunk : (m b k j : ℕ) (xs : List ℕ) → j < b → chunk m j (chunk (m * b) k xs) ≡ chunk m (k * b + j) xs
unfolding chunk
chunk_of-chunk m b k j xs h =
    let e : k * (m * b) + j * m ≡ (k * b + j) * m = omega (arith, add-mul (k * b) j m, mul_assoc k b m, ap (λ (z : ℕ). k * z) (mul_comm b m)) in
    part_of-chunk (j * m) m (m * b) k xs (omega (arith, apart m j b h, mul_comm b m)) ∙ ap (λ (s : ℕ). take m (drop s xs)) e
