-- AddRoundKey on each block is the addition of one vector, the key repeated. Assumes nothing.
use Prim.Native.Nat.{ℕ, zero, suc, ◌+◌, ◌*◌, ◌/◌}
use native.Mathlib.Nat.{suc-mul}
use native.Mathlib.Omega.{arith}
use mathlib.Core.Path.{◌≡◌, refl, sym, ap, ◌∙◌}
use mathlib.Core.List.{List, [], ◌∷◌, ◌++◌}
use lib.ListN.{length, take, drop, length-append, length-drop, take-append-drop}
use lib.Seq.{length-take-le}
use Rattle.lists.specs.Lists.{map_chunks}
use Rattle.fips197.specs.State.{◌⊞◌, add_round_key}
use Rattle.fips197.proofs.Vectors.{append_⊞}
use Rattle.layers.specs.Layers.{block_bytes, each_block, repeated}

module _ (k : List ℕ) (l : length k ≡ block_bytes) where
  pub length-repeated : (b : ℕ) → length (repeated b k) ≡ b * block_bytes
  unfolding repeated
  length-repeated zero = refl
  length-repeated (suc b) = length-append k (repeated b k) ∙ omega (arith, length-repeated b, suc-mul b block_bytes)

  nothing : (xs : List ℕ) → length xs ≡ 0 → xs ≡ xs ⊞ []
  unfolding ◌⊞◌
  nothing [] e = refl
  nothing (x ∷ xs) e = absurd (omega arith)

  added : (b : ℕ) (xs : List ℕ) → length xs ≡ b * block_bytes → map_chunks block_bytes (λ _ x. add_round_key x k) b xs ≡ xs ⊞ repeated b k
  unfolding map_chunks add_round_key repeated
  added zero xs e = nothing xs e
  added (suc b) xs e =
      let p : length xs ≡ block_bytes + b * block_bytes = omega (arith, suc-mul b block_bytes) in
      let t : length (take block_bytes xs) ≡ block_bytes = length-take-le block_bytes xs (omega arith) in
      ap (λ (ys : List ℕ). take block_bytes xs ⊞ k ++ ys) (added b (drop block_bytes xs) (length-drop block_bytes xs ∙ omega arith))
      ∙ sym (append_⊞ (take block_bytes xs) (drop block_bytes xs) k (repeated b k) (t ∙ sym l))
      ∙ ap (λ (ys : List ℕ). ys ⊞ (k ++ repeated b k)) (take-append-drop block_bytes xs)

  pub add_round_key-each_block : (b : ℕ) (xs : List ℕ) → length xs ≡ b * block_bytes
      → each_block (λ x. add_round_key x k) xs ≡ xs ⊞ repeated b k
  add_round_key-each_block b xs e =
      let n : length xs / block_bytes ≡ b = omega arith in
      ap (λ (j : ℕ). map_chunks block_bytes (λ _ x. add_round_key x k) j xs) n ∙ added b xs e
