-- The positions s, s + 1, .. s + m - 1 of a share table, as a table of m positions: what a loop inverts at a time. Squares, products and
-- the chain of inversion work position by position, so a part of their result is their result on that part; and they depend on three
-- parties' alphas only. Assumes nothing.
use Prim.Native.Nat.{ℕ, ◌+◌, ◌*◌, ◌≤◌, ◌<◌}
use native.Mathlib.Omega.{arith}
use mathlib.Core.Path.{◌≡◌, refl, sym, ap, ap₂, ◌∙◌}
use mathlib.Core.List.{List, map}
use lib.ListN.{length, get_or, take, drop, length-map}
use Rattle.fips197.specs.Field.{square}
use Rattle.lists.specs.Lists.{chunk}
use Rattle.lists.proofs.Tabs.{tab_cong}
use Rattle.lists.proofs.Chunks.{chunk_in, length-chunk}
use Rattle.lists.proofs.Joined.{Each, length-joined, chunk-joined, joined_cong, chunk-map}
use Rattle.lists.proofs.Parts.{length_part, get_or-part, part_of-chunk, part-tab, part-map, map-joined}
use Rattle.rep3.specs.Tables.{share_of}
use Rattle.halves.specs.Product.{first_half, sent, product_of}
use Rattle.chain.specs.Chain.{chain_of}
use Rattle.chida.specs.Inversion.{inversion_of}
use Rattle.chida.specs.Positions.{cut}
use Rattle.chida.proofs.ChainBy.{chain_of-by, chain-keeps}
use Rattle.halves.proofs.OpensProduct.{share_of_lt, length-product_of, chunk-product_of}

-- the alphas drawn for them, from a party's n alphas for one product
pub drawn-chunk : (n s m u : ℕ) (a : List ℕ) → s + m ≤ n → take m (drop s (chunk n u a)) ≡ take m (drop (u * n + s) a)
drawn-chunk n s m u a h = part_of-chunk s m n u a h

pub cut-map : (n s m : ℕ) (f : ℕ → ℕ) (t : List ℕ) → cut n s m (map f t) ≡ map f (cut n s m t)
unfolding cut
cut-map n s m f t =
    joined_cong 6 _ _ (λ k h. ap (λ (l : List ℕ). take m (drop s l)) (chunk-map f n k t) ∙ part-map f s m (chunk n k t))
    ∙ sym (map-joined f 6 _)

module _ (n s m : ℕ) (h : s + m ≤ n) where
  module _ (t : List ℕ) (l : length t ≡ 6 * n) where
    each : Each m 6 (λ k. take m (drop s (chunk n k t)))
    each k p = length_part s m (chunk n k t) (rw (length-chunk n k t (chunk_in n k 6 (length t) l p)) h)

    pub length_cut : length (cut n s m t) ≡ 6 * m
    unfolding cut
    length_cut = length-joined m 6 _ each

    pub chunk-cut : (k : ℕ) → k < 6 → chunk m k (cut n s m t) ≡ take m (drop s (chunk n k t))
    unfolding cut
    chunk-cut = chunk-joined m 6 _ each

    get_or-cut : (k : ℕ) → k < 6 → (j : ℕ) → j < m → get_or (chunk m k (cut n s m t)) j 0 ≡ get_or (chunk n k t) (s + j) 0
    get_or-cut k p j q = ap (λ (c : List ℕ). get_or c j 0) (chunk-cut k p) ∙ get_or-part s m (chunk n k t) j q

  module _ (x y : List ℕ) (lx : length x ≡ 6 * n) (ly : length y ≡ 6 * n) (α : ℕ → List ℕ) where
    cut-sent : (p : ℕ) → p < 3 → take m (drop s (sent n x y α p)) ≡ sent m (cut n s m x) (cut n s m y) (λ p. take m (drop s (α p))) p
    unfolding sent first_half
    cut-sent p q =
        part-tab s m n _ h
        ∙ tab_cong m _ _
        (λ j r.
        cc (
          get_or-cut x lx (2 * p) (omega arith) j r,
          get_or-cut x lx (2 * p + 1) (omega arith) j r,
          get_or-cut y ly (2 * p) (omega arith) j r,
          get_or-cut y ly (2 * p + 1) (omega arith) j r,
          get_or-part s m (α p) j r,
        ))

    pub cut_product : cut n s m (product_of n x y α) ≡ product_of m (cut n s m x) (cut n s m y) (λ p. take m (drop s (α p)))
    unfolding cut product_of
    cut_product =
        joined_cong 6 _ _
        (λ k q. ap (λ (l : List ℕ). take m (drop s l)) (chunk-product_of n x y α k q) ∙ cut-sent (share_of k) (share_of_lt k))

  Cuts : List ℕ → List ℕ → Type 0
  Cuts t r = (length t ≡ 6 * n) × (cut n s m t ≡ r)

  pub cut-chain : (α : ℕ → ℕ → List ℕ) (x : List ℕ) → length x ≡ 6 * n
      → cut n s m (chain_of n α x) ≡ chain_of m (λ u p. take m (drop s (α u p))) (cut n s m x)
  unfolding Cuts
  cut-chain α x l =
      ap (cut n s m) (chain_of-by n α x)
      ∙ (chain-keeps Cuts (map square) (map square) (λ u y z. product_of n y z (α u)) (λ u y z. product_of m y z (λ p. take m (drop s (α u p))))
      (λ t r c. (length-map t square ∙ c.0, cut-map n s m square t ∙ ap (map square) c.1))
      (λ u q y z v w c d. (
        length-product_of n y z (α u),
        cut_product y z c.0 d.0 (α u)
            ∙ ap₂ (λ (a b : List ℕ). product_of m a b (λ p. take m (drop s (α u p)))) c.1 d.1,
      ))
      x (cut n s m x) (l, refl)).1
      ∙ sym (chain_of-by m (λ u p. take m (drop s (α u p))) (cut n s m x))

-- ---- only the alphas of parties 0, 1, 2 count

pub product-alphas : (n : ℕ) (x y : List ℕ) (α β : ℕ → List ℕ) → ((p : ℕ) → p < 3 → α p ≡ β p) → product_of n x y α ≡ product_of n x y β
unfolding product_of sent
product-alphas n x y α β h = joined_cong 6 _ _ (λ k q. ap (first_half n _ _ _ _) (h (share_of k) (share_of_lt k)))

pub chain-alphas : (n : ℕ) (x : List ℕ) (α β : ℕ → ℕ → List ℕ) → ((u p : ℕ) → u < 4 → p < 3 → α u p ≡ β u p)
    → chain_of n α x ≡ chain_of n β x
chain-alphas n x α β h =
    chain_of-by n α x
    ∙ chain-keeps ◌≡◌ (map square) (map square) (λ u y z. product_of n y z (α u)) (λ u y z. product_of n y z (β u)) (λ a b e. ap (map square) e)
    (λ u q y z v w c d. product-alphas n y z (α u) (β u) (λ p r. h u p q r) ∙ ap₂ (λ (a b : List ℕ). product_of n a b (β u)) c d) x x refl
    ∙ sym (chain_of-by n β x)

-- the same of an inversion, whose product u draws its alphas from place u n of each party's
pub cut_inversion : (n s m : ℕ) → s + m ≤ n → (α : ℕ → List ℕ) (x : List ℕ) → length x ≡ 6 * n
    → cut n s m (inversion_of n α x) ≡ chain_of m (λ u p. take m (drop (u * n + s) (α p))) (cut n s m x)
unfolding inversion_of
cut_inversion n s m h α x l =
    cut-chain n s m h (λ u p. chunk n u (α p)) x l
    ∙ chain-alphas m (cut n s m x) (λ u p. take m (drop s (chunk n u (α p)))) (λ u p. take m (drop (u * n + s) (α p)))
    (λ u p q r. drawn-chunk n s m u (α p) h)
