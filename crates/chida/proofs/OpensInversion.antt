-- Inversion of a share table is consistent whatever the alphas, and with alphas that cancel it opens to the inverse of FIPS-197 at every
-- position, zero to zero. Assumes nothing.
use Prim.Native.Nat.{ℕ, ◌+◌, ◌*◌, ◌≤◌, ◌<◌}
use native.Mathlib.Omega.{arith}
use mathlib.Core.Path.{◌≡◌, refl, sym, ap, ap₂, ◌∙◌}
use mathlib.Core.List.{List, map}
use lib.ListN.{length, get_or, length-map}
use lib.Seq.{ext_get_or}
use Rattle.fips197.specs.Field.{◌⊕◌, ◌·◌, square, inverse}
use Rattle.fips197.proofs.Sums.{⊕_zero}
use Rattle.fips197.proofs.Product.{square-additive}
use Rattle.fips197.proofs.Inverse.{chain}
use Rattle.lists.specs.Lists.{chunk}
use Rattle.lists.proofs.Tabs.{get_d_map}
use Rattle.lists.proofs.Chunks.{chunk_in, get_d_chunk}
use Rattle.rep3.specs.Tables.{Consistent, opened, Cancel}
use Rattle.rep3.proofs.Opening.{length-opened, map-consistent, map-opened}
use Rattle.halves.specs.Product.{product_of}
use Rattle.chain.specs.Chain.{chain_of, inversion_need}
use Rattle.chida.specs.Inversion.{inversion_of}
use Rattle.chida.proofs.ChainBy.{chain_of-by, x254-by, chain-keeps}
use Rattle.halves.proofs.OpensProduct.{length-product_of, product-consistent, product-opened}

-- ---- length and consistency: the chain ends in a product

pub length-chain_of : (n : ℕ) (α : ℕ → ℕ → List ℕ) (x : List ℕ) → length (chain_of n α x) ≡ 6 * n
unfolding chain_of
length-chain_of n α x = length-product_of n _ _ (α 3)

pub chain-consistent : (n : ℕ) (α : ℕ → ℕ → List ℕ) (x : List ℕ) → Consistent n (chain_of n α x)
unfolding chain_of
chain-consistent n α x = product-consistent n _ _ (α 3)

pub length-inversion_of : (n : ℕ) (α : ℕ → List ℕ) (x : List ℕ) → length (inversion_of n α x) ≡ 6 * n
unfolding inversion_of
length-inversion_of n α x = length-chain_of n _ x

pub inversion-consistent : (n : ℕ) (α : ℕ → List ℕ) (x : List ℕ) → Consistent n (inversion_of n α x)
unfolding inversion_of
inversion-consistent n α x = chain-consistent n _ x

-- ---- what it opens to

-- the three parties' alphas sum to 0 at each of k places
abbrev pub CancelTo : ℕ → (ℕ → List ℕ) → Type 0
CancelTo k α = (j : ℕ) → j < k → get_or (α 0) j 0 ⊕ get_or (α 1) j 0 ⊕ get_or (α 2) j 0 ≡ 0

-- a consistent table of n positions opens to v at position j
record Opens (n j : ℕ) (t : List ℕ) (v : ℕ) : Type 0 where
  long : length t ≡ 6 * n
  consistent : Consistent n t
  value : get_or (opened n t) j 0 ≡ v

module _ (n j : ℕ) (h : j < n) where
  get_or-map-opened : (f : ℕ → ℕ) (t : List ℕ) → length t ≡ 6 * n → get_or (map f (opened n t)) j 0 ≡ f (get_or (opened n t) j 0)
  get_or-map-opened f t l = get_d_map f (opened n t) j (rw (length-opened n t l) h)

  square-opens : (t : List ℕ) (v : ℕ) → Opens n j t v → Opens n j (map square t) (square v)
  square-opens t v o =
      record {
        long = length-map t square ∙ o.long;
        consistent = map-consistent n square t o.consistent;
        value = rw (map-opened n square square-additive t) (get_or-map-opened square t o.long ∙ ap square o.value);
      }

  product-opens : (α : ℕ → List ℕ) → CancelTo n α → (x y : List ℕ) (v w : ℕ) → Opens n j x v → Opens n j y w
      → Opens n j (product_of n x y α) (v · w)
  product-opens α cancel x y v w o p =
      record {
        long = length-product_of n x y α;
        consistent = product-consistent n x y α;
        value =
            product-opened n x y α o.long p.long o.consistent p.consistent j h
            ∙ ap₂ ◌⊕◌ (ap₂ ◌·◌ o.value p.value) (cancel j h) ∙ ⊕_zero (v · w);
      }

module _ (n : ℕ) (x : List ℕ) (l : length x ≡ 6 * n) (c : Consistent n x) where
  chain-value : (α : ℕ → ℕ → List ℕ) → ((u : ℕ) → u < 4 → CancelTo n (α u)) → (j : ℕ) → j < n
      → get_or (opened n (chain_of n α x)) j 0 ≡ inverse (get_or (opened n x) j 0)
  chain-value α cancel j h =
      ap (λ (t : List ℕ). get_or (opened n t) j 0) (chain_of-by n α x)
      ∙ (chain-keeps (Opens n j) (map square) square (λ u y z. product_of n y z (α u)) (λ u. ◌·◌) (square-opens n j h)
      (λ u q y z v w. product-opens n j h (α u) (cancel u q) y z v w) x (get_or (opened n x) j 0)
      (record { long = l; consistent = c; value = refl })).value
      ∙ sym (x254-by (get_or (opened n x) j 0)) ∙ chain (get_or (opened n x) j 0)

  pub chain-opened : (α : ℕ → ℕ → List ℕ) → ((u : ℕ) → u < 4 → CancelTo n (α u)) → opened n (chain_of n α x) ≡ map inverse (opened n x)
  chain-opened α cancel =
      let lc : length (opened n (chain_of n α x)) ≡ n = length-opened n _ (length-chain_of n α x) in
      ext_get_or 0 _ _ (lc ∙ sym (length-map (opened n x) inverse ∙ length-opened n x l))
      (λ j h. let q : j < n = rw lc at h in chain-value α cancel j q ∙ sym (get_or-map-opened n j q inverse x l))

  pub inversion-opened : (α : ℕ → List ℕ) → CancelTo (4 * n) α → opened n (inversion_of n α x) ≡ map inverse (opened n x)
  unfolding inversion_of
  inversion-opened α cancel =
      chain-opened (λ u p. chunk n u (α p))
      (λ u q j h.
      let r : u * n + n ≤ 4 * n = chunk_in n u 4 (4 * n) refl q in
      simp (get_d_chunk) (cancel (u * n + j) (omega arith)))

  -- with the alphas of a whole buffer
  pub inversion-opened_buffer : (buffer : List ℕ) → Cancel (inversion_need n) buffer
      → opened n (inversion_of n (λ p. chunk (inversion_need n) p buffer) x) ≡ map inverse (opened n x)
  unfolding Cancel inversion_need
  inversion-opened_buffer buffer cancel = inversion-opened (λ p. chunk (inversion_need n) p buffer) cancel
