-- The joint product of two share tables is consistent, and opens to the products of what the tables open to, off by exactly the sum of
-- the three alphas; the halves give that product; an opening delivered unaltered gives every party the same. Assumes nothing.
use Prim.Native.Nat.{ℕ, zero, suc, ◌+◌, ◌*◌, ◌%◌, ◌<◌}
use native.Mathlib.Nat.{mod-lt, zero-lt-suc}
use native.Mathlib.Omega.{arith}
use mathlib.Core.Path.{◌≡◌, refl, ap, ◌∙◌}
use mathlib.Core.List.{List, [], ◌∷◌}
use lib.Dec.{lit<}
use lib.ListN.{length, get_or}
use Rattle.fips197.specs.Field.{◌⊕◌, ◌·◌}
use Rattle.fips197.proofs.Sums.{v, ◌and◌, same_sum, ⊕_zero}
use Rattle.fips197.proofs.Product.{·-left, ·-right}
use Rattle.lists.specs.Lists.{tab, chunk}
use Rattle.lists.proofs.Tabs.{length-tab, get_or-tab, tab-is}
use Rattle.lists.proofs.Joined.{joined_cong}
use Rattle.rep3.specs.Tables.{six_parts, si_part, sii_part, share_of, Consistent, opened_by, opened}
use Rattle.rep3.proofs.Opening.{length-six_parts, chunk-six_parts, six_parts-consistent, same_opening, length-opened, get_or-opened}
use Rattle.halves.specs.Product.{product_at, first_half, open_of, sent, product_of}

pub share_of_lt : (k : ℕ) → share_of k < 3
unfolding share_of
share_of_lt k = mod-lt _ (zero-lt-suc 2)

-- ---- the parts of a product

module _ (n : ℕ) (x y : List ℕ) (α : ℕ → List ℕ) where
  pub length-sent : (p : ℕ) → length (sent n x y α p) ≡ n
  unfolding sent first_half
  length-sent p = length-tab n _

  pub length-product_of : length (product_of n x y α) ≡ 6 * n
  unfolding product_of
  length-product_of = length-six_parts n (λ k. sent n x y α (share_of k)) (λ k h. length-sent (share_of k))

  pub chunk-product_of : (k : ℕ) → k < 6 → chunk n k (product_of n x y α) ≡ sent n x y α (share_of k)
  unfolding product_of
  chunk-product_of = chunk-six_parts n (λ k. sent n x y α (share_of k)) (λ k h. length-sent (share_of k))

  pub product-consistent : Consistent n (product_of n x y α)
  unfolding product_of share_of
  product-consistent = six_parts-consistent n (λ k. sent n x y α (share_of k)) (λ k h. length-sent (share_of k)) refl refl refl

  pub get_or-sent : (p j : ℕ) → j < n
      → get_or (sent n x y α p) j 0
      ≡ product_at (get_or (si_part n p x) j 0) (get_or (sii_part n p x) j 0) (get_or (si_part n p y) j 0) (get_or (sii_part n p y) j 0) (get_or (α p) j 0)
  unfolding sent first_half
  get_or-sent p j h = get_or-tab n _ j 0 h

-- ---- what it opens to

-- one position, with the shares a, b, c of one factor and p, q, r of the other
opens : (a b c p q r k l m : ℕ)
    → product_at a b p q k ⊕ product_at b c q r l ⊕ product_at c a r p m ≡ (a ⊕ b ⊕ c) · (p ⊕ q ⊕ r) ⊕ (k ⊕ l ⊕ m)
unfolding product_at
opens a b c p q r k l m =
    simp (·-left, ·-right)
    (same_sum (a · p ∷ a · q ∷ a · r ∷ b · p ∷ b · q ∷ b · r ∷ c · p ∷ c · q ∷ c · r ∷ k ∷ l ∷ m ∷ [])
    (v 0 and v 1 and v 3 and v 9 and (v 4 and v 5 and v 7 and v 10) and (v 8 and v 6 and v 2 and v 11))
    (v 0 and v 1 and v 2 and (v 3 and v 4 and v 5) and (v 6 and v 7 and v 8) and (v 9 and v 10 and v 11)) tt)

module _ (n : ℕ) (x y : List ℕ) (α : ℕ → List ℕ) (lx : length x ≡ 6 * n) (ly : length y ≡ 6 * n)
    (cx : Consistent n x) (cy : Consistent n y) where
  pub product-opened : (j : ℕ) → j < n
      → get_or (opened n (product_of n x y α)) j 0
      ≡ get_or (opened n x) j 0 · get_or (opened n y) j 0 ⊕ (get_or (α 0) j 0 ⊕ get_or (α 1) j 0 ⊕ get_or (α 2) j 0)
  unfolding share_of
  product-opened j h =
      let xAt : ℕ → ℕ = λ k. get_or (chunk n k x) j 0 in
      let yAt : ℕ → ℕ = λ k. get_or (chunk n k y) j 0 in
      cc (
        get_or-opened n (product_of n x y α) (length-product_of n x y α) j,
        get_or-opened n x lx j,
        get_or-opened n y ly j,
        chunk-product_of n x y α 0 (lit< tt),
        chunk-product_of n x y α 1 (lit< tt),
        chunk-product_of n x y α 4 (lit< tt),
        get_or-sent n x y α 0 j h,
        get_or-sent n x y α 1 j h,
        get_or-sent n x y α 2 j h,
        opens (xAt 0) (xAt 1) (xAt 4) (yAt 0) (yAt 1) (yAt 4) (get_or (α 0) j 0) (get_or (α 1) j 0) (get_or (α 2) j 0),
      )

  -- alphas that cancel
  pub products-opened : ((j : ℕ) → j < n → get_or (α 0) j 0 ⊕ get_or (α 1) j 0 ⊕ get_or (α 2) j 0 ≡ 0)
      → opened n (product_of n x y α) ≡ tab n (λ j. get_or (opened n x) j 0 · get_or (opened n y) j 0)
  products-opened cancel =
      tab-is n _ (opened n (product_of n x y α)) (length-opened n _ (length-product_of n x y α))
      (λ j h. product-opened j h ∙ ap (λ (a : ℕ). get_or (opened n x) j 0 · get_or (opened n y) j 0 ⊕ a) (cancel j h) ∙ ⊕_zero _)

-- ---- by the exported halves

-- each party's si is its own first half, and its sii what the next party sent
pub halves_product : (n : ℕ) (x y : List ℕ) (α c : ℕ → List ℕ)
    → ((p : ℕ) → p < 3 → c p ≡ first_half n (si_part n p x) (sii_part n p x) (si_part n p y) (sii_part n p y) (α p))
    → six_parts (λ k. get_or (c 0 ∷ c 1 ∷ c 1 ∷ c 2 ∷ c 2 ∷ c 0 ∷ []) k []) ≡ product_of n x y α
unfolding product_of sent share_of
halves_product n x y α c h =
    joined_cong 6 _ _ parts
  where
    parts : (k : ℕ) → k < 6 → get_or (c 0 ∷ c 1 ∷ c 1 ∷ c 2 ∷ c 2 ∷ c 0 ∷ []) k [] ≡ sent n x y α (share_of k)
    parts zero q = h 0 (lit< tt)
    parts (suc zero) q = h 1 (lit< tt)
    parts (suc (suc zero)) q = h 1 (lit< tt)
    parts (suc (suc (suc zero))) q = h 2 (lit< tt)
    parts (suc (suc (suc (suc zero)))) q = h 2 (lit< tt)
    parts (suc (suc (suc (suc (suc zero))))) q = h 0 (lit< tt)
    parts (suc (suc (suc (suc (suc (suc k)))))) q = absurd (omega arith)

pub opening_agrees : (n : ℕ) (t : List ℕ) → Consistent n t → (p : ℕ) → p < 3
    → open_of (si_part n p t) (sii_part n p t) (si_part n ((p + 2) % 3) t) ≡ opened n t
unfolding open_of opened_by
opening_agrees n t c p h = same_opening n t c p h
