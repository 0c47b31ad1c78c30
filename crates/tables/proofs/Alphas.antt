-- An inversion depends on its alphas of parties 0, 1, 2 alone: on what is lent of each party's part of the buffer. Assumes nothing.
use Prim.Native.Nat.{ℕ, zero, suc, ◌<◌}
use native.Mathlib.Omega.{arith}
use mathlib.Core.Path.{◌≡◌, ap, fun_ext}
use mathlib.Core.List.{List, map}
use Rattle.fips197.specs.Field.{square}
use Rattle.lists.specs.Lists.{chunk}
use Rattle.lists.proofs.Joined.{joined_cong}
use Rattle.rep3.specs.Tables.{si_part, sii_part, share_of}
use Rattle.halves.specs.Product.{first_half, sent, product_of}
use Rattle.joint.specs.Joint.{three}
use Rattle.chain.specs.Chain.{chain_of}
use Rattle.chida.specs.Inversion.{inversion_of}

share-party : (k : ℕ) → share_of k < 3
unfolding share_of
share-party k = omega arith

module _ (n : ℕ) (α β : ℕ → List ℕ) (e : (p : ℕ) → p < 3 → α p ≡ β p) where
  -- the product that draws the u-th of each party's four parts
  abbrev product : (ℕ → List ℕ) → ℕ → List ℕ → List ℕ → List ℕ
  product γ u x y = product_of n x y (λ p. chunk n u (γ p))

  product-alphas : (u : ℕ) (x y : List ℕ) → product α u x y ≡ product β u x y
  unfolding product_of sent
  product-alphas u x y =
      joined_cong 6 _ _ (λ k h. let q = share_of k in
      ap (λ (a : List ℕ). first_half n (si_part n q x) (sii_part n q x) (si_part n q y) (sii_part n q y) (chunk n u a)) (e q (share-party k)))

  -- the chain over its product
  abbrev by : (ℕ → List ℕ → List ℕ → List ℕ) → List ℕ → List ℕ
  by F x =
      let x2 = map square x in
      let x3 = F 0 x x2 in
      let x12 = map square (map square x3) in
      F 3 (map square (map square (map square (map square (F 1 x12 x3))))) (F 2 x12 x2)

  pub inversion-alphas : (x : List ℕ) → inversion_of n α x ≡ inversion_of n β x
  unfolding inversion_of chain_of
  inversion-alphas x = ap (λ (F : ℕ → List ℕ → List ℕ → List ℕ). by F x) (fun_ext (λ u. fun_ext (λ y. fun_ext (λ z. product-alphas u y z))))

-- what belongs to the three parties, from what belongs to each
three_are : (β : ℕ → List ℕ) (x y z : List ℕ) → x ≡ β 0 → y ≡ β 1 → z ≡ β 2 → (p : ℕ) → p < 3 → three x y z p ≡ β p
three_are β x y z a b c zero h = a
three_are β x y z a b c (suc zero) h = b
three_are β x y z a b c (suc (suc zero)) h = c
three_are β x y z a b c (suc (suc (suc p))) h = absurd (omega arith)

pub lent-alphas : (n : ℕ) (β : ℕ → List ℕ) (xs x y z : List ℕ) → x ≡ β 0 → y ≡ β 1 → z ≡ β 2
    → inversion_of n (three x y z) xs ≡ inversion_of n β xs
lent-alphas n β xs x y z a b c = inversion-alphas n (three x y z) β (three_are β x y z a b c) xs
