-- The chain of inversion over any squares and products: on share tables it is chain_of, on bytes x254. What squares and products keep,
-- the chain keeps. Assumes nothing.
use Prim.Native.Nat.{ℕ, ◌<◌}
use mathlib.Core.Path.{◌≡◌, refl}
use mathlib.Core.List.{List, map}
use lib.Dec.{lit<}
use Rattle.fips197.specs.Field.{◌·◌, square}
use Rattle.fips197.specs.Chain.{x2, x3, x12, x14, x15, x240, x254}
use Rattle.halves.specs.Product.{product_of}
use Rattle.chain.specs.Chain.{chain_of}

-- products 0 to 3 are those that give x3, x15, x14 and x254
unfoldable pub chain_by : {A : Type 0} → (A → A) → (ℕ → A → A → A) → A → A
chain_by sq prod x =
    let x2 = sq x in
    let x3 = prod 0 x x2 in
    let x12 = sq (sq x3) in
    let x15 = prod 1 x12 x3 in
    let x14 = prod 2 x12 x2 in
    let x240 = sq (sq (sq (sq x15))) in
    prod 3 x240 x14

pub chain_of-by : (n : ℕ) (α : ℕ → ℕ → List ℕ) (x : List ℕ) → chain_of n α x ≡ chain_by (map square) (λ u y z. product_of n y z (α u)) x
unfolding chain_by chain_of
chain_of-by n α x = refl

pub x254-by : (x : ℕ) → x254 x ≡ chain_by square (λ u. ◌·◌) x
unfolding chain_by x2 x3 x12 x14 x15 x240 x254
x254-by x = refl

pub chain-keeps : {A B : Type 0} (R : A → B → Type 0) (sqA : A → A) (sqB : B → B) (prodA : ℕ → A → A → A) (prodB : ℕ → B → B → B)
    → ((a : A) (b : B) → R a b → R (sqA a) (sqB b))
    → ((u : ℕ) → u < 4 → (a c : A) (b d : B) → R a b → R c d → R (prodA u a c) (prodB u b d))
    → (a : A) (b : B) → R a b → R (chain_by sqA prodA a) (chain_by sqB prodB b)
unfolding chain_by
chain-keeps R sqA sqB prodA prodB sq prod a b r =
    let r2 = sq _ _ r in
    let r3 = prod 0 (lit< tt) _ _ _ _ r r2 in
    let r12 = sq _ _ (sq _ _ r3) in
    let r15 = prod 1 (lit< tt) _ _ _ _ r12 r3 in
    let r14 = prod 2 (lit< tt) _ _ _ _ r12 r2 in
    let r240 = sq _ _ (sq _ _ (sq _ _ (sq _ _ r15))) in
    prod 3 (lit< tt) _ _ _ _ r240 r14
