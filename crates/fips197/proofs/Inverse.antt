-- The inverse: the one y with x · y = 1, computed by the chain to x^254; and the S-boxes, which undo each other. Assumes nothing.
use mathlib.Core.Path.{◌≡◌, refl, sym, ap, ◌∙◌, subst}
use mathlib.Core.Logic.{⊎_elim}
use mathlib.Core.Bool.{Bool, true, false, not, cond}
use Prim.Native.Nat.{ℕ, zero, suc, ◌%◌, ◌<◌}
use native.Mathlib.Nat.{le_refl, le-suc, le_trans, le_of_suc-le-suc, not-suc-le-zero, eq-or-lt_of_le}
use mathlib.Core.Path.{fun_ext}
use lib.Dec.{T, T_not, eqb, eqb→eq, eqb_refl, lit<}
use Rattle.fips197.specs.Field.{◌⊕◌, bit, times_n, modulus, reduce_n, ◌·◌, square, find_n, inverse, affine, inv_affine, affine_constant, sbox, inv_sbox}
use Rattle.fips197.specs.Chain.{x2, x3, x12, x14, x15, x240, x254}
use Rattle.fips197.proofs.Tests.{all, all-at}
use Rattle.fips197.proofs.Sums.{⊕_cancel, ⊕_byte}
use Rattle.fips197.proofs.Product.{·_lt, ·_comm, ·_assoc, ·-one, ·-low-left, low_byte, square-low}
use Rattle.fips197.proofs.Affine.{affine_lt, inv_affine_lt, affine-inv_affine, inv_affine-affine}

-- ---- the search finds

picked : (P : ℕ → Type 0) (b : Bool) (m r : ℕ) → (T b → P m) → (T (not b) → P r) → P (cond b m r)
picked P true m r f g = f tt
picked P false m r f g = g tt

find_holds : (p : ℕ → Bool) (n y : ℕ) → y < n → T (p y) → T (p (find_n p n)) × (find_n p n < n)
unfolding find_n
find_holds p zero y h t = absurd (not-suc-le-zero h)
find_holds p (suc n) y h t =
    picked (λ (z : ℕ). T (p z) × (z < suc n)) (p n) n (find_n p n) (λ u. (u, le_refl (suc n)))
    (λ u. wider (⊎_elim (λ (e : y ≡ n). absurd (T_not (p n) u (subst (λ (m : ℕ). T (p m)) e t))) (λ (l : y < n). find_holds p n y l t)
    (eq-or-lt_of_le (le_of_suc-le-suc h))))
  where
    wider : T (p (find_n p n)) × (find_n p n < n) → T (p (find_n p n)) × (find_n p n < suc n)
    wider w = (w.0, le_trans w.1 (le-suc n))

-- ---- whatever is an inverse is the inverse

one-inverse : (x y z : ℕ) → y < 256 → z < 256 → x · y ≡ 1 → x · z ≡ 1 → y ≡ z
one-inverse x y z hy hz p q =
    sym (·-one y hy) ∙ ap (λ (m : ℕ). y · m) (sym q) ∙ sym (·_assoc y x z) ∙ ap (λ (m : ℕ). m · z) (·_comm y x ∙ p)
    ∙ ·_comm 1 z ∙ ·-one z hz

pub inverse_unique : (x y : ℕ) → y < 256 → x · y ≡ 1 → inverse x ≡ y
unfolding inverse
inverse_unique x y hy p =
    one-inverse x (inverse x) y found.1 hy (eqb→eq (x · inverse x) 1 found.0) p
  where
    found : T (eqb (x · inverse x) 1) × (inverse x < 256)
    found = find_holds (λ (z : ℕ). eqb (x · z) 1) 256 y hy (subst (λ (m : ℕ). T (eqb m 1)) (sym p) (eqb_refl 1))

pub inverse-low : (x : ℕ) → inverse x ≡ inverse (x % 256)
unfolding inverse
inverse-low x = ap (λ (p : ℕ → Bool). find_n p 256) (fun_ext (λ y. ap (λ (m : ℕ). eqb m 1) (·-low-left x y)))

-- ---- the chain

pub x254_lt : (x : ℕ) → x254 x < 256
unfolding x254
x254_lt x = ·_lt (x240 x) (x14 x)

x3-low : (x : ℕ) → x3 x ≡ x3 (x % 256)
unfolding x3 x2
x3-low x = ·-low-left x (square x) ∙ ap (λ (m : ℕ). (x % 256) · m) (square-low x)

x254-low : (x : ℕ) → x254 x ≡ x254 (x % 256)
unfolding x254 x240 x15 x14 x12 x2
x254-low x = cc (x3-low x, square-low x)

-- the one test over all bytes but 0
inverts : T (all (λ k. eqb (suc k · x254 (suc k)) 1) 255)
unfolding ◌⊕◌ bit times_n modulus reduce_n ◌·◌ square x2 x3 x12 x15 x14 x240 x254
inverts = tt

pub x254-inverts : (k : ℕ) → suc k < 256 → suc k · x254 (suc k) ≡ 1
x254-inverts k h =
    eqb→eq (suc k · x254 (suc k)) 1 (all-at (λ (k : ℕ). eqb (suc k · x254 (suc k)) 1) 255 inverts k (le_of_suc-le-suc h))

pub inverse_zero : inverse 0 ≡ 0
unfolding ◌⊕◌ bit times_n modulus reduce_n ◌·◌ find_n inverse
inverse_zero = refl

x254_zero : x254 0 ≡ 0
unfolding ◌⊕◌ bit times_n modulus reduce_n ◌·◌ square x2 x3 x12 x15 x14 x240 x254
x254_zero = refl

chain_byte : (x : ℕ) → x < 256 → x254 x ≡ inverse x
chain_byte zero h = x254_zero ∙ sym inverse_zero
chain_byte (suc k) h = sym (inverse_unique (suc k) (x254 (suc k)) (x254_lt (suc k)) (x254-inverts k h))

-- the chain computes the inverse, 0 to 0
pub chain : (x : ℕ) → x254 x ≡ inverse x
chain x = x254-low x ∙ chain_byte (x % 256) (low_byte x) ∙ sym (inverse-low x)

-- ---- the inverse of FIPS-197

pub inverse_lt : (x : ℕ) → inverse x < 256
inverse_lt x = subst (λ (m : ℕ). m < 256) (chain x) (x254_lt x)

pub inverse-right : (k : ℕ) → suc k < 256 → suc k · inverse (suc k) ≡ 1
inverse-right k h = ap (λ (m : ℕ). suc k · m) (sym (chain (suc k))) ∙ x254-inverts k h

pub inverse-inverse : (x : ℕ) → x < 256 → inverse (inverse x) ≡ x
inverse-inverse zero h = ap inverse inverse_zero ∙ inverse_zero
inverse-inverse (suc k) h = inverse_unique (inverse (suc k)) (suc k) h (·_comm (inverse (suc k)) (suc k) ∙ inverse-right k h)

-- ---- the S-boxes

constant_lt : affine_constant < 256
unfolding affine_constant
constant_lt = lit< tt

pub sbox_lt : (x : ℕ) → sbox x < 256
unfolding sbox
sbox_lt x = ⊕_byte (affine (inverse x)) affine_constant (affine_lt (inverse x)) constant_lt

pub inv_sbox_lt : (x : ℕ) → inv_sbox x < 256
unfolding inv_sbox
inv_sbox_lt x = inverse_lt (inv_affine (x ⊕ affine_constant))

pub inv_sbox-sbox : (x : ℕ) → x < 256 → inv_sbox (sbox x) ≡ x
unfolding sbox inv_sbox
inv_sbox-sbox x h =
    ap (λ (m : ℕ). inverse (inv_affine m)) (⊕_cancel (affine (inverse x)) affine_constant)
    ∙ ap inverse (inv_affine-affine (inverse x) (inverse_lt x)) ∙ inverse-inverse x h

pub sbox-inv_sbox : (y : ℕ) → y < 256 → sbox (inv_sbox y) ≡ y
unfolding sbox inv_sbox
sbox-inv_sbox y h =
    ap (λ (m : ℕ). affine m ⊕ affine_constant) (inverse-inverse (inv_affine (y ⊕ affine_constant)) (inv_affine_lt (y ⊕ affine_constant)))
    ∙ ap (λ (m : ℕ). m ⊕ affine_constant) (affine-inv_affine (y ⊕ affine_constant) (⊕_byte y affine_constant h constant_lt))
    ∙ ⊕_cancel y affine_constant
