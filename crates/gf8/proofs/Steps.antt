-- The product as `gf8::mul` computes it, the lowest bit of y first and x reduced at each step, is the field's; and what a mask leaves.
-- Assumes nothing.
use mathlib.Core.Path.{◌≡◌, sym, ap, ◌∙◌}
use Prim.Native.Nat.{ℕ, zero, suc, ◌*◌, ◌/◌, ◌%◌, ◌<◌}
use native.Mathlib.Nat.{zero-mul, one-mul, mod-eq_of_lt}
use lib.Bits.{bit_and, and_mask, and_zero_r}
use Rattle.fips197.specs.Field.{◌⊕◌, bit, times_n, modulus, reduce_n, ◌·◌, xtime}
use Rattle.fips197.proofs.Sums.{⊕_assoc}
use Rattle.fips197.proofs.Additive.{Additive, zero-additive, sum-additive, then-additive, two_cases, odd_lt, low-additive, high-additive, taken-additive, digit_taken, agree₂}
use Rattle.fips197.proofs.Product.{·-both, xtime-additive}

-- a byte under a mask of all ones or of none
pub mask_taken : (x d : ℕ) → x < 256 → d < 2 → bit_and x (d * 255) ≡ d * x
mask_taken x d hx =
    two_cases (λ (e : ℕ). bit_and x (e * 255) ≡ e * x) (and_zero_r x ∙ sym (zero-mul x))
    (and_mask x 8 ∙ mod-eq_of_lt hx ∙ sym (one-mul x)) d

unfoldable pub steps_n : ℕ → ℕ → ℕ → ℕ
steps_n zero x y = 0
steps_n (suc n) x y = y % 2 * x ⊕ steps_n n (xtime x) (y / 2)

steps-left : (n y : ℕ) → Additive (λ x. steps_n n x y)
unfolding steps_n
steps-left zero y = zero-additive
steps-left (suc n) y =
    sum-additive (λ (x : ℕ). y % 2 * x) (λ (x : ℕ). steps_n n (xtime x) (y / 2)) (taken-additive (y % 2) (odd_lt y))
    (then-additive xtime (λ (x : ℕ). steps_n n x (y / 2)) xtime-additive (steps-left n (y / 2)))

steps-right : (n x : ℕ) → Additive (steps_n n x)
unfolding steps_n
steps-right zero x = zero-additive
steps-right (suc n) x =
    sum-additive (λ (y : ℕ). y % 2 * x) (λ (y : ℕ). steps_n n (xtime x) (y / 2))
    (λ y z. ap (λ (d : ℕ). d * x) (low-additive 1 y z) ∙ digit_taken x (y % 2) (z % 2) (odd_lt y) (odd_lt z))
    (then-additive (λ (y : ℕ). y / 2) (steps_n n (xtime x)) (high-additive 1) (steps-right n (xtime x)))

pub steps_are : (x y : ℕ) → x < 256 → y < 256 → steps_n 8 x y ≡ x · y
unfolding ◌⊕◌ bit times_n modulus reduce_n ◌·◌ xtime steps_n
steps_are = agree₂ (steps_n 8) ◌·◌ (steps-left 8, steps-right 8) ·-both 8 tt

-- one turn of the loop
pub steps-turn : (sum x y n : ℕ) → sum ⊕ y % 2 * x ⊕ steps_n n (xtime x) (y / 2) ≡ sum ⊕ steps_n (suc n) x y
unfolding steps_n
steps-turn sum x y n = ⊕_assoc sum (y % 2 * x) (steps_n n (xtime x) (y / 2))
