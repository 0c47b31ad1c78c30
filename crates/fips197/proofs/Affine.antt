-- The affine map of the S-box and its inverse: additive, bytes, and each undoes the other. Assumes nothing.
use mathlib.Core.Path.{◌≡◌, refl, sym, ap₂, ◌∙◌, subst}
use Prim.Native.Nat.{ℕ, zero, suc, ◌+◌, ◌*◌, ◌^◌, ◌<◌}
use native.Mathlib.Nat.{pow-suc, mul_comm}
use lib.Arith.{digits_lt}
use lib.Bits.{xor_block}
use lib.Dec.{lit<}
use Rattle.fips197.specs.Field.{◌⊕◌, bit, byte_n, affine_bit, affine, inv_affine_bit, inv_affine}
use Rattle.fips197.proofs.Sums.{⊕_lt}
use Rattle.fips197.proofs.Additive.{Additive, id-additive, sum-additive, then-additive, bit_lt, bit-additive, agree₁}

-- ---- a byte made of digits

byte_lt : (n : ℕ) (f : ℕ → ℕ) → ((i : ℕ) → f i < 2) → byte_n n f < 2 ^ n
unfolding byte_n
byte_lt zero f h = lit< tt
byte_lt (suc n) f h =
    subst (λ (m : ℕ). f n * 2 ^ n + byte_n n f < m) (mul_comm 2 (2 ^ n) ∙ sym (pow-suc 2 n)) (digits_lt (h n) (byte_lt n f h))

byte-additive : (F : ℕ → ℕ → ℕ) → ((b i : ℕ) → F b i < 2) → ((i : ℕ) → Additive (λ b. F b i)) → (n : ℕ) → Additive (λ b. byte_n n (F b))
unfolding byte_n ◌⊕◌
byte-additive F lt h zero x y = refl
byte-additive F lt h (suc n) x y =
    ap₂ (λ (p q : ℕ). p * 2 ^ n + q) (h n x y) (byte-additive F lt h n x y)
    ∙ sym (xor_block n (F x n) (F y n) (byte_n n (F x)) (byte_n n (F y)) (byte_lt n (F x) (lt x)) (byte_lt n (F y) (lt y)))

-- a digit that is additive in a number
pub Digit : (ℕ → ℕ) → Type 0
Digit f = ((b : ℕ) → f b < 2) × Additive f

bit_digit : (i : ℕ) → Digit (λ b. bit b i)
unfolding Digit
bit_digit i = ((λ b. bit_lt b i), bit-additive i)

sum_digit : (f g : ℕ → ℕ) → Digit f → Digit g → Digit (λ b. f b ⊕ g b)
unfolding Digit
sum_digit f g hf hg = ((λ b. ⊕_lt 1 (f b) (g b) (hf.0 b) (hg.0 b)), sum-additive f g hf.1 hg.1)

affine_digit : (i : ℕ) → Digit (λ b. affine_bit b i)
unfolding affine_bit
affine_digit i =
    sum_digit _ _ (sum_digit _ _ (sum_digit _ _ (sum_digit _ _ (bit_digit _) (bit_digit _)) (bit_digit _)) (bit_digit _)) (bit_digit _)

inv_affine_digit : (i : ℕ) → Digit (λ b. inv_affine_bit b i)
unfolding inv_affine_bit
inv_affine_digit i = sum_digit _ _ (sum_digit _ _ (bit_digit _) (bit_digit _)) (bit_digit _)

-- ---- the two maps

pub affine_lt : (b : ℕ) → affine b < 256
unfolding affine Digit
affine_lt b = byte_lt 8 (affine_bit b) (λ i. (affine_digit i).0 b)

pub inv_affine_lt : (b : ℕ) → inv_affine b < 256
unfolding inv_affine Digit
inv_affine_lt b = byte_lt 8 (inv_affine_bit b) (λ i. (inv_affine_digit i).0 b)

pub affine-additive : Additive affine
unfolding affine Digit
affine-additive = byte-additive affine_bit (λ b i. (affine_digit i).0 b) (λ i. (affine_digit i).1) 8

pub inv_affine-additive : Additive inv_affine
unfolding inv_affine Digit
inv_affine-additive = byte-additive inv_affine_bit (λ b i. (inv_affine_digit i).0 b) (λ i. (inv_affine_digit i).1) 8

pub affine-inv_affine : (b : ℕ) → b < 256 → affine (inv_affine b) ≡ b
unfolding ◌⊕◌ bit byte_n affine_bit affine inv_affine_bit inv_affine
affine-inv_affine =
    agree₁ (λ (b : ℕ). affine (inv_affine b)) (λ (b : ℕ). b)
    (then-additive inv_affine affine inv_affine-additive affine-additive) id-additive 8 tt

pub inv_affine-affine : (b : ℕ) → b < 256 → inv_affine (affine b) ≡ b
unfolding ◌⊕◌ bit byte_n affine_bit affine inv_affine_bit inv_affine
inv_affine-affine =
    agree₁ (λ (b : ℕ). inv_affine (affine b)) (λ (b : ℕ). b)
    (then-additive affine inv_affine affine-additive inv_affine-additive) id-additive 8 tt
