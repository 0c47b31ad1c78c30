-- Maps that are additive. They are determined by their values at the powers of two, so that an equation between maps additive in each
-- argument is proved by a test at 8, 64 or 512 places. Assumes nothing.
use mathlib.Core.Path.{◌≡◌, refl, sym, ap, ap₂, ◌∙◌, subst, subst⁻¹}
use mathlib.Core.Bool.{Bool}
use Prim.Native.Nat.{ℕ, zero, suc, ◌*◌, ◌/◌, ◌%◌, ◌^◌, ◌<◌}
use native.Mathlib.Nat.{le_refl, le-suc, le_trans, le_of_suc-le-suc, not-suc-le-zero, zero-lt-suc, add-zero, mod-lt, zero-mul, one-mul, pow-suc, mul_comm, div-lt_iff_lt-mul}
use lib.Arith.{lt-one}
use lib.Pow.{pow_pos, split}
use lib.Bits.{xor_shr, xor_mod, xor_block, xor_shifted}
use lib.Dec.{T, eqb, eqb→eq, ltb, ltb→lt}
use Rattle.fips197.specs.Field.{◌⊕◌, bit}
use Rattle.fips197.proofs.Tests.{all, all-at}
use Rattle.fips197.proofs.Sums.{⊕_self, ⊕_zero, zero_⊕, ⊕_middle, ⊕_lt}

abbrev pub Additive : (ℕ → ℕ) → Type 0
Additive f = (x y : ℕ) → f (x ⊕ y) ≡ f x ⊕ f y

abbrev pub Biadditive : (ℕ → ℕ → ℕ) → Type 0
Biadditive f = ((y : ℕ) → Additive (λ x. f x y)) × ((x : ℕ) → Additive (f x))

pub at_zero : (f : ℕ → ℕ) → Additive f → f 0 ≡ 0
at_zero f h = ap f (sym (⊕_self 0)) ∙ h 0 0 ∙ ⊕_self (f 0)

pub id-additive : Additive (λ x. x)
id-additive x y = refl

pub zero-additive : Additive (λ x. 0)
zero-additive x y = sym (⊕_self 0)

pub sum-additive : (f g : ℕ → ℕ) → Additive f → Additive g → Additive (λ x. f x ⊕ g x)
sum-additive f g hf hg x y = ap₂ ◌⊕◌ (hf x y) (hg x y) ∙ ⊕_middle (f x) (f y) (g x) (g y)

pub then-additive : (f g : ℕ → ℕ) → Additive f → Additive g → Additive (λ x. g (f x))
then-additive f g hf hg x y = ap g (hf x y) ∙ hg (f x) (f y)

-- ---- digits

-- a binary digit is 0 or 1
pub two_cases : (P : ℕ → Type 0) → P 0 → P 1 → (x : ℕ) → x < 2 → P x
two_cases P p q zero h = p
two_cases P p q (suc zero) h = q
two_cases P p q (suc (suc x)) h = absurd (not-suc-le-zero (le_of_suc-le-suc (le_of_suc-le-suc h)))

pub odd_lt : (x : ℕ) → x % 2 < 2
odd_lt x = mod-lt x (zero-lt-suc 1)

pub bit_lt : (p i : ℕ) → bit p i < 2
unfolding bit
bit_lt p i = odd_lt (p / 2 ^ i)

pub low-additive : (k : ℕ) → Additive (λ x. x % 2 ^ k)
unfolding ◌⊕◌
low-additive k x y = xor_mod x y k

pub high-additive : (k : ℕ) → Additive (λ x. x / 2 ^ k)
unfolding ◌⊕◌
high-additive k x y = xor_shr x y k

pub shift-additive : (k : ℕ) → Additive (λ x. x * 2 ^ k)
unfolding ◌⊕◌
shift-additive k x y =
    sym (add-zero ((x ⊕ y) * 2 ^ k)) ∙ sym (xor_block k x y 0 0 (pow_pos k) (pow_pos k))
    ∙ ap₂ ◌⊕◌ (add-zero (x * 2 ^ k)) (add-zero (y * 2 ^ k))

pub bit-additive : (i : ℕ) → Additive (λ p. bit p i)
unfolding bit
bit-additive i = then-additive (λ (x : ℕ). x / 2 ^ i) (λ (x : ℕ). x % 2) (high-additive i) (low-additive 1)

-- a number taken or not, by a digit: additive in the number and in the digit
pub taken-additive : (d : ℕ) → d < 2 → Additive (λ x. d * x)
taken-additive d h x y =
    two_cases (λ (e : ℕ). e * (x ⊕ y) ≡ e * x ⊕ e * y)
    (zero-mul (x ⊕ y) ∙ sym (⊕_self 0) ∙ sym (ap₂ ◌⊕◌ (zero-mul x) (zero-mul y)))
    (one-mul (x ⊕ y) ∙ sym (ap₂ ◌⊕◌ (one-mul x) (one-mul y)))
    d h

pub digit_taken : (m d e : ℕ) → d < 2 → e < 2 → (d ⊕ e) * m ≡ d * m ⊕ e * m
digit_taken m d e hd he =
    two_cases (λ (x : ℕ). (x ⊕ e) * m ≡ x * m ⊕ e * m)
    (ap (λ (x : ℕ). x * m) (zero_⊕ e) ∙ sym (zero_⊕ (e * m)) ∙ sym (ap (λ (x : ℕ). x ⊕ e * m) (zero-mul m)))
    (two_cases (λ (y : ℕ). (1 ⊕ y) * m ≡ 1 * m ⊕ y * m)
    (ap (λ (x : ℕ). x * m) (⊕_zero 1) ∙ sym (⊕_zero (1 * m)) ∙ sym (ap (λ (x : ℕ). 1 * m ⊕ x) (zero-mul m)))
    (ap (λ (x : ℕ). x * m) (⊕_self 1) ∙ zero-mul m ∙ sym (⊕_self (1 * m)))
    e he)
    d hd

pub chosen-additive : (i m : ℕ) → Additive (λ p. bit p i * m)
chosen-additive i m x y =
    ap (λ (z : ℕ). z * m) (bit-additive i x y) ∙ digit_taken m (bit x i) (bit y i) (bit_lt x i) (bit_lt y i)

-- ---- what holds of 0, of the powers of two below 2 ^ k, and of sums, holds below 2 ^ k

pub span : (P : ℕ → Type 0) → P 0 → ((x y : ℕ) → P x → P y → P (x ⊕ y))
    → (k : ℕ) → ((i : ℕ) → i < k → P (2 ^ i)) → (x : ℕ) → x < 2 ^ k → P x
unfolding ◌⊕◌
span P z s zero b x h = subst P (sym (lt-one h)) z
span P z s (suc k) b x h =
    subst P (xor_shifted (x / 2 ^ k) k (x % 2 ^ k) low ∙ split x k)
    (s (x / 2 ^ k * 2 ^ k) (x % 2 ^ k)
    (two_cases (λ (q : ℕ). P (q * 2 ^ k)) (subst⁻¹ P (zero-mul (2 ^ k)) z) (subst⁻¹ P (one-mul (2 ^ k)) (b k (le_refl (suc k))))
    (x / 2 ^ k) ((div-lt_iff_lt-mul (pow_pos k)).1 (subst (λ (m : ℕ). x < m) (pow-suc 2 k ∙ mul_comm (2 ^ k) 2) h)))
    (span P z s k (λ i l. b i (le_trans l (le-suc k))) (x % 2 ^ k) low))
  where
    low : x % 2 ^ k < 2 ^ k
    low = mod-lt x (pow_pos k)

-- two additive maps that agree at the powers of two agree
pub agree : (f g : ℕ → ℕ) → Additive f → Additive g → (k : ℕ) → ((i : ℕ) → i < k → f (2 ^ i) ≡ g (2 ^ i))
    → (x : ℕ) → x < 2 ^ k → f x ≡ g x
agree f g hf hg k =
    span (λ (x : ℕ). f x ≡ g x) (at_zero f hf ∙ sym (at_zero g hg)) (λ x y p q. hf x y ∙ ap₂ ◌⊕◌ p q ∙ sym (hg x y)) k

-- an additive map whose values at the powers of two have n digits has values of n digits
pub bounded : (f : ℕ → ℕ) → Additive f → (n k : ℕ) → ((i : ℕ) → i < k → f (2 ^ i) < 2 ^ n) → (x : ℕ) → x < 2 ^ k → f x < 2 ^ n
bounded f hf n k =
    span (λ (x : ℕ). f x < 2 ^ n) (subst⁻¹ (λ (m : ℕ). m < 2 ^ n) (at_zero f hf) (pow_pos n))
    (λ x y p q. subst⁻¹ (λ (m : ℕ). m < 2 ^ n) (hf x y) (⊕_lt n (f x) (f y) p q)) k

-- ---- the same by a test, of one argument, of two and of three

pub agree₁ : (f g : ℕ → ℕ) → Additive f → Additive g → (k : ℕ) → T (all (λ i. eqb (f (2 ^ i)) (g (2 ^ i))) k)
    → (x : ℕ) → x < 2 ^ k → f x ≡ g x
agree₁ f g hf hg k t =
    agree f g hf hg k (λ i h. eqb→eq (f (2 ^ i)) (g (2 ^ i)) (all-at (λ (i : ℕ). eqb (f (2 ^ i)) (g (2 ^ i))) k t i h))

abbrev pub same₂ : (ℕ → ℕ → ℕ) → (ℕ → ℕ → ℕ) → ℕ → Bool
same₂ f g k = all (λ i. all (λ j. eqb (f (2 ^ i) (2 ^ j)) (g (2 ^ i) (2 ^ j))) k) k

pub agree₂ : (f g : ℕ → ℕ → ℕ) → Biadditive f → Biadditive g → (k : ℕ) → T (same₂ f g k)
    → (x y : ℕ) → x < 2 ^ k → y < 2 ^ k → f x y ≡ g x y
agree₂ f g hf hg k t x y hx hy =
    agree (λ (a : ℕ). f a y) (λ (a : ℕ). g a y) (hf.0 y) (hg.0 y) k
    (λ i l. agree₁ (f (2 ^ i)) (g (2 ^ i)) (hf.1 (2 ^ i)) (hg.1 (2 ^ i)) k
    (all-at (λ (i : ℕ). all (λ j. eqb (f (2 ^ i) (2 ^ j)) (g (2 ^ i) (2 ^ j))) k) k t i l) y hy)
    x hx

pub agree₃ : (f g : ℕ → ℕ → ℕ → ℕ) → ((z : ℕ) → Biadditive (λ x y. f x y z)) → ((x y : ℕ) → Additive (f x y))
    → ((z : ℕ) → Biadditive (λ x y. g x y z)) → ((x y : ℕ) → Additive (g x y)) → (k : ℕ)
    → T (all (λ i. same₂ (λ x y. f x y (2 ^ i)) (λ x y. g x y (2 ^ i)) k) k)
    → (x y z : ℕ) → x < 2 ^ k → y < 2 ^ k → z < 2 ^ k → f x y z ≡ g x y z
agree₃ f g hf hf' hg hg' k t x y z hx hy hz =
    agree (f x y) (g x y) (hf' x y) (hg' x y) k
    (λ i l. agree₂ (λ (x y : ℕ). f x y (2 ^ i)) (λ (x y : ℕ). g x y (2 ^ i)) (hf (2 ^ i)) (hg (2 ^ i)) k
    (all-at (λ (i : ℕ). same₂ (λ x y. f x y (2 ^ i)) (λ x y. g x y (2 ^ i)) k) k t i l) x y hx hy)
    z hz

-- a map additive in both arguments whose values at the powers of two have n digits has values of n digits
pub bounded₂ : (f : ℕ → ℕ → ℕ) → Biadditive f → (n k : ℕ) → T (all (λ i. all (λ j. ltb (f (2 ^ i) (2 ^ j)) (2 ^ n)) k) k)
    → (x y : ℕ) → x < 2 ^ k → y < 2 ^ k → f x y < 2 ^ n
bounded₂ f hf n k t x y hx hy =
    bounded (λ (a : ℕ). f a y) (hf.0 y) n k
    (λ i l. bounded (f (2 ^ i)) (hf.1 (2 ^ i)) n k
    (λ j m. ltb→lt (f (2 ^ i) (2 ^ j)) (2 ^ n)
    (all-at (λ (j : ℕ). ltb (f (2 ^ i) (2 ^ j)) (2 ^ n)) k
    (all-at (λ (i : ℕ). all (λ j. ltb (f (2 ^ i) (2 ^ j)) (2 ^ n)) k) k t i l) j m)) y hy)
    x hx
