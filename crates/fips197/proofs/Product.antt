-- The laws of the product: what reduction means, that the product is additive on both sides, commutative, associative, with unit 1 and
-- below 256; the square; multiplication by x. Laws with no bound hold of all numbers. Assumes nothing.
use mathlib.Core.Path.{◌≡◌, sym, ap, ap₂, ◌∙◌, subst⁻¹}
use mathlib.Core.List.{[], ◌∷◌}
use Prim.Native.Nat.{ℕ, zero, suc, ◌+◌, ◌*◌, ◌%◌, ◌^◌, ◌<◌}
use native.Mathlib.Nat.{mod-lt, mod-eq_of_lt, zero-lt-suc}
use Rattle.fips197.specs.Field.{◌⊕◌, bit, times_n, modulus, reduce_n, ◌·◌, xtime, square}
use Rattle.fips197.proofs.Sums.{v, ◌and◌, same_sum, zero_⊕}
use Rattle.fips197.proofs.Additive.{Additive, Biadditive, id-additive, zero-additive, sum-additive, then-additive, low-additive, shift-additive, bit_lt, taken-additive, chosen-additive, agree₁, agree₂, agree₃, bounded₂}

-- ---- the product of polynomials and its remainder are additive

times-left : (n b : ℕ) → Additive (λ a. times_n n a b)
unfolding times_n
times-left zero b = zero-additive
times-left (suc n) b =
    sum-additive (λ (a : ℕ). bit b n * (a * 2 ^ n)) (λ (a : ℕ). times_n n a b)
    (then-additive (λ (a : ℕ). a * 2 ^ n) (λ (x : ℕ). bit b n * x) (shift-additive n) (taken-additive (bit b n) (bit_lt b n)))
    (times-left n b)

times-right : (n a : ℕ) → Additive (times_n n a)
unfolding times_n
times-right zero a = zero-additive
times-right (suc n) a =
    sum-additive (λ (b : ℕ). bit b n * (a * 2 ^ n)) (times_n n a) (chosen-additive n (a * 2 ^ n)) (times-right n a)

-- one step of the long division
abbrev step_n : ℕ → ℕ → ℕ
step_n n p = bit p (8 + n) * (modulus * 2 ^ n) ⊕ p

step-additive : (n : ℕ) → Additive (step_n n)
step-additive n =
    sum-additive (λ (p : ℕ). bit p (8 + n) * (modulus * 2 ^ n)) (λ (p : ℕ). p) (chosen-additive (8 + n) (modulus * 2 ^ n)) id-additive

reduce-additive : (n : ℕ) → Additive (reduce_n n)
unfolding reduce_n
reduce-additive zero = id-additive
reduce-additive (suc n) = then-additive (step_n n) (reduce_n n) (step-additive n) (reduce-additive n)

-- ---- what reduction means: the remainder differs from the polynomial by a multiple of the modulus and has degree below 8, and nothing
-- else does

-- what the long division takes out, as a multiple of the modulus
unfoldable pub quotient_n : ℕ → ℕ → ℕ
quotient_n zero p = 0
quotient_n (suc n) p = bit p (8 + n) * 2 ^ n ⊕ quotient_n n (step_n n p)

quotient-additive : (n : ℕ) → Additive (quotient_n n)
unfolding quotient_n
quotient-additive zero = zero-additive
quotient-additive (suc n) =
    sum-additive (λ (p : ℕ). bit p (8 + n) * 2 ^ n) (λ (p : ℕ). quotient_n n (step_n n p)) (chosen-additive (8 + n) (2 ^ n))
    (then-additive (step_n n) (quotient_n n) (step-additive n) (quotient-additive n))

pub reduction : (p : ℕ) → p < 2 ^ 15 → times_n 7 modulus (quotient_n 7 p) ⊕ reduce_n 7 p ≡ p
unfolding ◌⊕◌ bit times_n modulus reduce_n quotient_n
reduction =
    agree₁ (λ (p : ℕ). times_n 7 modulus (quotient_n 7 p) ⊕ reduce_n 7 p) (λ (p : ℕ). p)
    (sum-additive (λ (p : ℕ). times_n 7 modulus (quotient_n 7 p)) (reduce_n 7)
    (then-additive (quotient_n 7) (times_n 7 modulus) (quotient-additive 7) (times-right 7 modulus)) (reduce-additive 7))
    id-additive 15 tt

multiple : (q : ℕ) → q < 2 ^ 7 → reduce_n 7 (times_n 7 modulus q) ≡ 0
unfolding ◌⊕◌ bit times_n modulus reduce_n
multiple =
    agree₁ (λ (q : ℕ). reduce_n 7 (times_n 7 modulus q)) (λ (q : ℕ). 0)
    (then-additive (times_n 7 modulus) (reduce_n 7) (times-right 7 modulus) (reduce-additive 7)) zero-additive 7 tt

reduced : (r : ℕ) → r < 256 → reduce_n 7 r ≡ r
unfolding ◌⊕◌ bit modulus reduce_n
reduced = agree₁ (reduce_n 7) (λ (r : ℕ). r) (reduce-additive 7) id-additive 8 tt

pub reduction_unique : (p q r : ℕ) → q < 2 ^ 7 → r < 256 → times_n 7 modulus q ⊕ r ≡ p → reduce_n 7 p ≡ r
reduction_unique p q r hq hr e =
    ap (reduce_n 7) (sym e) ∙ reduce-additive 7 (times_n 7 modulus q) r ∙ ap₂ ◌⊕◌ (multiple q hq) (reduced r hr) ∙ zero_⊕ r

-- ---- the product in the field is additive on both sides

pub ·-left : (b : ℕ) → Additive (λ a. a · b)
unfolding ◌·◌
·-left b =
    then-additive (λ (a : ℕ). a % 256) (λ (a : ℕ). reduce_n 7 (times_n 8 a (b % 256))) (low-additive 8)
    (then-additive (λ (a : ℕ). times_n 8 a (b % 256)) (reduce_n 7) (times-left 8 (b % 256)) (reduce-additive 7))

pub ·-right : (a : ℕ) → Additive (λ b. a · b)
unfolding ◌·◌
·-right a =
    then-additive (λ (b : ℕ). b % 256) (λ (b : ℕ). reduce_n 7 (times_n 8 (a % 256) b)) (low-additive 8)
    (then-additive (times_n 8 (a % 256)) (reduce_n 7) (times-right 8 (a % 256)) (reduce-additive 7))

pub ·-both : Biadditive ◌·◌
·-both = (·-left, ·-right)

-- ---- only the low 8 bits count

pub low_byte : (x : ℕ) → x % 256 < 256
low_byte x = mod-lt x (zero-lt-suc 255)

pub ·-low-left : (x y : ℕ) → x · y ≡ (x % 256) · y
unfolding ◌·◌
·-low-left x y = ap (λ (m : ℕ). reduce_n 7 (times_n 8 m (y % 256))) (sym (mod-eq_of_lt (low_byte x)))

pub ·-low-right : (x y : ℕ) → x · y ≡ x · (y % 256)
unfolding ◌·◌
·-low-right x y = ap (λ (m : ℕ). reduce_n 7 (times_n 8 (x % 256) m)) (sym (mod-eq_of_lt (low_byte y)))

pub ·-low : (x y : ℕ) → x · y ≡ (x % 256) · (y % 256)
·-low x y = ·-low-left x y ∙ ·-low-right (x % 256) y

-- ---- so tests at the 8 powers of two, at their 64 pairs, at their 512 triples are enough

bytes_lt : (x y : ℕ) → x < 256 → y < 256 → x · y < 256
unfolding ◌⊕◌ bit times_n modulus reduce_n ◌·◌
bytes_lt = bounded₂ ◌·◌ ·-both 8 8 tt

pub ·_lt : (x y : ℕ) → x · y < 256
·_lt x y = subst⁻¹ (λ (m : ℕ). m < 256) (·-low x y) (bytes_lt (x % 256) (y % 256) (low_byte x) (low_byte y))

bytes_comm : (x y : ℕ) → x < 256 → y < 256 → x · y ≡ y · x
unfolding ◌⊕◌ bit times_n modulus reduce_n ◌·◌
bytes_comm = agree₂ ◌·◌ (λ (x y : ℕ). y · x) ·-both (·-right, ·-left) 8 tt

pub ·_comm : (x y : ℕ) → x · y ≡ y · x
·_comm x y = ·-low x y ∙ bytes_comm (x % 256) (y % 256) (low_byte x) (low_byte y) ∙ sym (·-low y x)

bytes_assoc : (x y z : ℕ) → x < 256 → y < 256 → z < 256 → x · y · z ≡ x · (y · z)
unfolding ◌⊕◌ bit times_n modulus reduce_n ◌·◌
bytes_assoc =
    agree₃ (λ (x y z : ℕ). x · y · z) (λ (x y z : ℕ). x · (y · z))
    (λ z. (
      (λ y. then-additive (λ (x : ℕ). x · y) (λ (p : ℕ). p · z) (·-left y) (·-left z)),
      (λ x. then-additive (λ (y : ℕ). x · y) (λ (p : ℕ). p · z) (·-right x) (·-left z)),
    ))
    (λ x y. ·-right (x · y))
    (λ z. ((λ y. ·-left (y · z)), (λ x. then-additive (λ (y : ℕ). y · z) (λ (p : ℕ). x · p) (·-left z) (·-right x))))
    (λ x y. then-additive (λ (z : ℕ). y · z) (λ (p : ℕ). x · p) (·-right y) (·-right x)) 8 tt

pub ·_assoc : (x y z : ℕ) → x · y · z ≡ x · (y · z)
·_assoc x y z =
    ap (λ (p : ℕ). p · z) (·-low x y) ∙ ·-low-right ((x % 256) · (y % 256)) z
    ∙ bytes_assoc (x % 256) (y % 256) (z % 256) (low_byte x) (low_byte y) (low_byte z)
    ∙ ap (λ (p : ℕ). (x % 256) · p) (sym (·-low y z)) ∙ sym (·-low-left x (y · z))

pub ·-one : (x : ℕ) → x < 256 → x · 1 ≡ x
unfolding ◌⊕◌ bit times_n modulus reduce_n ◌·◌
·-one = agree₁ (λ (x : ℕ). x · 1) (λ (x : ℕ). x) (·-left 1) id-additive 8 tt

-- ---- squares

pub square_lt : (x : ℕ) → square x < 256
unfolding square
square_lt x = ·_lt x x

pub square-low : (x : ℕ) → square x ≡ square (x % 256)
unfolding square
square-low x = ·-low x x

pub square-additive : Additive square
unfolding square
square-additive x y =
    simp (·-left, ·-right, ·_comm y x)
    (same_sum (x · x ∷ x · y ∷ y · y ∷ []) (v 0 and v 1 and (v 1 and v 2)) (v 0 and v 2) tt)

-- ---- multiplication by x

pub xtime-additive : Additive xtime
unfolding xtime
xtime-additive =
    sum-additive (λ (a : ℕ). a * 2 % 256) _
    (then-additive (λ (a : ℕ). a * 2) (λ (a : ℕ). a % 256) (shift-additive 1) (low-additive 8)) (chosen-additive 7 _)

pub xtime-is : (a : ℕ) → a < 256 → xtime a ≡ a · 2
unfolding ◌⊕◌ bit times_n modulus reduce_n ◌·◌ xtime
xtime-is = agree₁ xtime (λ (a : ℕ). a · 2) xtime-additive (·-left 2) 8 tt
