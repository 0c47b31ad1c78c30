-- The laws of addition, on all numbers, and a solver: two sums of the same terms, in any order and grouping and with pairs that cancel,
-- are equal by a computed test. Assumes nothing.
use mathlib.Core.Path.{◌≡◌, refl, sym, ap, ap₂, ◌∙◌}
use mathlib.Core.Bool.{Bool, true, false, cond}
use mathlib.Core.List.{List, [], ◌∷◌}
use Prim.Native.Nat.{ℕ, zero, suc, ◌+◌, ◌*◌, ◌/◌, ◌%◌, ◌^◌, ◌<◌}
use native.Mathlib.Omega.{arith}
use lib.Arith.{bin_ind}
use lib.Bits.{bit_xor, differ, xor_step, xor_shr, xor_mod, xor_zero_r, xor_comm, xor_self, xor_lt}
use lib.Dec.{T}
use lib.ListN.{get_or}
use Rattle.fips197.specs.Field.{◌⊕◌}

pub ⊕_comm : (a b : ℕ) → a ⊕ b ≡ b ⊕ a
unfolding ◌⊕◌
⊕_comm = xor_comm

pub ⊕_self : (a : ℕ) → a ⊕ a ≡ 0
unfolding ◌⊕◌
⊕_self = xor_self

pub ⊕_zero : (a : ℕ) → a ⊕ 0 ≡ a
unfolding ◌⊕◌
⊕_zero = xor_zero_r

pub zero_⊕ : (a : ℕ) → 0 ⊕ a ≡ a
unfolding ◌⊕◌
zero_⊕ a = refl

pub ⊕_lt : (k a b : ℕ) → a < 2 ^ k → b < 2 ^ k → a ⊕ b < 2 ^ k
unfolding ◌⊕◌
⊕_lt = xor_lt

-- the sum of two bytes is a byte
pub ⊕_byte : (a b : ℕ) → a < 256 → b < 256 → a ⊕ b < 256
⊕_byte = ⊕_lt 8

-- ---- associativity: digit by digit

digit_assoc : (x y z : ℕ) → x < 2 → y < 2 → z < 2 → differ (differ x y) z ≡ differ x (differ y z)
digit_assoc zero y z hx hy hz = refl
digit_assoc (suc zero) zero z hx hy hz = refl
digit_assoc (suc zero) (suc zero) zero hx hy hz = refl
digit_assoc (suc zero) (suc zero) (suc zero) hx hy hz = refl
digit_assoc (suc zero) (suc zero) (suc (suc z)) hx hy hz = absurd (omega arith)
digit_assoc (suc zero) (suc (suc y)) z hx hy hz = absurd (omega arith)
digit_assoc (suc (suc x)) y z hx hy hz = absurd (omega arith)

digit_sum : (x y : ℕ) → x < 2 → y < 2 → bit_xor x y ≡ differ x y
digit_sum zero y hx hy = refl
digit_sum (suc zero) zero hx hy = refl
digit_sum (suc zero) (suc zero) hx hy = refl
digit_sum (suc zero) (suc (suc y)) hx hy = absurd (omega arith)
digit_sum (suc (suc x)) y hx hy = absurd (omega arith)

low_digit : (a b : ℕ) → (a ⊕ b) % 2 ≡ differ (a % 2) (b % 2)
unfolding ◌⊕◌
low_digit a b = xor_mod a b 1 ∙ digit_sum (a % 2) (b % 2) (omega arith) (omega arith)

pub ⊕_assoc : (a b c : ℕ) → a ⊕ b ⊕ c ≡ a ⊕ (b ⊕ c)
unfolding ◌⊕◌
⊕_assoc a =
    bin_ind (λ (n : ℕ). (b c : ℕ) → n ⊕ b ⊕ c ≡ n ⊕ (b ⊕ c)) (λ b c. refl)
    (λ n ih b c.
    xor_step (n ⊕ b) c
    ∙ ap₂ (λ (x y : ℕ). (x ⊕ (c / 2)) * 2 + differ y (c % 2)) (xor_shr n b 1) (low_digit n b)
    ∙ ap₂ (λ (x y : ℕ). x * 2 + y) (ih (b / 2) (c / 2)) (digit_assoc (n % 2) (b % 2) (c % 2) (omega arith) (omega arith) (omega arith))
    ∙ ap₂ (λ (x y : ℕ). ((n / 2) ⊕ x) * 2 + differ (n % 2) y) (sym (xor_shr b c 1)) (sym (low_digit b c))
    ∙ sym (xor_step n (b ⊕ c))) a

pub ⊕_middle : (a b c d : ℕ) → a ⊕ b ⊕ (c ⊕ d) ≡ a ⊕ c ⊕ (b ⊕ d)
⊕_middle a b c d =
    ⊕_assoc a b (c ⊕ d) ∙ ap (λ (x : ℕ). a ⊕ x) (sym (⊕_assoc b c d) ∙ ap (λ (x : ℕ). x ⊕ d) (⊕_comm b c) ∙ ⊕_assoc c b d)
    ∙ sym (⊕_assoc a c (b ⊕ d))

-- added twice, a number is gone
pub ⊕_cancel : (a b : ℕ) → a ⊕ b ⊕ b ≡ a
⊕_cancel a b = ⊕_assoc a b b ∙ ap (λ (x : ℕ). a ⊕ x) (⊕_self b) ∙ ⊕_zero a

-- ---- the solver

infixl 69 ◌and◌
-- a sum of terms, each named by its place in a list
pub data Sum : Type 0 where
  v : ℕ → Sum
  none : Sum
  ◌and◌ : Sum → Sum → Sum

abbrev pub value : List ℕ → Sum → ℕ
value xs (v i) = get_or xs i 0
value xs none = 0
value xs (e and f) = value xs e ⊕ value xs f

abbrev pub differs : Bool → Bool → Bool
differs true true = false
differs true false = true
differs false b = b

-- which terms of the list stand in the sum an odd number of times
abbrev pub only : ℕ → List Bool
only zero = true ∷ []
only (suc i) = false ∷ only i

abbrev pub joined : List Bool → List Bool → List Bool
joined [] bs = bs
joined (a ∷ cs) [] = a ∷ cs
joined (a ∷ cs) (b ∷ bs) = differs a b ∷ joined cs bs

abbrev pub odds : Sum → List Bool
odds (v i) = only i
odds none = []
odds (e and f) = joined (odds e) (odds f)

abbrev pub empty : List Bool → Bool
empty [] = true
empty (true ∷ bs) = false
empty (false ∷ bs) = empty bs

chosen : List Bool → List ℕ → ℕ
chosen [] xs = 0
chosen (b ∷ bs) [] = 0
chosen (b ∷ bs) (x ∷ xs) = cond b x 0 ⊕ chosen bs xs

chosen-only : (i : ℕ) (xs : List ℕ) → chosen (only i) xs ≡ get_or xs i 0
unfolding chosen
chosen-only zero [] = refl
chosen-only (suc i) [] = refl
chosen-only zero (x ∷ xs) = ⊕_zero x
chosen-only (suc i) (x ∷ xs) = zero_⊕ _ ∙ chosen-only i xs

cond-differs : (a b : Bool) (x : ℕ) → cond (differs a b) x 0 ≡ cond a x 0 ⊕ cond b x 0
cond-differs true true x = sym (⊕_self x)
cond-differs true false x = sym (⊕_zero x)
cond-differs false b x = sym (zero_⊕ (cond b x 0))

chosen-joined : (cs bs : List Bool) (xs : List ℕ) → chosen (joined cs bs) xs ≡ chosen cs xs ⊕ chosen bs xs
unfolding chosen
chosen-joined [] bs xs = sym (zero_⊕ _)
chosen-joined (a ∷ cs) [] [] = sym (⊕_self 0)
chosen-joined (a ∷ cs) [] (x ∷ xs) = sym (⊕_zero _)
chosen-joined (a ∷ cs) (b ∷ bs) [] = sym (⊕_self 0)
chosen-joined (a ∷ cs) (b ∷ bs) (x ∷ xs) =
    ap₂ ◌⊕◌ (cond-differs a b x) (chosen-joined cs bs xs) ∙ ⊕_middle (cond a x 0) (cond b x 0) (chosen cs xs) (chosen bs xs)

chosen-odds : (xs : List ℕ) (e : Sum) → value xs e ≡ chosen (odds e) xs
unfolding chosen
chosen-odds xs (v i) = sym (chosen-only i xs)
chosen-odds xs none = refl
chosen-odds xs (e and f) = ap₂ ◌⊕◌ (chosen-odds xs e) (chosen-odds xs f) ∙ sym (chosen-joined (odds e) (odds f) xs)

chosen-empty : (bs : List Bool) (xs : List ℕ) → T (empty bs) → chosen bs xs ≡ 0
unfolding chosen
chosen-empty [] xs t = refl
chosen-empty (b ∷ bs) [] t = refl
chosen-empty (true ∷ bs) (x ∷ xs) t = absurd t
chosen-empty (false ∷ bs) (x ∷ xs) t = zero_⊕ _ ∙ chosen-empty bs xs t

-- the two sums are equal, whatever the terms, where each term stands in both together an even number of times
pub same_sum : (xs : List ℕ) (e f : Sum) → T (empty (odds (e and f))) → value xs e ≡ value xs f
same_sum xs e f t =
    sym (⊕_cancel (value xs e) (value xs f))
    ∙ ap (λ (m : ℕ). m ⊕ value xs f) (chosen-odds xs (e and f) ∙ chosen-empty (odds (e and f)) xs t)
    ∙ zero_⊕ (value xs f)
