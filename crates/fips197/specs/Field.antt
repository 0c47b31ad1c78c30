-- The field GF(2^8) of FIPS-197, section 4, and the S-box of 5.1.1 and 5.3.2. A polynomial over GF(2) is the number whose binary digits
-- are its coefficients, and a byte is a polynomial of degree below 8 (3.2). Assumes nothing.
use Rattle.std.specs.Prelude.{ℕ, zero, suc, ◌+◌, ◌*◌, ◌/◌, ◌%◌, ◌^◌, Bool, cond, eqb}
use Rattle.std.specs.Int.Bits.{bit_xor}

-- 4.1: addition, coefficient by coefficient modulo 2
infixl 69 ◌⊕◌
unfoldable pub ◌⊕◌ : ℕ → ℕ → ℕ
a ⊕ b = bit_xor a b

-- the coefficient of x^i
unfoldable pub bit : ℕ → ℕ → ℕ
bit p i = p / 2 ^ i % 2

-- the product of the polynomials a and b, for a b of degree below n: the sum of b_i · (a · x^i) over i < n
unfoldable pub times_n : ℕ → ℕ → ℕ → ℕ
times_n zero a b = 0
times_n (suc n) a b = bit b n * (a * 2 ^ n) ⊕ times_n n a b

-- (4.1): m(x) = x^8 + x^4 + x^3 + x + 1
unfoldable pub modulus : ℕ
modulus = 0x11b

-- p modulo m(x), for a p of degree below 8 + n: long division, the highest coefficient first
unfoldable pub reduce_n : ℕ → ℕ → ℕ
reduce_n zero p = p
reduce_n (suc n) p = reduce_n n (bit p (8 + n) * (modulus * 2 ^ n) ⊕ p)

-- 4.2: the product of two bytes, of degree below 15, modulo m(x). (Of a number that is no byte its low 8 bits are taken, so that the
-- laws of the product need no bounds.)
infixl 71 ◌·◌
unfoldable pub ◌·◌ : ℕ → ℕ → ℕ
a · b = reduce_n 7 (times_n 8 (a % 256) (b % 256))

-- 4.2.1: a left shift, and {1b} added where the byte's highest bit was set
unfoldable pub xtime : ℕ → ℕ
xtime a = a * 2 % 256 ⊕ bit a 7 * 0x1b

unfoldable pub square : ℕ → ℕ
square a = a · a

-- the largest y below n at which the test holds, and 0 where there is none
unfoldable pub find_n : (ℕ → Bool) → ℕ → ℕ
find_n p zero = 0
find_n p (suc n) = cond (p n) n (find_n p n)

-- 4.2 and 5.1.1: the byte y with a · y = {01}; {00} has none and is mapped to itself
unfoldable pub inverse : ℕ → ℕ
inverse a = find_n (λ y. eqb (a · y) 1) 256

-- the byte whose bits are f 0, f 1, .. f (n - 1)
unfoldable pub byte_n : ℕ → (ℕ → ℕ) → ℕ
byte_n zero f = 0
byte_n (suc n) f = f n * 2 ^ n + byte_n n f

-- (5.1) without its constant: b'_i = b_i + b_(i+4) + b_(i+5) + b_(i+6) + b_(i+7), indices modulo 8
unfoldable pub affine_bit : ℕ → ℕ → ℕ
affine_bit b i = bit b i ⊕ bit b ((i + 4) % 8) ⊕ bit b ((i + 5) % 8) ⊕ bit b ((i + 6) % 8) ⊕ bit b ((i + 7) % 8)

unfoldable pub affine : ℕ → ℕ
affine b = byte_n 8 (affine_bit b)

-- 5.3.2 asks for the inverse of that map and gives no formula: b_i = b'_(i+2) + b'_(i+5) + b'_(i+7). That it is the inverse, on both
-- sides, is proved in proofs/Affine.antt
unfoldable pub inv_affine_bit : ℕ → ℕ → ℕ
inv_affine_bit b i = bit b ((i + 2) % 8) ⊕ bit b ((i + 5) % 8) ⊕ bit b ((i + 7) % 8)

unfoldable pub inv_affine : ℕ → ℕ
inv_affine b = byte_n 8 (inv_affine_bit b)

-- (5.1): the constant c = {63}
unfoldable pub affine_constant : ℕ
affine_constant = 0x63

-- 5.1.1: the inverse, then the affine map
unfoldable pub sbox : ℕ → ℕ
sbox a = affine (inverse a) ⊕ affine_constant

-- 5.3.2: the inverse of the affine map, then the inverse
unfoldable pub inv_sbox : ℕ → ℕ
inv_sbox b = inverse (inv_affine (b ⊕ affine_constant))
