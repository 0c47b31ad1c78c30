-- The state of FIPS-197 and the layers of a round: sections 3.4, 5.1.1 to 5.1.4 and 5.3.1 to 5.3.3. Nb is 4. A state is a list of sixteen
-- bytes by rows: s[r,c], the byte in row r and column c, stands at place 4r + c. Assumes nothing.
use Rattle.std.specs.Prelude.{◌≡◌, List, [], ◌∷◌, map, ℕ, ◌+◌, ◌-◌, ◌*◌, ◌%◌, ◌<◌, length, get_or}
use Rattle.fips197.specs.Field.{◌⊕◌, ◌·◌, sbox, inv_sbox}

-- the sum of two lists of bytes, place by place
infixl 69 ◌⊞◌
unfoldable pub ◌⊞◌ : List ℕ → List ℕ → List ℕ
[] ⊞ ys = []
(x ∷ xs) ⊞ [] = []
(x ∷ xs) ⊞ (y ∷ ys) = x ⊕ y ∷ xs ⊞ ys

-- each number is a byte (past the end there is 0)
abbrev pub Bytes : List ℕ → Type 0
Bytes xs = (i : ℕ) → get_or xs i 0 < 256

-- sixteen bytes: a block, a state, a round key
pub record Block (xs : List ℕ) : Type 0 where
  pub sixteen : length xs ≡ 16
  pub bytes : Bytes xs

-- s[r,c]
unfoldable pub at : List ℕ → ℕ → ℕ → ℕ
at s r c = get_or s (4 * r + c) 0

-- the list whose place 4r + c has f r c: the state with s[r,c] = f r c
unfoldable pub state_of : (ℕ → ℕ → ℕ) → List ℕ
state_of f =
    f 0 0 ∷ f 0 1 ∷ f 0 2 ∷ f 0 3
    ∷ f 1 0 ∷ f 1 1 ∷ f 1 2 ∷ f 1 3
    ∷ f 2 0 ∷ f 2 1 ∷ f 2 2 ∷ f 2 3
    ∷ f 3 0 ∷ f 3 1 ∷ f 3 2 ∷ f 3 3 ∷ []

-- (3.3): s[r,c] = in[r + 4c]
unfoldable pub from_bytes : List ℕ → List ℕ
from_bytes input = state_of (λ r c. get_or input (r + 4 * c) 0)

-- (3.4): out[r + 4c] = s[r,c], so that c counts the fours of the output
unfoldable pub to_bytes : List ℕ → List ℕ
to_bytes s = state_of (λ c r. at s r c)

-- 5.1.1: the S-box on each byte
unfoldable pub sub_bytes : List ℕ → List ℕ
sub_bytes s = map sbox s

-- (5.3) and (5.4): s'[r,c] = s[r,(c + shift(r,4)) mod 4], with shift(r,4) = r
unfoldable pub shift_rows : List ℕ → List ℕ
shift_rows s = state_of (λ r c. at s r ((c + r) % 4))

-- 5.1.3 and 5.3.3: the column s[0,c] .. s[3,c] times the matrix whose row 0 is a0 a1 a2 a3 and whose each next row is the row above,
-- turned one place to the right: s'[r,c] = a0 · s[r,c] + a1 · s[r+1,c] + a2 · s[r+2,c] + a3 · s[r+3,c], rows modulo 4
unfoldable pub mix_with : ℕ → ℕ → ℕ → ℕ → List ℕ → List ℕ
mix_with a0 a1 a2 a3 s =
    state_of (λ r c. a0 · at s r c ⊕ a1 · at s ((r + 1) % 4) c ⊕ a2 · at s ((r + 2) % 4) c ⊕ a3 · at s ((r + 3) % 4) c)

-- (5.6): the matrix has the rows 02 03 01 01, 01 02 03 01, 01 01 02 03, 03 01 01 02. The four equations that the standard writes below it
-- are mix_columns_equations of proofs/MixColumns.antt
unfoldable pub mix_columns : List ℕ → List ℕ
mix_columns s = mix_with 0x02 0x03 0x01 0x01 s

-- (5.7): the round key is added to the state
unfoldable pub add_round_key : List ℕ → List ℕ → List ℕ
add_round_key s k = s ⊞ k

-- (5.8): s'[r,(c + shift(r,4)) mod 4] = s[r,c], so s'[r,c] = s[r,(c - shift(r,4)) mod 4]
unfoldable pub inv_shift_rows : List ℕ → List ℕ
inv_shift_rows s = state_of (λ r c. at s r ((c + (4 - r)) % 4))

-- 5.3.2: the inverse S-box on each byte
unfoldable pub inv_sub_bytes : List ℕ → List ℕ
inv_sub_bytes s = map inv_sbox s

-- (5.10): the matrix has the rows 0e 0b 0d 09, 09 0e 0b 0d, 0d 09 0e 0b, 0b 0d 09 0e
unfoldable pub inv_mix_columns : List ℕ → List ℕ
inv_mix_columns s = mix_with 0x0e 0x0b 0x0d 0x09 s
