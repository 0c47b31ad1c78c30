-- The key expansion of FIPS-197, section 5.2, over the number Nk of words of the key (4, 6 or 8). Nb is 4. A word is a list of four
-- bytes. Assumes nothing.
use Rattle.std.specs.Prelude.{cond, ◌&&◌, List, [], ◌∷◌, ◌++◌, map, ℕ, zero, suc, ◌+◌, ◌-◌, ◌*◌, ◌/◌, ◌%◌, eqb, ltb, get_or}
use Rattle.fips197.specs.Field.{xtime, sbox}
use Rattle.fips197.specs.State.{◌⊞◌, state_of}

-- SubWord: the S-box on each of the four bytes
unfoldable pub sub_word : List ℕ → List ℕ
sub_word a = map sbox a

-- RotWord: [a0,a1,a2,a3] to [a1,a2,a3,a0]
unfoldable pub rot_word : List ℕ → List ℕ
rot_word a = get_or a 1 0 ∷ get_or a 2 0 ∷ get_or a 3 0 ∷ get_or a 0 0 ∷ []

-- the powers of x, which is {02}, in the field
unfoldable pub x_power : ℕ → ℕ
x_power zero = 0x01
x_power (suc n) = xtime (x_power n)

-- Rcon[i] = [x^(i-1),{00},{00},{00}], i from 1
unfoldable pub rcon : ℕ → List ℕ
rcon i = x_power (i - 1) ∷ 0x00 ∷ 0x00 ∷ 0x00 ∷ []

-- Figure 11, the first loop: word(key[4i], key[4i+1], key[4i+2], key[4i+3])
unfoldable pub key_word : List ℕ → ℕ → List ℕ
key_word key i = get_or key (4 * i) 0 ∷ get_or key (4 * i + 1) 0 ∷ get_or key (4 * i + 2) 0 ∷ get_or key (4 * i + 3) 0 ∷ []

-- Figure 11, the second loop: what temp = w[i-1] becomes
unfoldable pub temp_of : ℕ → ℕ → List ℕ → List ℕ
temp_of Nk i temp =
    cond (eqb (i % Nk) 0) (sub_word (rot_word temp) ⊞ rcon (i / Nk)) (cond (ltb 6 Nk && eqb (i % Nk) 4) (sub_word temp) temp)

-- Figure 11: w[i] from the words w[0] .. w[i-1] before it
unfoldable pub next_word : ℕ → List ℕ → ℕ → List (List ℕ) → List ℕ
next_word Nk key i w = cond (ltb i Nk) (key_word key i) (get_or w (i - Nk) [] ⊞ temp_of Nk i (get_or w (i - 1) []))

-- Figure 11: w[0] .. w[n-1]
unfoldable pub words_n : ℕ → List ℕ → ℕ → List (List ℕ)
words_n Nk key zero = []
words_n Nk key (suc i) = let w = words_n Nk key i in w ++ (next_word Nk key i w ∷ [])

-- w[i]
unfoldable pub key_expansion : ℕ → List ℕ → ℕ → List ℕ
key_expansion Nk key i = get_or (words_n Nk key (suc i)) i []

-- 5.1.4: the round key of round r, as a state by rows: its column c is the word w[4r + c]
unfoldable pub round_key : ℕ → List ℕ → ℕ → List ℕ
round_key Nk key r = state_of (λ row c. get_or (key_expansion Nk key (4 * r + c)) row 0)
