-- The words of the key expansion of a key of bytes are words of four bytes, and its round keys are sixteen bytes. Assumes nothing.
use mathlib.Core.Path.{◌≡◌, refl, sym, ◌∙◌, subst⁻¹}
use mathlib.Core.Bool.{Bool, true, false, cond, ◌&&◌}
use mathlib.Core.List.{List, [], ◌∷◌}
use Prim.Native.Nat.{ℕ, zero, suc, ◌+◌, ◌-◌, ◌*◌, ◌/◌, ◌%◌, ◌<◌}
use native.Mathlib.Nat.{not-suc-le-zero}
use native.Mathlib.Decide.{dec_lt}
use native.Mathlib.Omega.{arith}
use lib.Dec.{eqb, ltb, lit<}
use lib.ListN.{length, length-map}
use Rattle.fips197.specs.Field.{sbox}
use Rattle.fips197.specs.State.{◌⊞◌, Bytes, Block}
use Rattle.fips197.specs.KeyExpansion.{sub_word, rot_word, x_power, rcon, key_word, temp_of, key_expansion, round_key}
use Rattle.fips197.proofs.Product.{xtime-is, ·_lt}
use Rattle.fips197.proofs.Inverse.{sbox_lt}
use Rattle.fips197.proofs.Vectors.{length_⊞}
use Rattle.fips197.proofs.States.{length-state_of, bytes_nil, bytes_cons, bytes-map, bytes_⊞, bytes-state_of}
use Rattle.fips197.proofs.KeyWords.{key_expansion-first, key_expansion-next}

pub record Word (xs : List ℕ) : Type 0 where
  pub four : length xs ≡ 4
  pub bytes : Bytes xs

word_of : (a b c d : ℕ) → a < 256 → b < 256 → c < 256 → d < 256 → Word (a ∷ b ∷ c ∷ d ∷ [])
word_of a b c d ha hb hc hd = record {
  four = refl;
  bytes = bytes_cons a (b ∷ c ∷ d ∷ []) ha (bytes_cons b (c ∷ d ∷ []) hb (bytes_cons c (d ∷ []) hc (bytes_cons d [] hd bytes_nil)));
}

word_⊞ : (x y : List ℕ) → Word x → Word y → Word (x ⊞ y)
word_⊞ x y hx hy = record {
  four = length_⊞ x y (hx.four ∙ sym hy.four) ∙ hx.four;
  bytes = bytes_⊞ x y hx.bytes hy.bytes;
}

word-sub_word : (x : List ℕ) → Word x → Word (sub_word x)
unfolding sub_word
word-sub_word x h = record { four = length-map x sbox ∙ h.four; bytes = bytes-map sbox sbox_lt x }

word-rot_word : (x : List ℕ) → Word x → Word (rot_word x)
unfolding rot_word
word-rot_word x h = word_of _ _ _ _ (h.bytes 1) (h.bytes 2) (h.bytes 3) (h.bytes 0)

x_power_lt : (n : ℕ) → x_power n < 256
unfolding x_power
x_power_lt zero = lit< tt
x_power_lt (suc n) = subst⁻¹ (λ (m : ℕ). m < 256) (xtime-is (x_power n) (x_power_lt n)) (·_lt (x_power n) 2)

word-rcon : (i : ℕ) → Word (rcon i)
unfolding rcon
word-rcon i = word_of _ _ _ _ (x_power_lt (i - 1)) (lit< tt) (lit< tt) (lit< tt)

either : {A : Type 0} (P : A → Type 0) (b : Bool) (x y : A) → P x → P y → P (cond b x y)
either P true x y p q = p
either P false x y p q = q

word-temp_of : (Nk i : ℕ) (x : List ℕ) → Word x → Word (temp_of Nk i x)
unfolding temp_of
word-temp_of Nk i x h =
    either Word (eqb (i % Nk) 0) _ _ (word_⊞ _ _ (word-sub_word _ (word-rot_word x h)) (word-rcon (i / Nk)))
    (either Word (ltb 6 Nk && eqb (i % Nk) 4) _ _ (word-sub_word x h) h)

word-key_word : (key : List ℕ) (i : ℕ) → Bytes key → Word (key_word key i)
unfolding key_word
word-key_word key i h = word_of _ _ _ _ (h (4 * i)) (h (4 * i + 1)) (h (4 * i + 2)) (h (4 * i + 3))

module _ (Nk : ℕ) (key : List ℕ) (pos : 0 < Nk) (h : Bytes key) where
  -- the words below n, by induction on n
  words-below : (n i : ℕ) → i < n → Word (key_expansion Nk key i)
  words-below zero i l = absurd (not-suc-le-zero l)
  words-below (suc n) i l =
      elim (dec_lt i Nk) [
        | yes f ↦ subst⁻¹ Word (key_expansion-first Nk key i f) (word-key_word key i h)
        | no g ↦ subst⁻¹ Word (key_expansion-next Nk key i pos (omega arith))
            (word_⊞ _ _ (words-below n (i - Nk) (omega arith)) (word-temp_of Nk i _ (words-below n (i - 1) (omega arith))))
      ]

  pub word-key_expansion : (i : ℕ) → Word (key_expansion Nk key i)
  word-key_expansion i = words-below (suc i) i (omega arith)

  pub block-round_key : (r : ℕ) → Block (round_key Nk key r)
  unfolding round_key
  block-round_key r = record {
    sixteen = length-state_of _;
    bytes = bytes-state_of _ (λ row c. (word-key_expansion (4 * r + c)).bytes row);
  }
