-- The words of the key expansion obey Figure 11: the first Nk are the key's, and each later one is made of the one Nk places before it and
-- the one before it. Assumes nothing.
use mathlib.Core.Path.{◌≡◌, refl, sym, ap, ap₂, ◌∙◌, subst⁻¹}
use mathlib.Core.Logic.{⊎_elim}
use mathlib.Core.Bool.{Bool, true, false, not, cond}
use mathlib.Core.List.{List, []}
use Prim.Native.Nat.{ℕ, zero, suc, ◌-◌, ◌≤◌, ◌<◌}
use native.Mathlib.Nat.{not-suc-le-zero, le_of_suc-le-suc, eq-or-lt_of_le}
use native.Mathlib.Numerals.{add-one}
use native.Mathlib.Omega.{arith}
use lib.Dec.{T, not_T, ltb, ltb→lt, lt→ltb}
use lib.ListN.{length, get_or, length-append, get_or-append}
use lib.Seq.{get_or_at}
use Rattle.fips197.specs.State.{◌⊞◌}
use Rattle.fips197.specs.KeyExpansion.{key_word, temp_of, next_word, words_n, key_expansion}

cond_true : {A : Type 0} (b : Bool) (x y : A) → T b → cond b x y ≡ x
cond_true true x y t = refl
cond_true false x y t = absurd t

cond_false : {A : Type 0} (b : Bool) (x y : A) → T (not b) → cond b x y ≡ y
cond_false true x y t = absurd t
cond_false false x y t = refl

module _ (Nk : ℕ) (key : List ℕ) where
  length-words_n : (n : ℕ) → length (words_n Nk key n) ≡ n
  unfolding words_n
  length-words_n zero = refl
  length-words_n (suc n) = length-append (words_n Nk key n) _ ∙ add-one _ ∙ ap suc (length-words_n n)

  get_or-words_n : (n i : ℕ) → i < n → get_or (words_n Nk key n) i [] ≡ key_expansion Nk key i
  unfolding words_n key_expansion
  get_or-words_n zero i h = absurd (not-suc-le-zero h)
  get_or-words_n (suc n) i h =
      ⊎_elim (λ (e : i ≡ n). ap (λ (m : ℕ). get_or (words_n Nk key (suc m)) i []) (sym e))
      (λ (l : i < n). get_or-append (words_n Nk key n) _ [] i (subst⁻¹ (λ (m : ℕ). i < m) (length-words_n n) l) ∙ get_or-words_n n i l)
      (eq-or-lt_of_le (le_of_suc-le-suc h))

  key_expansion-is : (i : ℕ) → key_expansion Nk key i ≡ next_word Nk key i (words_n Nk key i)
  unfolding words_n key_expansion
  key_expansion-is i = get_or_at (words_n Nk key i) _ [] [] i (length-words_n i)

  -- Figure 11, the first loop
  pub key_expansion-first : (i : ℕ) → i < Nk → key_expansion Nk key i ≡ key_word key i
  unfolding next_word
  key_expansion-first i h = key_expansion-is i ∙ cond_true (ltb i Nk) _ _ (lt→ltb i Nk h)

  -- Figure 11, the second loop
  pub key_expansion-next : (i : ℕ) → 0 < Nk → Nk ≤ i
      → key_expansion Nk key i ≡ key_expansion Nk key (i - Nk) ⊞ temp_of Nk i (key_expansion Nk key (i - 1))
  unfolding next_word
  key_expansion-next i h l =
      key_expansion-is i ∙ cond_false (ltb i Nk) _ _ (not_T (ltb i Nk) (λ t. omega (arith, ltb→lt i Nk t)))
      ∙ ap₂ (λ (a b : List ℕ). a ⊞ temp_of Nk i b) (get_or-words_n i (i - Nk) (omega arith)) (get_or-words_n i (i - 1) (omega arith))
