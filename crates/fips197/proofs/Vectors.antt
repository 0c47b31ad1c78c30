-- The laws of ⊞, the sum of two lists place by place: it regroups as a sum of numbers does, and goes through length, get_or, take, drop, map
-- and append. Assumes nothing.
use mathlib.Core.Path.{◌≡◌, refl, sym, ap, ap₂, ◌∙◌}
use mathlib.Core.List.{List, [], ◌∷◌, ◌++◌, map}
use Prim.Native.Nat.{ℕ, zero, suc, ◌≤◌}
use native.Mathlib.Nat.{not-suc-le-zero, le_of_suc-le-suc, suc_inj}
use native.Mathlib.Omega.{arith}
use lib.ListN.{length, get_or, take, drop}
use Rattle.fips197.specs.Field.{◌⊕◌}
use Rattle.fips197.specs.State.{◌⊞◌}
use Rattle.fips197.proofs.Sums.{⊕_comm, ⊕_assoc, ⊕_self, ⊕_cancel}
use Rattle.fips197.proofs.Additive.{Additive}

pub ⊞_nil : (xs : List ℕ) → xs ⊞ [] ≡ []
unfolding ◌⊞◌
⊞_nil [] = refl
⊞_nil (x ∷ xs) = refl

-- ---- sums of any lengths

pub ⊞_comm : (a b : List ℕ) → a ⊞ b ≡ b ⊞ a
unfolding ◌⊞◌
⊞_comm [] b = sym (⊞_nil b)
⊞_comm (x ∷ a) [] = refl
⊞_comm (x ∷ a) (y ∷ b) = ap₂ ◌∷◌ (⊕_comm x y) (⊞_comm a b)

pub ⊞_assoc : (a b c : List ℕ) → a ⊞ b ⊞ c ≡ a ⊞ (b ⊞ c)
unfolding ◌⊞◌
⊞_assoc [] b c = refl
⊞_assoc (x ∷ a) [] c = refl
⊞_assoc (x ∷ a) (y ∷ b) [] = refl
⊞_assoc (x ∷ a) (y ∷ b) (z ∷ c) = ap₂ ◌∷◌ (⊕_assoc x y z) (⊞_assoc a b c)

pub ⊞_middle : (a b c d : List ℕ) → a ⊞ b ⊞ (c ⊞ d) ≡ a ⊞ c ⊞ (b ⊞ d)
⊞_middle a b c d =
    ⊞_assoc a b (c ⊞ d) ∙ ap (λ (x : List ℕ). a ⊞ x) (sym (⊞_assoc b c d) ∙ ap (λ (x : List ℕ). x ⊞ d) (⊞_comm b c) ∙ ⊞_assoc c b d)
    ∙ sym (⊞_assoc a c (b ⊞ d))

-- added twice, a list that is as long or longer is gone
pub ⊞_cancel : (x k : List ℕ) → length x ≤ length k → x ⊞ k ⊞ k ≡ x
unfolding ◌⊞◌
⊞_cancel [] k h = refl
⊞_cancel (x ∷ xs) [] h = absurd (not-suc-le-zero h)
⊞_cancel (x ∷ xs) (y ∷ ys) h = ap₂ ◌∷◌ (⊕_cancel x y) (⊞_cancel xs ys (le_of_suc-le-suc h))

pub take_⊞ : (n : ℕ) (x y : List ℕ) → take n (x ⊞ y) ≡ take n x ⊞ take n y
unfolding ◌⊞◌
take_⊞ zero x y = refl
take_⊞ (suc n) [] y = refl
take_⊞ (suc n) (x ∷ xs) [] = refl
take_⊞ (suc n) (x ∷ xs) (y ∷ ys) = ap (λ (zs : List ℕ). x ⊕ y ∷ zs) (take_⊞ n xs ys)

pub drop_⊞ : (n : ℕ) (x y : List ℕ) → drop n (x ⊞ y) ≡ drop n x ⊞ drop n y
unfolding ◌⊞◌
drop_⊞ zero x y = refl
drop_⊞ (suc n) [] y = refl
drop_⊞ (suc n) (x ∷ xs) [] = sym (⊞_nil (drop n xs))
drop_⊞ (suc n) (x ∷ xs) (y ∷ ys) = drop_⊞ n xs ys

pub map_⊞ : (f : ℕ → ℕ) → Additive f → (x y : List ℕ) → map f (x ⊞ y) ≡ map f x ⊞ map f y
unfolding ◌⊞◌
map_⊞ f h [] y = refl
map_⊞ f h (x ∷ xs) [] = refl
map_⊞ f h (x ∷ xs) (y ∷ ys) = ap₂ ◌∷◌ (h x y) (map_⊞ f h xs ys)

-- ---- sums of lists of one length

pub length_⊞ : (x y : List ℕ) → length x ≡ length y → length (x ⊞ y) ≡ length x
unfolding ◌⊞◌
length_⊞ [] y e = refl
length_⊞ (x ∷ xs) [] e = sym e
length_⊞ (x ∷ xs) (y ∷ ys) e = ap suc (length_⊞ xs ys (suc_inj e))

pub get_or_⊞ : (x y : List ℕ) (i : ℕ) → length x ≡ length y → get_or (x ⊞ y) i 0 ≡ get_or x i 0 ⊕ get_or y i 0
unfolding ◌⊞◌
get_or_⊞ [] [] i e = sym (⊕_self 0)
get_or_⊞ [] (y ∷ ys) i e = absurd (omega arith)
get_or_⊞ (x ∷ xs) [] i e = absurd (omega arith)
get_or_⊞ (x ∷ xs) (y ∷ ys) zero e = refl
get_or_⊞ (x ∷ xs) (y ∷ ys) (suc i) e = get_or_⊞ xs ys i (suc_inj e)

pub append_⊞ : (a b c d : List ℕ) → length a ≡ length c → (a ++ b) ⊞ (c ++ d) ≡ a ⊞ c ++ b ⊞ d
unfolding ◌⊞◌
append_⊞ [] b [] d e = refl
append_⊞ [] b (z ∷ c) d e = absurd (omega arith)
append_⊞ (x ∷ a) b [] d e = absurd (omega arith)
append_⊞ (x ∷ a) b (z ∷ c) d e = ap (λ (zs : List ℕ). x ⊕ z ∷ zs) (append_⊞ a b c d (suc_inj e))
