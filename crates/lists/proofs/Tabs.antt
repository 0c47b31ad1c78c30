-- Laws of `tab`, and when two lists are equal by their elements. Assumes nothing.
use Prim.Native.Nat.{ℕ, zero, suc, ◌<◌}
use native.Mathlib.Nat.{le_of_suc-le-suc, not-suc-le-zero, zero-lt-suc}
use Prim.Native.Nat.{suc-le-suc}
use mathlib.Core.Path.{◌≡◌, refl, sym, ap, ap₂, ◌∙◌, subst}
use mathlib.Core.List.{List, [], ◌∷◌, map}
use lib.ListN.{length, get_or}
use lib.Seq.{ext_get_or}
use Rattle.lists.specs.Lists.{tab}

pub length-tab : (n : ℕ) (f : ℕ → ℕ) → length (tab n f) ≡ n
unfolding tab
length-tab zero f = refl
length-tab (suc n) f = ap suc (length-tab n (λ i. f (suc i)))

pub get_or-tab : (n : ℕ) (f : ℕ → ℕ) (i d : ℕ) → i < n → get_or (tab n f) i d ≡ f i
unfolding tab
get_or-tab zero f i d h = absurd (not-suc-le-zero h)
get_or-tab (suc n) f zero d h = refl
get_or-tab (suc n) f (suc i) d h = get_or-tab n (λ j. f (suc j)) i d (le_of_suc-le-suc h)

-- a list is made of its own elements
pub tab-same : (xs : List ℕ) → tab (length xs) (λ i. get_or xs i 0) ≡ xs
unfolding tab
tab-same [] = refl
tab-same (x ∷ xs) = ap (λ (l : List ℕ). x ∷ l) (tab-same xs)

pub tab_cong : (n : ℕ) (f g : ℕ → ℕ) → ((i : ℕ) → i < n → f i ≡ g i) → tab n f ≡ tab n g
unfolding tab
tab_cong zero f g h = refl
tab_cong (suc n) f g h = ap₂ ◌∷◌ (h 0 (zero-lt-suc n)) (tab_cong n (λ i. f (suc i)) (λ i. g (suc i)) (λ i l. h (suc i) (suc-le-suc l)))

-- a list of n elements that are f 0, f 1, ..
pub tab-is : (n : ℕ) (f : ℕ → ℕ) (xs : List ℕ) → length xs ≡ n → ((i : ℕ) → i < n → get_or xs i 0 ≡ f i) → xs ≡ tab n f
tab-is n f xs l h =
    ext_get_or 0 xs (tab n f) (l ∙ sym (length-tab n f))
    (λ i p. let q : i < n = subst (λ (m : ℕ). i < m) l p in h i q ∙ sym (get_or-tab n f i 0 q))

pub get_d_map : (f : ℕ → ℕ) (xs : List ℕ) (i : ℕ) → i < length xs → get_or (map f xs) i 0 ≡ f (get_or xs i 0)
get_d_map f [] i h = absurd (not-suc-le-zero h)
get_d_map f (x ∷ xs) zero h = refl
get_d_map f (x ∷ xs) (suc i) h = get_d_map f xs i (le_of_suc-le-suc h)
