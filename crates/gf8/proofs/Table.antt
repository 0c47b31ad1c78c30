-- A table's rule: one test over the whole table, which antt computes, and what it shows at each entry. The rule is a parameter.
-- Assumes nothing.
use mathlib.Core.Path.{◌≡◌, ◌∙◌, subst, sym}
use mathlib.Core.Bool.{Bool, true}
use mathlib.Core.List.{List, [], ◌∷◌}
use Prim.Native.Nat.{ℕ, zero, suc, ◌+◌, ◌<◌}
use native.Mathlib.Nat.{add-zero, zero-add, add-suc, suc-add, le_of_suc-le-suc, not-suc-le-zero}
use lib.Dec.{T, eqb, eqb→eq}
use lib.ListN.{length, get_or}
use Rattle.fips197.proofs.Tests.{both, both_left, both_right}

-- each entry is what the rule f says of its place, counted from i
abbrev pub every : (ℕ → ℕ) → ℕ → List ℕ → Bool
every f i [] = true
every f i (x ∷ xs) = both (eqb x (f i)) (every f (suc i) xs)

from : (f : ℕ → ℕ) (xs : List ℕ) (i : ℕ) → T (every f i xs) → (k : ℕ) → k < length xs → get_or xs k 0 ≡ f (i + k)
from f [] i t k h = absurd (not-suc-le-zero h)
from f (x ∷ xs) i t zero h =
    subst (λ (m : ℕ). x ≡ f m) (sym (add-zero i)) (eqb→eq x (f i) (both_left (eqb x (f i)) (every f (suc i) xs) t))
from f (x ∷ xs) i t (suc k) h =
    subst (λ (m : ℕ). get_or xs k 0 ≡ f m) (suc-add i k ∙ sym (add-suc i k))
    (from f xs (suc i) (both_right (eqb x (f i)) (every f (suc i) xs) t) k (le_of_suc-le-suc h))

-- the rule at each byte, of a table of 256 entries
pub table : (f : ℕ → ℕ) (xs : List ℕ) → T (every f 0 xs) → T (eqb (length xs) 256) → (k : ℕ) → k < 256 → get_or xs k 0 ≡ f k
table f xs t l k h =
    subst (λ (m : ℕ). get_or xs k 0 ≡ f m) (zero-add k)
    (from f xs 0 t k (subst (λ (n : ℕ). k < n) (sym (eqb→eq (length xs) 256 l)) h))
