-- A test at each number below a bound, which antt computes, and what it shows of each. Assumes nothing.
use mathlib.Core.Path.{◌≡◌, sym, subst}
use mathlib.Core.Logic.{⊎_elim}
use mathlib.Core.Bool.{Bool, true, false}
use Prim.Native.Nat.{ℕ, zero, suc, ◌<◌}
use native.Mathlib.Nat.{le_of_suc-le-suc, not-suc-le-zero, eq-or-lt_of_le}
use lib.Dec.{T}

abbrev pub both : Bool → Bool → Bool
both true b = b
both false b = false

pub both_left : (a b : Bool) → T (both a b) → T a
both_left true b t = tt
both_left false b t = t

pub both_right : (a b : Bool) → T (both a b) → T b
both_right true b t = t
both_right false b t = absurd t

abbrev pub all : (ℕ → Bool) → ℕ → Bool
all f zero = true
all f (suc n) = both (f n) (all f n)

pub all-at : (f : ℕ → Bool) (n : ℕ) → T (all f n) → (k : ℕ) → k < n → T (f k)
all-at f zero t k h = absurd (not-suc-le-zero h)
all-at f (suc n) t k h =
    ⊎_elim (λ (e : k ≡ n). subst (λ (m : ℕ). T (f m)) (sym e) (both_left (f n) (all f n) t))
    (λ (l : k < n). all-at f n (both_right (f n) (all f n) t) k l)
    (eq-or-lt_of_le (le_of_suc-le-suc h))
