-- The invariant of `for k in 0..n { xs[k] = v; }`, where v is f k, with what a turn and the end ask. Assumes nothing.
use Prim.Native.Nat.{ℕ, zero, suc, ◌+◌, ◌≤◌, ◌<◌}
use native.Mathlib.Nat.{le_of_suc-le-suc, not-suc-le-zero}
use native.Mathlib.Numerals.{add-one}
use native.Mathlib.Omega.{arith}
use mathlib.Core.Path.{◌≡◌, refl, sym, ap, ◌∙◌}
use mathlib.Core.List.{List, [], ◌∷◌, map}
use lib.ListN.{length, get_or, set, length-set, length-map}
use Rattle.lists.specs.Lists.{tab}
use Rattle.lists.proofs.Tabs.{tab-same, tab-is, get_d_map}

-- xs with its first n elements f 0, f 1, .. f (n - 1), and the rest as it was
unfoldable pub filled : ℕ → (ℕ → ℕ) → List ℕ → List ℕ
filled zero f xs = xs
filled (suc n) f [] = []
filled (suc n) f (x ∷ xs) = f 0 ∷ filled n (λ i. f (suc i)) xs

filled_suc : (n : ℕ) (f : ℕ → ℕ) (xs : List ℕ) → n < length xs → set (filled n f xs) n (f n) ≡ filled (suc n) f xs
unfolding filled
filled_suc n f [] h = absurd (not-suc-le-zero h)
filled_suc zero f (x ∷ xs) h = refl
filled_suc (suc n) f (x ∷ xs) h = ap (λ (l : List ℕ). f 0 ∷ l) (filled_suc n (λ i. f (suc i)) xs (le_of_suc-le-suc h))

-- what is not yet stored is as it was
filled-rest : (n : ℕ) (f : ℕ → ℕ) (xs : List ℕ) (i d : ℕ) → n ≤ i → get_or (filled n f xs) i d ≡ get_or xs i d
unfolding filled
filled-rest zero f xs i d h = refl
filled-rest (suc n) f [] i d h = refl
filled-rest (suc n) f (x ∷ xs) zero d h = absurd (not-suc-le-zero h)
filled-rest (suc n) f (x ∷ xs) (suc i) d h = filled-rest n (λ j. f (suc j)) xs i d (le_of_suc-le-suc h)

filled-all : (f : ℕ → ℕ) (xs : List ℕ) → filled (length xs) f xs ≡ tab (length xs) f
unfolding filled tab
filled-all f [] = refl
filled-all f (x ∷ xs) = ap (λ (l : List ℕ). f 0 ∷ l) (filled-all (λ i. f (suc i)) xs)

-- cur is xs after k turns of n, and xs has n elements
pub record Filling (f : ℕ → ℕ) (n : ℕ) (xs : List ℕ) (k : ℕ) (cur : List ℕ) : Type 0 where
  pub turns : k ≤ n
  pub long : length xs ≡ n
  pub same : length cur ≡ n
  pub is : cur ≡ filled k f xs

pub filling_start : (f : ℕ → ℕ) (n : ℕ) (xs : List ℕ) → length xs ≡ n → Filling f n xs 0 xs
unfolding filled
filling_start f n xs h = record { turns = omega arith; long = h; same = h; is = refl }

module _ (f : ℕ → ℕ) (n : ℕ) (xs : List ℕ) (k : ℕ) (cur : List ℕ) (i : Filling f n xs k cur) where
  pub filling-more : (v : ℕ) → k < n → v ≡ f k → Filling f n xs (k + 1) (set cur k v)
  filling-more v h e = record {
    turns = omega arith;
    long = i.long;
    same = length-set cur k v ∙ i.same;
    is = rw (e, i.is, add-one) (filled_suc k f xs (omega (arith, i.long)));
  }

  -- in place: what stands at j, not yet stored, is as it was
  pub filling_read : (j d : ℕ) → k ≤ j → get_or cur j d ≡ get_or xs j d
  filling_read j d h = rw i.is (filled-rest k f xs j d h)

  pub filling_end : n ≤ k → cur ≡ tab n f
  filling_end h =
      let t : k ≤ n = i.turns in
      let e : k ≡ length xs = omega (arith, i.long) in
      rw (i.is, e, ← i.long) (filled-all f xs)

-- at the end of a loop that copied ys
pub copied : (n : ℕ) (ys : List ℕ) → length ys ≡ n → tab n (λ i. get_or ys i 0) ≡ ys
copied n ys l = rw (← l) (tab-same ys)

-- at the end of a loop that changed each element of ys by f
pub mapped : (n : ℕ) (f : ℕ → ℕ) (ys : List ℕ) → length ys ≡ n → tab n (λ i. f (get_or ys i 0)) ≡ map f ys
mapped n f ys l =
    sym (tab-is n (λ i. f (get_or ys i 0)) (map f ys) (length-map ys f ∙ l) (λ i h. get_d_map f ys i (omega (arith, l))))
