-- The part of m elements of a list from place s: its length and elements, and the part of a chunk, of a list made by index, of a list
-- mapped. Assumes nothing.
use Prim.Native.Nat.{ℕ, zero, suc, ◌+◌, ◌*◌, ◌≤◌, ◌<◌}
use native.Mathlib.Omega.{arith}
use mathlib.Core.Path.{◌≡◌, refl, sym, ap, ◌∙◌}
use mathlib.Core.List.{List, [], ◌∷◌, ◌++◌, map}
use lib.ListN.{length, get_or, take, drop, length-drop}
use lib.Seq.{length-take-le, get_or-take, get_or-drop, take-take, take-nil, drop-drop}
use Rattle.lists.specs.Lists.{tab, chunk, joined}
use Rattle.lists.proofs.Tabs.{length-tab, get_or-tab, tab-is}

pub length_part : (s m : ℕ) (xs : List ℕ) → s + m ≤ length xs → length (take m (drop s xs)) ≡ m
length_part s m xs h = length-take-le m (drop s xs) (rw length-drop (omega arith))

pub get_or-part : (s m : ℕ) (xs : List ℕ) (j : ℕ) → j < m → get_or (take m (drop s xs)) j 0 ≡ get_or xs (s + j) 0
get_or-part s m xs j h = get_or-take m (drop s xs) j 0 h ∙ get_or-drop s xs j 0

part-take : (s m n : ℕ) (xs : List ℕ) → s + m ≤ n → take m (drop s (take n xs)) ≡ take m (drop s xs)
part-take zero m n xs h = take-take m n xs (omega arith)
part-take (suc s) m zero xs h = absurd (omega arith)
part-take (suc s) m (suc n) [] h = refl
part-take (suc s) m (suc n) (x ∷ xs) h = part-take s m n xs (omega arith)

pub part_of-chunk : (s m n k : ℕ) (xs : List ℕ) → s + m ≤ n → take m (drop s (chunk n k xs)) ≡ take m (drop (k * n + s) xs)
unfolding chunk
part_of-chunk s m n k xs h = part-take s m n (drop (k * n) xs) h ∙ ap (take m) (drop-drop s (k * n) xs)

pub part-tab : (s m n : ℕ) (f : ℕ → ℕ) → s + m ≤ n → take m (drop s (tab n f)) ≡ tab m (λ j. f (s + j))
part-tab s m n f h =
    let l : length (tab n f) ≡ n = length-tab n f in
    tab-is m (λ j. f (s + j)) (take m (drop s (tab n f))) (length_part s m (tab n f) (omega arith))
    (λ j p. get_or-part s m (tab n f) j p ∙ get_or-tab n f (s + j) 0 (omega arith))

pub part-map : (f : ℕ → ℕ) (s m : ℕ) (xs : List ℕ) → take m (drop s (map f xs)) ≡ map f (take m (drop s xs))
part-map f zero zero xs = refl
part-map f zero (suc m) [] = refl
part-map f zero (suc m) (x ∷ xs) = ap (λ (l : List ℕ). f x ∷ l) (part-map f zero m xs)
part-map f (suc s) m [] = take-nil m ∙ sym (ap (map f) (take-nil m))
part-map f (suc s) m (x ∷ xs) = part-map f s m xs

map-append : (f : ℕ → ℕ) (xs ys : List ℕ) → map f (xs ++ ys) ≡ map f xs ++ map f ys
map-append f [] ys = refl
map-append f (x ∷ xs) ys = ap (λ (l : List ℕ). f x ∷ l) (map-append f xs ys)

pub map-joined : (f : ℕ → ℕ) (k : ℕ) (g : ℕ → List ℕ) → map f (joined k g) ≡ joined k (λ i. map f (g i))
unfolding joined
map-joined f zero g = refl
map-joined f (suc k) g = map-append f (g 0) _ ∙ ap (λ (l : List ℕ). map f (g 0) ++ l) (map-joined f k (λ i. g (suc i)))
