-- A list that is k chunks of n, joined: its length, its chunks, and that every list of k n elements is its chunks joined.
-- Assumes nothing.
use Prim.Native.Nat.{ℕ, zero, suc, ◌+◌, ◌*◌, ◌<◌, suc-le-suc}
use native.Mathlib.Nat.{suc-mul, zero-mul, le_of_suc-le-suc, not-suc-le-zero, zero-lt-suc}
use native.Mathlib.Omega.{arith}
use mathlib.Core.Path.{◌≡◌, refl, sym, ap, ap₂, ◌∙◌}
use mathlib.Core.List.{List, [], ◌∷◌, ◌++◌, map}
use lib.ListN.{length, take, drop, length-append, length-drop, take-append-drop}
use lib.Seq.{drop-drop, take_at, drop_at}
use Rattle.lists.specs.Lists.{chunk, joined}

pub chunk_zero : (n : ℕ) (xs : List ℕ) → chunk n 0 xs ≡ take n xs
unfolding chunk
chunk_zero n xs = rw zero-mul

pub chunk_suc : (n i : ℕ) (xs : List ℕ) → chunk n (suc i) xs ≡ chunk n i (drop n xs)
unfolding chunk
chunk_suc n i xs = let e : suc i * n ≡ n + i * n = suc-mul i n ∙ omega arith in rw (e, drop-drop)

-- each of the k lists has n elements
abbrev pub Each : ℕ → ℕ → (ℕ → List ℕ) → Type 0
Each n k f = (i : ℕ) → i < k → length (f i) ≡ n

rest : (n k : ℕ) (f : ℕ → List ℕ) → Each n (suc k) f → Each n k (λ i. f (suc i))
rest n k f h i l = h (suc i) (suc-le-suc l)

pub length-joined : (n k : ℕ) (f : ℕ → List ℕ) → Each n k f → length (joined k f) ≡ k * n
unfolding joined
length-joined n zero f h = sym (zero-mul n)
length-joined n (suc k) f h =
    length-append (f 0) (joined k (λ i. f (suc i)))
    ∙ omega (arith, h 0 (zero-lt-suc k), length-joined n k (λ i. f (suc i)) (rest n k f h), suc-mul k n)

pub chunk-joined : (n k : ℕ) (f : ℕ → List ℕ) → Each n k f → (i : ℕ) → i < k → chunk n i (joined k f) ≡ f i
unfolding joined
chunk-joined n zero f h i l = absurd (not-suc-le-zero l)
chunk-joined n (suc k) f h zero l = chunk_zero n _ ∙ take_at (f 0) (joined k (λ i. f (suc i))) n (h 0 l)
chunk-joined n (suc k) f h (suc i) l =
    chunk_suc n i _ ∙ ap (chunk n i) (drop_at (f 0) (joined k (λ i. f (suc i))) n (h 0 (zero-lt-suc k)))
    ∙ chunk-joined n k (λ i. f (suc i)) (rest n k f h) i (le_of_suc-le-suc l)

pub joined_cong : (k : ℕ) (f g : ℕ → List ℕ) → ((i : ℕ) → i < k → f i ≡ g i) → joined k f ≡ joined k g
unfolding joined
joined_cong zero f g h = refl
joined_cong (suc k) f g h =
    ap₂ ◌++◌ (h 0 (zero-lt-suc k)) (joined_cong k (λ i. f (suc i)) (λ i. g (suc i)) (λ i l. h (suc i) (suc-le-suc l)))

empty : (xs : List ℕ) → length xs ≡ 0 → xs ≡ []
empty [] h = refl
empty (x ∷ xs) h = absurd (omega arith)

pub joined_chunks : (n k : ℕ) (xs : List ℕ) → length xs ≡ k * n → joined k (λ i. chunk n i xs) ≡ xs
unfolding joined
joined_chunks n zero xs e = sym (empty xs (e ∙ zero-mul n))
joined_chunks n (suc k) xs e =
    ap₂ ◌++◌ (chunk_zero n xs)
    (joined_cong k (λ i. chunk n (suc i) xs) (λ i. chunk n i (drop n xs)) (λ i l. chunk_suc n i xs)
    ∙ joined_chunks n k (drop n xs) (length-drop n xs ∙ omega (arith, suc-mul k n)))
    ∙ take-append-drop n xs

-- two lists of k chunks with equal chunks
pub by_chunks : (n k : ℕ) (xs ys : List ℕ) → length xs ≡ k * n → length ys ≡ k * n
    → ((i : ℕ) → i < k → chunk n i xs ≡ chunk n i ys) → xs ≡ ys
by_chunks n k xs ys p q h = sym (joined_chunks n k xs p) ∙ joined_cong k _ _ h ∙ joined_chunks n k ys q

map-take : (f : ℕ → ℕ) (n : ℕ) (xs : List ℕ) → take n (map f xs) ≡ map f (take n xs)
map-take f zero xs = refl
map-take f (suc n) [] = refl
map-take f (suc n) (x ∷ xs) = ap (λ (l : List ℕ). f x ∷ l) (map-take f n xs)

map-drop : (f : ℕ → ℕ) (n : ℕ) (xs : List ℕ) → drop n (map f xs) ≡ map f (drop n xs)
map-drop f zero xs = refl
map-drop f (suc n) [] = refl
map-drop f (suc n) (x ∷ xs) = map-drop f n xs

pub chunk-map : (f : ℕ → ℕ) (n i : ℕ) (xs : List ℕ) → chunk n i (map f xs) ≡ map f (chunk n i xs)
unfolding chunk
chunk-map f n i xs = ap (take n) (map-drop f (i * n) xs) ∙ map-take f n (drop (i * n) xs)
