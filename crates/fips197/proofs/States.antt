-- States: what is made by state_of has sixteen places, is read back by at, and is equal or a sum row by row; a list of sixteen is the state
-- of its own bytes; and lists of bytes. Assumes nothing.
use mathlib.Core.Path.{◌≡◌, refl, ap, ap₂, ◌∙◌, fun_ext}
use mathlib.Core.List.{List, [], ◌∷◌, map}
use Prim.Native.Nat.{ℕ, zero, suc, ◌+◌, ◌*◌, ◌/◌, ◌%◌, ◌<◌}
use native.Mathlib.Nat.{suc_inj, not-suc-le-zero, le_of_suc-le-suc}
use native.Mathlib.Omega.{arith}
use lib.Dec.{lit<}
use lib.ListN.{length, get_or}
use Rattle.fips197.specs.Field.{◌⊕◌}
use Rattle.fips197.specs.State.{◌⊞◌, Bytes, Block, at, state_of}
use Rattle.fips197.proofs.Sums.{⊕_byte}
use Rattle.fips197.proofs.Vectors.{get_or_⊞}

pub length-state_of : (f : ℕ → ℕ → ℕ) → length (state_of f) ≡ 16
unfolding state_of
length-state_of f = refl

-- two states are equal where their rows are
pub state_of-rows : (f g : ℕ → ℕ → ℕ) → ((c : ℕ) → f 0 c ≡ g 0 c) → ((c : ℕ) → f 1 c ≡ g 1 c) → ((c : ℕ) → f 2 c ≡ g 2 c)
    → ((c : ℕ) → f 3 c ≡ g 3 c) → state_of f ≡ state_of g
unfolding state_of
state_of-rows f g p q r s = λ i.
    p 0 i ∷ p 1 i ∷ p 2 i ∷ p 3 i ∷ q 0 i ∷ q 1 i ∷ q 2 i ∷ q 3 i ∷ r 0 i ∷ r 1 i ∷ r 2 i ∷ r 3 i ∷ s 0 i ∷ s 1 i ∷ s 2 i ∷ s 3 i ∷ []

-- a state that is at each place the sum of two is their sum
pub state_of_⊞ : (f g h : ℕ → ℕ → ℕ) → ((r c : ℕ) → f r c ≡ g r c ⊕ h r c) → state_of f ≡ state_of g ⊞ state_of h
unfolding state_of ◌⊞◌
state_of_⊞ f g h e = ap state_of (fun_ext (λ r. fun_ext (e r)))

pub at_⊞ : (x y : List ℕ) (r c : ℕ) → length x ≡ length y → at (x ⊞ y) r c ≡ at x r c ⊕ at y r c
unfolding at
at_⊞ x y r c e = get_or_⊞ x y (4 * r + c) e

-- ---- place by place: f 0, f 1, .. f (n - 1)

unfoldable list_n : ℕ → (ℕ → ℕ) → List ℕ
list_n zero f = []
list_n (suc n) f = f 0 ∷ list_n n (λ i. f (suc i))

list_n-is : (n : ℕ) (s : List ℕ) → length s ≡ n → list_n n (λ i. get_or s i 0) ≡ s
unfolding list_n
list_n-is zero [] e = refl
list_n-is zero (x ∷ s) e = absurd (omega arith)
list_n-is (suc n) [] e = absurd (omega arith)
list_n-is (suc n) (x ∷ s) e = ap (λ (r : List ℕ). x ∷ r) (list_n-is n s (suc_inj e))

get_or-list_n : (n i : ℕ) (f : ℕ → ℕ) → i < n → get_or (list_n n f) i 0 ≡ f i
unfolding list_n
get_or-list_n zero i f h = absurd (not-suc-le-zero h)
get_or-list_n (suc n) zero f h = refl
get_or-list_n (suc n) (suc i) f h = get_or-list_n n i (λ (i : ℕ). f (suc i)) (le_of_suc-le-suc h)

pub get_or-state_of : (f : ℕ → ℕ → ℕ) (i : ℕ) → i < 16 → get_or (state_of f) i 0 ≡ f (i / 4) (i % 4)
unfolding state_of list_n
get_or-state_of f i h = get_or-list_n 16 i (λ (i : ℕ). f (i / 4) (i % 4)) h

pub at-state_of : (f : ℕ → ℕ → ℕ) (r c : ℕ) → r < 4 → c < 4 → at (state_of f) r c ≡ f r c
unfolding at
at-state_of f r c hr hc = get_or-state_of f (4 * r + c) (omega arith) ∙ ap₂ f (omega arith) (omega arith)

-- a list of sixteen is the state of its own bytes
pub state_of-at : (s : List ℕ) → length s ≡ 16 → state_of (at s) ≡ s
unfolding state_of at list_n
state_of-at s e = list_n-is 16 s e

-- ---- bytes

pub bytes_nil : Bytes []
bytes_nil i = lit< tt

pub bytes_cons : (x : ℕ) (xs : List ℕ) → x < 256 → Bytes xs → Bytes (x ∷ xs)
bytes_cons x xs h hs zero = h
bytes_cons x xs h hs (suc i) = hs i

pub bytes-map : (f : ℕ → ℕ) → ((x : ℕ) → f x < 256) → (xs : List ℕ) → Bytes (map f xs)
bytes-map f h [] = bytes_nil
bytes-map f h (x ∷ xs) = bytes_cons (f x) (map f xs) (h x) (bytes-map f h xs)

pub bytes_⊞ : (x y : List ℕ) → Bytes x → Bytes y → Bytes (x ⊞ y)
unfolding ◌⊞◌
bytes_⊞ [] y hx hy = bytes_nil
bytes_⊞ (x ∷ xs) [] hx hy = bytes_nil
bytes_⊞ (x ∷ xs) (y ∷ ys) hx hy =
    bytes_cons (x ⊕ y) (xs ⊞ ys) (⊕_byte x y (hx 0) (hy 0)) (bytes_⊞ xs ys (λ i. hx (suc i)) (λ i. hy (suc i)))

bytes-list_n : (n : ℕ) (f : ℕ → ℕ) → ((i : ℕ) → f i < 256) → Bytes (list_n n f)
unfolding list_n
bytes-list_n zero f h = bytes_nil
bytes-list_n (suc n) f h = bytes_cons (f 0) (list_n n (λ i. f (suc i))) (h 0) (bytes-list_n n (λ (i : ℕ). f (suc i)) (λ i. h (suc i)))

pub bytes-state_of : (f : ℕ → ℕ → ℕ) → ((r c : ℕ) → f r c < 256) → Bytes (state_of f)
unfolding state_of list_n
bytes-state_of f h = bytes-list_n 16 (λ (i : ℕ). f (i / 4) (i % 4)) (λ i. h (i / 4) (i % 4))

pub at_byte : (s : List ℕ) (r c : ℕ) → Block s → at s r c < 256
unfolding at
at_byte s r c h = h.bytes (4 * r + c)
