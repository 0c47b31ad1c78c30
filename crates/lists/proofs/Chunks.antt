-- Chunks of a list: within it, and of a list in which one chunk was put anew. Assumes nothing.
use Prim.Native.Nat.{ℕ, zero, suc, ◌+◌, ◌-◌, ◌*◌, ◌≤◌, ◌<◌, suc-le-suc}
use native.Mathlib.Nat.{suc-mul, mul-le-mul_right}
use native.Mathlib.Omega.{arith}
use mathlib.Core.Path.{◌≡◌, refl, ap, ◌∙◌}
use mathlib.Core.Logic.{⊎_elim, ◌⊎◌, inl, inr}
use mathlib.Core.List.{List, ◌++◌}
use lib.ListN.{length, get_or, take, drop, length-drop}
use lib.Seq.{length-take-le, get_or-take, get_or-drop}
use Rattle.lists.specs.Lists.{chunk}
use Rattle.lists.proofs.Puts.{put_same, put_before, put-after}

-- chunk i ends where chunk j begins, or before
pub apart : (n i j : ℕ) → i < j → i * n + n ≤ j * n
apart n i j h = let p : suc i * n ≤ j * n = mul-le-mul_right n h in omega (arith, suc-mul i n)

-- chunk i of k lies within
pub chunk_in : (n i k L : ℕ) → L ≡ k * n → i < k → i * n + n ≤ L
chunk_in n i k L e h = let p : i * n + n ≤ k * n = apart n i k h in omega arith

pub length-chunk : (n i : ℕ) (xs : List ℕ) → i * n + n ≤ length xs → length (chunk n i xs) ≡ n
unfolding chunk
length-chunk n i xs h = length-take-le n (drop (i * n) xs) (rw length-drop (omega arith))

pub get_d_chunk : (n i : ℕ) (xs : List ℕ) (j d : ℕ) → j < n → get_or (chunk n i xs) j d ≡ get_or xs (i * n + j) d
unfolding chunk
get_d_chunk n i xs j d h = get_or-take n (drop (i * n) xs) j d h ∙ get_or-drop (i * n) xs j d

-- a part of m elements that begins at chunk k is that chunk
pub part-chunk : (m k a e : ℕ) (xs : List ℕ) → a ≡ k * m → e ≡ a + m → take (e - a) (drop a xs) ≡ chunk m k xs
unfolding chunk
part-chunk m k a e xs p q = let d : e - a ≡ m = omega arith in rw (d, p)

either : (j k : ℕ) → (j ≡ k → ⊥) → (j < k) ⊎ (k < j)
either zero zero d = absurd (d refl)
either zero (suc k) d = inl (omega arith)
either (suc j) zero d = inr (omega arith)
either (suc j) (suc k) d = ⊎_elim (λ w. inl (suc-le-suc w)) (λ w. inr (suc-le-suc w)) (either j k (λ e. d (ap suc e)))

-- ys was put at chunk k, from a to e
module _ (n k a e : ℕ) (xs ys : List ℕ) (pa : a ≡ k * n) (pe : e ≡ a + n) (h : e ≤ length xs) (l : length ys ≡ n) where
  pub put-chunk : chunk n k (take a xs ++ (ys ++ drop (e - a) (drop a xs))) ≡ ys
  unfolding chunk
  put-chunk = rw (← pa) (put_same a e xs ys (omega arith) h (omega arith) n (omega arith))

  pub put_other : (j : ℕ) → (j ≡ k → ⊥) → chunk n j (take a xs ++ (ys ++ drop (e - a) (drop a xs))) ≡ chunk n j xs
  unfolding chunk
  put_other j d =
      ⊎_elim (λ (w : j < k). put_before a e xs ys (omega arith) h (omega arith) (j * n) n (omega (arith, apart n j k w)))
      (λ (w : k < j). put-after a e xs ys (omega arith) h (omega arith) (j * n) n (omega (arith, apart n k j w)))
      (either j k d)
