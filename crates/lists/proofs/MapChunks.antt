-- The laws of map_chunks: its chunks, two maps one after the other, and maps that agree on the chunks. Assumes nothing.
use Prim.Native.Nat.{ℕ, zero, suc, ◌+◌, ◌*◌, ◌≤◌, ◌<◌, suc-le-suc}
use native.Mathlib.Nat.{suc-mul, not-suc-le-zero, le_of_suc-le-suc, zero-lt-suc}
use native.Mathlib.Omega.{arith}
use mathlib.Core.Path.{◌≡◌, refl, sym, ap, ap₂, ◌∙◌}
use mathlib.Core.List.{List, ◌++◌}
use lib.ListN.{length, take, drop, length-drop, take-append-drop}
use lib.Seq.{length-take-le, take_at, drop_at}
use Rattle.lists.specs.Lists.{chunk, map_chunks}
use Rattle.lists.proofs.Chunked.{Keeps}
use Rattle.lists.proofs.Joined.{chunk_zero, chunk_suc}

module _ (m : ℕ) where
  step : (k : ℕ) → suc k * m ≡ m + k * m
  step k = suc-mul k m ∙ omega arith

  -- one chunk less to come
  rest-long : (n : ℕ) (xs : List ℕ) → suc n * m ≤ length xs → n * m ≤ length (drop m xs)
  rest-long n xs h = rw length-drop (omega (arith, step n))

  first-long : (n : ℕ) (xs : List ℕ) → suc n * m ≤ length xs → length (take m xs) ≡ m
  first-long n xs h = length-take-le m xs (omega (arith, step n))

  pub chunk-map_chunks : (f : ℕ → List ℕ → List ℕ) → Keeps m f → (n : ℕ) (xs : List ℕ) → n * m ≤ length xs
      → (k : ℕ) → k < n → chunk m k (map_chunks m f n xs) ≡ f k (chunk m k xs)
  unfolding map_chunks
  chunk-map_chunks f keeps zero xs h k l = absurd (not-suc-le-zero l)
  chunk-map_chunks f keeps (suc n) xs h zero l =
      chunk_zero m (f 0 (take m xs) ++ map_chunks m (λ i. f (suc i)) n (drop m xs))
      ∙ take_at (f 0 (take m xs)) _ m (keeps 0 (take m xs) (first-long n xs h)) ∙ ap (f 0) (sym (chunk_zero m xs))
  chunk-map_chunks f keeps (suc n) xs h (suc k) l =
      chunk_suc m k (f 0 (take m xs) ++ map_chunks m (λ i. f (suc i)) n (drop m xs))
      ∙ ap (chunk m k) (drop_at (f 0 (take m xs)) _ m (keeps 0 (take m xs) (first-long n xs h)))
      ∙ chunk-map_chunks (λ i. f (suc i)) (λ i. keeps (suc i)) n (drop m xs) (rest-long n xs h) k (le_of_suc-le-suc l)
      ∙ ap (f (suc k)) (sym (chunk_suc m k xs))

  -- f, and then g
  pub map_chunks-then : (f g : ℕ → List ℕ → List ℕ) → Keeps m f → (n : ℕ) (xs : List ℕ) → n * m ≤ length xs
      → map_chunks m g n (map_chunks m f n xs) ≡ map_chunks m (λ i b. g i (f i b)) n xs
  unfolding map_chunks
  map_chunks-then f g keeps zero xs h = refl
  map_chunks-then f g keeps (suc n) xs h =
      let l : length (f 0 (take m xs)) ≡ m = keeps 0 (take m xs) (first-long n xs h) in
      ap₂ (λ (a b : List ℕ). g 0 a ++ map_chunks m (λ i. g (suc i)) n b) (take_at (f 0 (take m xs)) _ m l) (drop_at (f 0 (take m xs)) _ m l)
      ∙ ap (λ (b : List ℕ). g 0 (f 0 (take m xs)) ++ b)
      (map_chunks-then (λ i. f (suc i)) (λ i. g (suc i)) (λ i. keeps (suc i)) n (drop m xs) (rest-long n xs h))

  -- maps that agree on the chunks
  pub map_chunks_cong : (f g : ℕ → List ℕ → List ℕ) (n : ℕ) (xs : List ℕ) → ((i : ℕ) → i < n → f i (chunk m i xs) ≡ g i (chunk m i xs))
      → map_chunks m f n xs ≡ map_chunks m g n xs
  unfolding map_chunks
  map_chunks_cong f g zero xs e = refl
  map_chunks_cong f g (suc n) xs e =
      ap₂ ◌++◌ (rw chunk_zero at (e 0 (zero-lt-suc n)))
      (map_chunks_cong (λ i. f (suc i)) (λ i. g (suc i)) n (drop m xs) (λ i l. rw chunk_suc at (e (suc i) (suc-le-suc l))))

  pub map_chunks-same : (n : ℕ) (xs : List ℕ) → map_chunks m (λ i b. b) n xs ≡ xs
  unfolding map_chunks
  map_chunks-same zero xs = refl
  map_chunks-same (suc n) xs = ap (λ (b : List ℕ). take m xs ++ b) (map_chunks-same n (drop m xs)) ∙ take-append-drop m xs
