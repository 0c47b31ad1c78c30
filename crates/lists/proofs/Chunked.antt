-- The invariant of `for k in 0..n { g(&mut xs[k * m..k * m + m]); }`, where g changes chunk k by f k, with what a turn and the end ask.
-- Assumes nothing.
use Prim.Native.Nat.{ℕ, zero, suc, ◌+◌, ◌-◌, ◌*◌, ◌≤◌, ◌<◌}
use native.Mathlib.Nat.{suc-mul, mul-le-mul_right, zero-mul}
use native.Mathlib.Numerals.{add-one}
use native.Mathlib.Omega.{arith}
use mathlib.Core.Path.{◌≡◌, refl, ap, ◌∙◌, subst}
use mathlib.Core.List.{List, ◌++◌, append_assoc}
use lib.ListN.{length, take, drop, length-append, length-drop}
use lib.Seq.{take-append-add, drop-append-add, length-take-le}
use Rattle.lists.specs.Lists.{map_chunks}

-- a map of chunks that keeps their length
abbrev pub Keeps : ℕ → (ℕ → List ℕ → List ℕ) → Type 0
Keeps m f = (i : ℕ) (zs : List ℕ) → length zs ≡ m → length (f i zs) ≡ m

module _ (m : ℕ) where
  first-long : (f : ℕ → List ℕ → List ℕ) → Keeps m f → (xs : List ℕ) → m ≤ length xs → length (f 0 (take m xs)) ≡ m
  first-long f keeps xs h = keeps 0 (take m xs) (length-take-le m xs h)

  step-mul : (k : ℕ) → suc k * m ≡ m + k * m
  step-mul k = suc-mul k m ∙ omega arith

  pub length-map_chunks : (f : ℕ → List ℕ → List ℕ) → Keeps m f → (k : ℕ) (xs : List ℕ) → k * m ≤ length xs → length (map_chunks m f k xs) ≡ length xs
  unfolding map_chunks
  length-map_chunks f keeps zero xs h = refl
  length-map_chunks f keeps (suc k) xs h =
      let h' : m + k * m ≤ length xs = omega (arith, step-mul k) in
      let ih : length (map_chunks m (λ i. f (suc i)) k (drop m xs)) ≡ length (drop m xs) =
      length-map_chunks (λ i. f (suc i)) (λ i. keeps (suc i)) k (drop m xs) (rw length-drop (omega arith)) in
      length-append (f 0 (take m xs)) (map_chunks m (λ i. f (suc i)) k (drop m xs))
      ∙ omega (arith, ih, first-long f keeps xs (omega arith), length-drop m xs)

  -- k chunks on in a list that begins with a chunk
  take_past : (n : ℕ) (a ys : List ℕ) → length a ≡ m → take (m + n) (a ++ ys) ≡ a ++ take n ys
  take_past n a ys e = subst (λ (j : ℕ). take (j + n) (a ++ ys) ≡ a ++ take n ys) e (take-append-add a ys n)

  drop_past : (n : ℕ) (a ys : List ℕ) → length a ≡ m → drop (m + n) (a ++ ys) ≡ drop n ys
  drop_past n a ys e = subst (λ (j : ℕ). drop (j + n) (a ++ ys) ≡ drop n ys) e (drop-append-add a ys n)

  abbrev turned : (List ℕ → List ℕ) → ℕ → List ℕ → List ℕ
  turned g n ys = take n ys ++ (g (take m (drop n ys)) ++ drop m (drop n ys))

  chunk_suc : (f : ℕ → List ℕ → List ℕ) → Keeps m f → (k : ℕ) (xs : List ℕ) → m + k * m ≤ length xs
      → turned (f k) (k * m) (map_chunks m f k xs) ≡ map_chunks m f (suc k) xs
  unfolding map_chunks
  chunk_suc f keeps zero xs h = rw zero-mul
  chunk_suc f keeps (suc k) xs h =
      let h' : m + (m + k * m) ≤ length xs = omega (arith, step-mul k) in
      let fl : length (f 0 (take m xs)) ≡ m = first-long f keeps xs (omega arith) in
      let ih : turned (f (suc k)) (k * m) (map_chunks m (λ i. f (suc i)) k (drop m xs)) ≡ map_chunks m (λ i. f (suc i)) (suc k) (drop m xs) =
      chunk_suc (λ i. f (suc i)) (λ i. keeps (suc i)) k (drop m xs) (rw length-drop (omega arith)) in
      rw (
        step-mul,
        take_past (k * m) (f 0 (take m xs)) (map_chunks m (λ i. f (suc i)) k (drop m xs)),
        drop_past (k * m) (f 0 (take m xs)) (map_chunks m (λ i. f (suc i)) k (drop m xs)),
        append_assoc,
      ) (ap (λ (l : List ℕ). f 0 (take m xs) ++ l) ih)

-- cur is xs after k turns
pub record Chunked (m : ℕ) (f : ℕ → List ℕ → List ℕ) (n : ℕ) (xs : List ℕ) (k : ℕ) (cur : List ℕ) : Type 0 where
  pub turns : k ≤ n
  pub room : n * m ≤ length xs
  pub same : length cur ≡ length xs
  pub is : cur ≡ map_chunks m f k xs

pub chunked_start : (m : ℕ) (f : ℕ → List ℕ → List ℕ) (n : ℕ) (xs : List ℕ) → n * m ≤ length xs → Chunked m f n xs 0 xs
unfolding map_chunks
chunked_start m f n xs h = record { turns = omega arith; room = h; same = refl; is = refl }

-- a turn's chunk is within
pub chunked-room : (m : ℕ) (f : ℕ → List ℕ → List ℕ) (n : ℕ) (xs : List ℕ) (k : ℕ) (cur : List ℕ)
    → Chunked m f n xs k cur → k < n → k * m + m ≤ length cur
chunked-room m f n xs k cur i h =
    let p : suc k * m ≤ n * m = mul-le-mul_right m h in
    let r : n * m ≤ length xs = i.room in
    let s : length cur ≡ length xs = i.same in
    omega (arith, suc-mul k m)

module _ (m : ℕ) (f : ℕ → List ℕ → List ℕ) (keeps : Keeps m f) where
  -- a turn: the chunk from a to e was lent, and came back as ys
  pub chunked-more : (n : ℕ) (xs : List ℕ) (k : ℕ) (cur : List ℕ) (a e : ℕ) (ys : List ℕ)
      → Chunked m f n xs k cur → k < n → a ≡ k * m → e ≡ a + m → ys ≡ f k (take (e - a) (drop a cur))
      → Chunked m f n xs (k + 1) (take a cur ++ (ys ++ drop (e - a) (drop a cur)))
  chunked-more n xs k cur a e ys i h pa pe py =
      let r : k * m + m ≤ length cur = chunked-room m f n xs k cur i h in
      let s : length cur ≡ length xs = i.same in
      let d : e - a ≡ m = omega arith in
      let next : take a cur ++ (ys ++ drop (e - a) (drop a cur)) ≡ map_chunks m f (k + 1) xs =
      rw (add-one, py, d, i.is, pa, chunk_suc m f keeps k xs (omega arith)) in
      let w : (k + 1) * m ≤ n * m = mul-le-mul_right m (omega arith) in
      record {
        turns = omega arith;
        room = i.room;
        same = ap length next ∙ length-map_chunks m f keeps (k + 1) xs (omega (arith, i.room));
        is = next;
      }

pub chunked_end : (m : ℕ) (f : ℕ → List ℕ → List ℕ) (n : ℕ) (xs : List ℕ) (k : ℕ) (cur : List ℕ)
    → Chunked m f n xs k cur → n ≤ k → cur ≡ map_chunks m f n xs
chunked_end m f n xs k cur i h =
    let t : k ≤ n = i.turns in
    let e : k ≡ n = omega arith in
    rw (← e) i.is
