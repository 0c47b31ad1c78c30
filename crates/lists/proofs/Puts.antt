-- A list in which ys was put from a to e, as a call leaves it that was lent `&mut xs[a..e]`: its length, and parts of it.
-- Assumes nothing.
use Prim.Native.Nat.{ℕ, ◌+◌, ◌-◌, ◌≤◌}
use native.Mathlib.Omega.{arith}
use mathlib.Core.Path.{◌≡◌, sym, ap, ◌∙◌}
use mathlib.Core.List.{List, ◌++◌, append_assoc}
use lib.ListN.{length, take, drop, length-append, length-drop, take-append-drop}
use lib.Seq.{take-append-le, drop-append-le, drop-drop, length-take-le, take_at, drop_at}

-- what such a call is given is e - a long
pub part-long : (m a e : ℕ) (xs : List ℕ) → e ≡ a + m → e ≤ length xs → length (take (e - a) (drop a xs)) ≡ m
part-long m a e xs p h = length-take-le (e - a) (drop a xs) (rw length-drop (omega arith)) ∙ omega arith

module _ (a e : ℕ) (xs ys : List ℕ) (le : a ≤ e) (h : e ≤ length xs) (l : length ys ≡ e - a) where
  abbrev pub put : List ℕ
  put = take a xs ++ (ys ++ drop (e - a) (drop a xs))

  pub put-long : length put ≡ length xs
  put-long =
      length-append (take a xs) _
      ∙ omega (arith, length-append ys (drop (e - a) (drop a xs)), length-take-le a xs (omega arith), length-drop (e - a) (drop a xs), length-drop a xs)

  -- the part itself
  pub put_same : (m : ℕ) → m ≡ e - a → take m (drop a put) ≡ ys
  put_same m p =
      rw (drop_at (take a xs) (ys ++ drop (e - a) (drop a xs)) a (length-take-le a xs (omega arith)))
      (take_at ys (drop (e - a) (drop a xs)) m (l ∙ sym p))

  within : (b m : ℕ) (zs : List ℕ) → b + m ≤ a → a ≤ length zs → take m (drop b zs) ≡ take m (drop b (take a zs))
  within b m zs p q =
      let t : length (take a zs) ≡ a = length-take-le a zs q in
      let u : length (drop b (take a zs)) ≡ a - b = length-drop b (take a zs) ∙ ap (λ (n : ℕ). n - b) t in
      ap (λ (l : List ℕ). take m (drop b l)) (sym (take-append-drop a zs))
      ∙ ap (take m) (drop-append-le b (take a zs) (drop a zs) (omega arith))
      ∙ take-append-le m (drop b (take a zs)) (drop a zs) (omega arith)

  -- a part before it
  pub put_before : (b m : ℕ) → b + m ≤ a → take m (drop b put) ≡ take m (drop b xs)
  put_before b m p =
      let n : length put ≡ length xs = put-long in
      within b m put p (omega arith)
      ∙ ap (λ (l : List ℕ). take m (drop b l)) (take_at (take a xs) (ys ++ drop (e - a) (drop a xs)) a (length-take-le a xs (omega arith)))
      ∙ sym (within b m xs p (omega arith))

  -- a part after it
  pub put-after : (b m : ℕ) → e ≤ b → take m (drop b put) ≡ take m (drop b xs)
  put-after b m p =
      let g : a + (e - a) ≡ e = omega arith in
      let f : e + (b - e) ≡ b = omega arith in
      let t : length (take a xs ++ ys) ≡ e = length-append (take a xs) ys ∙ omega (arith, length-take-le a xs (omega arith)) in
      let d : drop e put ≡ drop e xs =
      ap (drop e) (sym (append_assoc (take a xs) ys (drop (e - a) (drop a xs))))
      ∙ drop_at (take a xs ++ ys) (drop (e - a) (drop a xs)) e t ∙ drop-drop (e - a) a xs ∙ ap (λ (n : ℕ). drop n xs) g in
      ap (take m)
      (ap (λ (n : ℕ). drop n put) (sym f) ∙ sym (drop-drop (b - e) e put) ∙ ap (drop (b - e)) d ∙ drop-drop (b - e) e xs
      ∙ ap (λ (n : ℕ). drop n xs) f)
