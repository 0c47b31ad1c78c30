-- Some positions of a table taken out, changed and put back: loading, storing, and a loop over the whole table. Assumes nothing.
use Prim.Native.Nat.{ℕ, ◌+◌, ◌-◌, ◌*◌, ◌≤◌, ◌<◌}
use native.Mathlib.Omega.{arith}
use mathlib.Core.Path.{◌≡◌, sym, ap, ap₂, ◌∙◌}
use mathlib.Core.List.{List, ◌++◌, append_assoc, append-nil}
use lib.ListN.{length, take, drop, length-append, length-drop, drop_of_length-le}
use lib.Seq.{take_at, drop_at, take_all, drop-drop, take-add, length-take-le}
use Rattle.lists.specs.Lists.{chunk}
use Rattle.lists.proofs.Chunks.{apart, chunk_in, length-chunk}
use Rattle.lists.proofs.Joined.{Each, length-joined, chunk-joined, joined_cong, joined_chunks}
use Rattle.lists.proofs.Parts.{length_part, part_of-chunk}
use Rattle.rep3.specs.Tables.{six_parts}
use Rattle.chain.specs.Chain.{most_inversion}
use Rattle.chain.specs.declared.Positions.{Positions}
use Rattle.chida.specs.Positions.{cut, pasted, stored}
use Rattle.chida.proofs.Cut.{chunk-cut}

-- ---- one turn of a loop over the six parts

pub record Ranges (n s m k : ℕ) : Type 0 where
  pub small : k * m + m ≤ 6 * m
  pub large : k * n + n ≤ 6 * n
  pub within : s + m ≤ n
  pub most : n ≤ 65536

pub ranges : (n s m k : ℕ) → s + m ≤ n → n ≤ most_inversion → k < 6 → Ranges n s m k
unfolding most_inversion
ranges n s m k w l h = record { small = apart m k 6 h; large = apart n k 6 h; within = w; most = l }

pub ranges_of : (at : Positions) (k : ℕ) → k < 6 → Ranges at.layer at.from at.count k
ranges_of at k h = ranges at.layer at.from at.count k at.within at.most h

-- what is loaded of part k
pub loaded : (n s m k c d : ℕ) (t : List ℕ) → c ≡ k * n + s → d ≡ c + m → s + m ≤ n → take (d - c) (drop c t) ≡ take m (drop s (chunk n k t))
loaded n s m k c d t pc pd h =
    let e : d - c ≡ m = omega arith in
    rw (e, pc) (sym (part_of-chunk s m n k t h))

-- ---- ys put into zs from s

pub length-pasted : (s : ℕ) (ys zs : List ℕ) → s + length ys ≤ length zs → length (pasted s ys zs) ≡ length zs
unfolding pasted
length-pasted s ys zs h =
    length-append (take s zs) _
    ∙ omega (arith, length-append ys (drop (length ys) (drop s zs)), length-take-le s zs (omega arith), length-drop (length ys) (drop s zs), length-drop s zs)

pub pasted-is : (s e : ℕ) (ys zs : List ℕ) → e ≡ s + length ys → take s zs ++ (ys ++ drop (e - s) (drop s zs)) ≡ pasted s ys zs
unfolding pasted
pasted-is s e ys zs p = let d : e - s ≡ length ys = omega arith in rw d

-- ---- a table whose positions below s are those of new, and whose others are those of old

abbrev pub up_to : ℕ → ℕ → List ℕ → List ℕ → ℕ → List ℕ
up_to n s new old k = take s (chunk n k new) ++ drop s (chunk n k old)

module _ (n : ℕ) (new old : List ℕ) (ln : length new ≡ 6 * n) (lo : length old ≡ 6 * n) where
  new-long : (k : ℕ) → k < 6 → length (chunk n k new) ≡ n
  new-long k h = length-chunk n k new (chunk_in n k 6 (length new) ln h)

  old-long : (k : ℕ) → k < 6 → length (chunk n k old) ≡ n
  old-long k h = length-chunk n k old (chunk_in n k 6 (length old) lo h)

  abbrev pub Upto : ℕ → List ℕ → Type 0
  Upto s cur = (s ≤ n) × (cur ≡ six_parts (up_to n s new old))

  front_long : (s k : ℕ) → s ≤ n → k < 6 → length (take s (chunk n k new)) ≡ s
  front_long s k h g = length-take-le s (chunk n k new) (omega (arith, new-long k g))

  up_to-long : (s : ℕ) → s ≤ n → Each n 6 (up_to n s new old)
  up_to-long s h k g =
      length-append (take s (chunk n k new)) (drop s (chunk n k old))
      ∙ omega (arith, front_long s k h g, length-drop s (chunk n k old), old-long k g)

  pub upto-long : (s : ℕ) (cur : List ℕ) → Upto s cur → length cur ≡ 6 * n
  upto-long s cur u = ap length u.1 ∙ length-joined n 6 (up_to n s new old) (up_to-long s u.0)

  pub upto_start : Upto 0 old
  upto_start = (omega arith, sym (joined_chunks n 6 old lo))

  pub upto_end : (s : ℕ) (cur : List ℕ) → Upto s cur → n ≤ s → cur ≡ new
  upto_end s cur u h =
      u.1 ∙ joined_cong 6 _ _ (λ k g. at_end k g) ∙ joined_chunks n 6 new ln
    where
      at_end : (k : ℕ) → k < 6 → up_to n s new old k ≡ chunk n k new
      at_end k g =
          let l : length (chunk n k old) ≤ s = omega (arith, old-long k g) in
          ap₂ ◌++◌ (take_all s (chunk n k new) (omega (arith, new-long k g))) (drop_of_length-le (chunk n k old) l) ∙ append-nil (chunk n k new)

  module _ (s m : ℕ) (cur : List ℕ) (u : Upto s cur) (h : s + m ≤ n) where
    part_of : (k : ℕ) → k < 6 → chunk n k cur ≡ up_to n s new old k
    part_of k g = ap (chunk n k) u.1 ∙ chunk-joined n 6 (up_to n s new old) (up_to-long s u.0) k g

    rest_of : (k : ℕ) → k < 6 → drop s (chunk n k cur) ≡ drop s (chunk n k old)
    rest_of k g = ap (drop s) (part_of k g) ∙ drop_at (take s (chunk n k new)) (drop s (chunk n k old)) s (front_long s k u.0 g)

    -- what is still to be changed is as it was
    pub upto-cut : cut n s m cur ≡ cut n s m old
    unfolding cut
    upto-cut = joined_cong 6 _ _ (λ k g. ap (take m) (rest_of k g))

    -- the positions from s are changed, and put back
    pub upto-more : (x : List ℕ) → x ≡ cut n s m new → Upto (s + m) (stored n s m x cur)
    unfolding stored pasted
    upto-more x e = (h, joined_cong 6 _ _ (λ k g. at_part k g))
      where
        at_part : (k : ℕ) → k < 6 → take s (chunk n k cur) ++ (chunk m k x ++ drop (length (chunk m k x)) (drop s (chunk n k cur))) ≡ up_to n (s + m) new old k
        at_part k g =
            let xk : chunk m k x ≡ take m (drop s (chunk n k new)) = ap (chunk m k) e ∙ chunk-cut n s m h new ln k g in
            let lk : length (chunk m k x) ≡ m = ap length xk ∙ length_part s m (chunk n k new) (omega (arith, new-long k g)) in
            ap₂ ◌++◌ (ap (take s) (part_of k g) ∙ take_at (take s (chunk n k new)) (drop s (chunk n k old)) s (front_long s k u.0 g))
            (ap₂ ◌++◌ xk (ap (λ (i : ℕ). drop i (drop s (chunk n k cur))) lk ∙ ap (drop m) (rest_of k g) ∙ drop-drop m s (chunk n k old)))
            ∙ sym (append_assoc (take s (chunk n k new)) (take m (drop s (chunk n k new))) (drop (s + m) (chunk n k old)))
            ∙ ap (λ (l : List ℕ). l ++ drop (s + m) (chunk n k old)) (sym (take-add s m (chunk n k new)))
