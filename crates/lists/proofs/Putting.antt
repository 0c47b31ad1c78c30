-- The invariant of `for k in 0..n { g(&mut xs[k * m..k * m + m], ..); }`, where g leaves G k in chunk k whatever it needs for that, with
-- what a turn and the end ask. Assumes nothing.
use Prim.Native.Nat.{ℕ, ◌+◌, ◌-◌, ◌*◌, ◌≤◌, ◌<◌}
use native.Mathlib.Omega.{arith}
use mathlib.Core.Path.{◌≡◌, refl, sym, ◌∙◌}
use mathlib.Core.List.{List, ◌++◌}
use borrow.Author.Count.{below_more, below_none}
use lib.ListN.{length, take, drop}
use Rattle.lists.specs.Lists.{chunk, joined}
use Rattle.lists.proofs.Puts.{put-long}
use Rattle.lists.proofs.Chunks.{chunk_in, put-chunk, put_other}
use Rattle.lists.proofs.Joined.{joined_chunks, joined_cong}

-- cur is old after k turns: its chunks below k are new, and the others as they were
pub record Putting (m n : ℕ) (G : ℕ → List ℕ) (old : List ℕ) (k : ℕ) (cur : List ℕ) : Type 0 where
  pub turns : k ≤ n
  pub long : length cur ≡ n * m
  pub new : (i : ℕ) → i < k → chunk m i cur ≡ G i
  pub rest : (i : ℕ) → k ≤ i → chunk m i cur ≡ chunk m i old

module _ (m n : ℕ) (G : ℕ → List ℕ) (old : List ℕ) where
  pub putting_start : length old ≡ n * m → Putting m n G old 0 old
  putting_start l = record { turns = omega arith; long = l; new = below_none _; rest = λ i h. refl }

  module _ (k : ℕ) (cur : List ℕ) (p : Putting m n G old k cur) where
    -- a turn: the chunk from a to e was lent, and came back as ys
    pub putting-more : (a e : ℕ) (ys : List ℕ) → k < n → a ≡ k * m → e ≡ a + m → length ys ≡ m → ys ≡ G k
        → Putting m n G old (k + 1) (take a cur ++ (ys ++ drop (e - a) (drop a cur)))
    putting-more a e ys h pa pe l y =
        let w : e ≤ length cur = omega (arith, chunk_in m k n (length cur) p.long h) in
        record {
          turns = omega arith;
          long = put-long a e cur ys (omega arith) w (omega arith) ∙ p.long;
          new = below_more (λ (i : ℕ). chunk m i (take a cur ++ (ys ++ drop (e - a) (drop a cur))) ≡ G i) k
              (λ i g. put_other m k a e cur ys pa pe w l i (λ z. omega arith) ∙ p.new i g)
              (put-chunk m k a e cur ys pa pe w l ∙ y);
          rest = λ i g. put_other m k a e cur ys pa pe w l i (λ z. omega arith) ∙ p.rest i (omega arith);
        }

    pub putting_end : n ≤ k → cur ≡ joined n G
    putting_end h = sym (joined_chunks m n cur p.long) ∙ joined_cong n _ _ (λ i l. p.new i (omega arith))
