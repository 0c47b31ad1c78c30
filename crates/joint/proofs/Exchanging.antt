-- What the steps of a joint product need and leave: a party's parts of the tables, its message, and the six parts after the exchange.
-- Assumes nothing.
use Prim.Native.Nat.{ℕ, ◌+◌, ◌*◌, ◌-◌, ◌≤◌, ◌<◌}
use native.Mathlib.Nat.{mul-le-mul_right, add-mul}
use native.Mathlib.Omega.{arith}
use mathlib.Core.Path.{◌≡◌, sym, ap, ◌∙◌}
use mathlib.Core.List.{List, ◌++◌}
use borrow.Author.Tests.{le-leb}
use lib.ListN.{length, take, drop}
use lib.Seq.{take_all}
use Rattle.lists.specs.Lists.{chunk}
use Rattle.lists.proofs.Puts.{part-long, put-long}
use Rattle.lists.proofs.Chunks.{part-chunk, put-chunk, put_other}
use Rattle.rep3.specs.Shares.{part_of, message_of}
use Rattle.rep3.specs.Tables.{si_part, sii_part}
use Rattle.halves.specs.Product.{most_product, first_half, mul_number, take_number}
use Rattle.joint.specs.Joint.{space_size, PartyFits, Exchanged}
use Rattle.halves.proofs.Fits.{alike_zero, take_zero}

-- the two parts of party p lie within a table of n positions, which is small
pub parts_in : (n p o x y k : ℕ) → PartyFits n p o x y k → (2 * p * n + n + n ≤ 6 * n) × (n ≤ 256)
unfolding space_size
parts_in n p o x y k f =
    let h : p < 3 = f.party in
    let w : (2 * p + 2) * n ≤ 6 * n = mul-le-mul_right n (omega arith) in
    (omega (arith, add-mul (2 * p) 2 n), f.space)

space-most : (n : ℕ) → n ≤ space_size → n ≤ most_product
unfolding space_size most_product
space-most n h = omega arith

second_at : (n p b : ℕ) → b ≡ 2 * p * n + n → b ≡ (2 * p + 1) * n
second_at n p b e = omega (arith, add-mul (2 * p) 1 n)

-- party p's parts of a table t, from a to b and from b to e
module _ (n p a b e : ℕ) (pa : a ≡ 2 * p * n) (pb : b ≡ a + n) (pe : e ≡ b + n) where
  si_part_lem : (t : List ℕ) → take (b - a) (drop a t) ≡ si_part n p t
  si_part_lem t = part-chunk n (2 * p) a b t pa pb

  sii_part_lem : (t : List ℕ) → take (e - b) (drop b t) ≡ sii_part n p t
  sii_part_lem t = part-chunk n (2 * p + 1) b e t (second_at n p b (omega arith)) pe

  -- a party's first half of its parts is not refused, and is what the promise says
  pub send_zero : (x y : List ℕ) (o k : ℕ) → PartyFits n p o (length x) (length y) k
      → mul_number o (length (take (b - a) (drop a x))) (length (take (e - b) (drop b x))) (length (take (b - a) (drop a y))) (length (take (e - b) (drop b y))) k ≡ 0
  send_zero x y o k f =
      let w = parts_in n p _ _ _ _ f in
      let q : o ≡ n = f.outbox in
      let u : length x ≡ 6 * n = f.left in
      let v : length y ≡ 6 * n = f.right in
      alike_zero _ _ _ _ _ _ (record {
        first = part-long n a b x pb (omega arith) ∙ sym q;
        second = part-long n b e x pe (omega arith) ∙ sym q;
        third = part-long n a b y pb (omega arith) ∙ sym q;
        fourth = part-long n b e y pe (omega arith) ∙ sym q;
        fifth = f.message ∙ sym q;
        most = rw q (space-most n f.space);
      })

  pub send-is : (x y alphas : List ℕ) (o : ℕ) → o ≡ n
      → first_half o (take (b - a) (drop a x)) (take (e - b) (drop b x)) (take (b - a) (drop a y)) (take (e - b) (drop b y)) alphas
      ≡ first_half n (si_part n p x) (sii_part n p x) (si_part n p y) (sii_part n p y) alphas
  send-is x y alphas o q = rw (q, si_part_lem x, sii_part_lem x, si_part_lem y, sii_part_lem y)

  -- what party p takes of an outbox is not refused
  pub take_own : (out : List ℕ) (k : ℕ) → length out ≡ 6 * n → n ≤ space_size → 2 * p * n + n + n ≤ 6 * n → k ≡ n
      → take_number (length (take (b - a) (drop a out))) k ≡ 0
  take_own out k l s h q =
      let d : length (take (b - a) (drop a out)) ≡ n = part-long n a b out pb (omega arith) in
      take_zero _ _ (rw d (space-most n s)) (q ∙ sym d)

  pub take_next : (out : List ℕ) (k : ℕ) → length out ≡ 6 * n → n ≤ space_size → 2 * p * n + n + n ≤ 6 * n → k ≡ n
      → take_number (length (take (e - b) (drop b out))) k ≡ 0
  take_next out k l s h q =
      let d : length (take (e - b) (drop b out)) ≡ n = part-long n b e out pe (omega arith) in
      take_zero _ _ (rw d (space-most n s)) (q ∙ sym d)

  -- the two takes
  pub exchanged : (out own next : List ℕ) → length out ≡ 6 * n → 2 * p * n + n + n ≤ 6 * n → length own ≡ n → length next ≡ n → (o1 : List ℕ)
      → o1 ≡ take a out ++ (own ++ drop (b - a) (drop a out)) → Exchanged n p own next out (take b o1 ++ (next ++ drop (e - b) (drop b o1)))
  exchanged out own next l h lo ln o1 z =
      let m : length o1 ≡ 6 * n = ap length z ∙ put-long a b out own (omega arith) (omega arith) (omega arith) ∙ l in
      let sb : b ≡ (2 * p + 1) * n = second_at n p b (omega arith) in
      let first : (j : ℕ) → (j ≡ 2 * p → ⊥) → chunk n j o1 ≡ chunk n j out =
      λ j d. ap (chunk n j) z ∙ put_other n (2 * p) a b out own pa pb (omega arith) lo j d in
      let own' : chunk n (2 * p) o1 ≡ own = ap (chunk n (2 * p)) z ∙ put-chunk n (2 * p) a b out own pa pb (omega arith) lo in
      record {
        si = put_other n (2 * p + 1) b e o1 next sb pe (omega arith) ln (2 * p) (λ d. omega arith) ∙ own';
        sii = put-chunk n (2 * p + 1) b e o1 next sb pe (omega arith) ln;
        others = λ j d d'. put_other n (2 * p + 1) b e o1 next sb pe (omega arith) ln j d' ∙ first j d;
      }

-- the message of the next party's outbox, whole
pub message-next : (n : ℕ) (next previous : List ℕ) → length next ≡ n → message_of next previous 0 0 n ≡ next
unfolding message_of part_of
message-next n next previous l =
    let h : 0 + n ≤ length next = omega arith in
    simp (le-leb (0 + n) (length next) h) (take_all n next (omega arith))
