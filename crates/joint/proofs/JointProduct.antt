-- The joint product from its steps: three outboxes, an exchange of their messages, and the product's six parts. Assumes nothing.
use Prim.Native.Nat.{ℕ, zero, suc, ◌+◌, ◌*◌, ◌-◌, ◌/◌, ◌≤◌, ◌<◌}
use native.Mathlib.Nat.{sub-zero}
use native.Mathlib.Omega.{arith}
use mathlib.Core.Path.{◌≡◌, sym, ap, ◌∙◌}
use mathlib.Core.List.{List, ◌++◌}
use Rattle.std.proofs.lemmas.Bool.Decides.{nat_tests}
use lib.ListN.{length, take, drop}
use lib.Seq.{take_at}
use Rattle.lists.specs.Lists.{chunk}
use Rattle.lists.proofs.Tabs.{length-tab}
use Rattle.lists.proofs.Puts.{part-long as lent-long, put-long}
use Rattle.lists.proofs.Joined.{Each, chunk-joined, length-joined, joined_cong, by_chunks}
use Rattle.rep3.specs.Tables.{six_parts, si_part, sii_part, share_of}
use Rattle.halves.specs.Product.{first_half, sent, product_of}
use Rattle.joint.specs.Joint.{joint_number, space_size, TablesFit, Exchanged, three, drawn}
use Rattle.halves.proofs.OpensProduct.{share_of_lt}

-- ---- an outbox of which the first n bytes were written

pub length-first_half : (n : ℕ) (ai aii bi bii alphas : List ℕ) → length (first_half n ai aii bi bii alphas) ≡ n
unfolding first_half
length-first_half n ai aii bi bii alphas = length-tab n _

pub box_front : (n : ℕ) (ys o : List ℕ) → length ys ≡ n → take (n - 0) (ys ++ drop (n - 0) o) ≡ ys
box_front n ys o l = rw sub-zero (take_at ys (drop n o) n l)

pub box_read : (n : ℕ) (ys o : List ℕ) → length ys ≡ n → length (take (n - 0) (ys ++ drop (n - 0) o)) ≡ n
box_read n ys o l = ap length (box_front n ys o l) ∙ l

pub box-long : (n : ℕ) (ys o : List ℕ) → length ys ≡ n → length o ≡ space_size → n ≤ space_size → length (ys ++ drop (n - 0) o) ≡ space_size
box-long n ys o l e h = put-long 0 n o ys (omega arith) (omega (arith, e)) (omega (arith, l)) ∙ e

pub box-part : (n : ℕ) (o : List ℕ) → length o ≡ space_size → n ≤ space_size → length (take (n - 0) o) ≡ n
box-part n o l h = lent-long n 0 n o (omega arith) (omega (arith, l))

-- the same of a table of six parts

pub table-part : (m : ℕ) (o : List ℕ) → length o ≡ 6 * space_size → m ≤ space_size → length (take (6 * m - 0) o) ≡ 6 * m
table-part m o l h = lent-long (6 * m) 0 (6 * m) o (omega arith) (omega (arith, l))

pub table-long : (m : ℕ) (ys o : List ℕ) → length ys ≡ 6 * m → length o ≡ 6 * space_size → m ≤ space_size
    → length (ys ++ drop (6 * m - 0) o) ≡ 6 * space_size
table-long m ys o l e h = put-long 0 (6 * m) o ys (omega arith) (omega (arith, e)) (omega (arith, l)) ∙ e

-- ---- what belongs to one of three parties, and to one of six parts

pub three_cases : (P : ℕ → Type 0) → P 0 → P 1 → P 2 → (p : ℕ) → p < 3 → P p
three_cases P a b c zero h = a
three_cases P a b c (suc zero) h = b
three_cases P a b c (suc (suc zero)) h = c
three_cases P a b c (suc (suc (suc p))) h = absurd (omega arith)

pub six_cases : (P : ℕ → Type 0) → P 0 → P 1 → P 2 → P 3 → P 4 → P 5 → (k : ℕ) → k < 6 → P k
six_cases P a b c d e f zero h = a
six_cases P a b c d e f (suc zero) h = b
six_cases P a b c d e f (suc (suc zero)) h = c
six_cases P a b c d e f (suc (suc (suc k))) h = three_cases (λ (i : ℕ). P (suc (suc (suc i)))) d e f k (omega arith)

-- ---- after the exchange

module _ (n : ℕ) (c0 c1 c2 : List ℕ) (l0 : length c0 ≡ n) (l1 : length c1 ≡ n) (l2 : length c2 ≡ n) where
  abbrev part : ℕ → List ℕ
  part k = three c0 c1 c2 (share_of k)

  part-long : Each n 6 part
  part-long k h = three_cases (λ (p : ℕ). length (three c0 c1 c2 p) ≡ n) l0 l1 l2 (share_of k) (share_of_lt k)

  pub all-exchanged : (o o1 o2 o3 : List ℕ) → length o3 ≡ 6 * n
      → Exchanged n 0 c0 c1 o o1 → Exchanged n 1 c1 c2 o1 o2 → Exchanged n 2 c2 c0 o2 o3 → o3 ≡ six_parts part
  unfolding share_of
  all-exchanged o o1 o2 o3 l e0 e1 e2 =
      by_chunks n 6 o3 (six_parts part) l (length-joined n 6 part part-long)
      (λ k h. six_cases (λ (k : ℕ). chunk n k o3 ≡ part k)
      (e2.others 0 (λ d. omega arith) (λ d. omega arith) ∙ e1.others 0 (λ d. omega arith) (λ d. omega arith) ∙ e0.si)
      (e2.others 1 (λ d. omega arith) (λ d. omega arith) ∙ e1.others 1 (λ d. omega arith) (λ d. omega arith) ∙ e0.sii)
      (e2.others 2 (λ d. omega arith) (λ d. omega arith) ∙ e1.si)
      (e2.others 3 (λ d. omega arith) (λ d. omega arith) ∙ e1.sii)
      e2.si e2.sii k h
      ∙ sym (chunk-joined n 6 part part-long k h))

-- ---- three first halves, exchanged, are the product

module _ (n place : ℕ) (x y a0 a1 a2 c0 c1 c2 : List ℕ) where
  abbrev half_of : ℕ → List ℕ → List ℕ
  half_of p a = first_half n (si_part n p x) (sii_part n p x) (si_part n p y) (sii_part n p y) (take (place + n - place) (drop place a))

  pub product-sent : c0 ≡ half_of 0 a0 → c1 ≡ half_of 1 a1 → c2 ≡ half_of 2 a2
      → six_parts (λ k. three c0 c1 c2 (share_of k)) ≡ product_of n x y (drawn place n (three a0 a1 a2))
  unfolding product_of sent
  product-sent e0 e1 e2 =
      let d : place + n - place ≡ n = omega arith in
      joined_cong 6 _ _ (λ k h.
      three_cases (λ (p : ℕ). three c0 c1 c2 p ≡ sent n x y (drawn place n (three a0 a1 a2)) p)
      (e0 ∙ ap (λ (m : ℕ). first_half n (si_part n 0 x) (sii_part n 0 x) (si_part n 0 y) (sii_part n 0 y) (take m (drop place a0))) d)
      (e1 ∙ ap (λ (m : ℕ). first_half n (si_part n 1 x) (sii_part n 1 x) (si_part n 1 y) (sii_part n 1 y) (take m (drop place a1))) d)
      (e2 ∙ ap (λ (m : ℕ). first_half n (si_part n 2 x) (sii_part n 2 x) (si_part n 2 y) (sii_part n 2 y) (take m (drop place a2))) d)
      (share_of k) (share_of_lt k))

-- ---- lengths that are not refused

pub joint_fits : (out x y a0 a1 a2 place : ℕ) → joint_number out x y a0 a1 a2 place ≡ 0 → TablesFit (out / 6) place out x y a0 a1 a2
unfolding joint_number
joint_fits out x y a0 a1 a2 place e =
    record {
      space = grind (arith, nat_tests);
      out = grind (arith, nat_tests);
      left = grind (arith, nat_tests);
      right = grind (arith, nat_tests);
      first = grind (arith, nat_tests);
      second = grind (arith, nat_tests);
      third = grind (arith, nat_tests);
    }

-- and the other way round
pub fits_joint : (m place out x y a0 a1 a2 : ℕ) → TablesFit m place out x y a0 a1 a2 → a1 ≡ a0 → a2 ≡ a0
    → (out / 6 ≡ m) × (joint_number out x y a0 a1 a2 place ≡ 0)
unfolding joint_number
fits_joint m place out x y a0 a1 a2 f g h = (grind (arith, nat_tests), grind (arith, nat_tests))
