-- What the steps of an inversion need and leave: lengths that fit, and the chain from its powers. Assumes nothing.
use Prim.Native.Nat.{ℕ, ◌+◌, ◌-◌, ◌*◌, ◌/◌, ◌≤◌}
use native.Mathlib.Nat.{zero-mul, one-mul, zero-add}
use native.Mathlib.Omega.{arith}
use mathlib.Core.Path.{◌≡◌, sym, ap, ◌∙◌}
use mathlib.Core.List.{List, map}
use lib.ListN.{length, take}
use Rattle.lists.proofs.Puts.{part-long}
use Rattle.rep3.proofs.Refusals.{step-done}
use Rattle.std.proofs.lemmas.Bool.Decides.{nat_tests}
use Rattle.fips197.specs.Field.{square}
use Rattle.halves.specs.Product.{product_of}
use Rattle.chain.specs.Chain.{chain_of, inversion_need, most_inversion}
use Rattle.chain.specs.Powers.{AlphasFit, chain_number}
use Rattle.chain.specs.declared.Positions.{Positions}
use Rattle.joint.specs.Joint.{joint_number, space_size, TablesFit, three, drawn}
use Rattle.joint.proofs.JointProduct.{fits_joint}
use Rattle.std.specs.Prelude.{Ok}
use Rattle.rep3.specs.Answers.{Answer, number_of, when_done}

-- m positions of n from s, and each party's alphas for all n, as numbers
pub record Counted (n s m a0 a1 a2 : ℕ) : Type 0 where
  pub space : m ≤ space_size
  pub within : s + m ≤ n
  pub most : n ≤ 65536
  pub first : a0 ≡ 4 * n
  pub second : a1 ≡ 4 * n
  pub third : a2 ≡ 4 * n

pub counted : (at : Positions) (a0 a1 a2 : ℕ) → AlphasFit at.layer a0 a1 a2 → Counted at.layer at.from at.count a0 a1 a2
unfolding inversion_need most_inversion
counted at a0 a1 a2 f =
    record { space = at.space; within = at.within; most = at.most; first = f.first; second = f.second; third = f.third }

-- tables of m positions, and their alphas from a place that leaves m
pub tables_fit : (n s m place o x y a0 a1 a2 : ℕ) → Counted n s m a0 a1 a2 → o ≡ 6 * m → x ≡ 6 * m → y ≡ 6 * m → place + m ≤ 4 * n
    → TablesFit m place o x y a0 a1 a2
tables_fit n s m place o x y a0 a1 a2 f po px py h =
    record {
      space = f.space;
      out = po;
      left = px;
      right = py;
      first = omega (arith, f.first);
      second = omega (arith, f.second);
      third = omega (arith, f.third);
    }

-- none of the chain's products is refused: its tables have m positions, and the layer's 4 n alphas leave m from the place
pub product-done : (n s m place : ℕ) (r : Answer) (out x y a0 a1 a2 new : List ℕ) → Counted n s m (length a0) (length a1) (length a2)
    → length out ≡ 6 * m → length x ≡ 6 * m → length y ≡ 6 * m → place + m ≤ 4 * n
    → number_of r ≡ joint_number (length out) (length x) (length y) (length a0) (length a1) (length a2) place
    → new ≡ when_done (number_of r) (product_of (length out / 6) x y (drawn place (length out / 6) (three a0 a1 a2))) out
    → (r ≡ Ok tt) × (new ≡ product_of m x y (drawn place m (three a0 a1 a2)))
product-done n s m place r out x y a0 a1 a2 new f lo lx ly h e g =
    let t = tables_fit n s m place _ _ _ _ _ _ f lo lx ly h in
    let j = fits_joint m place (length out) (length x) (length y) (length a0) (length a1) (length a2) t (f.second ∙ sym f.first) (f.third ∙ sym f.first) in
    let d = step-done r _ _ out new j.1 e g in
    (d.0, rw j.0 at d.1)

-- the chain, from what each of its steps left
chain_made : (m n s : ℕ) (a : ℕ → List ℕ) (x x2 x3 x6 x12 x15 x14 x240 r : List ℕ)
    → x2 ≡ map square x → x3 ≡ product_of m x x2 (drawn s m a) → x6 ≡ map square x3 → x12 ≡ map square x6
    → x15 ≡ product_of m x12 x3 (drawn (n + s) m a) → x14 ≡ product_of m x12 x2 (drawn (2 * n + s) m a)
    → x240 ≡ map square (map square (map square (map square x15))) → r ≡ product_of m x240 x14 (drawn (3 * n + s) m a)
    → r ≡ chain_of m (λ u. drawn (u * n + s) m a) x
unfolding chain_of
chain_made m n s a x x2 x3 x6 x12 x15 x14 x240 r e2 e3 e6 e12 e15 e14 e240 er =
    let z : 0 * n + s ≡ s = ap (λ (k : ℕ). k + s) (zero-mul n) ∙ zero-add s in
    let o : 1 * n + s ≡ n + s = ap (λ (k : ℕ). k + s) (one-mul n) in
    rw (er, e240, e15, e14, e12, e6, e3, e2, z, o)

pub chained : (m n s : ℕ) (a0 a1 a2 x x2 x3 x6 x12 x15 x14 x240 r : List ℕ)
    → x2 ≡ map square x → x3 ≡ product_of m x x2 (drawn s m (three a0 a1 a2)) → x6 ≡ map square x3 → x12 ≡ map square x6
    → x15 ≡ product_of m x12 x3 (drawn (n + s) m (three a0 a1 a2)) → x14 ≡ product_of m x12 x2 (drawn (2 * n + s) m (three a0 a1 a2))
    → x240 ≡ map square (map square (map square (map square x15))) → r ≡ product_of m x240 x14 (drawn (3 * n + s) m (three a0 a1 a2))
    → r ≡ chain_of m (λ u. drawn (u * n + s) m (three a0 a1 a2)) x
chained m n s a0 a1 a2 = chain_made m n s (three a0 a1 a2)

-- ---- lengths that are not refused

pub chain_fits : (x a0 a1 a2 n s : ℕ) → chain_number x a0 a1 a2 n s ≡ 0 → (x ≡ 6 * (x / 6)) × Counted n s (x / 6) a0 a1 a2
unfolding chain_number inversion_need most_inversion
chain_fits x a0 a1 a2 n s e = (
  grind (arith, nat_tests),
  record {
    space = grind (arith, nat_tests);
    within = grind (arith, nat_tests);
    most = grind (arith, nat_tests);
    first = grind (arith, nat_tests);
    second = grind (arith, nat_tests);
    third = grind (arith, nat_tests);
  },
)

-- and the other way round
pub fits-chain : (m x a0 a1 a2 n s : ℕ) → x ≡ 6 * m → Counted n s m a0 a1 a2 → (x / 6 ≡ m) × (chain_number x a0 a1 a2 n s ≡ 0)
unfolding chain_number inversion_need most_inversion
fits-chain m x a0 a1 a2 n s e f = (grind (arith, nat_tests), grind (arith, nat_tests))

-- the first x bytes of a table of as many positions as are inverted at a time
pub table_front : (x m : ℕ) (o : List ℕ) → x ≡ 6 * m → length o ≡ 1536 → m ≤ space_size → length (take (x - 0) o) ≡ 6 * m
unfolding space_size
table_front x m o e l h = part-long (6 * m) 0 x o (omega (arith, e)) (omega (arith, l))

-- such an inversion is not refused
pub inverted : (m n s : ℕ) (r : Answer) (x a0 a1 a2 new : List ℕ) → length x ≡ 6 * m → Counted n s m (length a0) (length a1) (length a2)
    → number_of r ≡ chain_number (length x) (length a0) (length a1) (length a2) n s
    → new ≡ when_done (number_of r) (chain_of (length x / 6) (λ u. drawn (u * n + s) (length x / 6) (three a0 a1 a2)) x) x
    → (r ≡ Ok tt) × (new ≡ chain_of m (λ u. drawn (u * n + s) m (three a0 a1 a2)) x)
inverted m n s r x a0 a1 a2 new l f e g =
    let j = fits-chain m (length x) (length a0) (length a1) (length a2) n s l f in
    let d = step-done r _ _ x new j.1 e g in
    (d.0, rw j.0 at d.1)
