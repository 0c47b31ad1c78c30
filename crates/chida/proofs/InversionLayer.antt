-- A whole inversion from its positions: the lengths that are not refused, and the loop over the table. Assumes nothing.
use Prim.Native.Nat.{ℕ, ◌+◌, ◌-◌, ◌*◌, ◌/◌, ◌≤◌, ◌<◌}
use native.Mathlib.Omega.{arith}
use mathlib.Core.Path.{◌≡◌, sym, ap, ◌∙◌}
use mathlib.Core.List.{List}
use lib.ListN.{length, take, drop}
use Rattle.std.proofs.lemmas.Bool.Decides.{nat_tests}
use Rattle.lists.specs.Lists.{chunk}
use Rattle.lists.proofs.Puts.{part-long}
use Rattle.lists.proofs.Chunks.{apart, part-chunk}
use Rattle.chain.specs.Chain.{chain_of, inversion_need, most_inversion}
use Rattle.chida.specs.Inversion.{inversion_of, inversion_number}
use Rattle.joint.specs.Joint.{three, drawn}
use Rattle.chida.specs.Positions.{parties_number, cut, stored}
use Rattle.chida.proofs.OpensInversion.{length-inversion_of}
use Rattle.chida.proofs.Cut.{cut_inversion, chain-alphas}
use Rattle.joint.proofs.JointProduct.{three_cases}
use Rattle.chida.proofs.Positions.{Upto, upto_start, upto-cut, upto-more, upto_end, upto-long}

-- ---- lengths

pub record PartiesFit (n t a0 a1 a2 : ℕ) : Type 0 where
  pub table : t ≡ 6 * n
  pub most : n ≤ most_inversion
  pub first : a0 ≡ inversion_need n
  pub second : a1 ≡ inversion_need n
  pub third : a2 ≡ inversion_need n

pub parties_fit : (t a0 a1 a2 : ℕ) → parties_number t a0 a1 a2 ≡ 0 → PartiesFit (t / 6) t a0 a1 a2
unfolding parties_number
parties_fit t a0 a1 a2 e =
    record {
      table = grind (arith, nat_tests);
      most = grind (arith, nat_tests);
      first = grind (arith, nat_tests);
      second = grind (arith, nat_tests);
      third = grind (arith, nat_tests);
    }

-- the thirds of a buffer that is not refused are not refused
pub record BufferFits (n t k : ℕ) : Type 0 where
  pub table : t ≡ 6 * n
  pub most : n ≤ 65536
  pub alphas : k ≡ 3 * (4 * n)

pub buffer_fits : (t k : ℕ) → inversion_number t k ≡ 0 → BufferFits (t / 6) t k
unfolding inversion_number inversion_need most_inversion
buffer_fits t k e =
    record {
      table = grind (arith, nat_tests);
      most = grind (arith, nat_tests);
      alphas = grind (arith, nat_tests);
    }

pub thirds_zero : (n t a0 a1 a2 k : ℕ) → n ≡ t / 6 → BufferFits n t k → a0 ≡ 4 * n → a1 ≡ 4 * n → a2 ≡ 4 * n → parties_number t a0 a1 a2 ≡ 0
unfolding parties_number inversion_need most_inversion
thirds_zero n t a0 a1 a2 k e f p q r = grind (arith, nat_tests)

-- ---- the loop: the positions below s are inverted

pub record Inverted (n : ℕ) (a : ℕ → List ℕ) (old : List ℕ) (s : ℕ) (cur : List ℕ) : Type 0 where
  pub long : length old ≡ 6 * n
  pub upto : Upto n (inversion_of n a old) old (length-inversion_of n a old) long s cur

pub inverted_start : (n : ℕ) (a : ℕ → List ℕ) (old : List ℕ) → length old ≡ 6 * n → Inverted n a old 0 old
inverted_start n a old l = record { long = l; upto = upto_start n (inversion_of n a old) old (length-inversion_of n a old) l }

module _ (n : ℕ) (a : ℕ → List ℕ) (old : List ℕ) (s : ℕ) (cur : List ℕ) (i : Inverted n a old s cur) where
  pub inverted-long : length cur ≡ 6 * n
  inverted-long = upto-long n (inversion_of n a old) old (length-inversion_of n a old) i.long s cur i.upto

  pub inverted-more : (m : ℕ) → s + m ≤ n → (next : List ℕ)
      → next ≡ stored n s m (chain_of m (λ u. drawn (u * n + s) m a) (cut n s m cur)) cur → Inverted n a old (s + m) next
  inverted-more m h next e =
      let new = inversion_of n a old in
      let ln = length-inversion_of n a old in
      let c : cut n s m cur ≡ cut n s m old = upto-cut n new old ln i.long s m cur i.upto h in
      let x : chain_of m (λ u. drawn (u * n + s) m a) (cut n s m cur) ≡ cut n s m (inversion_of n a old) =
      ap (chain_of m (λ u. drawn (u * n + s) m a)) c ∙ sym (cut_inversion n s m h a old i.long) in
      record { long = i.long; upto = rw e (upto-more n new old ln i.long s m cur i.upto h _ x) }

  pub inverted_end : n ≤ s → cur ≡ inversion_of n a old
  inverted_end h = upto_end n (inversion_of n a old) old (length-inversion_of n a old) i.long s cur i.upto h

-- ---- the three parts of an alpha buffer, as they are lent

module _ (n t : ℕ) (al x : List ℕ) (f : BufferFits n t (length al)) where
  third : length al / 3 ≡ 4 * n
  third = omega (arith, f.alphas)

  -- from a to e, the alphas of party p
  part-is : (p a e : ℕ) → a ≡ p * (length al / 3) → e ≡ a + length al / 3 → take (e - a) (drop a al) ≡ chunk (inversion_need n) p al
  unfolding inversion_need
  part-is p a e pa pe = part-chunk (4 * n) p a e al (rw (← third) pa) (rw (← third) pe)

  pub third-long : (p a e : ℕ) → p < 3 → a ≡ p * (length al / 3) → e ≡ a + length al / 3 → length (take (e - a) (drop a al)) ≡ 4 * n
  third-long p a e h pa pe =
      let w : p * (length al / 3) + length al / 3 ≤ 3 * (length al / 3) = apart (length al / 3) p 3 h in
      part-long (length al / 3) a e al pe (omega arith) ∙ third

  abbrev lent : ℕ → List ℕ
  lent =
      three (take (length al / 3 - 0) al) (take (2 * (length al / 3) - length al / 3) (drop (length al / 3) al))
      (take (3 * (length al / 3) - 2 * (length al / 3)) (drop (2 * (length al / 3)) al))

  pub thirds_are : inversion_of n lent x ≡ inversion_of n (λ p. chunk (inversion_need n) p al) x
  unfolding inversion_of
  thirds_are =
      chain-alphas n x _ _ (λ u p q h. ap (chunk n u)
      (three_cases (λ (p : ℕ). lent p ≡ chunk (inversion_need n) p al)
      (part-is 0 0 (length al / 3) (omega arith) (omega arith))
      (part-is 1 (length al / 3) (2 * (length al / 3)) (omega arith) (omega arith))
      (part-is 2 (2 * (length al / 3)) (3 * (length al / 3)) (omega arith) (omega arith))
      p h))
