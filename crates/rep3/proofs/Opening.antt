-- Opening and consistency of share tables: of a table given by its six parts, of one mapped by an additive function; every party opens
-- a consistent table to the same bytes. Assumes nothing.
use Prim.Native.Nat.{ℕ, zero, suc, ◌*◌, ◌<◌}
use native.Mathlib.Omega.{arith}
use mathlib.Core.Path.{◌≡◌, refl, sym, ap, ap₂, ◌∙◌}
use mathlib.Core.List.{List, map}
use lib.Dec.{lit<}
use lib.ListN.{length, get_or}
use Rattle.fips197.specs.Field.{◌⊕◌}
use Rattle.fips197.specs.State.{◌⊞◌}
use Rattle.fips197.proofs.Additive.{Additive}
use Rattle.fips197.proofs.Vectors.{⊞_comm, ⊞_assoc, length_⊞, get_or_⊞, map_⊞}
use Rattle.lists.specs.Lists.{chunk}
use Rattle.lists.proofs.Chunks.{chunk_in, length-chunk}
use Rattle.lists.proofs.Joined.{Each, length-joined, chunk-joined, chunk-map}
use Rattle.rep3.specs.Tables.{six_parts, si_part, sii_part, Consistent, opened_by, opened}

-- ---- a table of six parts of n bytes

module _ (n : ℕ) (f : ℕ → List ℕ) (each : Each n 6 f) where
  pub length-six_parts : length (six_parts f) ≡ 6 * n
  length-six_parts = length-joined n 6 f each

  pub chunk-six_parts : (k : ℕ) → k < 6 → chunk n k (six_parts f) ≡ f k
  chunk-six_parts = chunk-joined n 6 f each

  pub opened-six_parts : opened n (six_parts f) ≡ f 0 ⊞ f 1 ⊞ f 4
  unfolding opened opened_by
  opened-six_parts = ap₂ ◌⊞◌ (ap₂ ◌⊞◌ (chunk-six_parts 0 (lit< tt)) (chunk-six_parts 1 (lit< tt))) (chunk-six_parts 4 (lit< tt))

  pub six_parts-consistent : f 1 ≡ f 2 → f 3 ≡ f 4 → f 5 ≡ f 0 → Consistent n (six_parts f)
  six_parts-consistent p q r =
      record {
        zero_one = chunk-six_parts 1 (lit< tt) ∙ p ∙ sym (chunk-six_parts 2 (lit< tt));
        one_two = chunk-six_parts 3 (lit< tt) ∙ q ∙ sym (chunk-six_parts 4 (lit< tt));
        two_zero = chunk-six_parts 5 (lit< tt) ∙ r ∙ sym (chunk-six_parts 0 (lit< tt));
      }

-- ---- every party opens the same

turned : (a b c : List ℕ) → b ⊞ c ⊞ a ≡ a ⊞ b ⊞ c
turned a b c = ⊞_comm (b ⊞ c) a ∙ sym (⊞_assoc a b c)

pub same_opening : (n : ℕ) (t : List ℕ) → Consistent n t → (p : ℕ) → p < 3 → opened_by n p t ≡ opened n t
unfolding opened opened_by
same_opening n t c zero h = refl
same_opening n t c (suc zero) h = rw (c.zero_one, c.one_two) (turned (chunk n 0 t) (chunk n 2 t) (chunk n 4 t))
same_opening n t c (suc (suc zero)) h = rw (c.zero_one, c.two_zero) (sym (turned (chunk n 4 t) (chunk n 0 t) (chunk n 2 t)))
same_opening n t c (suc (suc (suc p))) h = absurd (omega arith)

-- ---- a table of n positions opens to n bytes

module _ (n : ℕ) (t : List ℕ) (l : length t ≡ 6 * n) where
  pub length_share : (k : ℕ) → k < 6 → length (chunk n k t) ≡ n
  length_share k h = length-chunk n k t (chunk_in n k 6 (length t) l h)

  l0 : length (chunk n 0 t) ≡ n
  l0 = length_share 0 (lit< tt)

  even : length (chunk n 0 t) ≡ length (chunk n 1 t)
  even = l0 ∙ sym (length_share 1 (lit< tt))

  even3 : length (chunk n 0 t ⊞ chunk n 1 t) ≡ length (chunk n 4 t)
  even3 = length_⊞ _ _ even ∙ l0 ∙ sym (length_share 4 (lit< tt))

  pub length-opened : length (opened n t) ≡ n
  unfolding opened opened_by
  length-opened = length_⊞ _ _ even3 ∙ length_⊞ _ _ even ∙ l0

  pub get_or-opened : (j : ℕ) → get_or (opened n t) j 0 ≡ get_or (si_part n 0 t) j 0 ⊕ get_or (sii_part n 0 t) j 0 ⊕ get_or (si_part n 2 t) j 0
  unfolding opened opened_by
  get_or-opened j = get_or_⊞ _ _ j even3 ∙ ap (λ (x : ℕ). x ⊕ get_or (chunk n 4 t) j 0) (get_or_⊞ _ _ j even)

-- ---- what each party does to its own shares

pub map-consistent : (n : ℕ) (f : ℕ → ℕ) (t : List ℕ) → Consistent n t → Consistent n (map f t)
map-consistent n f t c =
    record {
      zero_one = chunk-map f n 1 t ∙ ap (map f) c.zero_one ∙ sym (chunk-map f n 2 t);
      one_two = chunk-map f n 3 t ∙ ap (map f) c.one_two ∙ sym (chunk-map f n 4 t);
      two_zero = chunk-map f n 5 t ∙ ap (map f) c.two_zero ∙ sym (chunk-map f n 0 t);
    }

pub map-opened : (n : ℕ) (f : ℕ → ℕ) → Additive f → (t : List ℕ) → opened n (map f t) ≡ map f (opened n t)
unfolding opened opened_by
map-opened n f h t =
    rw (chunk-map f n 0 t, chunk-map f n 1 t, chunk-map f n 4 t)
    (ap (λ (l : List ℕ). l ⊞ map f (chunk n 4 t)) (sym (map_⊞ f h (chunk n 0 t) (chunk n 1 t))) ∙ sym (map_⊞ f h _ (chunk n 4 t)))
