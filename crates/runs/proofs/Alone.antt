-- A function of tables that each party does alone, and the function of what the tables open to that goes with it: consistency and opening,
-- one after the other, an additive map of each part, and a shared vector added. Assumes nothing.
use Prim.Native.Nat.{ℕ, zero, suc, ◌*◌}
use native.Mathlib.Nat.{suc_inj}
use native.Mathlib.Omega.{arith}
use mathlib.Core.Path.{◌≡◌, refl, sym, ap, ap₂, ◌∙◌}
use mathlib.Core.List.{List, [], ◌∷◌}
use lib.ListN.{length}
use Rattle.fips197.specs.State.{◌⊞◌}
use Rattle.fips197.proofs.Sums.{⊕_zero}
use Rattle.lists.specs.Lists.{tab, chunk}
use Rattle.lists.proofs.Tabs.{length-tab}
use Rattle.lists.proofs.Joined.{Each, joined_cong}
use Rattle.rep3.specs.Tables.{six_parts, Consistent, opened}
use Rattle.rep3.proofs.Opening.{length_share, length-opened}
use Rattle.aes.specs.Runs.{on_parts}
use Rattle.runs.proofs.Local.{Local, opened_parts, done, plain, length-done, length-plain, done-consistent, done-opened, then, done-then, plain_then}

-- F on tables of n positions is a local map, and G is what that does to what they open to
pub record Alone (n : ℕ) (F G : List ℕ → List ℕ) : Type 0 where
  pub local : Local n
  pub tables : (t : List ℕ) → length t ≡ 6 * n → F t ≡ done local t
  pub opens : (x : List ℕ) → length x ≡ n → G x ≡ plain local x

module _ {n : ℕ} {F G : List ℕ → List ℕ} (a : Alone n F G) where
  pub length_alone : (x : List ℕ) → length x ≡ n → length (G x) ≡ n
  length_alone x e = ap length (a.opens x e) ∙ length-plain a.local x e

  module _ (t : List ℕ) (e : length t ≡ 6 * n) where
    pub length_alone-table : length (F t) ≡ 6 * n
    length_alone-table = ap length (a.tables t e) ∙ length-done a.local t e

    pub alone-consistent : Consistent n t → Consistent n (F t)
    alone-consistent c = rw (a.tables t e) (done-consistent a.local t e c)

    pub alone-opened : opened n (F t) ≡ G (opened n t)
    alone-opened =
        ap (opened n) (a.tables t e) ∙ done-opened a.local t e ∙ sym (a.opens (opened n t) (length-opened n t e))

  -- the same functions by other names
  pub alone_as : (F' G' : List ℕ → List ℕ) → ((t : List ℕ) → length t ≡ 6 * n → F' t ≡ F t) → ((x : List ℕ) → length x ≡ n → G' x ≡ G x)
      → Alone n F' G'
  alone_as F' G' p q = record { local = a.local; tables = λ t e. p t e ∙ a.tables t e; opens = λ x e. q x e ∙ a.opens x e }

-- one after the other
infixl 60 ◌⨾◌
pub ◌⨾◌ : {n : ℕ} {F G F' G' : List ℕ → List ℕ} → Alone n F G → Alone n F' G' → Alone n (λ t. F' (F t)) (λ x. G' (G x))
a ⨾ b =
    record {
      local = then a.local b.local;
      tables = λ t e.
          b.tables _ (length_alone-table a t e) ∙ ap (done b.local) (a.tables t e) ∙ done-then a.local b.local t e;
      opens = λ x e. b.opens _ (length_alone a x e) ∙ ap (plain b.local) (a.opens x e) ∙ plain_then a.local b.local x e;
    }

-- ---- an additive map

⊞-zeros : (n : ℕ) (x : List ℕ) → length x ≡ n → x ⊞ tab n (λ _. 0) ≡ x
unfolding ◌⊞◌ tab
⊞-zeros zero [] e = refl
⊞-zeros zero (x ∷ xs) e = absurd (omega arith)
⊞-zeros (suc n) [] e = absurd (omega arith)
⊞-zeros (suc n) (x ∷ xs) e = ap₂ ◌∷◌ (⊕_zero x) (⊞-zeros n xs (suc_inj e))

module _ (n : ℕ) where
  abbrev zeros : List ℕ
  zeros = tab n (λ _. 0)

  long : length zeros ≡ n
  long = length-tab n (λ _. 0)

  zero_sum : zeros ⊞ zeros ⊞ zeros ≡ zeros
  zero_sum = ap (λ (x : List ℕ). x ⊞ zeros) (⊞-zeros n zeros long) ∙ ⊞-zeros n zeros long

  pub linear : (f : List ℕ → List ℕ) → ((x : List ℕ) → length x ≡ n → length (f x) ≡ n)
      → ((x y : List ℕ) → length x ≡ n → length y ≡ n → f (x ⊞ y) ≡ f x ⊞ f y) → Alone n (on_parts n f) f
  unfolding on_parts done plain
  linear f keeps additive =
      record {
        local = record {
          lin = f;
          keeps = keeps;
          additive = additive;
          off = λ _. zeros;
          long = λ k h. long;
          zero_one = refl;
          one_two = refl;
          two_zero = refl;
        };
        tables = λ t e. joined_cong 6 _ _ (λ k h. sym (⊞-zeros n (f (chunk n k t)) (keeps (chunk n k t) (length_share n t e k h))));
        opens = λ x e. sym (ap (λ (y : List ℕ). f x ⊞ y) zero_sum ∙ ⊞-zeros n (f x) (keeps x e));
      }

  -- ---- a shared vector added

  pub adding : (f : ℕ → List ℕ) → Each n 6 f → f 1 ≡ f 2 → f 3 ≡ f 4 → f 5 ≡ f 0
      → Alone n (λ t. six_parts (λ k. chunk n k t ⊞ f k)) (λ x. x ⊞ opened_parts f)
  unfolding done plain
  adding f each p q r =
      record {
        local = record {
          lin = λ x. x;
          keeps = λ x e. e;
          additive = λ x y g h. refl;
          off = f;
          long = each;
          zero_one = p;
          one_two = q;
          two_zero = r;
        };
        tables = λ t e. refl;
        opens = λ x e. refl;
      }
