-- What each party does alone, to si and to sii alike, on a table of n positions: a local map, that is an additive map of n bytes and a
-- shared vector added to it. It keeps consistency and goes through opening, and two one after the other are one. Assumes nothing.
use Prim.Native.Nat.{ℕ, ◌*◌, ◌<◌}
use mathlib.Core.Path.{◌≡◌, sym, ap, ap₂, ◌∙◌}
use mathlib.Core.List.{List}
use lib.Dec.{lit<}
use lib.ListN.{length}
use Rattle.fips197.specs.State.{◌⊞◌}
use Rattle.fips197.proofs.Vectors.{⊞_assoc, ⊞_middle, length_⊞}
use Rattle.lists.specs.Lists.{chunk}
use Rattle.lists.proofs.Joined.{Each, joined_cong}
use Rattle.rep3.specs.Tables.{six_parts, Consistent, opened_by, opened}
use Rattle.rep3.proofs.Opening.{length-six_parts, chunk-six_parts, opened-six_parts, six_parts-consistent, length_share}

pub record Local (n : ℕ) : Type 0 where
  pub lin : List ℕ → List ℕ
  pub keeps : (x : List ℕ) → length x ≡ n → length (lin x) ≡ n
  pub additive : (x y : List ℕ) → length x ≡ n → length y ≡ n → lin (x ⊞ y) ≡ lin x ⊞ lin y
  -- what part k adds
  pub off : ℕ → List ℕ
  pub long : Each n 6 off
  pub zero_one : off 1 ≡ off 2
  pub one_two : off 3 ≡ off 4
  pub two_zero : off 5 ≡ off 0

-- what six parts open to, as party 0 opens them
abbrev pub opened_parts : (ℕ → List ℕ) → List ℕ
opened_parts f = f 0 ⊞ f 1 ⊞ f 4

opened_parts_⊞ : (f g : ℕ → List ℕ) → opened_parts (λ k. f k ⊞ g k) ≡ opened_parts f ⊞ opened_parts g
opened_parts_⊞ f g = ap (λ (x : List ℕ). x ⊞ (f 4 ⊞ g 4)) (⊞_middle (f 0) (g 0) (f 1) (g 1)) ∙ ⊞_middle (f 0 ⊞ f 1) (g 0 ⊞ g 1) (f 4) (g 4)

length-opened_parts : (n : ℕ) (f : ℕ → List ℕ) → Each n 6 f → length (opened_parts f) ≡ n
length-opened_parts n f e =
    let two : length (f 0 ⊞ f 1) ≡ n = length_⊞ _ _ (e 0 (lit< tt) ∙ sym (e 1 (lit< tt))) ∙ e 0 (lit< tt) in
    length_⊞ _ _ (two ∙ sym (e 4 (lit< tt))) ∙ two

module _ {n : ℕ} where
  -- on a table, by its parts
  unfoldable pub done : Local n → List ℕ → List ℕ
  done l t = six_parts (λ k. l.lin (chunk n k t) ⊞ l.off k)

  -- on what the table opens to
  unfoldable pub plain : Local n → List ℕ → List ℕ
  plain l x = l.lin x ⊞ opened_parts l.off

  length-added : (l : Local n) (x : List ℕ) (k : ℕ) → length x ≡ n → k < 6 → length (l.lin x ⊞ l.off k) ≡ n
  length-added l x k e h = length_⊞ _ _ (l.keeps x e ∙ sym (l.long k h)) ∙ l.keeps x e

  lin-opened_parts : (l : Local n) (f : ℕ → List ℕ) → Each n 6 f → l.lin (opened_parts f) ≡ opened_parts (λ k. l.lin (f k))
  lin-opened_parts l f e =
      let p : length (f 0 ⊞ f 1) ≡ n = length_⊞ _ _ (e 0 (lit< tt) ∙ sym (e 1 (lit< tt))) ∙ e 0 (lit< tt) in
      l.additive (f 0 ⊞ f 1) (f 4) p (e 4 (lit< tt))
      ∙ ap (λ (x : List ℕ). x ⊞ l.lin (f 4)) (l.additive (f 0) (f 1) (e 0 (lit< tt)) (e 1 (lit< tt)))

  pub length-plain : (l : Local n) (x : List ℕ) → length x ≡ n → length (plain l x) ≡ n
  unfolding plain
  length-plain l x e = length_⊞ _ _ (l.keeps x e ∙ sym (length-opened_parts n l.off l.long)) ∙ l.keeps x e

  -- ---- a table of n positions

  module _ (l : Local n) (t : List ℕ) (e : length t ≡ 6 * n) where
    each : Each n 6 (λ k. l.lin (chunk n k t) ⊞ l.off k)
    each k h = length-added l (chunk n k t) k (length_share n t e k h) h

    pub length-done : length (done l t) ≡ 6 * n
    unfolding done
    length-done = length-six_parts n _ each

    pub chunk-done : (k : ℕ) → k < 6 → chunk n k (done l t) ≡ l.lin (chunk n k t) ⊞ l.off k
    unfolding done
    chunk-done = chunk-six_parts n _ each

    pub done-consistent : Consistent n t → Consistent n (done l t)
    unfolding done
    done-consistent c =
        six_parts-consistent n _ each (ap₂ ◌⊞◌ (ap l.lin c.zero_one) l.zero_one) (ap₂ ◌⊞◌ (ap l.lin c.one_two) l.one_two)
        (ap₂ ◌⊞◌ (ap l.lin c.two_zero) l.two_zero)

    pub done-opened : opened n (done l t) ≡ plain l (opened n t)
    unfolding done plain opened opened_by
    done-opened =
        opened-six_parts n _ each ∙ opened_parts_⊞ (λ k. l.lin (chunk n k t)) l.off
        ∙ ap (λ (x : List ℕ). x ⊞ opened_parts l.off) (sym (lin-opened_parts l (λ k. chunk n k t) (length_share n t e)))

  -- ---- l, and then m

  pub then : Local n → Local n → Local n
  then l m =
      record {
        lin = λ x. m.lin (l.lin x);
        keeps = λ x e. m.keeps (l.lin x) (l.keeps x e);
        additive = λ x y p q. ap m.lin (l.additive x y p q) ∙ m.additive (l.lin x) (l.lin y) (l.keeps x p) (l.keeps y q);
        off = λ k. m.lin (l.off k) ⊞ m.off k;
        long = λ k h. length-added m (l.off k) k (l.long k h) h;
        zero_one = ap₂ ◌⊞◌ (ap m.lin l.zero_one) m.zero_one;
        one_two = ap₂ ◌⊞◌ (ap m.lin l.one_two) m.one_two;
        two_zero = ap₂ ◌⊞◌ (ap m.lin l.two_zero) m.two_zero;
      }

  module _ (l m : Local n) where
    pub done-then : (t : List ℕ) → length t ≡ 6 * n → done m (done l t) ≡ done (then l m) t
    unfolding done then
    done-then t e =
        joined_cong 6 _ _ (λ k h.
        let x = chunk n k t in
        let lx : length x ≡ n = length_share n t e k h in
        ap (λ (y : List ℕ). m.lin y ⊞ m.off k) (chunk-done l t e k h)
        ∙ ap (λ (y : List ℕ). y ⊞ m.off k) (m.additive (l.lin x) (l.off k) (l.keeps x lx) (l.long k h))
        ∙ ⊞_assoc _ _ _)

    pub plain_then : (x : List ℕ) → length x ≡ n → plain m (plain l x) ≡ plain (then l m) x
    unfolding plain then
    plain_then x e =
        ap (λ (y : List ℕ). y ⊞ opened_parts m.off)
        (m.additive (l.lin x) (opened_parts l.off) (l.keeps x e) (length-opened_parts n l.off l.long)
        ∙ ap (λ (y : List ℕ). m.lin (l.lin x) ⊞ y) (lin-opened_parts m l.off l.long))
        ∙ ⊞_assoc _ _ _ ∙ ap (λ (y : List ℕ). m.lin (l.lin x) ⊞ y) (sym (opened_parts_⊞ (λ k. m.lin (l.off k)) m.off))
