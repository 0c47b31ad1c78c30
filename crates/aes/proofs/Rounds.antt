-- The rounds of a run from what their steps leave. Assumes nothing.
use Prim.Native.Nat.{ℕ, zero, suc, ◌+◌, ◌-◌}
use native.Mathlib.Numerals.{add-one}
use mathlib.Core.Path.{◌≡◌, refl, ap, ap₂, ◌∙◌}
use mathlib.Core.List.{List}
use Rattle.fips197.specs.State.{shift_rows, inv_shift_rows}
use Rattle.layers.specs.Layers.{each_block}
use Rattle.tables.specs.declared.parts.Layer.TheVariants.{MixColumns, InvMixColumns}
use Rattle.tables.specs.Tables.{on_table}
use Rattle.aes.specs.Runs.{on_parts, sub_bytes_of, inv_sub_bytes_of, add_key_of, alphas_of, cipher_rounds, cipher_of, inverse_rounds, inverse_of}
use Rattle.aes.specs.Steps.{cipher_round, inverse_round}

-- ---- rounds, as many as there are turns

unfoldable pub turns : (ℕ → List ℕ → List ℕ) → ℕ → List ℕ → List ℕ
turns f zero t = t
turns f (suc r) t = f r (turns f r t)

pub turns-none : (f : ℕ → List ℕ → List ℕ) (t : List ℕ) → t ≡ turns f 0 t
unfolding turns
turns-none f t = refl

pub turns_more : (f : ℕ → List ℕ → List ℕ) (r : ℕ) (t cur : List ℕ) → cur ≡ turns f r t → f r cur ≡ turns f (r + 1) t
unfolding turns
turns_more f r t cur e = rw add-one (ap (f r) e)

-- rounds by recursion, from start on, are as many turns
module _ (f : ℕ → List ℕ → List ℕ) (start : List ℕ → List ℕ) (g : ℕ → List ℕ → List ℕ) (none : (t : List ℕ) → start t ≡ g 0 t)
    (more : (r : ℕ) (t : List ℕ) → f r (g r t) ≡ g (suc r) t) where
  turns-are : (r : ℕ) (t : List ℕ) → turns f r (start t) ≡ g r t
  unfolding turns
  turns-are zero t = none t
  turns-are (suc r) t = ap (f r) (turns-are r t) ∙ more r t

  -- the loop has ended
  turned : (r q : ℕ) (t begun cur : List ℕ) → r ≡ q → begun ≡ start t → cur ≡ turns f r begun → cur ≡ g q t
  turned r q t begun cur p b e = e ∙ ap₂ (turns f) p b ∙ turns-are q t

module _ (n R : ℕ) (keys alphas : List ℕ) where
  pub cipher-turned : (r q : ℕ) (t begun cur : List ℕ) → r ≡ q → begun ≡ add_key_of n R keys 0 t
      → cur ≡ turns (cipher_round n R keys alphas) r begun → cur ≡ cipher_rounds n R keys alphas q t
  unfolding cipher_round cipher_rounds
  cipher-turned = turned (cipher_round n R keys alphas) (add_key_of n R keys 0) (cipher_rounds n R keys alphas) (λ t. refl) (λ r t. refl)

  pub inverse-turned : (r q : ℕ) (t begun cur : List ℕ) → r ≡ q → begun ≡ add_key_of n R keys R t
      → cur ≡ turns (inverse_round n R keys alphas) r begun → cur ≡ inverse_rounds n R keys alphas q t
  unfolding inverse_round inverse_rounds
  inverse-turned = turned (inverse_round n R keys alphas) (add_key_of n R keys R) (inverse_rounds n R keys alphas) (λ t. refl) (λ r t. refl)

  -- a round, from its steps
  module _ (r : ℕ) (t s1 s2 out : List ℕ) where
    pub cipher_round-is : s1 ≡ on_parts n (each_block shift_rows) (sub_bytes_of n (alphas_of n R alphas r) t) → s2 ≡ on_table n MixColumns s1
        → out ≡ add_key_of n R keys (r + 1) s2 → out ≡ cipher_round n R keys alphas r t
    unfolding cipher_round on_parts
    cipher_round-is p q e = rw add-one at e ∙ ap (add_key_of n R keys (suc r)) (q ∙ ap (on_table n MixColumns) p)

    pub inverse_round-is : s1 ≡ inv_sub_bytes_of n (alphas_of n R alphas r) (on_parts n (each_block inv_shift_rows) t)
        → s2 ≡ add_key_of n R keys (R - 1 - r) s1 → out ≡ on_table n InvMixColumns s2 → out ≡ inverse_round n R keys alphas r t
    unfolding inverse_round on_parts
    inverse_round-is p q e = e ∙ ap (on_table n InvMixColumns) (q ∙ ap (add_key_of n R keys (R - 1 - r)) p)

  -- a whole run, from its rounds and its last round
  module _ (t s1 s2 out : List ℕ) where
    pub cipher-is : s1 ≡ cipher_rounds n R keys alphas (R - 1) t
        → s2 ≡ on_parts n (each_block shift_rows) (sub_bytes_of n (alphas_of n R alphas (R - 1)) s1) → out ≡ add_key_of n R keys R s2
        → out ≡ cipher_of n R keys alphas t
    unfolding cipher_of
    cipher-is p q e =
        e ∙ ap (add_key_of n R keys R) (q ∙ ap (λ (x : List ℕ). on_parts n (each_block shift_rows) (sub_bytes_of n (alphas_of n R alphas (R - 1)) x)) p)

    pub inverse-is : s1 ≡ inverse_rounds n R keys alphas (R - 1) t
        → s2 ≡ inv_sub_bytes_of n (alphas_of n R alphas (R - 1)) (on_parts n (each_block inv_shift_rows) s1) → out ≡ add_key_of n R keys 0 s2
        → out ≡ inverse_of n R keys alphas t
    unfolding inverse_of
    inverse-is p q e =
        e ∙ ap (add_key_of n R keys 0) (q ∙ ap (λ (x : List ℕ). inv_sub_bytes_of n (alphas_of n R alphas (R - 1)) (on_parts n (each_block inv_shift_rows) x)) p)
