-- The S-boxes of FIPS-197 on each block, by their steps: invert, affine, constant; and constant, inverse affine, invert. Assumes nothing.
use Prim.Native.Nat.{ℕ, zero, suc, ◌*◌}
use native.Mathlib.Nat.{suc_inj}
use native.Mathlib.Omega.{arith}
use mathlib.Core.Path.{◌≡◌, refl, sym, ap, ◌∙◌}
use mathlib.Core.List.{List, [], ◌∷◌, map}
use lib.ListN.{length}
use Rattle.fips197.specs.Field.{◌⊕◌, inverse, affine, inv_affine, affine_constant, sbox, inv_sbox}
use Rattle.fips197.specs.State.{◌⊞◌, sub_bytes, inv_sub_bytes}
use Rattle.lists.specs.Lists.{tab}
use Rattle.layers.specs.Layers.{each_block}
use Rattle.layers.proofs.EachPart.{map-each_block}
use Rattle.runs.proofs.Layers.{all}

module _ (f g : ℕ → ℕ) (c : ℕ) where
  constant-last : (n : ℕ) (x : List ℕ) → length x ≡ n → map g (map f x) ⊞ all n c ≡ map (λ a. g (f a) ⊕ c) x
  unfolding ◌⊞◌ tab
  constant-last n [] e = refl
  constant-last zero (a ∷ x) e = absurd (omega arith)
  constant-last (suc n) (a ∷ x) e = ap (λ (l : List ℕ). g (f a) ⊕ c ∷ l) (constant-last n x (suc_inj e))

  constant-first : (n : ℕ) (x : List ℕ) → length x ≡ n → map g (map f (x ⊞ all n c)) ≡ map (λ a. g (f (a ⊕ c))) x
  unfolding ◌⊞◌ tab
  constant-first n [] e = refl
  constant-first zero (a ∷ x) e = absurd (omega arith)
  constant-first (suc n) (a ∷ x) e = ap (λ (l : List ℕ). g (f (a ⊕ c)) ∷ l) (constant-first n x (suc_inj e))

module _ (b : ℕ) (x : List ℕ) (e : length x ≡ 16 * b) where
  pub each-sub_bytes : map affine (map inverse x) ⊞ all (16 * b) affine_constant ≡ each_block sub_bytes x
  unfolding sbox sub_bytes
  each-sub_bytes = constant-last inverse affine affine_constant (16 * b) x e ∙ sym (map-each_block sbox b x e)

  pub each-inv_sub_bytes : map inverse (map inv_affine (x ⊞ all (16 * b) affine_constant)) ≡ each_block inv_sub_bytes x
  unfolding inv_sbox inv_sub_bytes
  each-inv_sub_bytes = constant-first inv_affine inverse affine_constant (16 * b) x e ∙ sym (map-each_block inv_sbox b x e)
