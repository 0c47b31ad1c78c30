-- What each party does alone in a cipher or an inverse, but for round keys: the affine maps of each byte, the constant 0x63, and the layers
-- on each block. Assumes nothing.
use Prim.Native.Nat.{ℕ, zero, suc, ◌*◌}
use mathlib.Core.Path.{◌≡◌, refl, sym, ap, ◌∙◌}
use mathlib.Core.List.{List, ◌∷◌, map}
use lib.ListN.{length-map}
use Rattle.fips197.specs.Field.{◌⊕◌}
use Rattle.fips197.specs.State.{◌⊞◌}
use Rattle.fips197.proofs.Sums.{⊕_zero}
use Rattle.fips197.proofs.Additive.{Additive}
use Rattle.fips197.proofs.Vectors.{map_⊞}
use Rattle.lists.specs.Lists.{tab}
use Rattle.lists.proofs.Tabs.{length-tab}
use Rattle.lists.proofs.Parts.{map-joined}
use Rattle.lists.proofs.Joined.{joined_cong, joined_chunks}
use Rattle.rep3.specs.Tables.{share_of}
use Rattle.layers.specs.Layers.{each_block}
use Rattle.layers.proofs.EachBlock.{KeepsBlock, AdditiveOnBlocks, length-each_block, each_block-additive}
use Rattle.layers.proofs.EachPart.{part-each_block}
use Rattle.aes.specs.Runs.{on_parts, constant_part, add_constant}
use Rattle.runs.proofs.Local.{opened_parts}
use Rattle.runs.proofs.Alone.{Alone, alone_as, linear, adding}

-- ---- each byte of a table

pub alone-map : (n : ℕ) (f : ℕ → ℕ) → Additive f → Alone n (map f) (map f)
unfolding on_parts
alone-map n f a =
    alone_as (linear n (map f) (λ x e. length-map x f ∙ e) (λ x y p q. map_⊞ f a x y)) (map f) (map f)
    (λ t e. ap (map f) (sym (joined_chunks n 6 t e)) ∙ map-joined f 6 _) (λ x e. refl)

-- ---- a constant

-- the vector with c at n places
abbrev pub all : ℕ → ℕ → List ℕ
all n c = tab n (λ _. c)

⊞-all : (n a b : ℕ) → all n a ⊞ all n b ≡ all n (a ⊕ b)
unfolding tab ◌⊞◌
⊞-all zero a b = refl
⊞-all (suc n) a b = ap (λ (l : List ℕ). a ⊕ b ∷ l) (⊞-all n a b)

constant-opened_parts : (n c : ℕ) → opened_parts (constant_part n c) ≡ all n c
unfolding constant_part share_of
constant-opened_parts n c =
    ap (λ (x : List ℕ). x ⊞ all n 0) (⊞-all n c 0) ∙ ⊞-all n (c ⊕ 0) 0 ∙ ap (all n) (⊕_zero (c ⊕ 0) ∙ ⊕_zero c)

pub alone_constant : (n c : ℕ) → Alone n (add_constant n c) (λ x. x ⊞ all n c)
unfolding add_constant constant_part share_of
alone_constant n c =
    alone_as (adding n (constant_part n c) (λ k h. length-tab n _) refl refl refl) (add_constant n c) (λ x. x ⊞ all n c) (λ t e. refl)
    (λ x e. ap (λ (y : List ℕ). x ⊞ y) (sym (constant-opened_parts n c)))

-- ---- a layer on each block

module _ (b : ℕ) (f : List ℕ → List ℕ) (keeps : KeepsBlock f) (a : AdditiveOnBlocks f) where
  -- of each part
  pub alone_layer : Alone (16 * b) (on_parts (16 * b) (each_block f)) (each_block f)
  alone_layer =
      linear (16 * b) (each_block f) (λ x e. length-each_block f keeps x ∙ e) (λ x y p q. each_block-additive f keeps a x y (p ∙ sym q))

  -- of the whole table
  pub alone_blocks : Alone (16 * b) (each_block f) (each_block f)
  unfolding on_parts
  alone_blocks =
      alone_as alone_layer (each_block f) (each_block f)
      (λ t e. sym (joined_chunks (16 * b) 6 (each_block f t) (length-each_block f keeps t ∙ e)) ∙ joined_cong 6 _ _ (part-each_block f keeps b 6 t e))
      (λ x e. refl)
