-- The inverse on a state table of b blocks is a run: what each party does alone before each inversion, and the first round key at the end.
-- The plain run is Figure 12 of FIPS-197 on each block. By induction over the rounds. Assumes nothing.
use Prim.Native.Nat.{ℕ, zero, suc, ◌+◌, ◌-◌, ◌*◌, ◌≤◌, ◌<◌}
use native.Mathlib.Omega.{arith}
use mathlib.Core.Path.{◌≡◌, sym, ap, ◌∙◌}
use mathlib.Core.List.{List, map}
use lib.ListN.{length}
use Rattle.fips197.specs.Field.{inv_affine, inverse, affine_constant}
use Rattle.fips197.specs.State.{◌⊞◌, inv_sub_bytes, inv_shift_rows, inv_mix_columns, add_round_key}
use Rattle.fips197.specs.Cipher.{inv_cipher_state}
use Rattle.fips197.proofs.Affine.{inv_affine-additive}
use Rattle.fips197.proofs.Layers.{length-inv_sub_bytes, length-inv_shift_rows, length-inv_mix_columns}
use Rattle.fips197.proofs.LinearLayers.{inv_shift_rows-additive, inv_mix_columns-additive}
use Rattle.lists.specs.Lists.{chunk}
use Rattle.rep3.specs.Tables.{Consistent}
use Rattle.chida.proofs.OpensInversion.{length-inversion_of}
use Rattle.layers.specs.Layers.{each_block}
use Rattle.layers.proofs.EachBlock.{KeepsBlock, length-each_block, each_block-then, each_block_cong}
use Rattle.aes.specs.Runs.{on_parts, add_constant, inv_sub_bytes_of, add_key_of, alphas_of, inverse_rounds, inverse_of}
use Rattle.runs.specs.OpenedKeys.{opened_key}
use Rattle.runs.proofs.Local.{Local, plain}
use Rattle.runs.proofs.Run.{run, plain-run}
use Rattle.runs.proofs.Rounds.{round_maps, length-round_maps, rounds-run, rounds-plain}
use Rattle.runs.proofs.Alone.{Alone, ◌⨾◌}
use Rattle.runs.proofs.Layers.{all, alone-map, alone_constant, alone_layer}
use Rattle.runs.proofs.SBoxes.{each-inv_sub_bytes}
use Rattle.runs.proofs.RoundKeys.{keeps_key, alone_key}
use Rattle.runs.proofs.RoundsDown.{rounds_down, inv_cipher_state-down}
use Rattle.runs.proofs.Inverting.{inverting}

-- what every round does before its inversion, on tables and on what they open to
abbrev shifted : ℕ → List ℕ → List ℕ
shifted n t = map inv_affine (add_constant n affine_constant (on_parts n (each_block inv_shift_rows) t))

abbrev shifted_plain : ℕ → List ℕ → List ℕ
shifted_plain n x = map inv_affine (each_block inv_shift_rows x ⊞ all n affine_constant)

module _ (b R : ℕ) (keys : List ℕ) (lk : length keys ≡ 96 * (R + 1)) (ck : Consistent (16 * (R + 1)) keys) where
  abbrev w : ℕ → List ℕ
  w = opened_key R keys

  abbrev added : ℕ → List ℕ → List ℕ
  added r = each_block (λ s. add_round_key s (w r))

  shift : Alone (16 * b) (shifted (16 * b)) (shifted_plain (16 * b))
  shift =
      alone_layer b inv_shift_rows (λ s _. length-inv_shift_rows s) (λ x y p q. inv_shift_rows-additive x y (p ∙ sym q))
      ⨾ alone_constant (16 * b) affine_constant ⨾ alone-map (16 * b) inv_affine inv_affine-additive

  first : Alone (16 * b) (λ t. shifted (16 * b) (add_key_of (16 * b) R keys R t)) (λ x. shifted_plain (16 * b) (added R x))
  first = alone_key R keys lk b R (omega arith) ck ⨾ shift

  round : (r : ℕ) → r < R - 1
      → Alone (16 * b) (λ t. shifted (16 * b) (on_parts (16 * b) (each_block inv_mix_columns) (add_key_of (16 * b) R keys (R - 1 - r) t)))
      (λ x. shifted_plain (16 * b) (each_block inv_mix_columns (added (R - 1 - r) x)))
  round r h =
      alone_key R keys lk b (R - 1 - r) (omega arith) ck
      ⨾ alone_layer b inv_mix_columns (λ s _. length-inv_mix_columns s) (λ x y p q. inv_mix_columns-additive x y (p ∙ sym q)) ⨾ shift

  last : Alone (16 * b) (add_key_of (16 * b) R keys 0) (added 0)
  last = alone_key R keys lk b 0 (omega arith) ck

  -- ---- the run

  pub inverse_first : Local (16 * b)
  inverse_first = first.local

  pub inverse_maps : List (Local (16 * b))
  inverse_maps = round_maps (inverting (16 * b)) (R - 1) first.local (λ r h. (round r h).local) last.local

  pub length-inverse_maps : 1 ≤ R → length inverse_maps ≡ R
  unfolding inverse_maps
  length-inverse_maps h = length-round_maps (inverting (16 * b)) (R - 1) first.local (λ r g. (round r g).local) last.local ∙ omega arith

  pub inverse-run : (alphas t : List ℕ) → length t ≡ 6 * (16 * b)
      → inverse_of (16 * b) R keys alphas t ≡ run (inverting (16 * b)) inverse_first inverse_maps (alphas_of (16 * b) R alphas) t
  unfolding inverse_of inverse_rounds inv_sub_bytes_of inverse_first inverse_maps inverting
  inverse-run alphas t e =
      last.tables _ (length-inversion_of (16 * b) (alphas_of (16 * b) R alphas (R - 1)) _)
      ∙ rounds-run (inverting (16 * b)) (R - 1) first.local (λ r h. (round r h).local) last.local (alphas_of (16 * b) R alphas) t
      (λ r. shifted (16 * b) (inverse_rounds (16 * b) R keys alphas r t)) (first.tables t e)
      (λ r h. (round r h).tables _ (length-inversion_of (16 * b) (alphas_of (16 * b) R alphas r) _))

  -- ---- the plain run

  abbrev down : ℕ → List ℕ → List ℕ
  down r = rounds_down R w r

  keeps-down : (r : ℕ) → KeepsBlock (down r)
  unfolding rounds_down
  keeps-down zero s e = keeps_key R keys lk R (omega arith) s e
  keeps-down (suc r) s e = length-inv_mix_columns _

  module _ (x : List ℕ) (e : length x ≡ 16 * b) where
    -- an inversion
    substituted : (r : ℕ)
        → map inverse (shifted_plain (16 * b) (each_block (down r) x)) ≡ each_block (λ s. inv_sub_bytes (inv_shift_rows (down r s))) x
    substituted r =
        each-inv_sub_bytes b (each_block inv_shift_rows (each_block (down r) x))
        (length-each_block inv_shift_rows (λ s _. length-inv_shift_rows s) (each_block (down r) x) ∙ length-each_block (down r) (keeps-down r) x ∙ e)
        ∙ each_block-then inv_shift_rows (λ s _. length-inv_shift_rows s) inv_sub_bytes (each_block (down r) x)
        ∙ each_block-then (down r) (keeps-down r) (λ s. inv_sub_bytes (inv_shift_rows s)) x

    keeps_sub : (r : ℕ) → KeepsBlock (λ s. inv_sub_bytes (inv_shift_rows (down r s)))
    keeps_sub r s _ = length-inv_sub_bytes (inv_shift_rows (down r s)) ∙ length-inv_shift_rows (down r s)

    -- and a round key
    keyed : (r k : ℕ) → added k (map inverse (shifted_plain (16 * b) (each_block (down r) x)))
        ≡ each_block (λ s. add_round_key (inv_sub_bytes (inv_shift_rows (down r s))) (w k)) x
    keyed r k = ap (added k) (substituted r) ∙ each_block-then _ (keeps_sub r) (λ s. add_round_key s (w k)) x

    long : (r : ℕ) → length (map inverse (shifted_plain (16 * b) (each_block (down r) x))) ≡ 16 * b
    long r = ap length (substituted r) ∙ length-each_block _ (keeps_sub r) x ∙ e

    next : (r : ℕ) (h : r < R - 1) → shifted_plain (16 * b) (each_block (down (suc r)) x)
        ≡ plain (round r h).local (map inverse (shifted_plain (16 * b) (each_block (down r) x)))
    unfolding rounds_down
    next r h =
        ap (shifted_plain (16 * b))
        (sym (ap (each_block inv_mix_columns) (keyed r (R - 1 - r))
        ∙ each_block-then (λ s. add_round_key (inv_sub_bytes (inv_shift_rows (down r s))) (w (R - 1 - r)))
        (λ s l. keeps_key R keys lk (R - 1 - r) (omega arith) (inv_sub_bytes (inv_shift_rows (down r s))) (keeps_sub r s l)) inv_mix_columns x))
        ∙ (round r h).opens _ (long r)

    pub inverse-plain : plain-run (inverting (16 * b)) inverse_first inverse_maps x ≡ each_block (inv_cipher_state R w) x
    unfolding rounds_down inverse_first inverse_maps inverting
    inverse-plain =
        sym (rounds-plain (inverting (16 * b)) (R - 1) first.local (λ r h. (round r h).local) last.local x
        (λ r. shifted_plain (16 * b) (each_block (down r) x)) (first.opens x e) next)
        ∙ sym (last.opens _ (long (R - 1)))
        ∙ keyed (R - 1) 0
        ∙ each_block_cong _ (inv_cipher_state R w) x (λ k h. inv_cipher_state-down R w (chunk 16 k x))
