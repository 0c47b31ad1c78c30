-- The cipher on a state table of b blocks is a run: the first round key, then for each round an inversion and what each party does alone in
-- that round. The plain run is Figure 5 of FIPS-197 on each block. By induction over the rounds. Assumes nothing.
use Prim.Native.Nat.{ℕ, zero, suc, ◌+◌, ◌-◌, ◌*◌, ◌≤◌, ◌<◌}
use native.Mathlib.Omega.{arith}
use mathlib.Core.Path.{◌≡◌, sym, ap, ◌∙◌}
use mathlib.Core.List.{List, map}
use lib.ListN.{length, length-map}
use Rattle.fips197.specs.Field.{affine, inverse, affine_constant}
use Rattle.fips197.specs.State.{◌⊞◌, sub_bytes, shift_rows, mix_columns, add_round_key}
use Rattle.fips197.specs.Cipher.{rounds, cipher_state}
use Rattle.fips197.proofs.Affine.{affine-additive}
use Rattle.fips197.proofs.Layers.{length-sub_bytes, length-shift_rows, length-mix_columns}
use Rattle.fips197.proofs.LinearLayers.{shift_rows-additive, mix_columns-additive}
use Rattle.rep3.specs.Tables.{Consistent}
use Rattle.chida.proofs.OpensInversion.{length-inversion_of}
use Rattle.layers.specs.Layers.{each_block}
use Rattle.layers.proofs.EachBlock.{KeepsBlock, length-each_block, each_block-then}
use Rattle.aes.specs.Runs.{on_parts, add_constant, sub_bytes_of, add_key_of, alphas_of, cipher_rounds, cipher_of}
use Rattle.runs.specs.OpenedKeys.{opened_key}
use Rattle.runs.proofs.Local.{Local, plain}
use Rattle.runs.proofs.Run.{run, plain-run}
use Rattle.runs.proofs.Rounds.{round_maps, length-round_maps, rounds-run, rounds-plain}
use Rattle.runs.proofs.Alone.{Alone, ◌⨾◌}
use Rattle.runs.proofs.Layers.{all, alone-map, alone_constant, alone_layer}
use Rattle.runs.proofs.SBoxes.{each-sub_bytes}
use Rattle.runs.proofs.RoundKeys.{keeps_key, alone_key}
use Rattle.runs.proofs.Inverting.{inverting}

-- what every round does after its inversion, on tables and on what they open to
abbrev shifted : ℕ → List ℕ → List ℕ
shifted n t = on_parts n (each_block shift_rows) (add_constant n affine_constant (map affine t))

abbrev shifted_plain : ℕ → List ℕ → List ℕ
shifted_plain n x = each_block shift_rows (map affine x ⊞ all n affine_constant)

module _ (b R : ℕ) (keys : List ℕ) (lk : length keys ≡ 96 * (R + 1)) (ck : Consistent (16 * (R + 1)) keys) where
  abbrev w : ℕ → List ℕ
  w = opened_key R keys

  abbrev added : ℕ → List ℕ → List ℕ
  added r = each_block (λ s. add_round_key s (w r))

  first : Alone (16 * b) (add_key_of (16 * b) R keys 0) (added 0)
  first = alone_key R keys lk b 0 (omega arith) ck

  shift : Alone (16 * b) (shifted (16 * b)) (shifted_plain (16 * b))
  shift =
      alone-map (16 * b) affine affine-additive ⨾ alone_constant (16 * b) affine_constant
      ⨾ alone_layer b shift_rows (λ s _. length-shift_rows s) (λ x y p q. shift_rows-additive x y (p ∙ sym q))

  round : (r : ℕ) → r < R - 1
      → Alone (16 * b) (λ t. add_key_of (16 * b) R keys (suc r) (on_parts (16 * b) (each_block mix_columns) (shifted (16 * b) t)))
      (λ x. added (suc r) (each_block mix_columns (shifted_plain (16 * b) x)))
  round r h =
      shift ⨾ alone_layer b mix_columns (λ s _. length-mix_columns s) (λ x y p q. mix_columns-additive x y (p ∙ sym q))
      ⨾ alone_key R keys lk b (suc r) (omega arith) ck

  last : Alone (16 * b) (λ t. add_key_of (16 * b) R keys R (shifted (16 * b) t)) (λ x. added R (shifted_plain (16 * b) x))
  last = shift ⨾ alone_key R keys lk b R (omega arith) ck

  -- ---- the run

  pub cipher_first : Local (16 * b)
  cipher_first = first.local

  pub cipher_maps : List (Local (16 * b))
  cipher_maps = round_maps (inverting (16 * b)) (R - 1) first.local (λ r h. (round r h).local) last.local

  pub length-cipher_maps : 1 ≤ R → length cipher_maps ≡ R
  unfolding cipher_maps
  length-cipher_maps h = length-round_maps (inverting (16 * b)) (R - 1) first.local (λ r g. (round r g).local) last.local ∙ omega arith

  pub cipher-run : (alphas t : List ℕ) → length t ≡ 6 * (16 * b)
      → cipher_of (16 * b) R keys alphas t ≡ run (inverting (16 * b)) cipher_first cipher_maps (alphas_of (16 * b) R alphas) t
  unfolding cipher_of cipher_rounds sub_bytes_of cipher_first cipher_maps inverting
  cipher-run alphas t e =
      last.tables _ (length-inversion_of (16 * b) (alphas_of (16 * b) R alphas (R - 1)) _)
      ∙ rounds-run (inverting (16 * b)) (R - 1) first.local (λ r h. (round r h).local) last.local (alphas_of (16 * b) R alphas) t
      (λ r. cipher_rounds (16 * b) R keys alphas r t) (first.tables t e)
      (λ r h. (round r h).tables _ (length-inversion_of (16 * b) (alphas_of (16 * b) R alphas r) _))

  -- ---- the plain run

  keeps-rounds : (r : ℕ) → r ≤ R → KeepsBlock (rounds w r)
  unfolding rounds
  keeps-rounds zero h s e = keeps_key R keys lk 0 (omega arith) s e
  keeps-rounds (suc r) h s e = keeps_key R keys lk (suc r) h (mix_columns (shift_rows (sub_bytes (rounds w r s)))) (length-mix_columns _)

  module _ (x : List ℕ) (e : length x ≡ 16 * b) where
    long : (f : List ℕ → List ℕ) → KeepsBlock f → length (map inverse (each_block f x)) ≡ 16 * b
    long f k = length-map (each_block f x) inverse ∙ length-each_block f k x ∙ e

    substituted : (f : List ℕ → List ℕ) → KeepsBlock f
        → shifted_plain (16 * b) (map inverse (each_block f x)) ≡ each_block (λ s. shift_rows (sub_bytes (f s))) x
    substituted f k =
        ap (each_block shift_rows) (each-sub_bytes b (each_block f x) (length-each_block f k x ∙ e))
        ∙ each_block-then sub_bytes (λ s l. length-sub_bytes s ∙ l) shift_rows (each_block f x)
        ∙ each_block-then f k (λ s. shift_rows (sub_bytes s)) x

    next : (r : ℕ) (h : r < R - 1)
        → each_block (rounds w (suc r)) x ≡ plain (round r h).local (map inverse (each_block (rounds w r) x))
    unfolding rounds
    next r h =
        let k : KeepsBlock (rounds w r) = keeps-rounds r (omega arith) in
        sym (ap (λ (y : List ℕ). added (suc r) (each_block mix_columns y)) (substituted (rounds w r) k)
        ∙ ap (added (suc r)) (each_block-then (λ s. shift_rows (sub_bytes (rounds w r s))) (λ s _. length-shift_rows _) mix_columns x)
        ∙ each_block-then (λ s. mix_columns (shift_rows (sub_bytes (rounds w r s)))) (λ s _. length-mix_columns _) (λ s. add_round_key s (w (suc r))) x)
        ∙ (round r h).opens _ (long (rounds w r) k)

    pub cipher-plain : plain-run (inverting (16 * b)) cipher_first cipher_maps x ≡ each_block (cipher_state R w) x
    unfolding cipher_state rounds cipher_first cipher_maps inverting
    cipher-plain =
        let f = rounds w (R - 1) in
        let k : KeepsBlock f = keeps-rounds (R - 1) (omega arith) in
        sym (rounds-plain (inverting (16 * b)) (R - 1) first.local (λ r h. (round r h).local) last.local x (λ r. each_block (rounds w r) x)
        (first.opens x e) next)
        ∙ sym (last.opens _ (long f k))
        ∙ ap (added R) (substituted f k)
        ∙ each_block-then (λ s. shift_rows (sub_bytes (f s))) (λ s _. length-shift_rows _) (λ s. add_round_key s (w R)) x
