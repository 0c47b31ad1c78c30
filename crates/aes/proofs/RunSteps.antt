-- What a step of a run leaves: nothing is refused, since everything fits the run, and the bytes are those of the run's definitions.
-- Assumes nothing.
use Prim.Native.Nat.{ℕ, ◌+◌, ◌*◌, ◌/◌, ◌%◌, ◌≤◌, ◌<◌}
use native.Mathlib.Omega.{arith}
use mathlib.Core.Path.{◌≡◌, sym, ap, ap₂, ◌∙◌}
use mathlib.Core.List.{List, map}
use lib.ListN.{length}
use Rattle.fips197.specs.Field.{affine, inv_affine, affine_constant}
use Rattle.fips197.specs.State.{◌⊞◌, shift_rows, inv_shift_rows}
use Rattle.lists.specs.Lists.{chunk}
use Rattle.lists.proofs.Chunks.{apart}
use Rattle.lists.proofs.Joined.{joined_cong, chunk-map}
use Rattle.lists.proofs.Parts.{map-joined}
use Rattle.rep3.specs.Answers.{Answer, number_of, when_done}
use Rattle.rep3.proofs.Opening.{length_share, length-six_parts}
use Rattle.layers.specs.Layers.{each_block, table_number}
use Rattle.layers.proofs.EachBlock.{length-each_block}
use Rattle.fips197.proofs.Layers.{length-inv_shift_rows}
use Rattle.chida.specs.Inversion.{inversion_of}
use Rattle.chain.specs.Chain.{inversion_need}
use Rattle.chida.proofs.OpensInversion.{length-inversion_of}
use Rattle.tables.specs.declared.parts.Layer.{Layer}
use Rattle.tables.specs.declared.parts.Layer.TheVariants.{ShiftRows, InvShiftRows, Affine, InvAffine}
use Rattle.tables.specs.Tables.{held_constant, on_table, key_added, alphas_from, sub_shifted, shift_subbed, key_number, alphas_number}
use Rattle.tables.proofs.Numbers.{table_passes, key_passes, alphas_pass}
use Rattle.rep3.proofs.Refusals.{step-done}
use Rattle.tables.proofs.Stepping.{Stepped}
use Rattle.needs.specs.Needs.{key_table_bytes}
use Rattle.aes.specs.Runs.{constant_part, on_parts, add_constant, sub_bytes_of, inv_sub_bytes_of, add_key_of, alphas_of}
use Rattle.needs.specs.Keys.{round_key_part}
use Rattle.aes.proofs.RunFits.{RunFits}

-- ---- S-boxes

affine-is : (n : ℕ) (u : List ℕ) → length u ≡ 6 * n → on_table n Affine u ≡ add_constant n affine_constant (map affine u)
unfolding add_constant constant_part held_constant
affine-is n u l =
    joined_cong 6 _ _ (λ k h. ap₂ (λ (x : List ℕ) (m : ℕ). x ⊞ constant_part m affine_constant k) (sym (chunk-map affine n k u)) (length_share n u l k h))

inv_affine-is : (n : ℕ) (u : List ℕ) → length u ≡ 6 * n → on_table n InvAffine u ≡ map inv_affine (add_constant n affine_constant u)
unfolding add_constant constant_part held_constant
inv_affine-is n u l =
    joined_cong 6 _ _ (λ k h. ap (λ (m : ℕ). map inv_affine (chunk n k u ⊞ constant_part m affine_constant k)) (length_share n u l k h))
    ∙ sym (map-joined inv_affine 6 (λ k. chunk n k u ⊞ constant_part n affine_constant k))

module _ (n : ℕ) (α : ℕ → List ℕ) (t : List ℕ) where
  sub-shift-is : sub_shifted n α t ≡ on_parts n (each_block shift_rows) (sub_bytes_of n α t)
  unfolding on_parts sub_bytes_of
  sub-shift-is = ap (on_table n ShiftRows) (affine-is n (inversion_of n α t) (length-inversion_of n α t))

  shift_sub-is : length t ≡ 6 * n → shift_subbed n α t ≡ inv_sub_bytes_of n α (on_parts n (each_block inv_shift_rows) t)
  unfolding on_parts inv_sub_bytes_of
  shift_sub-is l =
      ap (inversion_of n α) (inv_affine-is n (on_table n InvShiftRows t) (length-six_parts n _
      (λ k h. length-each_block inv_shift_rows (λ b e. length-inv_shift_rows b) (chunk n k t) ∙ length_share n t l k h)))

-- ---- steps on the table cur of a run

module _ (n R : ℕ) (cur keys alphas : List ℕ) (f : RunFits n R (length cur) (length keys) (length alphas)) where
  positions : length cur / 6 ≡ n
  positions = omega (arith, f.table.long)

  key_width : length keys / 6 ≡ 16 * (R + 1)
  unfolding key_table_bytes
  key_width = omega (arith, f.keys)

  third : length alphas / 3 ≡ R * (4 * n)
  unfolding inversion_need
  third = omega (arith, f.alphas)

  pub layer-done : (a : Answer) (layer : Layer) (out : List ℕ) → number_of a ≡ table_number (length cur)
      → out ≡ when_done (number_of a) (on_table (length cur / 6) layer cur) cur → Stepped a (on_table n layer cur) out
  layer-done a layer out e o =
      let s = step-done a _ _ cur out (table_passes n (length cur) f.table) e o in
      (s.0, s.1 ∙ ap (λ (m : ℕ). on_table m layer cur) positions)

  pub key-done : (a : Answer) (r : ℕ) (out : List ℕ) → r ≤ R → number_of a ≡ key_number (length cur) (length keys) r
      → out ≡ when_done (number_of a) (key_added (length cur / 6) (length keys / 6) keys r cur) cur → Stepped a (add_key_of n R keys r cur) out
  unfolding key_table_bytes add_key_of round_key_part
  key-done a r out h e o =
      let z : length keys % 96 ≡ 0 = omega (arith, f.keys) in
      let l : r < length keys / 96 = omega (arith, f.keys) in
      let s = step-done a _ _ cur out (key_passes n (length cur) f.table (length keys) r z l) e o in
      (s.0, s.1 ∙ ap₂ (λ (m w : ℕ). key_added m w keys r cur) positions key_width)

  module _ (a : Answer) (r from : ℕ) (out : List ℕ) (h : r < R) (p : from ≡ r * (4 * n))
      (e : number_of a ≡ alphas_number (length cur) (length alphas) from) where
    passes : alphas_number (length cur) (length alphas) from ≡ 0
    unfolding inversion_need
    passes =
        let z : length alphas % 3 ≡ 0 = omega (arith, f.alphas) in
        let w : from + 4 * n ≤ length alphas / 3 = omega (arith, apart (4 * n) r R h, third) in
        alphas_pass n (length cur) f.table (length alphas) from z w

    alphas_are : alphas_from n (length alphas / 3) alphas from ≡ alphas_of n R alphas r
    unfolding alphas_of inversion_need chunk
    alphas_are = ap₂ (λ (w s : ℕ). alphas_from n w alphas s) third p

    pub sub-done : out ≡ when_done (number_of a) (sub_shifted (length cur / 6) (alphas_from (length cur / 6) (length alphas / 3) alphas from) cur) cur
        → Stepped a (on_parts n (each_block shift_rows) (sub_bytes_of n (alphas_of n R alphas r) cur)) out
    sub-done o =
        let s = step-done a _ _ cur out passes e o in (
          s.0,
          s.1 ∙ ap (λ (m : ℕ). sub_shifted m (alphas_from m (length alphas / 3) alphas from) cur) positions
              ∙ ap (λ (α : ℕ → List ℕ). sub_shifted n α cur) alphas_are ∙ sub-shift-is n (alphas_of n R alphas r) cur,
        )

    pub inv_sub-done : out ≡ when_done (number_of a) (shift_subbed (length cur / 6) (alphas_from (length cur / 6) (length alphas / 3) alphas from) cur) cur
        → Stepped a (inv_sub_bytes_of n (alphas_of n R alphas r) (on_parts n (each_block inv_shift_rows) cur)) out
    inv_sub-done o =
        let s = step-done a _ _ cur out passes e o in (
          s.0,
          s.1 ∙ ap (λ (m : ℕ). shift_subbed m (alphas_from m (length alphas / 3) alphas from) cur) positions
              ∙ ap (λ (α : ℕ → List ℕ). shift_subbed n α cur) alphas_are ∙ shift_sub-is n (alphas_of n R alphas r) cur f.table.long,
        )

-- the alphas of the r-th inversion lie within the buffer
pub from-room : (n R r t k a : ℕ) → RunFits n R t k a → r < R → r * (4 * n) + 4 * n ≤ a
unfolding inversion_need
from-room n R r t k a f h = omega (arith, apart (4 * n) r R h, f.alphas)
