-- The steps of a round on a share table, and when each is refused: a layer on every part, a round key, and the S-box layers with the inversion in
-- them. Assumes nothing.
use Rattle.std.specs.Prelude.{ℕ, ◌*◌, ◌/◌, ◌%◌, ◌-◌, cond, List, map, leb, eqb, ltb, length, take, drop}
use Rattle.fips197.specs.Field.{affine, inv_affine, affine_constant}
use Rattle.fips197.specs.State.{◌⊞◌, shift_rows, inv_shift_rows, mix_columns, inv_mix_columns, add_round_key}
use Rattle.lists.specs.Lists.{tab, chunk}
use Rattle.rep3.specs.Tables.{six_parts, share_of}
use Rattle.layers.specs.Layers.{table_bytes, most_blocks, each_block}
use Rattle.chida.specs.Inversion.{inversion_of}
use Rattle.tables.specs.declared.parts.Layer.{Layer}
use Rattle.tables.specs.declared.parts.Layer.TheVariants.{ShiftRows, InvShiftRows, MixColumns, InvMixColumns, Affine, InvAffine}

-- the shared 0x63, as part k holds it: s_0 is the constant, and s_1 and s_2 are 0
abbrev pub held_byte : ℕ → ℕ
held_byte k = cond (eqb (share_of k) 0) affine_constant 0

-- and at n positions
unfoldable pub held_constant : ℕ → ℕ → List ℕ
held_constant n k = tab n (λ j. held_byte k)

-- what a layer leaves in part k: the affine maps go with the constant
abbrev pub layer_of : Layer → ℕ → List ℕ → List ℕ
layer_of ShiftRows k xs = each_block shift_rows xs
layer_of InvShiftRows k xs = each_block inv_shift_rows xs
layer_of MixColumns k xs = each_block mix_columns xs
layer_of InvMixColumns k xs = each_block inv_mix_columns xs
layer_of Affine k xs = map affine xs ⊞ held_constant (length xs) k
layer_of InvAffine k xs = map inv_affine (xs ⊞ held_constant (length xs) k)

-- a layer on each part of a table of n positions
abbrev pub on_table : ℕ → Layer → List ℕ → List ℕ
on_table n layer t = six_parts (λ k. layer_of layer k (chunk n k t))

-- round key r of a key table whose parts have w bytes, added to each part
abbrev pub key_added : ℕ → ℕ → List ℕ → ℕ → List ℕ → List ℕ
key_added n w keys r t = six_parts (λ k. each_block (λ b. add_round_key b (chunk 16 r (chunk w k keys))) (chunk n k t))

-- party p's alphas for an inversion of n positions, from a place of its part of w
abbrev pub alphas_from : ℕ → ℕ → List ℕ → ℕ → ℕ → List ℕ
alphas_from n w alphas from p = take (4 * n) (drop from (chunk w p alphas))

-- SubBytes and ShiftRows
abbrev pub sub_shifted : ℕ → (ℕ → List ℕ) → List ℕ → List ℕ
sub_shifted n alphas t = on_table n ShiftRows (on_table n Affine (inversion_of n alphas t))

-- InvShiftRows and InvSubBytes
abbrev pub shift_subbed : ℕ → (ℕ → List ℕ) → List ℕ → List ℕ
shift_subbed n alphas t = inversion_of n alphas (on_table n InvAffine (on_table n InvShiftRows t))

-- 4: not whole blocks; 2: too many; 5: no key table; 9: no such round key in it
unfoldable pub key_number : ℕ → ℕ → ℕ → ℕ
key_number t k r =
    cond (eqb (t % table_bytes) 0)
    (cond (leb (t / table_bytes) most_blocks) (cond (eqb (k % table_bytes) 0) (cond (ltb r (k / table_bytes)) 0 9) 5) 2)
    4

-- 4: not whole blocks; 2: too many; 6: not three equal parts, or too few alphas in a part from the place on
unfoldable pub alphas_number : ℕ → ℕ → ℕ → ℕ
alphas_number t a from =
    cond (eqb (t % table_bytes) 0)
    (cond (leb (t / table_bytes) most_blocks) (cond (eqb (a % 3) 0) (cond (leb from (a / 3)) (cond (leb (4 * (t / 6)) (a / 3 - from)) 0 6) 6) 6) 2)
    4
