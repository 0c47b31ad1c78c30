-- The cipher and the inverse on a state table of n positions, n sixteen times the blocks, over the number R of rounds: FIPS-197's Figures 5 and
-- 12 with each layer on every part of the table, S-boxes by inversion on shares, and 0x63 as a shared constant (document 01, "The rules of
-- computing"). Assumes nothing.
use Rattle.std.specs.Prelude.{ℕ, zero, suc, ◌-◌, ◌*◌, cond, List, map, eqb}
use Rattle.fips197.specs.Field.{affine, inv_affine, affine_constant}
use Rattle.fips197.specs.State.{◌⊞◌, shift_rows, inv_shift_rows, mix_columns, inv_mix_columns, add_round_key}
use Rattle.lists.specs.Lists.{tab, chunk}
use Rattle.rep3.specs.Tables.{six_parts, share_of}
use Rattle.chida.specs.Inversion.{inversion_of}
use Rattle.chain.specs.Chain.{inversion_need}
use Rattle.layers.specs.Layers.{each_block}
use Rattle.needs.specs.Keys.{round_key_part}

-- what each party does alone, to si and to sii alike
unfoldable pub on_parts : ℕ → (List ℕ → List ℕ) → List ℕ → List ℕ
on_parts n f t = six_parts (λ k. f (chunk n k t))

-- the constant v at n positions, as part k holds it: s_0 is v, and s_1 and s_2 are 0
unfoldable pub constant_part : ℕ → ℕ → ℕ → List ℕ
constant_part n v k = tab n (λ j. cond (eqb (share_of k) 0) v 0)

unfoldable pub add_constant : ℕ → ℕ → List ℕ → List ℕ
add_constant n v t = six_parts (λ k. chunk n k t ⊞ constant_part n v k)

-- S-box: invert, affine without constant, add shared 0x63
unfoldable pub sub_bytes_of : ℕ → (ℕ → List ℕ) → List ℕ → List ℕ
sub_bytes_of n alphas t = add_constant n affine_constant (map affine (inversion_of n alphas t))

-- inverse S-box: add 0x63, inverse affine, invert
unfoldable pub inv_sub_bytes_of : ℕ → (ℕ → List ℕ) → List ℕ → List ℕ
inv_sub_bytes_of n alphas t = inversion_of n alphas (map inv_affine (add_constant n affine_constant t))

unfoldable pub add_key_of : ℕ → ℕ → List ℕ → ℕ → List ℕ → List ℕ
add_key_of n R keys r t = six_parts (λ k. each_block (λ b. add_round_key b (round_key_part R keys r k)) (chunk n k t))

-- party p's alphas for the r-th inversion of a run of R, counted from 0: each party's part is used front to back
unfoldable pub alphas_of : ℕ → ℕ → List ℕ → ℕ → ℕ → List ℕ
alphas_of n R alphas r p = chunk (inversion_need n) r (chunk (R * inversion_need n) p alphas)

-- Figure 5: AddRoundKey, and the rounds 1 to r
unfoldable pub cipher_rounds : ℕ → ℕ → List ℕ → List ℕ → ℕ → List ℕ → List ℕ
cipher_rounds n R keys alphas zero t = add_key_of n R keys 0 t
cipher_rounds n R keys alphas (suc r) t =
    add_key_of n R keys (suc r)
    (on_parts n (each_block mix_columns)
    (on_parts n (each_block shift_rows) (sub_bytes_of n (alphas_of n R alphas r) (cipher_rounds n R keys alphas r t))))

-- and the last round, which has no MixColumns
unfoldable pub cipher_of : ℕ → ℕ → List ℕ → List ℕ → List ℕ → List ℕ
cipher_of n R keys alphas t =
    add_key_of n R keys R
    (on_parts n (each_block shift_rows) (sub_bytes_of n (alphas_of n R alphas (R - 1)) (cipher_rounds n R keys alphas (R - 1) t)))

-- Figure 12: AddRoundKey with the last round key, and r rounds, from round R - 1 down
unfoldable pub inverse_rounds : ℕ → ℕ → List ℕ → List ℕ → ℕ → List ℕ → List ℕ
inverse_rounds n R keys alphas zero t = add_key_of n R keys R t
inverse_rounds n R keys alphas (suc r) t =
    on_parts n (each_block inv_mix_columns)
    (add_key_of n R keys (R - 1 - r)
    (inv_sub_bytes_of n (alphas_of n R alphas r) (on_parts n (each_block inv_shift_rows) (inverse_rounds n R keys alphas r t))))

-- and the last round, which has no InvMixColumns
unfoldable pub inverse_of : ℕ → ℕ → List ℕ → List ℕ → List ℕ → List ℕ
inverse_of n R keys alphas t =
    add_key_of n R keys 0
    (inv_sub_bytes_of n (alphas_of n R alphas (R - 1)) (on_parts n (each_block inv_shift_rows) (inverse_rounds n R keys alphas (R - 1) t)))
