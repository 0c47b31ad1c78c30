-- One round of the cipher and of the inverse. Assumes nothing.
use Rattle.std.specs.Prelude.{ℕ, suc, ◌-◌, List}
use Rattle.fips197.specs.State.{shift_rows, inv_shift_rows, mix_columns, inv_mix_columns}
use Rattle.layers.specs.Layers.{each_block}
use Rattle.aes.specs.Runs.{on_parts, sub_bytes_of, inv_sub_bytes_of, add_key_of, alphas_of}

-- round r + 1 of the cipher, and the round after r others of the inverse, as Runs.antt has them
unfoldable pub cipher_round : ℕ → ℕ → List ℕ → List ℕ → ℕ → List ℕ → List ℕ
cipher_round n R keys alphas r t =
    add_key_of n R keys (suc r)
    (on_parts n (each_block mix_columns) (on_parts n (each_block shift_rows) (sub_bytes_of n (alphas_of n R alphas r) t)))

unfoldable pub inverse_round : ℕ → ℕ → List ℕ → List ℕ → ℕ → List ℕ → List ℕ
inverse_round n R keys alphas r t =
    on_parts n (each_block inv_mix_columns)
    (add_key_of n R keys (R - 1 - r) (inv_sub_bytes_of n (alphas_of n R alphas r) (on_parts n (each_block inv_shift_rows) t)))
