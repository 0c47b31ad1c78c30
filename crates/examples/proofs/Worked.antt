-- Every worked example holds of the definitions: one claim over the one list, by computation. Assumes nothing.
use mathlib.Core.Path.{◌≡◌, refl}
use mathlib.Core.List.{List, map}
use Prim.Native.Nat.{ℕ}
use Rattle.fips197.specs.Field.{◌⊕◌, bit, times_n, modulus, reduce_n, ◌·◌, square, find_n, inverse, byte_n, affine_bit, affine, affine_constant, sbox}
use Rattle.fips197.specs.State.{◌⊞◌, at, state_of, shift_rows, mix_with, mix_columns}
use Rattle.lists.specs.Lists.{tab, chunk, joined}
use Rattle.rep3.specs.Tables.{share_of, opened_by, opened}
use Rattle.halves.specs.Product.{product_at, first_half, sent, product_of}
use Rattle.examples.specs.Examples.{examples}

pub worked : map (λ (e : List ℕ × List ℕ). e.0) examples ≡ map (λ (e : List ℕ × List ℕ). e.1) examples
unfolding examples ◌⊕◌ bit times_n modulus reduce_n ◌·◌ square find_n inverse byte_n affine_bit affine affine_constant sbox ◌⊞◌ at state_of shift_rows mix_with mix_columns tab chunk joined share_of opened_by opened product_at first_half sent product_of
worked = refl
