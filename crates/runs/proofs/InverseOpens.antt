-- What the inverse on shares promises: from a consistent state table and a consistent key table it leaves a consistent table, and with alphas that
-- cancel that opens, at every block, to FIPS-197's Inverse Cipher of what the state table opens to, under the round keys that the key table opens
-- to. Over the number R of rounds; on states, and in byte order. Assumes nothing.
use Prim.Native.Nat.{ℕ, ◌+◌, ◌*◌, ◌≤◌}
use native.Mathlib.Omega.{arith}
use mathlib.Core.Path.{◌≡◌, ◌∙◌}
use mathlib.Core.List.{List}
use lib.ListN.{length}
use Rattle.fips197.specs.State.{from_bytes, to_bytes, inv_sub_bytes, inv_shift_rows}
use Rattle.fips197.specs.Cipher.{inv_cipher_state, inv_cipher}
use Rattle.fips197.proofs.Layers.{length-inv_sub_bytes, length-inv_shift_rows}
use Rattle.rep3.specs.Tables.{Consistent, opened, Cancel}
use Rattle.chain.specs.Chain.{inversion_need}
use Rattle.layers.specs.Layers.{each_block}
use Rattle.layers.proofs.EachBlock.{KeepsBlock}
use Rattle.aes.specs.Runs.{inverse_of}
use Rattle.runs.specs.OpenedKeys.{opened_key}
use Rattle.runs.proofs.RoundKeys.{keeps_key}
use Rattle.runs.proofs.InverseRun.{inverse_first, inverse_maps, length-inverse_maps, inverse-run, inverse-plain}
use Rattle.runs.proofs.BlockRun.{BlockRun, length_blocks, blocks-consistent, blocks-opened, blocks-consistent-bytes, blocks-opened-bytes}

pub keeps-inv_cipher_state : (R : ℕ) (keys : List ℕ) → length keys ≡ 96 * (R + 1) → KeepsBlock (inv_cipher_state R (opened_key R keys))
unfolding inv_cipher_state
keeps-inv_cipher_state R keys lk s e =
    keeps_key R keys lk 0 (omega arith) (inv_sub_bytes (inv_shift_rows _)) (length-inv_sub_bytes (inv_shift_rows _) ∙ length-inv_shift_rows _)

module _ (b R : ℕ) (keys alphas : List ℕ) (lk : length keys ≡ 96 * (R + 1)) (ck : Consistent (16 * (R + 1)) keys) where
  on_blocks : BlockRun b R alphas (inverse_of (16 * b) R keys alphas) (inv_cipher_state R (opened_key R keys))
  on_blocks = record {
    first = inverse_first b R keys lk ck;
    maps = inverse_maps b R keys lk ck;
    inversions = length-inverse_maps b R keys lk ck;
    runs = inverse-run b R keys lk ck alphas;
    plainly = inverse-plain b R keys lk ck;
    keeps = keeps-inv_cipher_state R keys lk;
  }

  -- ---- on states

  module _ (t : List ℕ) (lt : length t ≡ 96 * b) where
    pub length-inverse : length (inverse_of (16 * b) R keys alphas t) ≡ 96 * b
    length-inverse = length_blocks on_blocks t lt

    pub inverse-consistent : Consistent (16 * b) t → Consistent (16 * b) (inverse_of (16 * b) R keys alphas t)
    inverse-consistent = blocks-consistent on_blocks t lt

    pub inverse-opened : Consistent (16 * b) t → 1 ≤ R → Cancel (R * inversion_need (16 * b)) alphas
        → opened (16 * b) (inverse_of (16 * b) R keys alphas t) ≡ each_block (inv_cipher_state R (opened_key R keys)) (opened (16 * b) t)
    inverse-opened = blocks-opened on_blocks t lt

  -- ---- in byte order

  module _ (d : List ℕ) (ld : length d ≡ 96 * b) (c : Consistent (16 * b) d) where
    pub inverse-consistent-bytes : Consistent (16 * b) (each_block to_bytes (inverse_of (16 * b) R keys alphas (each_block from_bytes d)))
    inverse-consistent-bytes = blocks-consistent-bytes on_blocks d ld c

    pub inverse-opened-bytes : 1 ≤ R → Cancel (R * inversion_need (16 * b)) alphas
        → opened (16 * b) (each_block to_bytes (inverse_of (16 * b) R keys alphas (each_block from_bytes d)))
        ≡ each_block (inv_cipher R (opened_key R keys)) (opened (16 * b) d)
    unfolding inv_cipher
    inverse-opened-bytes = blocks-opened-bytes on_blocks d ld c
