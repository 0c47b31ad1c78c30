-- What the cipher on shares promises: from a consistent state table and a consistent key table it leaves a consistent table, and with alphas that
-- cancel that opens, at every block, to FIPS-197's Cipher of what the state table opens to, under the round keys that the key table opens
-- to. Over the number R of rounds; on states, and in byte order. Assumes nothing.
use Prim.Native.Nat.{ℕ, ◌+◌, ◌*◌, ◌≤◌}
use native.Mathlib.Omega.{arith}
use mathlib.Core.Path.{◌≡◌}
use mathlib.Core.List.{List}
use lib.ListN.{length}
use Rattle.fips197.specs.State.{from_bytes, to_bytes, shift_rows}
use Rattle.fips197.specs.Cipher.{cipher_state, cipher}
use Rattle.fips197.proofs.Layers.{length-shift_rows}
use Rattle.rep3.specs.Tables.{Consistent, opened, Cancel}
use Rattle.chain.specs.Chain.{inversion_need}
use Rattle.layers.specs.Layers.{each_block}
use Rattle.layers.proofs.EachBlock.{KeepsBlock}
use Rattle.aes.specs.Runs.{cipher_of}
use Rattle.runs.specs.OpenedKeys.{opened_key}
use Rattle.runs.proofs.RoundKeys.{keeps_key}
use Rattle.runs.proofs.CipherRun.{cipher_first, cipher_maps, length-cipher_maps, cipher-run, cipher-plain}
use Rattle.runs.proofs.BlockRun.{BlockRun, length_blocks, blocks-consistent, blocks-opened, blocks-consistent-bytes, blocks-opened-bytes}

pub keeps-cipher_state : (R : ℕ) (keys : List ℕ) → length keys ≡ 96 * (R + 1) → KeepsBlock (cipher_state R (opened_key R keys))
unfolding cipher_state
keeps-cipher_state R keys lk s e = keeps_key R keys lk R (omega arith) (shift_rows _) (length-shift_rows _)

module _ (b R : ℕ) (keys alphas : List ℕ) (lk : length keys ≡ 96 * (R + 1)) (ck : Consistent (16 * (R + 1)) keys) where
  on_blocks : BlockRun b R alphas (cipher_of (16 * b) R keys alphas) (cipher_state R (opened_key R keys))
  on_blocks = record {
    first = cipher_first b R keys lk ck;
    maps = cipher_maps b R keys lk ck;
    inversions = length-cipher_maps b R keys lk ck;
    runs = cipher-run b R keys lk ck alphas;
    plainly = cipher-plain b R keys lk ck;
    keeps = keeps-cipher_state R keys lk;
  }

  -- ---- on states

  module _ (t : List ℕ) (lt : length t ≡ 96 * b) where
    pub length-cipher : length (cipher_of (16 * b) R keys alphas t) ≡ 96 * b
    length-cipher = length_blocks on_blocks t lt

    pub cipher-consistent : Consistent (16 * b) t → Consistent (16 * b) (cipher_of (16 * b) R keys alphas t)
    cipher-consistent = blocks-consistent on_blocks t lt

    pub cipher-opened : Consistent (16 * b) t → 1 ≤ R → Cancel (R * inversion_need (16 * b)) alphas
        → opened (16 * b) (cipher_of (16 * b) R keys alphas t) ≡ each_block (cipher_state R (opened_key R keys)) (opened (16 * b) t)
    cipher-opened = blocks-opened on_blocks t lt

  -- ---- in byte order

  module _ (d : List ℕ) (ld : length d ≡ 96 * b) (c : Consistent (16 * b) d) where
    pub cipher-consistent-bytes : Consistent (16 * b) (each_block to_bytes (cipher_of (16 * b) R keys alphas (each_block from_bytes d)))
    cipher-consistent-bytes = blocks-consistent-bytes on_blocks d ld c

    pub cipher-opened-bytes : 1 ≤ R → Cancel (R * inversion_need (16 * b)) alphas
        → opened (16 * b) (each_block to_bytes (cipher_of (16 * b) R keys alphas (each_block from_bytes d)))
        ≡ each_block (cipher R (opened_key R keys)) (opened (16 * b) d)
    unfolding cipher
    cipher-opened-bytes = blocks-opened-bytes on_blocks d ld c
