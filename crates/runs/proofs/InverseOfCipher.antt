-- The inverse on shares undoes the cipher on shares: under the same key table, with alphas that cancel in both, the inverse of the cipher's
-- result opens to the blocks that the cipher began with. From InvCipher over Cipher, a theorem of FIPS-197 alone. Assumes nothing.
use Prim.Native.Nat.{ℕ, ◌+◌, ◌*◌, ◌≤◌}
use mathlib.Core.Path.{◌≡◌, ap, ◌∙◌}
use mathlib.Core.List.{List}
use lib.ListN.{length, drop}
use Rattle.fips197.specs.State.{Bytes, Block, from_bytes, to_bytes}
use Rattle.fips197.specs.Cipher.{cipher_state, inv_cipher_state}
use Rattle.fips197.proofs.States.{bytes_⊞}
use Rattle.fips197.proofs.Layers.{block-from_bytes}
use Rattle.fips197.proofs.InvCipher.{inv_cipher-cipher_state}
use Rattle.lists.specs.Lists.{chunk}
use Rattle.rep3.specs.Tables.{Consistent, opened_by, opened, Cancel}
use Rattle.chain.specs.Chain.{inversion_need}
use Rattle.layers.specs.Layers.{each_block}
use Rattle.layers.proofs.BlockBytes.{bytes_take, bytes_drop, bytes-each_block}
use Rattle.layers.proofs.Undone.{each_block-undone-bytes, bytes_from_rows_undoes-rows_from_bytes, rows_from_bytes_undoes-bytes_from_rows}
use Rattle.aes.specs.Runs.{cipher_of, inverse_of}
use Rattle.runs.specs.OpenedKeys.{opened_key}
use Rattle.runs.proofs.RoundKeys.{length-opened_key}
use Rattle.runs.proofs.ByteOrder.{length-rows, rows-consistent, rows-opened, bytes-opened}
use Rattle.runs.proofs.CipherOpens.{keeps-cipher_state, length-cipher, cipher-consistent, cipher-opened}
use Rattle.runs.proofs.InverseOpens.{length-inverse, inverse-opened}

-- ---- tables of bytes open to bytes

bytes-chunk : (n k : ℕ) (t : List ℕ) → Bytes t → Bytes (chunk n k t)
unfolding chunk
bytes-chunk n k t h = bytes_take n (drop (k * n) t) (bytes_drop (k * n) t h)

pub opened_byte : (n : ℕ) (t : List ℕ) → Bytes t → Bytes (opened n t)
unfolding opened opened_by
opened_byte n t h = bytes_⊞ _ _ (bytes_⊞ _ _ (bytes-chunk n 0 t h) (bytes-chunk n 1 t h)) (bytes-chunk n 4 t h)

block-opened_key : (R : ℕ) (keys : List ℕ) → length keys ≡ 96 * (R + 1) → Bytes keys → (r : ℕ) → r ≤ R → Block (opened_key R keys r)
unfolding opened_key
block-opened_key R keys lk h r l =
    record { sixteen = length-opened_key R keys lk r l; bytes = bytes-chunk 16 r _ (opened_byte (16 * (R + 1)) keys h) }

module _ (b R : ℕ) (keys : List ℕ) (lk : length keys ≡ 96 * (R + 1)) (ck : Consistent (16 * (R + 1)) keys) (hk : Bytes keys) (one : 1 ≤ R)
    (alphas alphas' : List ℕ) (cancel : Cancel (R * inversion_need (16 * b)) alphas) (cancel' : Cancel (R * inversion_need (16 * b)) alphas')
  where
    pub inverse_of-cipher : (t : List ℕ) → length t ≡ 96 * b → Consistent (16 * b) t → Bytes t
        → opened (16 * b) (inverse_of (16 * b) R keys alphas' (cipher_of (16 * b) R keys alphas t)) ≡ opened (16 * b) t
    inverse_of-cipher t lt ct ht =
        let w = opened_key R keys in
        let f = cipher_state R w in
        let g = inv_cipher_state R w in
        inverse-opened b R keys alphas' lk ck (cipher_of (16 * b) R keys alphas t) (length-cipher b R keys alphas lk ck t lt)
        (cipher-consistent b R keys alphas lk ck t lt ct) one cancel'
        ∙ ap (each_block g) (cipher-opened b R keys alphas lk ck t lt ct one cancel)
        ∙ each_block-undone-bytes f g (keeps-cipher_state R keys lk) (λ s. inv_cipher-cipher_state R w s (block-opened_key R keys lk hk))
        (opened (16 * b) t) (opened_byte (16 * b) t ht)

    -- in byte order, taken back between the two
    pub inverse_of-cipher-bytes : (d : List ℕ) → length d ≡ 96 * b → Consistent (16 * b) d → Bytes d
        → opened (16 * b) (each_block to_bytes (inverse_of (16 * b) R keys alphas' (each_block from_bytes
        (each_block to_bytes (cipher_of (16 * b) R keys alphas (each_block from_bytes d)))))) ≡ opened (16 * b) d
    inverse_of-cipher-bytes d ld cd hd =
        let t = each_block from_bytes d in
        let lt : length t ≡ 96 * b = length-rows b d ld in
        let u = cipher_of (16 * b) R keys alphas t in
        ap (λ (y : List ℕ). opened (16 * b) (each_block to_bytes (inverse_of (16 * b) R keys alphas' y))) (rows_from_bytes_undoes-bytes_from_rows u)
        ∙ bytes-opened b (inverse_of (16 * b) R keys alphas' u) (length-inverse b R keys alphas' lk ck u (length-cipher b R keys alphas lk ck t lt))
        ∙ ap (each_block to_bytes)
        (inverse_of-cipher t lt (rows-consistent b d ld cd) (bytes-each_block from_bytes block-from_bytes d hd) ∙ rows-opened b d ld)
        ∙ bytes_from_rows_undoes-rows_from_bytes (opened (16 * b) d)
