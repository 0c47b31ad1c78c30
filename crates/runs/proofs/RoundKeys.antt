-- Adding a round key of a consistent key table is what each party does alone, and on what the state table opens to it is AddRoundKey with
-- the round key that the key table opens to. Assumes nothing.
use Prim.Native.Nat.{ℕ, zero, suc, ◌+◌, ◌*◌, ◌≤◌, ◌<◌}
use native.Mathlib.Omega.{arith}
use mathlib.Core.Path.{◌≡◌, sym, ap, ◌∙◌}
use mathlib.Core.List.{List, [], ◌++◌}
use lib.Dec.{lit<}
use lib.ListN.{length, take, drop}
use Rattle.fips197.specs.State.{◌⊞◌, add_round_key}
use Rattle.fips197.proofs.Vectors.{⊞_nil, take_⊞, drop_⊞, length_⊞, append_⊞}
use Rattle.fips197.proofs.Layers.{length-add_round_key}
use Rattle.lists.specs.Lists.{chunk}
use Rattle.lists.proofs.Chunks.{length-chunk}
use Rattle.lists.proofs.Joined.{joined_cong}
use Rattle.rep3.specs.Tables.{Consistent, opened_by, opened}
use Rattle.rep3.proofs.Opening.{length_share, length-opened}
use Rattle.layers.specs.Layers.{each_block, repeated}
use Rattle.layers.proofs.EachBlock.{KeepsBlock}
use Rattle.layers.proofs.KeyAdded.{length-repeated, add_round_key-each_block}
use Rattle.aes.specs.Runs.{add_key_of}
use Rattle.needs.specs.Keys.{round_key_part}
use Rattle.runs.specs.OpenedKeys.{opened_key}
use Rattle.runs.proofs.Local.{opened_parts}
use Rattle.runs.proofs.Alone.{Alone, alone_as, adding}

chunk_⊞ : (m k : ℕ) (x y : List ℕ) → chunk m k (x ⊞ y) ≡ chunk m k x ⊞ chunk m k y
unfolding chunk
chunk_⊞ m k x y = ap (take m) (drop_⊞ (k * m) x y) ∙ take_⊞ m (drop (k * m) x) (drop (k * m) y)

repeated_⊞ : (b : ℕ) (x y : List ℕ) → length x ≡ length y → repeated b (x ⊞ y) ≡ repeated b x ⊞ repeated b y
unfolding repeated
repeated_⊞ zero x y e = sym (⊞_nil [])
repeated_⊞ (suc b) x y e = ap (λ (l : List ℕ). x ⊞ y ++ l) (repeated_⊞ b x y e) ∙ sym (append_⊞ x (repeated b x) y (repeated b y) e)

repeated-opened_parts : (b : ℕ) (f : ℕ → List ℕ) → ((k : ℕ) → k < 6 → length (f k) ≡ 16)
    → repeated b (opened_parts f) ≡ opened_parts (λ k. repeated b (f k))
repeated-opened_parts b f e =
    let p : length (f 0) ≡ length (f 1) = e 0 (lit< tt) ∙ sym (e 1 (lit< tt)) in
    repeated_⊞ b (f 0 ⊞ f 1) (f 4) (length_⊞ (f 0) (f 1) p ∙ e 0 (lit< tt) ∙ sym (e 4 (lit< tt)))
    ∙ ap (λ (x : List ℕ). x ⊞ repeated b (f 4)) (repeated_⊞ b (f 0) (f 1) p)

module _ (R : ℕ) (keys : List ℕ) (lk : length keys ≡ 96 * (R + 1)) where
  six : length keys ≡ 6 * (16 * (R + 1))
  six = omega arith

  pub length-opened_key : (r : ℕ) → r ≤ R → length (opened_key R keys r) ≡ 16
  unfolding opened_key
  length-opened_key r h = length-chunk 16 r _ (let e = length-opened (16 * (R + 1)) keys six in omega arith)

  pub keeps_key : (r : ℕ) → r ≤ R → KeepsBlock (λ s. add_round_key s (opened_key R keys r))
  keeps_key r h s e = length-add_round_key s (opened_key R keys r) (e ∙ sym (length-opened_key r h)) ∙ e

  length-round_key_part : (r : ℕ) → r ≤ R → (k : ℕ) → k < 6 → length (round_key_part R keys r k) ≡ 16
  unfolding round_key_part
  length-round_key_part r h k g = length-chunk 16 r _ (let e = length_share (16 * (R + 1)) keys six k g in omega arith)

  opened_key-parts : (r : ℕ) → opened_key R keys r ≡ opened_parts (round_key_part R keys r)
  unfolding opened_key round_key_part opened opened_by
  opened_key-parts r = chunk_⊞ 16 r _ _ ∙ ap (λ (x : List ℕ). x ⊞ chunk 16 r (chunk (16 * (R + 1)) 4 keys)) (chunk_⊞ 16 r _ _)

  pub alone_key : (b r : ℕ) → r ≤ R → Consistent (16 * (R + 1)) keys
      → Alone (16 * b) (add_key_of (16 * b) R keys r) (each_block (λ s. add_round_key s (opened_key R keys r)))
  unfolding add_key_of round_key_part
  alone_key b r h c =
      let part = round_key_part R keys r in
      let long : (k : ℕ) → k < 6 → length (part k) ≡ 16 = length-round_key_part r h in
      let key : List ℕ → List ℕ = λ x. repeated b (chunk 16 r x) in
      alone_as
      (adding (16 * b) (λ k. repeated b (part k)) (λ k g. length-repeated (part k) (long k g) b ∙ omega arith)
      (ap key c.zero_one) (ap key c.one_two) (ap key c.two_zero))
      (add_key_of (16 * b) R keys r) (each_block (λ s. add_round_key s (opened_key R keys r)))
      (λ t e.
      joined_cong 6 _ _ (λ k g.
      add_round_key-each_block (part k) (long k g) b (chunk (16 * b) k t) (length_share (16 * b) t e k g ∙ omega arith)))
      (λ x e.
      add_round_key-each_block (opened_key R keys r) (length-opened_key r h) b x (omega arith)
      ∙ ap (λ (y : List ℕ). x ⊞ y) (ap (repeated b) (opened_key-parts r) ∙ repeated-opened_parts b part long))
