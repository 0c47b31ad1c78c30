-- The Inverse Cipher undoes the Cipher and the Cipher the Inverse Cipher, for every number of rounds and all round keys of sixteen bytes.
-- By induction on the rounds: the last round of the one is undone by the first of the other. Assumes nothing.
use mathlib.Core.Path.{◌≡◌, refl, sym, ap, ◌∙◌}
use mathlib.Core.List.{List}
use Prim.Native.Nat.{ℕ, zero, suc, ◌-◌, ◌≤◌}
use native.Mathlib.Omega.{arith}
use Rattle.fips197.specs.State.{Block, from_bytes, to_bytes, sub_bytes, shift_rows, mix_columns, add_round_key, inv_sub_bytes, inv_shift_rows, inv_mix_columns}
use Rattle.fips197.specs.Cipher.{rounds, cipher_state, cipher, inv_rounds, inv_cipher_state, inv_cipher}
use Rattle.fips197.proofs.Layers.{block-from_bytes, block-to_bytes, block-sub_bytes, block-shift_rows, block-mix_columns, block-add_round_key, block-inv_sub_bytes, block-inv_shift_rows, block-inv_mix_columns}
use Rattle.fips197.proofs.MixColumns.{inv_mix_columns-mix_columns, mix_columns-inv_mix_columns}
use Rattle.fips197.proofs.Undo.{inv_shift_rows-shift_rows, shift_rows-inv_shift_rows, inv_sub_bytes-sub_bytes, sub_bytes-inv_sub_bytes, add_round_key_twice, from_bytes-to_bytes, to_bytes-from_bytes}

-- ---- the layers of a round in pairs

added : (s k : List ℕ) → Block s → Block k → add_round_key (add_round_key s k) k ≡ s
added s k hs hk = add_round_key_twice s k (hs.sixteen ∙ sym hk.sixteen)

abbrev shifted : List ℕ → List ℕ
shifted s = shift_rows (sub_bytes s)

abbrev unshifted : List ℕ → List ℕ
unshifted s = inv_sub_bytes (inv_shift_rows s)

block-shifted : (s : List ℕ) → Block s → Block (shifted s)
block-shifted s h = block-shift_rows (sub_bytes s) (block-sub_bytes s h)

block-unshifted : (s : List ℕ) → Block s → Block (unshifted s)
block-unshifted s h = block-inv_sub_bytes (inv_shift_rows s) (block-inv_shift_rows s h)

unshifted-shifted : (s : List ℕ) → Block s → unshifted (shifted s) ≡ s
unshifted-shifted s h =
    ap inv_sub_bytes (inv_shift_rows-shift_rows (sub_bytes s) (block-sub_bytes s h).sixteen) ∙ inv_sub_bytes-sub_bytes s h.bytes

shifted-unshifted : (s : List ℕ) → Block s → shifted (unshifted s) ≡ s
shifted-unshifted s h =
    ap shift_rows (sub_bytes-inv_sub_bytes (inv_shift_rows s) (block-inv_shift_rows s h).bytes) ∙ shift_rows-inv_shift_rows s h.sixteen

-- ---- the rounds, with round keys of sixteen bytes up to the last

module _ (w : ℕ → List ℕ) where
  block-rounds : (n : ℕ) (s : List ℕ) → ((r : ℕ) → r ≤ n → Block (w r)) → Block s → Block (rounds w n s)
  unfolding rounds
  block-rounds zero s hw hs = block-add_round_key s (w 0) hs (hw 0 (omega arith))
  block-rounds (suc n) s hw hs =
      block-add_round_key (mix_columns (shifted (rounds w n s))) (w (suc n)) (block-mix_columns _) (hw (suc n) (omega arith))

  block-inv_rounds : (n : ℕ) (s : List ℕ) → Block s → Block (inv_rounds w n s)
  unfolding inv_rounds
  block-inv_rounds zero s hs = hs
  block-inv_rounds (suc n) s hs = block-inv_rounds n (inv_mix_columns (add_round_key (unshifted s) (w (suc n)))) (block-inv_mix_columns _)

  rounds-undone : (n : ℕ) (s : List ℕ) → ((r : ℕ) → r ≤ n → Block (w r)) → Block s
      → inv_rounds w n (shifted (rounds w n s)) ≡ shifted (add_round_key s (w 0))
  unfolding rounds inv_rounds
  rounds-undone zero s hw hs = refl
  rounds-undone (suc n) s hw hs =
      let k = w (suc n) in
      let hk : Block k = hw (suc n) (omega arith) in
      let below : (r : ℕ) → r ≤ n → Block (w r) = λ r l. hw r (omega arith) in
      let x = shifted (rounds w n s) in
      let hx : Block x = block-shifted (rounds w n s) (block-rounds n s below hs) in
      ap (λ (y : List ℕ). inv_rounds w n (inv_mix_columns (add_round_key y k)))
      (unshifted-shifted (add_round_key (mix_columns x) k) (block-add_round_key (mix_columns x) k (block-mix_columns x) hk))
      ∙ ap (λ (y : List ℕ). inv_rounds w n (inv_mix_columns y)) (added (mix_columns x) k (block-mix_columns x) hk)
      ∙ ap (inv_rounds w n) (inv_mix_columns-mix_columns x hx)
      ∙ rounds-undone n s below hs

  inv_rounds-undone : (n : ℕ) (s : List ℕ) → ((r : ℕ) → r ≤ n → Block (w r)) → Block s
      → shifted (rounds w n (add_round_key (unshifted (inv_rounds w n s)) (w 0))) ≡ s
  unfolding rounds inv_rounds
  inv_rounds-undone zero s hw hs =
      ap shifted (added (unshifted s) (w 0) (block-unshifted s hs) (hw 0 (omega arith))) ∙ shifted-unshifted s hs
  inv_rounds-undone (suc n) s hw hs =
      let k = w (suc n) in
      let hk : Block k = hw (suc n) (omega arith) in
      let u = unshifted s in
      let hu : Block u = block-unshifted s hs in
      ap (λ (y : List ℕ). shifted (add_round_key (mix_columns y) k))
      (inv_rounds-undone n (inv_mix_columns (add_round_key u k)) (λ r l. hw r (omega arith)) (block-inv_mix_columns _))
      ∙ ap (λ (y : List ℕ). shifted (add_round_key y k)) (mix_columns-inv_mix_columns (add_round_key u k) (block-add_round_key u k hu hk))
      ∙ ap shifted (added u k hu hk)
      ∙ shifted-unshifted s hs

-- ---- the ciphers

-- on states
module _ (Nr : ℕ) (w : ℕ → List ℕ) (s : List ℕ) (hw : (r : ℕ) → r ≤ Nr → Block (w r)) (hs : Block s) where
  pub block-cipher_state : Block (cipher_state Nr w s)
  unfolding cipher_state
  block-cipher_state =
      block-add_round_key _ (w Nr) (block-shifted _ (block-rounds w (Nr - 1) s (λ r l. hw r (omega arith)) hs)) (hw Nr (omega arith))

  pub block-inv_cipher_state : Block (inv_cipher_state Nr w s)
  unfolding inv_cipher_state
  block-inv_cipher_state =
      block-add_round_key _ (w 0)
      (block-unshifted _ (block-inv_rounds w (Nr - 1) _ (block-add_round_key s (w Nr) hs (hw Nr (omega arith))))) (hw 0 (omega arith))

  pub inv_cipher-cipher_state : inv_cipher_state Nr w (cipher_state Nr w s) ≡ s
  unfolding cipher_state inv_cipher_state
  inv_cipher-cipher_state =
      let n = Nr - 1 in
      let below : (r : ℕ) → r ≤ n → Block (w r) = λ r l. hw r (omega arith) in
      let x = shifted (rounds w n s) in
      let k = add_round_key s (w 0) in
      ap (λ (y : List ℕ). add_round_key (unshifted (inv_rounds w n y)) (w 0))
      (added x (w Nr) (block-shifted _ (block-rounds w n s below hs)) (hw Nr (omega arith)))
      ∙ ap (λ (y : List ℕ). add_round_key (unshifted y) (w 0)) (rounds-undone w n s below hs)
      ∙ ap (λ (y : List ℕ). add_round_key y (w 0)) (unshifted-shifted k (block-add_round_key s (w 0) hs (hw 0 (omega arith))))
      ∙ added s (w 0) hs (hw 0 (omega arith))

  pub cipher-inv_cipher_state : cipher_state Nr w (inv_cipher_state Nr w s) ≡ s
  unfolding cipher_state inv_cipher_state
  cipher-inv_cipher_state =
      ap (λ (y : List ℕ). add_round_key y (w Nr))
      (inv_rounds-undone w (Nr - 1) (add_round_key s (w Nr)) (λ r l. hw r (omega arith)) (block-add_round_key s (w Nr) hs (hw Nr (omega arith))))
      ∙ added s (w Nr) hs (hw Nr (omega arith))

-- on blocks
module _ (Nr : ℕ) (w : ℕ → List ℕ) (s : List ℕ) (hw : (r : ℕ) → r ≤ Nr → Block (w r)) (hs : Block s) where
  pub block-cipher : Block (cipher Nr w s)
  unfolding cipher
  block-cipher = block-to_bytes _ (block-cipher_state Nr w (from_bytes s) hw (block-from_bytes s hs))

  pub block-inv_cipher : Block (inv_cipher Nr w s)
  unfolding inv_cipher
  block-inv_cipher = block-to_bytes _ (block-inv_cipher_state Nr w (from_bytes s) hw (block-from_bytes s hs))

  pub inv_cipher-cipher : inv_cipher Nr w (cipher Nr w s) ≡ s
  unfolding cipher inv_cipher
  inv_cipher-cipher =
      let hf = block-from_bytes s hs in
      ap (λ (y : List ℕ). to_bytes (inv_cipher_state Nr w y))
      (from_bytes-to_bytes (cipher_state Nr w (from_bytes s)) (block-cipher_state Nr w (from_bytes s) hw hf).sixteen)
      ∙ ap to_bytes (inv_cipher-cipher_state Nr w (from_bytes s) hw hf) ∙ to_bytes-from_bytes s hs.sixteen

  pub cipher-inv_cipher : cipher Nr w (inv_cipher Nr w s) ≡ s
  unfolding cipher inv_cipher
  cipher-inv_cipher =
      let hf = block-from_bytes s hs in
      ap (λ (y : List ℕ). to_bytes (cipher_state Nr w y))
      (from_bytes-to_bytes (inv_cipher_state Nr w (from_bytes s)) (block-inv_cipher_state Nr w (from_bytes s) hw hf).sixteen)
      ∙ ap to_bytes (cipher-inv_cipher_state Nr w (from_bytes s) hw hf) ∙ to_bytes-from_bytes s hs.sixteen
