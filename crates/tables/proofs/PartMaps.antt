-- The affine maps with a constant: what a loop over a part leaves, and which byte of the shared constant part k holds. Assumes nothing.
use Prim.Native.Nat.{ℕ, zero, suc, ◌/◌, ◌<◌}
use native.Mathlib.Omega.{arith}
use mathlib.Core.Path.{◌≡◌, sym, ap, ◌∙◌}
use lib.Dec.{eqb}
use mathlib.Core.Bool.{cond}
use mathlib.Core.List.{List, map}
use lib.ListN.{length, get_or, length-map}
use lib.Seq.{ext_get_or}
use Rattle.fips197.specs.Field.{◌⊕◌}
use Rattle.fips197.specs.State.{◌⊞◌}
use Rattle.fips197.proofs.Vectors.{length_⊞, get_or_⊞}
use Rattle.lists.specs.Lists.{tab}
use Rattle.lists.proofs.Tabs.{length-tab, get_or-tab, get_d_map}
use Rattle.rep3.specs.Shares.{constant_of}
use Rattle.rep3.specs.Tables.{share_of}
use Rattle.rep3.specs.declared.RssShare.{RssShare}
use Rattle.rep3.specs.declared.Refusal.{Refusal}
use Rattle.std.specs.Prelude.{Result, Ok}
use Rattle.tables.specs.Fits.{half_held}

-- c at each place
abbrev const : ℕ → ℕ → List ℕ
const n c = tab n (λ _. c)

module _ (f : ℕ → ℕ) (c : ℕ) (xs : List ℕ) where
  same : length xs ≡ length (const (length xs) c)
  same = sym (length-tab (length xs) (λ _. c))

  mapped : length (map f xs) ≡ length (const (length xs) c)
  mapped = length-map xs f ∙ same

  -- f, and then c
  pub map-then-add : map (λ x. f x ⊕ c) xs ≡ map f xs ⊞ const (length xs) c
  map-then-add =
      ext_get_or 0 _ _ (length-map xs _ ∙ sym (length_⊞ _ _ mapped ∙ length-map xs f))
      (λ i h. let q : i < length xs = rw length-map at h in
      get_d_map (λ x. f x ⊕ c) xs i q
      ∙ sym (get_or_⊞ (map f xs) (const (length xs) c) i mapped ∙ ap (λ (x : ℕ). x ⊕ get_or (const (length xs) c) i 0) (get_d_map f xs i q)
      ∙ ap (λ (x : ℕ). f (get_or xs i 0) ⊕ x) (get_or-tab (length xs) (λ _. c) i 0 q)))

  added : length (xs ⊞ const (length xs) c) ≡ length xs
  added = length_⊞ xs (const (length xs) c) same

  -- c, and then f
  pub add-then-map : map (λ x. f (x ⊕ c)) xs ≡ map f (xs ⊞ const (length xs) c)
  add-then-map =
      ext_get_or 0 _ _ (length-map xs _ ∙ sym (length-map (xs ⊞ const (length xs) c) f ∙ added))
      (λ i h. let q : i < length xs = rw length-map at h in
      get_d_map (λ x. f (x ⊕ c)) xs i q
      ∙ sym (get_d_map f (xs ⊞ const (length xs) c) i (omega (arith, added))
      ∙ ap f (get_or_⊞ xs (const (length xs) c) i same)
      ∙ ap (λ (x : ℕ). f (get_or xs i 0 ⊕ x)) (get_or-tab (length xs) (λ _. c) i 0 q)))

-- a party of three is given its share of the constant
pub constant_given : (k v : ℕ) → k < 6 → (r : Result RssShare Refusal) → r ≡ constant_of (k / 2) v → (s : RssShare) × (r ≡ Ok s)
unfolding constant_of
constant_given zero v h r e = (_, e)
constant_given (suc zero) v h r e = (_, e)
constant_given (suc (suc zero)) v h r e = (_, e)
constant_given (suc (suc (suc zero))) v h r e = (_, e)
constant_given (suc (suc (suc (suc zero)))) v h r e = (_, e)
constant_given (suc (suc (suc (suc (suc zero))))) v h r e = (_, e)
constant_given (suc (suc (suc (suc (suc (suc k)))))) v h r e = absurd (omega arith)

-- and part k holds its byte of it
pub constant_held : (k v : ℕ) (s : RssShare) → k < 6 → Ok s ≡ constant_of (k / 2) v → half_held s k ≡ cond (eqb (share_of k) 0) v 0
unfolding constant_of share_of
constant_held zero v s h e = let d : s.si ≡ v = cc in d
constant_held (suc zero) v s h e = let d : s.sii ≡ 0 = cc in d
constant_held (suc (suc zero)) v s h e = let d : s.si ≡ 0 = cc in d
constant_held (suc (suc (suc zero))) v s h e = let d : s.sii ≡ 0 = cc in d
constant_held (suc (suc (suc (suc zero)))) v s h e = let d : s.si ≡ 0 = cc in d
constant_held (suc (suc (suc (suc (suc zero))))) v s h e = let d : s.sii ≡ v = cc in d
constant_held (suc (suc (suc (suc (suc (suc k)))))) v s h e = absurd (omega arith)
