-- The loop of a first half: ci with its first k positions filled. The law of a turn stands over the product itself, so that the search takes
-- it for any turn, on whichever path the product is written. Assumes nothing.
use Prim.Native.Nat.{ℕ, ◌+◌, ◌≤◌, ◌<◌}
use mathlib.Core.Path.{◌≡◌}
use mathlib.Core.List.{List}
use lib.ListN.{length, get_or, set}
use Rattle.lists.proofs.Filling.{Filling, filling_start, filling-more, filling_end}
use Rattle.halves.specs.Product.{product_at, first_half}

-- the products of the positions before k stand in cur, and the rest is as in xs
unfoldable pub Filled : (ai aii bi bii alphas : List ℕ) → ℕ → List ℕ → ℕ → List ℕ → Type 0
Filled ai aii bi bii alphas n xs k cur =
    Filling (λ i. product_at (get_or ai i 0) (get_or aii i 0) (get_or bi i 0) (get_or bii i 0) (get_or alphas i 0)) n xs k cur

module _ (ai aii bi bii alphas : List ℕ) (n : ℕ) (xs : List ℕ) where
  pub filled_start : length xs ≡ n → Filled ai aii bi bii alphas n xs 0 xs
  unfolding Filled
  filled_start h = filling_start _ n xs h

  pub filled_more : (k : ℕ) (cur : List ℕ) (v : ℕ) → Filled ai aii bi bii alphas n xs k cur → k < n
      → v ≡ product_at (get_or ai k 0) (get_or aii k 0) (get_or bi k 0) (get_or bii k 0) (get_or alphas k 0)
      → Filled ai aii bi bii alphas n xs (k + 1) (set cur k v)
  unfolding Filled
  filled_more k cur v f h e = filling-more _ n xs k cur f v h e

  pub filled_end : (k : ℕ) (cur : List ℕ) → Filled ai aii bi bii alphas n xs k cur → n ≤ k → cur ≡ first_half n ai aii bi bii alphas
  unfolding Filled first_half
  filled_end k cur f h = filling_end _ n xs k cur f h
