-- Lists made by index, and lists in equal chunks. Assumes nothing.
use Rattle.std.specs.Prelude.{ℕ, zero, suc, ◌*◌, List, [], ◌∷◌, ◌++◌, take, drop}

-- f 0, f 1, .. f (n - 1)
unfoldable pub tab : ℕ → (ℕ → ℕ) → List ℕ
tab zero f = []
tab (suc n) f = f 0 ∷ tab n (λ i. f (suc i))

-- chunk k of m elements, counted from 0
unfoldable pub chunk : ℕ → ℕ → List ℕ → List ℕ
chunk m k xs = take m (drop (k * m) xs)

-- f 0, f 1, .. f (k - 1), one after the other
unfoldable pub joined : ℕ → (ℕ → List ℕ) → List ℕ
joined zero f = []
joined (suc k) f = f 0 ++ joined k (λ i. f (suc i))

-- xs with chunk i of m elements changed by f i, for its first k chunks, and the rest as it was
unfoldable pub map_chunks : ℕ → (ℕ → List ℕ → List ℕ) → ℕ → List ℕ → List ℕ
map_chunks m f zero xs = xs
map_chunks m f (suc k) xs = f 0 (take m xs) ++ map_chunks m (λ i. f (suc i)) k (drop m xs)
