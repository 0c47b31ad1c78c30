-- The chain of inversion on shares (document 01, "The rules of computing"): x2, x3, x12, x15 and x14, x240, x254. Assumes nothing.
use Rattle.std.specs.Prelude.{ℕ, ◌*◌, List, map}
use Rattle.fips197.specs.Field.{square}
use Rattle.halves.specs.Product.{product_of}

-- the chain on a share table x of n positions. Squaring is each party's own, on si and on sii alike; the products draw alphas 0, then alphas 1 for
-- x15 and alphas 2 for x14, then alphas 3. Only x15 is raised to the 16th
unfoldable pub chain_of : ℕ → (ℕ → ℕ → List ℕ) → List ℕ → List ℕ
chain_of n alphas x =
    let x2 = map square x in
    let x3 = product_of n x x2 (alphas 0) in
    let x12 = map square (map square x3) in
    let x15 = product_of n x12 x3 (alphas 1) in
    let x14 = product_of n x12 x2 (alphas 2) in
    let x240 = map square (map square (map square (map square x15))) in
    product_of n x240 x14 (alphas 3)

-- the alphas that each party needs for n positions
unfoldable pub inversion_need : ℕ → ℕ
inversion_need n = 4 * n

-- the most positions of one inversion
unfoldable pub most_inversion : ℕ
most_inversion = 65536
