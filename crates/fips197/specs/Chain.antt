-- The chain of products and squares by which inversion is computed on shares (document 01, "The rules of computing"): x^254, which
-- proofs/Inverse.antt proves to be the inverse. Assumes nothing.
use Rattle.std.specs.Prelude.{ℕ}
use Rattle.fips197.specs.Field.{◌·◌, square}

unfoldable pub x2 : ℕ → ℕ
x2 x = square x

unfoldable pub x3 : ℕ → ℕ
x3 x = x · x2 x

unfoldable pub x12 : ℕ → ℕ
x12 x = square (square (x3 x))

unfoldable pub x15 : ℕ → ℕ
x15 x = x12 x · x3 x

unfoldable pub x14 : ℕ → ℕ
x14 x = x12 x · x2 x

unfoldable pub x240 : ℕ → ℕ
x240 x = square (square (square (square (x15 x))))

unfoldable pub x254 : ℕ → ℕ
x254 x = x240 x · x14 x
