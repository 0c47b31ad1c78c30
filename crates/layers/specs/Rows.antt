-- A block as four rows of four bytes. Assumes nothing.
use Rattle.std.specs.Prelude.{ℕ, List, [], ◌∷◌, get_or}
use Rattle.fips197.specs.Field.{◌⊕◌, ◌·◌}
use Rattle.fips197.specs.State.{state_of}

-- the row f 0, f 1, f 2, f 3
abbrev pub row_of : (ℕ → ℕ) → List ℕ
row_of f = f 0 ∷ f 1 ∷ f 2 ∷ f 3 ∷ []

abbrev pub byte_of : List ℕ → ℕ → ℕ
byte_of row c = get_or row c 0

-- four rows as one, place by place
abbrev pub row_by : (ℕ → ℕ → ℕ → ℕ → ℕ) → (p0 p1 p2 p3 : List ℕ) → List ℕ
row_by f p0 p1 p2 p3 = row_of (λ c. f (byte_of p0 c) (byte_of p1 c) (byte_of p2 c) (byte_of p3 c))

-- a byte of MixColumns with one doubling, and of InvMixColumns with three: proofs/MixedBytes.antt has that these are the standard's
abbrev pub mixed_byte : ℕ → ℕ → ℕ → ℕ → ℕ
mixed_byte x0 x1 x2 x3 = 0x02 · (x0 ⊕ x1) ⊕ (x1 ⊕ (x2 ⊕ x3))

abbrev pub inv_mixed_byte : ℕ → ℕ → ℕ → ℕ → ℕ
inv_mixed_byte x0 x1 x2 x3 = 0x02 · (0x02 · (0x02 · (x0 ⊕ x1 ⊕ (x2 ⊕ x3)) ⊕ (x0 ⊕ x2)) ⊕ (x0 ⊕ x1)) ⊕ (x1 ⊕ (x2 ⊕ x3))

abbrev pub row : List (List ℕ) → ℕ → List ℕ
row s r = get_or s r []

-- the sixteen bytes by rows
unfoldable pub bytes_of : List (List ℕ) → List ℕ
bytes_of s = state_of (λ r c. byte_of (row s r) c)
