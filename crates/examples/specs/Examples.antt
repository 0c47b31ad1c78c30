-- The worked examples of document 01, "Either side of each line", in its order: what the definitions give, and what the document says.
-- Shares (s0, s1, s2) are a share table of one position, as the three parties hold it. Assumes nothing.
use Rattle.std.specs.Prelude.{List, [], ◌∷◌, ℕ, get_or}
use Rattle.fips197.specs.Field.{◌·◌, square, inverse, affine, sbox}
use Rattle.fips197.specs.State.{shift_rows, mix_columns}
use Rattle.rep3.specs.Tables.{six_parts, si_part, share_of, opened}
use Rattle.halves.specs.Product.{product_of}

-- the table of one position that shares s0, s1, s2 make
abbrev shared : ℕ → ℕ → ℕ → List ℕ
shared s0 s1 s2 = six_parts (λ k. get_or (s0 ∷ s1 ∷ s2 ∷ []) (share_of k) 0 ∷ [])

-- s0, s1, s2 of such a table, and what it opens to
abbrev shown : List ℕ → List ℕ
shown t = get_or (si_part 1 0 t) 0 0 ∷ get_or (si_part 1 1 t) 0 0 ∷ get_or (si_part 1 2 t) 0 0 ∷ opened 1 t

-- one multiplication of shares (02,00,00) and (00,03,00)
abbrev multiplied : ℕ → ℕ → ℕ → List ℕ
multiplied a0 a1 a2 = product_of 1 (shared 0x02 0x00 0x00) (shared 0x00 0x03 0x00) (λ p. get_or (a0 ∷ a1 ∷ a2 ∷ []) p 0 ∷ [])

-- 0, 1, .. 15 by rows, and a state whose first column is d4 bf 5d 30
abbrev counted : List ℕ
counted = 0 ∷ 1 ∷ 2 ∷ 3 ∷ 4 ∷ 5 ∷ 6 ∷ 7 ∷ 8 ∷ 9 ∷ 10 ∷ 11 ∷ 12 ∷ 13 ∷ 14 ∷ 15 ∷ []

abbrev columned : List ℕ
columned = 0xd4 ∷ 0 ∷ 0 ∷ 0 ∷ 0xbf ∷ 0 ∷ 0 ∷ 0 ∷ 0x5d ∷ 0 ∷ 0 ∷ 0 ∷ 0x30 ∷ 0 ∷ 0 ∷ 0 ∷ []

abbrev first_column : List ℕ → List ℕ
first_column s = get_or s 0 0 ∷ get_or s 4 0 ∷ get_or s 8 0 ∷ get_or s 12 0 ∷ []

unfoldable pub examples : List (List ℕ × List ℕ)
examples =
    (0x57 · 0x83 ∷ [], 0xc1 ∷ [])
    ∷ (0x57 · 0x13 ∷ [], 0xfe ∷ [])
    ∷ (square 0x10 ∷ [], 0x1b ∷ [])
    ∷ (inverse 0x02 ∷ [], 0x8d ∷ [])
    ∷ (affine 0x01 ∷ [], 0x1f ∷ [])
    ∷ (sbox 0x00 ∷ [], 0x63 ∷ [])
    ∷ (sbox 0x01 ∷ [], 0x7c ∷ [])
    ∷ (shown (multiplied 0x01 0x02 0x03), 0x07 ∷ 0x02 ∷ 0x03 ∷ 0x06 ∷ [])
    ∷ (opened 1 (multiplied 0x01 0x02 0x00), 0x05 ∷ [])
    ∷ (opened 1 (shared 0x11 0x22 0x33), 0x00 ∷ [])
    ∷ (shift_rows counted, 0 ∷ 1 ∷ 2 ∷ 3 ∷ 5 ∷ 6 ∷ 7 ∷ 4 ∷ 10 ∷ 11 ∷ 8 ∷ 9 ∷ 15 ∷ 12 ∷ 13 ∷ 14 ∷ [])
    ∷ (first_column (mix_columns columned), 0x04 ∷ 0x66 ∷ 0x81 ∷ 0xe5 ∷ [])
    ∷ []
