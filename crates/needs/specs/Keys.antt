-- One round key half as a part of the caller's key table (document 01, "Numbers that come back"). Assumes nothing.
use Rattle.std.specs.Prelude.{ℕ, ◌+◌, ◌*◌, Bool, cond, List, [], leb, eqb, length}
use Rattle.rep3.specs.Answers.{when_done}
use Rattle.needs.specs.Needs.{rounds_of, has_variant, key_table_bytes}
use Rattle.lists.specs.Lists.{chunk}

-- round key r as part k of a key table of R + 1 round keys holds it
unfoldable pub round_key_part : ℕ → List ℕ → ℕ → ℕ → List ℕ
round_key_part R keys r k = chunk 16 r (chunk (16 * (R + 1)) k keys)

-- 7: no variant; 5: not the variant's key table; 8: no party; 9: no such round
unfoldable pub half_number : ℕ → ℕ → ℕ → ℕ → ℕ
half_number variant keys party round =
    cond (has_variant 0 variant)
    (cond (eqb keys (key_table_bytes (rounds_of variant))) (cond (leb party 2) (cond (leb round (rounds_of variant)) 0 9) 8) 5)
    7

-- the part of a party's si, or of its sii
unfoldable pub half_index : ℕ → Bool → ℕ
half_index party sii = cond sii (2 * party + 1) (2 * party)

-- sixteen bytes of the key table, and none on a refusal
unfoldable pub half_of : ℕ → List ℕ → ℕ → Bool → ℕ → List ℕ
half_of variant keys party sii round =
    when_done (half_number variant (length keys) party round) (round_key_part (rounds_of variant) keys round (half_index party sii)) []
