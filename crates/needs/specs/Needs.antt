-- Variants, the alphas that each party needs, and when a run or the need question is refused (document 01, "The rules of computing" and
-- "Numbers that come back"). Assumes nothing.
use Rattle.std.specs.Prelude.{ℕ, ◌+◌, ◌*◌, ◌/◌, ◌%◌, Bool, true, false, cond, leb, eqb}
use Rattle.layers.specs.Layers.{table_bytes, most_blocks}

-- the rounds of a variant: 10 for 128, 14 for 256, and 0 for a number that is no variant
unfoldable pub rounds_of : ℕ → ℕ
rounds_of variant = cond (eqb variant 128) 10 (cond (eqb variant 256) 14 0)

-- the alphas of one party for one block of a run
unfoldable pub block_need : ℕ → ℕ
block_need variant = cond (eqb variant 128) 640 896

-- and for a schedule
unfoldable pub schedule_need : ℕ → ℕ
schedule_need variant = cond (eqb variant 128) 160 208

-- kind 0 is the cipher, 1 the inverse, 2 the schedule
unfoldable pub need_of : ℕ → ℕ → ℕ → ℕ
need_of kind variant blocks = cond (eqb kind 2) (schedule_need variant) (blocks * block_need variant)

-- 7: no variant; of the inverse, a variant that is not 128
unfoldable pub has_variant : ℕ → ℕ → Bool
has_variant kind variant = cond (eqb variant 128) true (cond (eqb kind 1) false (eqb variant 256))

-- 11: no kind; 7: no variant of that kind; 2: too many blocks
unfoldable pub need_number : ℕ → ℕ → ℕ → ℕ
need_number kind variant blocks = cond (leb kind 2) (cond (has_variant kind variant) (cond (leb blocks most_blocks) 0 2) 7) 11

-- a key table's bytes: R + 1 round keys of 16 positions, in six parts
unfoldable pub key_table_bytes : ℕ → ℕ
key_table_bytes R = 96 * (R + 1)

-- 7: no variant of that kind; 4: not whole blocks; 2: too many blocks; 5: not the variant's key table; 6: not three times the need
unfoldable pub run_number : ℕ → ℕ → ℕ → ℕ → ℕ → ℕ
run_number kind variant state keys alphas =
    cond (has_variant kind variant)
    (cond (eqb (state % table_bytes) 0)
    (cond (leb (state / table_bytes) most_blocks)
    (cond (eqb keys (key_table_bytes (rounds_of variant))) (cond (eqb alphas (3 * need_of kind variant (state / table_bytes))) 0 6) 5) 2) 4)
    7
