-- The answer to the need question as the code gives it: the count, or the refusal whose number is need_number. Assumes nothing.
use Rattle.std.specs.Prelude.{ℕ, cond, eqb, Result, Ok, Err}
use Rattle.rep3.specs.declared.Refusal.{Refusal}
use Rattle.rep3.specs.Answers.{refusal_of}
use Rattle.needs.specs.Needs.{need_of, need_number}

-- no count with a refusal
unfoldable pub needed_of : ℕ → ℕ → ℕ → Result ℕ Refusal
needed_of kind variant blocks =
    cond (eqb (need_number kind variant blocks) 0) (Ok (need_of kind variant blocks)) (Err (refusal_of (need_number kind variant blocks)))
