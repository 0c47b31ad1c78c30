-- A party's share of a constant, and a message as a part of an outbox (document 01, "Shares and tables" and "Numbers that come back").
-- Assumes nothing.
use Rattle.std.specs.Prelude.{ℕ, ◌+◌, cond, List, [], leb, eqb, length, take, drop, Result, Ok, Err}
use Rattle.rep3.specs.declared.Refusal.{Refusal}
use Rattle.rep3.specs.declared.Refusal.TheVariants.{Party}
use Rattle.rep3.specs.declared.RssShare.{RssShare}

-- constant v: party 0 (v,0), party 1 (0,0), party 2 (0,v); any other party is refused
unfoldable pub constant_of : ℕ → ℕ → Result RssShare Refusal
constant_of party v =
    cond (eqb party 0) (Ok (record { si = v; sii = 0 }))
    (cond (eqb party 1) (Ok (record { si = 0; sii = 0 })) (cond (eqb party 2) (Ok (record { si = 0; sii = v })) (Err Party)))

-- count bytes of xs from place, or none where they run past the end
unfoldable pub part_of : List ℕ → ℕ → ℕ → List ℕ
part_of xs place count = cond (leb (place + count) (length xs)) (take count (drop place xs)) []

-- a message: of the next party's outbox for direction 0, of the previous one's for 1, and none for another
unfoldable pub message_of : List ℕ → List ℕ → ℕ → ℕ → ℕ → List ℕ
message_of next previous direction place count =
    cond (eqb direction 0) (part_of next place count) (cond (eqb direction 1) (part_of previous place count) [])
