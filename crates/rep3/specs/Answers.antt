-- The numbers of document 01, "Numbers that come back", and what a lent list holds after an answer. Assumes nothing.
use Rattle.std.specs.Prelude.{ℕ, zero, suc, ◌-◌, List, [], ◌∷◌, get_or, Result, Ok, Err}
use Rattle.rep3.specs.declared.Refusal.{Refusal}
use Rattle.rep3.specs.declared.Refusal.TheVariants.{Length, TooMany, Message, Block, Keys, Alphas, Variant, Party, Round, Header, Mode, Count}

abbrev pub refusal_number : Refusal → ℕ
refusal_number Length = 1
refusal_number TooMany = 2
refusal_number Message = 3
refusal_number Block = 4
refusal_number Keys = 5
refusal_number Alphas = 6
refusal_number Variant = 7
refusal_number Party = 8
refusal_number Round = 9
refusal_number Header = 10
refusal_number Mode = 11
refusal_number Count = 12

-- the refusal that has a number from 1 to 12
unfoldable pub refusal_of : ℕ → Refusal
refusal_of n =
    get_or (Length ∷ TooMany ∷ Message ∷ Block ∷ Keys ∷ Alphas ∷ Variant ∷ Party ∷ Round ∷ Header ∷ Mode ∷ Count ∷ []) (n - 1) Length

-- a step is done, or refuses
abbrev pub Answer : Type 0
Answer = Result (Unit {0}) Refusal

-- 0 is done; every other number is a refusal's
abbrev pub number_of : {A : Type 0} → Result A Refusal → ℕ
number_of (Ok x) = 0
number_of (Err r) = refusal_number r

-- what a lent list holds after an answer with number n: the new list if n is 0, and the old one after a refusal
abbrev pub when_done : ℕ → List ℕ → List ℕ → List ℕ
when_done zero new old = new
when_done (suc n) new old = old
