-- Share tables and alpha buffers as document 01 lays them out, opening, consistency, and alphas that cancel. Assumes nothing.
use Rattle.std.specs.Prelude.{ℕ, ◌+◌, ◌*◌, ◌/◌, ◌%◌, ◌<◌, ◌≡◌, List, get_or}
use Rattle.fips197.specs.Field.{◌⊕◌}
use Rattle.fips197.specs.State.{◌⊞◌}
use Rattle.lists.specs.Lists.{chunk, joined}

-- a share table of n positions is six parts of n bytes: party 0 si, party 0 sii, party 1 si, party 1 sii, party 2 si, party 2 sii.
-- The table whose parts are f 0 .. f 5
abbrev pub six_parts : (ℕ → List ℕ) → List ℕ
six_parts f = joined 6 f

-- party p's si and sii part of a table of n positions
abbrev pub si_part : ℕ → ℕ → List ℕ → List ℕ
si_part n p t = chunk n (2 * p) t

abbrev pub sii_part : ℕ → ℕ → List ℕ → List ℕ
sii_part n p t = chunk n (2 * p + 1) t

-- the share that part k holds: party p's si is s_p, its sii is s_(p+1 mod 3)
unfoldable pub share_of : ℕ → ℕ
share_of k = (k + 1) / 2 % 3

-- every position is consistent: party 0's sii is party 1's si, party 1's sii is party 2's si, and party 2's sii is party 0's si
pub record Consistent (n : ℕ) (t : List ℕ) : Type 0 where
  pub zero_one : sii_part n 0 t ≡ si_part n 1 t
  pub one_two : sii_part n 1 t ≡ si_part n 2 t
  pub two_zero : sii_part n 2 t ≡ si_part n 0 t

-- what party p opens: its si, its sii, and the si that came from the previous party
unfoldable pub opened_by : ℕ → ℕ → List ℕ → List ℕ
opened_by n p t = si_part n p t ⊞ sii_part n p t ⊞ si_part n ((p + 2) % 3) t

-- what the table opens to: as party 0 opens it
unfoldable pub opened : ℕ → List ℕ → List ℕ
opened n t = opened_by n 0 t

-- an alpha buffer has three equal parts, of parties 0, 1, 2. The alphas of a part of k cancel: at each place the three sum to 0
unfoldable pub Cancel : ℕ → List ℕ → Type 0
Cancel k alphas = (j : ℕ) → j < k → get_or (chunk k 0 alphas) j 0 ⊕ get_or (chunk k 1 alphas) j 0 ⊕ get_or (chunk k 2 alphas) j 0 ≡ 0
