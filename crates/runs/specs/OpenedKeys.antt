-- What a key table opens to, as FIPS-197's ciphers take it. Assumes nothing.
use Rattle.std.specs.Prelude.{ℕ, ◌+◌, ◌*◌, List}
use Rattle.lists.specs.Lists.{chunk}
use Rattle.rep3.specs.Tables.{opened}

-- round key r, as a state by rows, of a key table of R + 1 round keys
unfoldable pub opened_key : ℕ → List ℕ → ℕ → List ℕ
opened_key R keys r = chunk 16 r (opened (16 * (R + 1)) keys)
