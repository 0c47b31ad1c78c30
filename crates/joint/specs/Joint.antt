-- The joint product's refusals, and what its inner steps are given and leave. Assumes nothing.
use Rattle.std.specs.Prelude.{ℕ, zero, suc, ◌+◌, ◌*◌, ◌/◌, ◌%◌, ◌≤◌, ◌<◌, ◌≡◌, cond, List, leb, eqb, take, drop}
use Rattle.rep3.specs.Tables.{si_part, sii_part}
use Rattle.lists.specs.Lists.{chunk}
use Rattle.joint.specs.declared.Alphas.{Alphas}

-- the positions that are multiplied at a time
unfoldable pub space_size : ℕ
space_size = 256

-- the slices of party p of three, for n positions: an outbox, two tables, a message or alphas
pub record PartyFits (n p o x y k : ℕ) : Type 0 where
  pub party : p < 3
  pub space : n ≤ space_size
  pub outbox : o ≡ n
  pub left : x ≡ 6 * n
  pub right : y ≡ 6 * n
  pub message : k ≡ n

-- party p's two parts were written, and nothing else
pub record Exchanged (n p : ℕ) (own next old new : List ℕ) : Type 0 where
  pub si : si_part n p new ≡ own
  pub sii : sii_part n p new ≡ next
  pub others : (k : ℕ) → (k ≡ 2 * p → ⊥) → (k ≡ 2 * p + 1 → ⊥) → chunk n k new ≡ chunk n k old

-- a table of n positions, and three outboxes
pub record ExchangeFits (n o c0 c1 c2 : ℕ) : Type 0 where
  pub space : n ≤ space_size
  pub out : o ≡ 6 * n
  pub first : c0 ≡ n
  pub second : c1 ≡ n
  pub third : c2 ≡ n

-- three tables of n positions, and n alphas of each party from a place
pub record TablesFit (n place o x y a0 a1 a2 : ℕ) : Type 0 where
  pub space : n ≤ space_size
  pub out : o ≡ 6 * n
  pub left : x ≡ 6 * n
  pub right : y ≡ 6 * n
  pub first : place + n ≤ a0
  pub second : place + n ≤ a1
  pub third : place + n ≤ a2

-- what belongs to party 0, 1, 2
abbrev pub three : List ℕ → List ℕ → List ℕ → ℕ → List ℕ
three a b c zero = a
three a b c (suc zero) = b
three a b c (suc (suc p)) = c

-- the alphas of party 0, 1, 2
abbrev pub held : Alphas → ℕ → List ℕ
held alphas = three alphas.a0.now alphas.a1.now alphas.a2.now

-- n of each party's alphas from a place
abbrev pub drawn : ℕ → ℕ → (ℕ → List ℕ) → ℕ → List ℕ
drawn place n alphas p = take n (drop place (alphas p))

-- 1: out is not in six equal parts, a table is of another length, or two parties' alphas differ in length; 2: too many positions at a time;
-- 6: the alphas end before n from the place
unfoldable pub joint_number : ℕ → ℕ → ℕ → ℕ → ℕ → ℕ → ℕ → ℕ
joint_number out x y a0 a1 a2 place =
    cond (eqb (out % 6) 0)
    (cond (eqb x out) (cond (eqb y out) (cond (eqb a1 a0) (cond (eqb a2 a0) (cond (leb (out / 6) space_size) (cond (leb (place + out / 6) a0) 0 6) 2) 1) 1) 1) 1)
    1
