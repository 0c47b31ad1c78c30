-- `joint::receive` meets its contract: neither message is refused, and the two are the party's parts. Assumes nothing.
use Rattle.std.proofs.Common.{◌≡◌, refl, ap, ◌∙◌, List, ◌++◌, ℕ, ◌-◌, ◌+◌, ◌*◌, length, take, drop, arith}
use Rattle.rep3.proofs.Refusals.{step-done}
use Rattle.lists.proofs.Puts.{put-long}
use Rattle.joint.proofs.Exchanging.{parts_in, take_own, take_next, message-next, exchanged}
use Rattle.joint.proofs.receive.Goals as goal

pub returns-in_default : goal.returns-in_default
returns-in_default c =
    let s = c.args in
    let r = c.requires in
    let w = parts_in _ _ _ _ _ _ r in
    let m = c.take_message-kept.ensures in
    let d = step-done _ _ _ _ _ (take_own s.n s.p _ _ _ refl refl refl _ _ r.left r.space w.0 r.outbox) m.number m.bytes in
    absurd (c.in_default.not-Ok tt d.0)

pub returns : goal.returns
returns c =
    let s = c.args in
    let r = c.requires in
    let w = parts_in _ _ _ _ _ _ r in
    let a = 2 * s.p * s.n in
    let m = c.take_message-kept in
    let own = (step-done _ _ _ _ _ (take_own s.n s.p _ _ _ refl refl refl _ _ r.left r.space w.0 r.outbox) m.ensures.number m.ensures.bytes).1 in
    let put : List ℕ → List ℕ = λ ys. take a s.out.now ++ (ys ++ drop (a + s.n - a) (drop a s.out.now)) in
    let l : length s.out.now ≡ 6 * s.n = r.left in
    let o : length m.new.cii ≡ s.n = ap length own ∙ r.outbox in
    let kept : length (put m.new.cii) ≡ 6 * s.n = put-long a (a + s.n) s.out.now m.new.cii (omega arith) (omega arith) (omega arith) ∙ l in
    let g = c.take_message.ensures in
    let e = c.message.ensures ∙ message-next s.n _ _ r.message in
    let d = step-done _ _ _ _ _ (take_next s.n s.p _ _ _ refl refl refl _ _ kept r.space w.0 (ap length e ∙ r.message)) g.number g.bytes in
    record {
      done = d.0;
      parts = rw (d.1 ∙ e) (exchanged s.n s.p _ _ _ refl refl refl _ _ _ r.left w.0 r.outbox r.message (put m.new.cii) (ap put own));
    }
