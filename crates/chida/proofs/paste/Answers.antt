-- `chida::paste` meets its contract. Assumes nothing.
use Rattle.std.proofs.Common.{refl, ap, ◌∙◌, List, ◌++◌, ℕ, ◌-◌, ◌+◌, length, take, drop}
use Rattle.chida.proofs.Positions.{pasted-is}
use Rattle.chida.proofs.paste.Goals as goal

pub returns : goal.returns
returns c =
    let s = c.args in
    ap (λ (l : List ℕ). take s.s s.part.now ++ (l ++ drop (s.s + length s.ys.now - s.s) (drop s.s s.part.now))) c.copy_from_slice.ensures.after
    ∙ pasted-is _ _ _ _ refl
