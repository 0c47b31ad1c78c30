-- `needs::need` meets its contract. Assumes nothing.
use Rattle.std.proofs.Common.{◌≡◌, ◌∙◌, sym, rules, Err}
use Rattle.needs.proofs.Numbers.{need_fits}
use Rattle.needs.proofs.NeededAnswers.{counted, refused}
use Rattle.needs.proofs.need.Goals as goal

pub returns-in_err-need_check : goal.returns-in_err-need_check
returns-in_err-need_check c =
    let e : c.from_residual.result ≡ Err c.in_err-need_check.field-0.0 = search rules in
    e ∙ refused _ _ _ _ c.in_err-need_check.ensures

pub need_of-requires : goal.need_of-requires
need_of-requires c = need_fits _ _ _ (sym c.in_ok-need_check.ensures)

pub returns : goal.returns
returns c = counted _ _ _ _ (sym c.in_ok-need_check.ensures) c.need_of.ensures
