-- `outline::refusals::check` meets its contract. A refusal of the picture stands whatever follows (check-off); else what follows counts
-- (check-on). Assumes nothing.
use mathlib.Core.Path.{◌∙◌, sym}
use Rattle.std.proofs.lemmas.Result.{err_from_is_err_and}
use Rattle.refusal.proofs.Numbers.{number-none}
use Rattle.picture_checks.proofs.Checked.{check-on, check-off}
use Rattle.outline.proofs.refusals.check.Goals as goal

pub returns-in_err-check_picture : goal.returns-in_err-check_picture
returns-in_err-check_picture c =
    let a = c.args in
    let q = c.in_err-check_picture in
    let p = err_from_is_err_and c.from_residual.result c.from_residual.ensures.1 in
    rw (p.1, p.2) (q.ensures.answer ∙ check-off a.w a.h a.bytes _ (λ e. number-none q.field-0.0 (q.ensures.answer ∙ e)))

pub check_parts-requires : goal.check_parts-requires
check_parts-requires c = let s = c.in_ok-check_picture.ensures.passed mathlib.Core.Path.refl in (s.w-high, s.h-high)

pub returns : goal.returns
returns c =
    let a = c.args in
    c.check_parts.ensures ∙ sym (check-on a.w a.h a.bytes _ (sym c.in_ok-check_picture.ensures.answer))
