-- A refusal of the picture stands whatever follows (check-off). Assumes nothing.
use mathlib.Core.Path.{◌∙◌}
use Rattle.std.proofs.lemmas.Result.{err_from_is_err_and}
use Rattle.refusal.proofs.Numbers.{number-none}
use Rattle.picture_checks.proofs.Checked.{check-off}
use Rattle.picture.proofs.check.Goals as goal

pub returns-in_err-check_picture-clause-answer : goal.returns-in_err-check_picture-clause-answer
returns-in_err-check_picture-clause-answer c =
    let a = c.args in
    let q = c.in_err-check_picture in
    let p = err_from_is_err_and c.from_residual.result c.from_residual.ensures.1 in
    rw (p.1, p.2) (q.ensures.answer ∙ check-off a.w a.h a.bytes _ (λ e. number-none q.field-0.0 (q.ensures.answer ∙ e)))
