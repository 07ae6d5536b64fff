-- `tray::check` meets its contract. Assumes nothing.
use Rattle.tray.proofs.Inputs.{picture-same, input-number}
use mathlib.Core.Path.{sym}
use Rattle.std.proofs.lemmas.Result.{err_from_is_err_and}
use Rattle.tray.proofs.check.Goals as goal

pub returns-in_err-find : goal.returns-in_err-find
returns-in_err-find c =
    let p = err_from_is_err_and c.from_residual.result c.from_residual.ensures.1 in
    rw (p.1, p.2) (input-number c.args.s.now _ (sym c.in_err-find.ensures)).0

pub returns : goal.returns
returns c = sym (picture-same c.args.s.now _ _ _ (sym c.in_ok-find.ensures)).no-refusal
