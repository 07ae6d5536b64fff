-- `tray::file::find` meets its contract. Assumes nothing.
use Rattle.refusal.proofs.Numbers.{number-none}
use Rattle.tray.proofs.Files.{file-refused, file-fits, file-accepted}
use mathlib.Core.Path.{refl, ◌∙◌}
use Rattle.std.proofs.lemmas.Result.{err_from_is_err_and}
use Rattle.tray.proofs.file.find.Goals as goal

pub returns-in_err-check : goal.returns-in_err-check
returns-in_err-check c =
    let r = c.run-h in
    let q = c.requires in
    let p = err_from_is_err_and c.from_residual.result c.from_residual.ensures.1 in
    let e = c.in_err-check.ensures.answer in
    rw (p.1, p.2) (file-refused c.args.most q.most_bound c.args.s.now r.result q.s_value r.ensures _ e (number-none _))

pub with_pixels-requires : goal.with_pixels-requires
with_pixels-requires c =
    let r = c.run-h in
    let q = c.requires in
    (file-fits c.args.most q.most_bound c.args.s.now r.result q.s_value r.ensures 0 c.in_ok-check.ensures.answer refl).passed

pub returns : goal.returns
returns c =
    let r = c.run-h in
    let q = c.requires in
    c.with_pixels.ensures
    ∙ file-accepted c.args.most q.most_bound c.args.s.now r.result q.s_value r.ensures 0 c.in_ok-check.ensures.answer refl
