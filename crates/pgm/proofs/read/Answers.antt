-- `pgm::read` meets its contract. Assumes nothing.
use Rattle.refusal.proofs.Numbers.{number-none}
use Rattle.pgm.proofs.Heads.{no-letters, read-refused, read_fits, read-accepted}
use mathlib.Core.Path.{◌∙◌, refl, sym}
use Rattle.std.proofs.lemmas.Result.{err_from_is_err_and}
use Rattle.pgm.proofs.read.Goals as goal

pub returns-then-not-has_letters : goal.returns-then-not-has_letters
returns-then-not-has_letters c =
    let e = c.has_letters in
    no-letters c.args.s.now (sym e.ensures ∙ c.if-not-has_letters.true)

pub returns-in_err-check_head : goal.returns-in_err-check_head
returns-in_err-check_head c =
    let e = c.has_letters in
    let letters = sym e.ensures ∙ c.if-not-has_letters.false in
    let r = c.run-h in
    let p = err_from_is_err_and c.from_residual.result c.from_residual.ensures.1 in
    rw (p.1, p.2) (read-refused c.args.s.now r.result letters r.ensures _ c.in_err-check_head.ensures (number-none _))

pub with_pixels-requires : goal.with_pixels-requires
with_pixels-requires c =
    let e = c.has_letters in
    let letters = sym e.ensures ∙ c.if-not-has_letters.false in
    let r = c.run-h in
    (read_fits c.args.s.now r.result letters r.ensures 0 c.in_ok-check_head.ensures refl).passed

pub returns : goal.returns
returns c =
    let e = c.has_letters in
    let letters = sym e.ensures ∙ c.if-not-has_letters.false in
    let r = c.run-h in
    c.with_pixels.ensures
    ∙ read-accepted c.args.s.now r.result letters r.ensures 0 c.in_ok-check_head.ensures refl
