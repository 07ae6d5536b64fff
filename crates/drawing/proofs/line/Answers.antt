-- `drawing::line` meets its contract. Assumes nothing.
use mathlib.Core.Path.{refl, ◌∙◌}
use Rattle.refusal.proofs.Numbers.{number-none}
use Rattle.drawing.proofs.Pixels.{line-is, line_stays}
use Rattle.drawing.proofs.line.Goals as goal

pub dots-requires : goal.dots-requires
dots-requires c = c.in-Ok.ensures.passed refl

pub returns-in-Ok : goal.returns-in-Ok
returns-in-Ok c =
    let a = c.args in
    c.dots.ensures ∙ line-is a.w a.h a.a a.b a.colour a.plane.now 0 c.in-Ok.ensures.answer refl

pub returns-in-Err : goal.returns-in-Err
returns-in-Err c =
    let a = c.args in
    line_stays a.w a.h a.a a.b a.colour a.plane.now _ c.in-Err.ensures.answer (number-none _)
