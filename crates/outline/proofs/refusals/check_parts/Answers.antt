-- `outline::refusals::check_parts` meets its contract. Each way out is one line of the table. Assumes nothing.
use mathlib.Core.Path.{sym, ◌∙◌}
use Prim.Native.Nat.{◌+◌, ◌-◌, ◌*◌}
use native.Mathlib.Omega.{arith}
use borrow.Author.Tests.{le-leb, lt-leb}
use Rattle.outline.proofs.Doors.{part_in}
use Rattle.outline.proofs.refusals.check_parts.Goals as goal

pub returns-then-not-is_part : goal.returns-then-not-is_part
returns-then-not-is_part c = rw (← c.is_part.ensures, c.if-not-is_part.true)

pub returns-then-not-is_part-2 : goal.returns-then-not-is_part-2
returns-then-not-is_part-2 c =
    let x = c.is_part in
    let y = c.is_part-2 in
    rw (← x.ensures, c.if-not-is_part.false, ← y.ensures, c.if-not-is_part-2.true)

pub returns-then-not-grids_fit : goal.returns-then-not-grids_fit
returns-then-not-grids_fit c =
    let x = c.is_part in
    let y = c.is_part-2 in
    let g = c.grids_fit in
    rw (
      ← x.ensures,
      c.if-not-is_part.false,
      ← y.ensures,
      c.if-not-is_part-2.false,
      ← g.ensures,
      c.if-not-grids_fit.true,
    )

-- the two parts of a box that passed
pub overflow_sub-x1 : goal.overflow_sub-x1
overflow_sub-x1 c =
    let a = c.args in
    let x = c.is_part in
    let p = part_in a.x0 a.x1 a.w (sym x.ensures ∙ c.if-not-is_part.false) in
    omega arith

pub overflow_sub-y1 : goal.overflow_sub-y1
overflow_sub-y1 c =
    let a = c.args in
    let y = c.is_part-2 in
    let q = part_in a.y0 a.y1 a.h (sym y.ensures ∙ c.if-not-is_part-2.false) in
    omega arith

pub overflow_add-x1 : goal.overflow_add-x1
overflow_add-x1 c =
    let a = c.args in
    let x = c.is_part in
    let p = part_in a.x0 a.x1 a.w (sym x.ensures ∙ c.if-not-is_part.false) in
    let y = c.is_part-2 in
    let q = part_in a.y0 a.y1 a.h (sym y.ensures ∙ c.if-not-is_part-2.false) in
    omega arith

pub overflow_mul-x1 : goal.overflow_mul-x1
overflow_mul-x1 c =
    let a = c.args in
    let x = c.is_part in
    let p = part_in a.x0 a.x1 a.w (sym x.ensures ∙ c.if-not-is_part.false) in
    let y = c.is_part-2 in
    let q = part_in a.y0 a.y1 a.h (sym y.ensures ∙ c.if-not-is_part-2.false) in
    omega arith

pub returns-then-room-x1 : goal.returns-then-room-x1
returns-then-room-x1 c =
    let a = c.args in
    let x = c.is_part in
    let y = c.is_part-2 in
    let g = c.grids_fit in
    rw (
      ← x.ensures,
      c.if-not-is_part.false,
      ← y.ensures,
      c.if-not-is_part-2.false,
      ← g.ensures,
      c.if-not-grids_fit.false,
      lt-leb (4 * (a.x1 - a.x0 + (a.y1 - a.y0))) a.room (omega arith),
    )

pub returns : goal.returns
returns c =
    let a = c.args in
    let x = c.is_part in
    let y = c.is_part-2 in
    let g = c.grids_fit in
    rw (
      ← x.ensures,
      c.if-not-is_part.false,
      ← y.ensures,
      c.if-not-is_part-2.false,
      ← g.ensures,
      c.if-not-grids_fit.false,
      le-leb (4 * (a.x1 - a.x0 + (a.y1 - a.y0))) a.room (omega arith),
    )
