-- `outline::rows::row_points` meets its contract. Assumes nothing.
use mathlib.Core.Path.{sym, ◌∙◌}
use native.Mathlib.Omega.{arith}
use Rattle.boundary.specs.Boundary.{member_at}
use Rattle.outline.proofs.Skips.{extremes-le, row-some, row-none}
use Rattle.outline.proofs.Writes.{wrote_none, wrote-ext}
use Rattle.outline.proofs.rows.row_points.Goals as goal

pub returns-in_default : goal.returns-in_default
returns-in_default c =
    let a = c.args in
    let m = member_at a.want a.w a.s.now a.levels.now a.labels.now in
    wrote-ext _ _ (row-none a.run m a.x0 a.n a.y (sym c.in_default.is ∙ c.run_extremes.ensures))
    (wrote_none a.to a.out.now)

pub overflow_add-x0 : goal.overflow_add-x0
overflow_add-x0 c =
    let a = c.args in
    let v = c.in-Some in
    let m = member_at a.want a.w a.s.now a.levels.now a.labels.now in
    let l = extremes-le a.run m a.x0 a.n a.y v.a v.b
    v.ensures in
    omega arith

pub overflow_mul-x0 : goal.overflow_mul-x0
overflow_mul-x0 c =
    let a = c.args in
    let v = c.in-Some in
    let m = member_at a.want a.w a.s.now a.levels.now a.labels.now in
    let l = extremes-le a.run m a.x0 a.n a.y v.a v.b
    v.ensures in
    omega arith

pub overflow_add-x0-2 : goal.overflow_add-x0-2
overflow_add-x0-2 c =
    let a = c.args in
    let v = c.in-Some in
    let m = member_at a.want a.w a.s.now a.levels.now a.labels.now in
    let l = extremes-le a.run m a.x0 a.n a.y v.a v.b
    v.ensures in
    omega arith

pub overflow_mul-x0-2 : goal.overflow_mul-x0-2
overflow_mul-x0-2 c =
    let a = c.args in
    let v = c.in-Some in
    let m = member_at a.want a.w a.s.now a.levels.now a.labels.now in
    let l = extremes-le a.run m a.x0 a.n a.y v.a v.b
    v.ensures in
    omega arith

pub put_two-requires : goal.put_two-requires
put_two-requires c =
    let a = c.args in
    let v = c.in-Some in
    let m = member_at a.want a.w a.s.now a.levels.now a.labels.now in
    let l = extremes-le a.run m a.x0 a.n a.y v.a v.b
    v.ensures in
    record {
      at_in_bounds = c.requires.s_len.3;
      ax_bound = (omega arith, omega arith, omega arith, omega arith);
    }

pub returns : goal.returns
returns c =
    let a = c.args in
    let v = c.in-Some in
    let m = member_at a.want a.w a.s.now a.levels.now a.labels.now in
    wrote-ext _ _ (row-some a.run m a.x0 a.n a.y v.a v.b
    v.ensures)
    c.put_two.ensures
