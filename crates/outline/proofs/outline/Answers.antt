-- `outline::outline` meets its contract. What an accepted call knows is `passed`; the list then holds what was stored, and otherwise is
-- untouched. Assumes nothing.
use mathlib.Core.Path.{sym}
use native.Mathlib.Omega.{arith}
use lib.ListN.{length}
use Rattle.std.proofs.lemmas.Result.{err_from_is_err_and}
use Rattle.laws.specs.Move.{box_at}
use Rattle.boundary.specs.Boundary.{member_at}
use Rattle.outline.specs.Door.{number_for, door_points}
use Rattle.outline.proofs.Doors.{passed, passed-grids, points-le, done-answer, done-list, refused-answer, refused-list}
use Rattle.outline.proofs.outline.Goals as goal

pub boundary_points-end-requires : goal.boundary_points-end-requires
boundary_points-end-requires c =
    let a = c.args in
    let p = passed a.w a.h (length a.s.now) (box_at a.x0 a.y0 a.x1 a.y1) (length a.levels.now)
    (length a.labels.now) (length a.out.now) (sym c.in_ok-check.ensures) in
    record {
      grids = passed-grids a.levels.now a.labels.now p;
      s_len = (p.whole, p.across, p.right, p.down, p.bottom, p.list_room);
      run_nonzero = (omega arith, omega arith);
    }

pub returns-in_err-check : goal.returns-in_err-check
returns-in_err-check c =
    let a = c.args in
    let b = box_at a.x0 a.y0 a.x1 a.y1 in
    let n = number_for a.s.now a.levels.now a.labels.now a.w a.h b (length a.out.now) in
    let ps = door_points a.want a.w a.s.now a.levels.now a.labels.now b in
    let q = c.in_err-check in
    let p = err_from_is_err_and c.from_residual.result c.from_residual.ensures.1 in
    record {
      answer = rw (p.1, p.2) (refused-answer q.field-0.0 n q.ensures (length ps));
      out = refused-list q.field-0.0 n q.ensures ps a.out.now;
    }

pub returns : goal.returns
unfolding door_points
returns c =
    let a = c.args in
    let b = box_at a.x0 a.y0 a.x1 a.y1 in
    let n = number_for a.s.now a.levels.now a.labels.now a.w a.h b (length a.out.now) in
    let z = sym c.in_ok-check.ensures in
    let p = passed a.w a.h (length a.s.now) b (length a.levels.now) (length a.labels.now) (length a.out.now) z in
    let r = c.boundary_points-end.ensures in
    let few = points-le 4 (member_at a.want a.w a.s.now a.levels.now a.labels.now) b in
    record {
      answer = done-answer n z r;
      out = done-list n z r (omega (arith, few, p.list_room));
    }
