-- `outline::columns::all_columns` meets its contract. The loop's invariant: the points of the first i columns are stored, and to is the
-- place after them. The measure is n - i. Assumes nothing.
use mathlib.Core.Path.{◌≡◌}
use native.Mathlib.Omega.{arith}
use Rattle.boundary.specs.Boundary.{member_at}
use Rattle.outline.proofs.Writes.{strip-begin, strip-more, room-strip, wrote-length}
use Rattle.outline.proofs.columns.all_columns.Goals as goal

pub loop-i-init : goal.loop-i-init
loop-i-init c =
    let a = c.args in (
      omega arith,
      strip-begin a.run (member_at a.want a.w a.s.now a.levels.now a.labels.now) a.y0 a.m a.x0
          a.at a.out.now,
    )

pub strip-to-requires : goal.strip-to-requires
strip-to-requires c =
    let a = c.args in
    let q = c.loop-i in
    let p = member_at a.want a.w a.s.now a.levels.now a.labels.now in
    record {
      grids = c.requires.grids;
      columns = record { bytes = c.requires.columns.bytes; across = omega arith; down = c.requires.columns.down; some = c.requires.columns.some };
      n_nonzero = (
        omega arith,
        omega arith,
        room-strip a.run p a.y0 a.m a.x0 q.i _ a.n q.invariant.1 (omega arith) c.requires.n_in_bounds,
      );
      run_nonzero = c.requires.run_nonzero;
    }

pub loop-i-preserved : goal.loop-i-preserved
loop-i-preserved c =
    let a = c.args in
    let q = c.loop-i in
    let p = member_at a.want a.w a.s.now a.levels.now a.labels.now in
    (omega arith, strip-more a.run p a.y0 a.m a.x0 q.i _ q.invariant.1 c.strip-to.ensures)

pub shape_of-out : goal.shape_of-out
shape_of-out c = wrote-length c.loop-i.invariant.1

pub returns : goal.returns
returns c =
    let a = c.args in
    let q = c.loop-i in
    let z : q.i ≡ a.n = omega arith in
    rw (← z) q.invariant.1
