-- `outline::columns::boundary_points` meets its contract. Assumes nothing.
use Prim.Native.Nat.{◌-◌}
use native.Mathlib.Omega.{arith}
use Rattle.boundary.specs.Boundary.{member_at, boundary}
use Rattle.outline.proofs.Writes.{wrote-append, wrote-length, wrote-next, rows-le}
use Rattle.outline.proofs.columns.boundary_points.Goals as goal

pub all_columns-requires : goal.all_columns-requires
all_columns-requires c =
    let a = c.args in
    let p = member_at a.want a.w a.s.now a.levels.now a.labels.now in
    let r = c.all_rows-at.ensures in
    record {
      grids = c.requires.grids;
      columns = record { bytes = c.requires.s_len.0; across = omega arith; down = omega arith; some = omega arith };
      n_in_bounds = omega (arith, wrote-next r, wrote-length r, rows-le a.run p a.x0 (a.x1 - a.x0) a.y0 (a.y1 - a.y0), c.requires.s_len.5);
      run_nonzero = omega (arith, wrote-next r, wrote-length r, rows-le a.run p a.x0 (a.x1 - a.x0) a.y0 (a.y1 - a.y0), c.requires.s_len.5);
    }

pub returns : goal.returns
unfolding boundary
returns c = wrote-append c.all_rows-at.ensures c.all_columns.ensures
