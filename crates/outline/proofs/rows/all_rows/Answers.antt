-- `outline::rows::all_rows` meets its contract. The loop's invariant: the points of the first i rows are stored, and to is the place after
-- them. Assumes nothing.
use mathlib.Core.Path.{◌≡◌}
use mathlib.Core.List.{List}
use Prim.Native.Nat.{ℕ, ◌+◌}
use native.Mathlib.Omega.{arith}
use Rattle.boundary.specs.Boundary.{member_at, row_points, rows_from}
use Rattle.outline.proofs.Writes.{put-begin, put-more, room-more, row-two, wrote-length}
use Rattle.outline.proofs.rows.all_rows.Goals as goal

pub loop-i-init : goal.loop-i-init
unfolding rows_from
loop-i-init c =
    let a = c.args in
    let p = member_at a.want a.w a.s.now a.levels.now a.labels.now in
    put-begin (λ j. row_points a.run p a.x0 a.n (a.y0 + j)) 0 a.out.now

pub row_points-to-requires : goal.row_points-to-requires
unfolding rows_from
row_points-to-requires c =
    let a = c.args in
    let q = c.loop-i in
    let p = member_at a.want a.w a.s.now a.levels.now a.labels.now in
    record {
      grids = c.requires.grids;
      s_len = (
        c.requires.s_len.0,
        c.requires.s_len.1,
        omega arith,
        room-more (λ j. row_points a.run p a.x0 a.n (a.y0 + j)) q.i a.m
            (λ j. row-two a.run p a.x0 a.n (a.y0 + j)) q.invariant (omega arith) (omega arith),
      );
      run_nonzero = c.requires.run_nonzero;
    }

pub loop-i-preserved : goal.loop-i-preserved
unfolding rows_from
loop-i-preserved c =
    let a = c.args in
    let q = c.loop-i in
    let p = member_at a.want a.w a.s.now a.levels.now a.labels.now in
    let f : ℕ → List (ℕ × ℕ) = λ j. row_points a.run p a.x0 a.n (a.y0 + j) in
    put-more f q.i q.invariant c.row_points-to.ensures

pub shape_of-out : goal.shape_of-out
shape_of-out c = wrote-length c.loop-i.invariant

pub returns : goal.returns
returns c =
    let a = c.args in
    let q = c.loop-i in
    let z : q.i ≡ a.m = omega arith in
    rw (← z) q.invariant
