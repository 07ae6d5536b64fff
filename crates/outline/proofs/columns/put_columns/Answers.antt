-- `outline::columns::put_columns` meets its contract. The loop's invariant: the points of the first i columns are stored, and to is the
-- place after them. Assumes nothing.
use mathlib.Core.List.{List}
use mathlib.Core.Path.{◌≡◌}
use Prim.Native.Nat.{ℕ, ◌+◌}
use native.Mathlib.Omega.{arith}
use lib.ListN.{get_or}
use Rattle.outline.specs.Inner.{column_found, columns_found}
use Rattle.outline.proofs.Writes.{put-begin, put-more, room-more, found-two, wrote-length}
use Rattle.outline.proofs.columns.put_columns.Goals as goal

pub loop-i-init : goal.loop-i-init
unfolding columns_found
loop-i-init c =
    let a = c.args in
    put-begin (λ i. column_found a.run a.y0 a.rows (a.x + i) (get_or a.down.now i 0) (get_or a.up.now i 0)) a.at a.out.now

pub overflow_cast-d : goal.overflow_cast-d
overflow_cast-d c =
    let q = c.loop-i in
    omega (arith, c.requires.at_most.0 q.i (omega arith))

pub overflow_cast-u : goal.overflow_cast-u
overflow_cast-u c =
    let q = c.loop-i in
    omega (arith, c.requires.at_most.1 q.i (omega arith))

pub put_column-to-requires : goal.put_column-to-requires
unfolding columns_found
put_column-to-requires c =
    let a = c.args in
    let q = c.loop-i in
    let f : ℕ → List (ℕ × ℕ) =
    λ i. column_found a.run a.y0 a.rows (a.x + i) (get_or a.down.now i 0) (get_or a.up.now i 0) in
    record {
      to_in_bounds = (
        room-more f q.i a.n
            (λ j. found-two a.run a.y0 a.rows (a.x + j) (get_or a.down.now j 0) (get_or a.up.now j 0)) q.invariant
            (omega arith) c.requires.n_bound.3,
        c.requires.at_most.0 q.i (omega arith),
        c.requires.at_most.1 q.i (omega arith),
        c.requires.n_bound.2,
        omega arith,
      );
      run_bound = c.requires.run_bound;
    }

pub loop-i-preserved : goal.loop-i-preserved
unfolding columns_found
loop-i-preserved c =
    let a = c.args in
    let q = c.loop-i in
    put-more (λ i. column_found a.run a.y0 a.rows (a.x + i) (get_or a.down.now i 0) (get_or a.up.now i 0)) q.i
    q.invariant c.put_column-to.ensures

pub shape_of-out : goal.shape_of-out
shape_of-out c = wrote-length c.loop-i.invariant

pub returns : goal.returns
returns c =
    let a = c.args in
    let q = c.loop-i in
    let z : q.i ≡ a.n = omega arith in
    rw (← z) q.invariant
