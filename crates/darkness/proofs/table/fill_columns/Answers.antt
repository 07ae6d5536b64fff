-- Row y is filled up to column i of level cell c (RowTo). Assumes nothing.
use mathlib.Core.Path.{◌≡◌}
use Prim.Native.Nat.{◌*◌, ◌+◌, ◌<◌}
use native.Mathlib.Omega.{arith}
use Rattle.darkness.proofs.Filled.{ink-at, ink-small, row-to-high, row-to-low, row-to-turn, sized-bounds}
use Rattle.darkness.proofs.table.fill_columns.Goals as goal

pub put_count-n-requires : goal.put_count-n-requires
put_count-n-requires c =
    let a = c.args in
    let at = c.loop-i in
    let b = sized-bounds c.requires.sized c.requires.c_bound.2 in
    let small = ink-small a.w a.s.now a.levels.now in
    let within : 16 * a.c + at.i < a.w = omega arith in
    let pixel = c.place-pixel.ensures.0 in
    let up = c.place-up.ensures.0 in
    let long = at.invariant.done.past.same in
    record {
      inside = omega (arith, pixel, c.requires.sized.picture.count);
      above = omega (arith, up, long, c.requires.sized.room);
      below = omega (arith, up, long, c.requires.sized.room);
      low = row-to-low at.invariant within small (omega arith) (omega arith);
      high = row-to-high at.invariant within small (omega arith) (omega arith) (omega (arith, up));
    }

pub loop-i-preserved : goal.loop-i-preserved
loop-i-preserved c =
    let a = c.args in
    let at = c.loop-i in
    let k = c.put_count-n.ensures in
    let read = c.threshold_at-t.ensures in
    let pixel = c.place-pixel.ensures.0 in
    let up = c.place-up.ensures.0 in
    let b = sized-bounds c.requires.sized c.requires.c_bound.2 in
    let z : 16 * a.c + (at.i + 1) ≡ 16 * a.c + at.i + 1 = omega arith in
    rw z
    (row-to-turn at.invariant (omega arith)
    (ink-at a.w a.s.now a.levels.now a.c (16 * a.c + at.i) a.y read (omega arith) (omega arith)
    (omega (arith, pixel)))
    k.answer (omega (arith, up)) (omega (arith, up)) k.table
    (omega (arith, at.invariant.done.past.same, c.requires.sized.room)))
