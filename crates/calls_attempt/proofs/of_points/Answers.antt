-- `calls_attempt::of_points`: lists of at most 32,770 places fit their rooms. Assumes nothing.
use native.Mathlib.Omega.{arith}
use Rattle.word_bytes.proofs.Places.{front}
use Rattle.calls_attempt.proofs.of_points.Goals as goal

pub slice_bounds-made-end : goal.slice_bounds-made-end
slice_bounds-made-end c = front _ _ (omega (arith, c.list_room-x.ensures))

pub slice_bounds-made-end-2 : goal.slice_bounds-made-end-2
slice_bounds-made-end-2 c = front _ _ (omega (arith, c.list_room-y.ensures))

pub slice_bounds-made-end-3 : goal.slice_bounds-made-end-3
slice_bounds-made-end-3 c = front _ _ (omega (arith, c.list_room-z.ensures))
