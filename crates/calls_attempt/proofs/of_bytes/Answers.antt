-- `calls_attempt::of_bytes`: the first m numbers of the room are filled, m at most 32,770. Assumes nothing.
use mathlib.Core.Path.{◌≡◌, sym, ◌∙◌}
use native.Mathlib.Omega.{arith}
use lib.ListN.{length, take}
use Rattle.word_bytes.proofs.Places.{front, refilled}
use Rattle.calls_attempt.proofs.of_bytes.Goals as goal

pub slice_bounds-read-end : goal.slice_bounds-read-end
slice_bounds-read-end c = front _ _ (omega (arith, c.list_room-points.ensures))

pub slice_bounds-points-end-2 : goal.slice_bounds-points-end-2
slice_bounds-points-end-2 c =
    let m = c.many-m.result in
    let b = c.list_room-points.result in
    let held = front m b (omega (arith, c.list_room-points.ensures)) in
    let k : length c.read.new.list ≡ length (take m b) = c.read.auto.list in
    refilled m c.read.new.list b (held ∙ sym k)

pub slice_bounds-of_points-end : goal.slice_bounds-of_points-end
slice_bounds-of_points-end c =
    let m = c.many-m.result in
    let b = c.list_room-points.result in
    let held = front m b (omega (arith, c.list_room-points.ensures)) in
    let k : length c.read.new.list ≡ length (take m b) = c.read.auto.list in
    front m _ (refilled m c.read.new.list b (held ∙ sym k))
