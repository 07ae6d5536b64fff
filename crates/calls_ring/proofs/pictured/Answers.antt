-- `calls_ring::pictured`: the first n bytes of the room are filled, n at most 1,048,576. Assumes nothing.
use mathlib.Core.Path.{◌≡◌, sym, ◌∙◌}
use native.Mathlib.Omega.{arith}
use lib.ListN.{length, take}
use Rattle.word_bytes.proofs.Places.{places, front, refilled}
use Rattle.calls_ring.proofs.pictured.Goals as goal

pub slice_bounds-all-end : goal.slice_bounds-all-end
slice_bounds-all-end c = omega (arith, places _ _ c.room-all.ensures)

pub slice_bounds-unpack-end-2 : goal.slice_bounds-unpack-end-2
slice_bounds-unpack-end-2 c = front _ _ (omega (arith, places _ _ c.room-all.ensures))

pub slice_bounds-all-end-2 : goal.slice_bounds-all-end-2
slice_bounds-all-end-2 c =
    let n = c.many-n.result in
    let b = c.room-all.result in
    let held = front n b (omega (arith, places 1048576 b c.room-all.ensures)) in
    let k : length c.unpack.new.bytes ≡ length (take n b) = c.unpack.auto.bytes in
    refilled n c.unpack.new.bytes b (held ∙ sym k)

pub slice_bounds-sized-end : goal.slice_bounds-sized-end
slice_bounds-sized-end c =
    let n = c.many-n.result in
    let b = c.room-all.result in
    let held = front n b (omega (arith, places 1048576 b c.room-all.ensures)) in
    let k : length c.unpack.new.bytes ≡ length (take n b) = c.unpack.auto.bytes in
    front n _ (refilled n c.unpack.new.bytes b (held ∙ sym k))
