-- `calls_ring::lumas`: the version is one of 1 to 64, so its lumas fit the room. Assumes nothing.
use mathlib.Core.Path.{refl, sym, ◌∙◌}
use lib.Seq.{length-take-le}
use Rattle.lcr_core.proofs.DoorLaws.{known_is}
use Rattle.search.proofs.RingReads.{room_for, lumas-room, lumas-fit}
use Rattle.calls_ring.proofs.lumas.Goals as goal

pub slice_bounds-list-end : goal.slice_bounds-list-end
slice_bounds-list-end c =
    let i = known_is c.args.v _ _
    c.new.ensures c.in-Ok.is in
    room_for _ _ _ _ refl c.positions-n.ensures.answer refl i.greatest

pub slice_bounds-ring_lumas-end : goal.slice_bounds-ring_lumas-end
slice_bounds-ring_lumas-end c =
    let i = known_is c.args.v _ _
    c.new.ensures c.in-Ok.is in
    sym (length-take-le _ _ (room_for _ _ _ _ refl c.positions-n.ensures.answer refl i.greatest))

pub ring_lumas-requires : goal.ring_lumas-requires
ring_lumas-requires c =
    let i = known_is c.args.v _ _
    c.new.ensures c.in-Ok.is in
    let p = c.positions-n.ensures.answer in
    let fits = room_for _ _ _ _ refl p refl i.greatest in
    record {
      photo = c.requires;
      out_len = length-take-le _ _ fits ∙ p;
    }

pub slice_bounds-list-end-2 : goal.slice_bounds-list-end-2
slice_bounds-list-end-2 c =
    let a = c.args in
    lumas-room a.gray.now a.w a.h a.t _ _ _ _ c.positions-n.ensures.answer c.ring_lumas.ensures

pub slice_bounds-numbers-end : goal.slice_bounds-numbers-end
slice_bounds-numbers-end c =
    let a = c.args in
    lumas-fit a.gray.now a.w a.h a.t _ _ _ _ c.positions-n.ensures.answer
    c.ring_lumas.ensures
