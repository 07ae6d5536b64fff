-- `search::versions::read_ring` meets its contract. Assumes nothing.
use Rattle.std.proofs.Common.{refl, sym, ap, ◌∙◌, length-take-le}
use Rattle.search.proofs.RingReads.{never-refused, room_for, lumas-room, lumas-fit, read_is}
use Rattle.lcr_core.proofs.DoorLaws.{version-known}
use Rattle.lcr_core.specs.Version.{positions_of}
use Rattle.search.proofs.versions.read_ring.Goals as goal

pub returns-in_default : goal.returns-in_default
returns-in_default c =
    absurd (never-refused _ _ c.requires.version c.new.ensures
    c.in_default.is)

pub slice_bounds-lumas-end : goal.slice_bounds-lumas-end
slice_bounds-lumas-end c =
    let k = (version-known _ _ _ c.new.ensures c.in-Ok.is).1 in
    let p = c.positions-n.ensures.answer in
    let e = refl in
    let g = c.requires.version.greatest in
    room_for _ _ _ _ k p e g

pub slice_bounds-ring_lumas-end : goal.slice_bounds-ring_lumas-end
slice_bounds-ring_lumas-end c =
    let k = (version-known _ _ _ c.new.ensures
    c.in-Ok.is).1 in
    let p = c.positions-n.ensures.answer in
    let e = refl in
    let g = c.requires.version.greatest in
    sym (length-take-le _ _ (room_for _ _ _ _ k p e g))

pub ring_lumas-requires : goal.ring_lumas-requires
ring_lumas-requires c =
    let k = (version-known _ _ _ c.new.ensures
    c.in-Ok.is).1 in
    let p = c.positions-n.ensures.answer in
    let e = refl in
    let g = c.requires.version.greatest in
    record {
      photo = c.requires.photo;
      out_len = length-take-le _ _
          (room_for _ _ _ _ k p e g) ∙ p;
    }

pub slice_bounds-lumas-end-2 : goal.slice_bounds-lumas-end-2
slice_bounds-lumas-end-2 c =
    let a = c.args in
    lumas-room a.gray.now a.w a.h a.t _ _ _ _ c.positions-n.ensures.answer
    c.ring_lumas.ensures

pub slice_bounds-pose_of-end : goal.slice_bounds-pose_of-end
slice_bounds-pose_of-end c =
    let a = c.args in
    lumas-fit a.gray.now a.w a.h a.t _ _ _ _ c.positions-n.ensures.answer
    c.ring_lumas.ensures

pub pose_of-requires : goal.pose_of-requires
pose_of-requires c =
    let a = c.args in
    let k = (version-known _ _ _ c.new.ensures
    c.in-Ok.is).1 in
    record {
      version = c.requires.version;
      lumas_len = sym (lumas-fit a.gray.now
          a.w a.h a.t _ _ _ _ c.positions-n.ensures.answer
          c.ring_lumas.ensures) ∙ c.positions-n.ensures.answer ∙ ap positions_of k;
    }

pub returns-in_default-pose_of : goal.returns-in_default-pose_of
returns-in_default-pose_of c = absurd (c.in_default-pose_of.not-Ok _ c.pose_of.ensures)

pub returns : goal.returns
returns c =
    let a = c.args in
    let k = (version-known _ _ _
    c.new.ensures
    c.in-Ok.is).1 in
    read_is a.gray.now a.w a.h a.t _ _ _ _ c.positions-n.ensures.answer
    c.ring_lumas.ensures a.version _ _ k c.pose_of.ensures c.in-Ok-pose_of.is c.score_by.ensures
