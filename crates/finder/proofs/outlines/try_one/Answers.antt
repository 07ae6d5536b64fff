-- `finder::outlines::try_one` meets its contract: the outline's numbers are the first of the list, and the attempt takes them. Assumes
-- nothing.
use mathlib.Core.List.{List}
use mathlib.Core.Path.{◌≡◌, sym, ap, ◌∙◌}
use Prim.Native.Nat.{◌*◌, ◌≤◌}
use native.Mathlib.Omega.{arith}
use lib.Ieee.{Float}
use lib.ListN.{length, take}
use lib.Seq.{length-take-le}
use Rattle.ring.specs.Trace.{attempt_of}
use Rattle.region_outline.specs.Region.{need_of}
use Rattle.finder.proofs.Regions.{photo-sides, worked-one}
use Rattle.finder.proofs.outlines.try_one.Goals as goal

pub region_points-n-requires : goal.region_points-n-requires
region_points-n-requires c =
    let p = c.requires in
    let a = c.args in
    record {
      sides = photo-sides a.gray.now a.w a.h p.photo;
      gridded = p.gridded;
      boxed = p.boxed;
      h_in_bounds = p.roomy.first;
    }

pub slice_bounds-attempt-end-2 : goal.slice_bounds-attempt-end-2
slice_bounds-attempt-end-2 c =
    let p = c.requires in
    let o = c.region_points-n in
    let last = o.new.list in
    sym (length-take-le (2 * o.result) last (omega (arith, o.ensures.bounds, o.ensures.list_past.same, p.roomy.first)))

pub attempt-requires : goal.attempt-requires
attempt-requires c =
    let p = c.requires in
    let room = p.roomy in
    let o = c.region_points-n in
    let last = o.new.list in
    let long : length (take (2 * o.result) last) ≡ 2 * o.result =
    length-take-le (2 * o.result) last (omega (arith, o.ensures.bounds, o.ensures.list_past.same, room.first)) in
    record {
      photo = p.photo;
      most_bound = p.most_bound;
      s_in_bounds = omega (arith, long, o.ensures.bounds, room.second);
      s_in_bounds_2 = omega (arith, long, o.ensures.bounds, room.third);
      s_in_bounds_3 = omega (arith, long, o.ensures.bounds, room.fourth);
      s_len_bound = omega (arith, long, o.ensures.bounds, p.photo.wide.1, p.photo.high.1);
    }

pub returns : goal.returns
returns c =
    let p = c.requires in
    let a = c.args in
    let room = p.roomy in
    let o = c.region_points-n in
    let r = c.attempt.ensures in
    let last = o.new.list in
    let long : length (take (2 * o.result) last) ≡ 2 * o.result =
    length-take-le (2 * o.result) last (omega (arith, o.ensures.bounds, o.ensures.list_past.same, room.first)) in
    let few : length (take (2 * o.result) last) ≤ need_of a.w a.h = omega (arith, long, o.ensures.bounds) in
    record {
      answer = r.answer ∙ ap (λ (s : List Float). attempt_of a.gray.now a.w a.h s a.most) o.ensures.list;
      points = worked-one (need_of a.w a.h) few o.ensures.list_past r.straight_past r.cand_past r.buf_past;
    }
