-- `attempt_text::accepted` meets its contract. The picture's bytes are a part of the record, and the first numbers of the room are its
-- points. Assumes nothing.
use Rattle.attempt_text.proofs.Wholes.{pixels-part, points-part, text-accepted}
use Rattle.attempt_text.proofs.Records.{accepted}
use Rattle.word_bytes.proofs.Places.{front, refilled}
use Rattle.laws.proofs.Stores.{stored-ext}
use lib.ListN.{length, length-take}
use Prim.Native.Nat.{◌≤◌}
use native.Mathlib.Omega.{arith}
use mathlib.Core.Path.{sym, ◌∙◌}
use Rattle.attempt_text.proofs.accepted.Goals as goal

pub slice_bounds-read-end : goal.slice_bounds-read-end
slice_bounds-read-end c = front _ _ (omega (arith, c.list_room-points.ensures, c.number_count-m.ensures.1))

pub read-requires : goal.read-requires
read-requires c =
    let p = accepted c.args.input.now c.requires.input_value in (
      omega (arith, p.few, c.pixel_count-n.ensures.0),
      simp length-take (omega (
        arith,
        c.number_count-m.ensures.1,
      )),
    )

pub slice_bounds-answered-end : goal.slice_bounds-answered-end
slice_bounds-answered-end c =
    let p = accepted c.args.input.now c.requires.input_value in
    omega (arith, p.there, c.pixel_count-n.ensures.0)

pub slice_bounds-points-end-2 : goal.slice_bounds-points-end-2
slice_bounds-points-end-2 c =
    let m = c.number_count-m in
    let b = c.list_room-points in
    let r = c.read in
    let held = front m.result b.result (omega (arith, b.ensures, m.ensures.1)) ∙ sym r.auto.list in
    refilled m.result r.new.list b.result held

pub slice_bounds-answered-end-2 : goal.slice_bounds-answered-end-2
slice_bounds-answered-end-2 c =
    let m = c.number_count-m in
    let b = c.list_room-points in
    let r = c.read in
    let held = front m.result b.result (omega (arith, b.ensures, m.ensures.1)) ∙ sym r.auto.list in
    front m.result _ (refilled m.result r.new.list b.result held)

pub returns : goal.returns
returns c =
    let s = c.args.input.now in
    let n = c.pixel_count-n in
    let m = c.number_count-m in
    let b = c.list_room-points in
    let r = c.read in
    let within : m.result ≤ length b.result = omega (arith, b.ensures, m.ensures.1) in
    let held = front m.result b.result within ∙ sym r.auto.list in
    let g = pixels-part s n.result n.ensures.0 in
    let p = points-part s n.result m.result b.result r.new.list n.ensures.0 m.ensures.0 within held r.ensures in
    let t = c.answered.ensures in
    record {
      out = stored-ext _ _ (text-accepted s _ _ c.requires.input_value g p) t.out;
      most = t.most;
    }
