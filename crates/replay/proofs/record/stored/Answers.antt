-- `replay::record::stored` meets its contract. Assumes nothing.
use native.Mathlib.Omega.{arith}
use mathlib.Core.Path.{◌≡◌, sym, ◌∙◌}
use lib.ListN.{length, take}
use Rattle.replay.proofs.Parts.{front, refilled}
use Rattle.replay.proofs.record.stored.Goals as goal

pub slice_bounds-read-end : goal.slice_bounds-read-end
slice_bounds-read-end c = front c.args.n c.room-args.result (omega (arith, c.room-args.ensures))

pub slice_bounds-read-end-2 : goal.slice_bounds-read-end-2
slice_bounds-read-end-2 c =
    front c.args.m c.room-wanted.result
    (omega (arith, c.room-wanted.ensures))

pub slice_bounds-args-end-2 : goal.slice_bounds-args-end-2
slice_bounds-args-end-2 c =
    let n = c.args.n in
    let b = c.room-args.result in
    let k : length c.read.new.words ≡ length (take n b) =
    c.read.auto.words in
    refilled n c.read.new.words b
    (front n b (omega (arith, c.room-args.ensures)) ∙ sym k)

pub slice_bounds-made-end : goal.slice_bounds-made-end
slice_bounds-made-end c =
    let n = c.args.n in
    let b = c.room-args.result in
    let k : length c.read.new.words ≡ length (take n b) =
    c.read.auto.words in
    front n _ (refilled n c.read.new.words b
    (front n b (omega (arith, c.room-args.ensures))
    ∙ sym k))

pub slice_bounds-wanted-end-2 : goal.slice_bounds-wanted-end-2
slice_bounds-wanted-end-2 c =
    let m = c.args.m in
    let b = c.room-wanted.result in
    let k : length c.read-2.new.words ≡ length (take m b) = c.read-2.auto.words in
    refilled m c.read-2.new.words b
    (front m b (omega (arith, c.room-wanted.ensures)) ∙ sym k)

pub slice_bounds-made-end-2 : goal.slice_bounds-made-end-2
slice_bounds-made-end-2 c =
    let m = c.args.m in
    let b = c.room-wanted.result in
    let k : length c.read-2.new.words ≡ length (take m b) =
    c.read-2.auto.words in
    front m _ (refilled m c.read-2.new.words b
    (front m b (omega (arith, c.room-wanted.ensures)) ∙ sym k))
