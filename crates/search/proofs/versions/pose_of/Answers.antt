-- `search::versions::pose_of` meets its contract. Assumes nothing.
use Rattle.std.proofs.Common.{sym, arith, length-take-le}
use Rattle.search.proofs.Maps.{marked, not-refused, front-room, front_long, pose-is, pose-never}
use Rattle.search.proofs.versions.pose_of.Goals as goal

pub slice_bounds-classify-end : goal.slice_bounds-classify-end
slice_bounds-classify-end c =
    let q = c.requires.lumas_len in
    let g = c.requires.version.greatest in
    sym (length-take-le _ _ (omega arith))

pub slice_bounds-marks-end-2 : goal.slice_bounds-marks-end-2
slice_bounds-marks-end-2 c =
    let a = c.args in
    let q = c.requires.lumas_len in
    let g = c.requires.version.greatest in
    let m = marked a.version a.lumas.now c.requires.version
    c.requires.lumas_len _ _ _ (length-take-le _ _ (omega arith)) c.classify.ensures.answer
    c.classify.ensures.marks in
    front-room a.version a.lumas.now c.requires.version
    c.requires.lumas_len _ _ m

pub slice_bounds-correlate-end : goal.slice_bounds-correlate-end
slice_bounds-correlate-end c =
    let a = c.args in
    let q = c.requires.lumas_len in
    let g = c.requires.version.greatest in
    let m = marked a.version a.lumas.now c.requires.version
    c.requires.lumas_len _ _ _ (length-take-le _ _ (omega arith))
    c.classify.ensures.answer c.classify.ensures.marks in
    front_long a.version a.lumas.now c.requires.version
    c.requires.lumas_len _ _ m

pub returns-in_err-classify : goal.returns-in_err-classify
returns-in_err-classify c =
    let a = c.args in
    let q = c.requires.lumas_len in
    let g = c.requires.version.greatest in
    absurd (not-refused a.version a.lumas.now c.requires.version q _ _ (length-take-le _ _ (omega arith))
    c.classify.ensures.answer c.in_err-classify.was)

pub returns-in_err-c : goal.returns-in_err-c
returns-in_err-c c =
    let a = c.args in
    let q = c.requires.lumas_len in
    let g = c.requires.version.greatest in
    let m = marked a.version a.lumas.now c.requires.version q _ _ _ (length-take-le _ _ (omega arith))
    c.classify.ensures.answer c.classify.ensures.marks in
    absurd (pose-never a.version a.lumas.now c.requires.version q _ _ m _ c.correlate.ensures c.in_err-c.was)

pub returns : goal.returns
returns c =
    let a = c.args in
    let q = c.requires.lumas_len in
    let g = c.requires.version.greatest in
    let m = marked a.version a.lumas.now c.requires.version q _ _ _ (length-take-le _ _ (omega arith))
    c.classify.ensures.answer c.classify.ensures.marks in
    pose-is a.version a.lumas.now c.requires.version q _ _ m _ c.correlate.ensures c.in_ok-c.was
