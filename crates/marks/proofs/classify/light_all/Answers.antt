-- `light_all` walks the positions. Invariant: `Lighting`, the window's part of the gathered lumas and the marks written so far. Assumes
-- nothing.
use native.Mathlib.Omega.{arith}
use Rattle.marks.proofs.Windows.{lighting-begin, lighting-part, lighting-turn, lighting-end}
use Rattle.marks.proofs.classify.light_all.Goals as goal

pub loop-p-init : goal.loop-p-init
loop-p-init c = lighting-begin c.args.lumas.now c.args.marks.now c.args.first c.requires.marks_len c.requires.first_value

pub slice_bounds-is_light-count : goal.slice_bounds-is_light-count
slice_bounds-is_light-count c =
    let at = c.loop-p in
    (lighting-part c.args.lumas.now c.args.around.now at.marks at.lo at.hi at.p (omega arith) c.requires.around
    at.invariant).0

pub slice_bounds-is_light-start : goal.slice_bounds-is_light-start
slice_bounds-is_light-start c =
    let at = c.loop-p in
    (lighting-part c.args.lumas.now c.args.around.now at.marks at.lo at.hi at.p (omega arith) c.requires.around
    at.invariant).0

pub slice_bounds-is_light-end : goal.slice_bounds-is_light-end
slice_bounds-is_light-end c =
    let at = c.loop-p in
    (lighting-part c.args.lumas.now c.args.around.now at.marks at.lo at.hi at.p (omega arith) c.requires.around
    at.invariant).1

pub is_light-requires : goal.is_light-requires
is_light-requires c =
    let at = c.loop-p in
    (lighting-part c.args.lumas.now c.args.around.now at.marks at.lo at.hi at.p (omega arith) c.requires.around
    at.invariant).2

pub loop-p-preserved : goal.loop-p-preserved
loop-p-preserved c =
    let at = c.loop-p in
    lighting-turn c.args.lumas.now c.args.around.now at.marks at.lo at.hi at.p c.passed-lo.result
    c.passed-hi.result c.is_light.result (omega arith) c.requires.around c.is_light.ensures
    c.passed-lo.ensures c.passed-hi.ensures at.invariant

pub returns : goal.returns
returns c =
    let at = c.loop-p in
    lighting-end c.args.lumas.now at.marks at.lo at.hi at.p (omega arith) at.invariant
