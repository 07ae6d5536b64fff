-- `whole_quad::sides::quad_of` meets its contract. Assumes nothing.
use mathlib.Core.Path.{sym, ap, ◌∙◌}
use Prim.Native.Nat.{◌-◌}
use native.Mathlib.Omega.{arith}
use Rattle.whole_quad.specs.Door.{quad_of_pairs}
use Rattle.whole_quad.proofs.Quads.{quad-few, quad-over, quad-under, quad-found}
use Rattle.whole_quad.proofs.sides.quad_of.Goals as goal

pub returns-then-p-lt4 : goal.returns-then-p-lt4
unfolding quad_of_pairs
returns-then-p-lt4 c = sym (ap quad_of_pairs (quad-few c.args.p.now c.requires.p_len c.requires.bounded c.if-p-lt4.true))

pub returns-then-low-lt268435456 : goal.returns-then-low-lt268435456
returns-then-low-lt268435456 c =
    let t = c.farthest-t in
    let o = c.most-s in
    c.corners_at.ensures
    ∙ sym (ap quad_of_pairs
    (quad-found c.args.p.now c.requires.p_len c.requires.bounded (omega arith) t.result.a t.result.b t.result.far t.ensures.0
    o.result.right.at o.result.right.val o.ensures.right.0 o.result.left.at (536870912 - o.result.left.val)
    o.ensures.left.0 c.if-high-gt268435456.true (omega arith)))

pub returns-then-high-gt268435456 : goal.returns-then-high-gt268435456
unfolding quad_of_pairs
returns-then-high-gt268435456 c =
    let t = c.farthest-t in
    let o = c.most-s in
    sym (ap quad_of_pairs
    (quad-under c.args.p.now c.requires.p_len c.requires.bounded (omega arith) t.result.a t.result.b t.result.far t.ensures.0
    o.result.right.at o.result.right.val o.ensures.right.0 o.result.left.at (536870912 - o.result.left.val)
    o.ensures.left.0 c.if-high-gt268435456.true (omega arith)))

pub returns : goal.returns
unfolding quad_of_pairs
returns c =
    let t = c.farthest-t in
    let o = c.most-s in
    sym (ap quad_of_pairs
    (quad-over c.args.p.now c.requires.p_len c.requires.bounded (omega arith) t.result.a t.result.b t.result.far t.ensures.0
    o.result.right.at o.result.right.val o.ensures.right.0 o.result.left.at (536870912 - o.result.left.val)
    o.ensures.left.0 c.if-high-gt268435456.false))
