-- `hull::quad` meets its contract. Each way out is one case of the rule, `quad-few` to `quad-back`. Assumes nothing.
use mathlib.Core.Path.{sym, ap, ◌∙◌}
use native.Mathlib.Omega.{arith}
use Rattle.hull.specs.Points.{points_at}
use Rattle.hull.specs.Quad.{values_of}
use Rattle.hull.proofs.Pairs.{quad-few, quad-over, quad-under, quad-on, quad-back}
use Rattle.hull.proofs.quad.Goals as goal

pub returns-then-p-lt4 : goal.returns-then-p-lt4
unfolding values_of points_at
returns-then-p-lt4 c = sym (ap (points_at c.args.p.now) (quad-few c.args.p.now c.if-p-lt4.true))

pub returns-then-area_at : goal.returns-then-area_at
returns-then-area_at c =
    let p = c.args.p.now in
    let t = c.farthest-t in
    let o = c.most-over in
    let v = c.most-under in
    let s = c.area_at in
    c.corners_at.ensures
    ∙ sym (ap (points_at p)
    (quad-on p (omega arith) t.result.a t.result.b t.result.far t.ensures.0 o.result.at o.result.val
    o.ensures.0 v.result.at v.result.val v.ensures.0 s.result c.if-u.true
    c.if-w.true s.ensures c.if-area_at.true))

pub returns-then-w : goal.returns-then-w
returns-then-w c =
    let p = c.args.p.now in
    let t = c.farthest-t in
    let o = c.most-over in
    let v = c.most-under in
    let s = c.area_at in
    c.corners_at-then-w.ensures
    ∙ sym (ap (points_at p)
    (quad-back p (omega arith) t.result.a t.result.b t.result.far t.ensures.0 o.result.at o.result.val
    o.ensures.0 v.result.at v.result.val v.ensures.0 s.result c.if-u.true
    c.if-w.true s.ensures c.if-area_at.false))

pub returns-then-u : goal.returns-then-u
unfolding values_of points_at
returns-then-u c =
    let p = c.args.p.now in
    let t = c.farthest-t in
    let o = c.most-over in
    let v = c.most-under in
    sym (ap (points_at p)
    (quad-under p (omega arith) t.result.a t.result.b t.result.far t.ensures.0 o.result.at o.result.val
    o.ensures.0 v.result.at v.result.val v.ensures.0 c.if-u.true c.if-w.false))

pub returns : goal.returns
unfolding values_of points_at
returns c =
    let p = c.args.p.now in
    let t = c.farthest-t in
    let o = c.most-over in
    let v = c.most-under in
    sym (ap (points_at p)
    (quad-over p (omega arith) t.result.a t.result.b t.result.far t.ensures.0 o.result.at o.result.val
    o.ensures.0 v.result.at v.result.val v.ensures.0 c.if-u.false))
