-- `whole_quad::points::side_at` meets its contract. Assumes nothing.
use Rattle.whole_quad.proofs.Turns.{side-is}
use Rattle.whole_quad.proofs.points.side_at.Goals as goal

pub returns : goal.returns
returns c =
    let xa = c.x_at-xa in
    let ya = c.y_at-ya in
    let xb = c.x_at-xb in
    let yb = c.y_at-yb in
    let f₁ = c.product in
    let f₂ = c.product-2 in
    let x = c.x_at-x in
    let y = c.y_at-y in
    let f₃ = c.product-3 in
    let f₄ = c.product-4 in
    let a = c.args in
    side-is xa.result ya.result xb.result yb.result x.result y.result xa.ensures.1 ya.ensures.1 xb.ensures.1
    yb.ensures.1 x.ensures.1 y.ensures.1 f₁.result f₂.result f₃.result f₄.result f₁.ensures.0 f₂.ensures.0
    f₃.ensures.0 f₄.ensures.0 a.p.now a.a a.b a.i xa.ensures.0 ya.ensures.0 xb.ensures.0 yb.ensures.0
    x.ensures.0 y.ensures.0
