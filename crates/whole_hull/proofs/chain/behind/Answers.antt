-- `whole_hull::chain::behind` meets its contract. Assumes nothing.
use native.Mathlib.Omega.{arith}
use Rattle.laws.specs.Plane.{value_at}
use Rattle.whole_hull.proofs.Turns.{behind-sums}
use Rattle.whole_hull.proofs.chain.behind.Goals as goal

pub returns-then-r-l : goal.returns-then-r-l
returns-then-r-l c =
    let yw = c.y_of-yw in
    let yc = c.y_of-yc in
    let yu = c.y_of-yu in
    let s = c.args in
    let l = c.product in
    let r = c.product-r in
    let e = behind-sums s.u s.c s.w yu.result yc.result yw.result l.result r.result c.requires.u_lt_c.0 c.requires.u_lt_c.1
    yu.ensures.1 l.ensures.0 r.ensures.0 (value_at s.a.now) yu.ensures.0 yc.ensures.0 yw.ensures.0 in
    let k = c.if-r-l.true in
    ((λ z. absurd (mathlib.Core.Bool.false≢true z)), λ z. omega (arith, e, k))

pub returns : goal.returns
returns c =
    let yw = c.y_of-yw in
    let yc = c.y_of-yc in
    let yu = c.y_of-yu in
    let s = c.args in
    let l = c.product in
    let r = c.product-r in
    let e = behind-sums s.u s.c s.w yu.result yc.result yw.result l.result r.result c.requires.u_lt_c.0 c.requires.u_lt_c.1
    yu.ensures.1 l.ensures.0 r.ensures.0 (value_at s.a.now) yu.ensures.0 yc.ensures.0 yw.ensures.0 in
    let k = c.if-r-l.false in
    ((λ z. omega (arith, e, k)), λ z. absurd (mathlib.Core.Bool.true≢false z))
