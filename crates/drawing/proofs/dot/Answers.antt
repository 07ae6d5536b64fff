-- `drawing::dot` meets its contract: a spot in the picture has its place among the bytes. Assumes nothing.
use native.Mathlib.Omega.{arith}
use Rattle.drawing.proofs.Dotted.{passed, failed, dot-in, dot-out, in-picture, place-fits, bytes-few}
use Rattle.drawing.proofs.dot.Goals as goal

pub returns-then-not-inside : goal.returns-then-not-inside
returns-then-not-inside c =
    let a = c.args in
    dot-out a.w a.h a.x a.y a.colour a.plane.now (failed c.inside.ensures c.if-not-inside.true)

pub overflow_sub-plane : goal.overflow_sub-plane
overflow_sub-plane c =
    let a = c.args in
    (in-picture a.w a.h a.x a.y (passed c.inside.ensures c.if-not-inside.false)).y-from

pub overflow_mul-plane : goal.overflow_mul-plane
overflow_mul-plane c =
    let a = c.args in
    let i = in-picture a.w a.h a.x a.y (passed c.inside.ensures c.if-not-inside.false) in
    omega (arith, place-fits c.requires i, bytes-few c.requires)

pub overflow_sub-plane-2 : goal.overflow_sub-plane-2
overflow_sub-plane-2 c =
    let a = c.args in
    (in-picture a.w a.h a.x a.y (passed c.inside.ensures c.if-not-inside.false)).x-from

pub overflow_add-plane : goal.overflow_add-plane
overflow_add-plane c =
    let a = c.args in
    let i = in-picture a.w a.h a.x a.y (passed c.inside.ensures c.if-not-inside.false) in
    omega (arith, place-fits c.requires i, bytes-few c.requires)

pub bounds-plane-y : goal.bounds-plane-y
bounds-plane-y c =
    let a = c.args in
    let i = in-picture a.w a.h a.x a.y (passed c.inside.ensures c.if-not-inside.false) in
    place-fits c.requires i

pub returns : goal.returns
returns c =
    let a = c.args in
    dot-in a.w a.h a.x a.y a.colour a.plane.now (passed c.inside.ensures c.if-not-inside.false)
