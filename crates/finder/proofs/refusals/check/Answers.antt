-- `finder::refusals::check` meets its contract: each return by the checks before it, in the order of the definition. Assumes nothing.
use mathlib.Core.Path.{refl}
use native.Mathlib.Omega.{arith}
use Rattle.std.proofs.lemmas.Result.{err_from_is_err_and}
use Rattle.refusal.proofs.Numbers.{number-none}
use Rattle.finder.proofs.Passing.{find-grids, find-short, find-version, find_none}
use Rattle.finder.proofs.refusals.check.Goals as goal

pub returns-in_err-check : goal.returns-in_err-check
returns-in_err-check c =
    let a = c.args in
    let l = a.l in
    let q = c.in_err-check in
    let p = err_from_is_err_and c.from_residual.result c.from_residual.ensures.1 in
    rw (p.1, p.2) (
    find-grids a.w a.h a.bytes a.levels a.labels a.stack l.points l.straight l.cand l.buf a.most _ q.ensures.answer
    (number-none q.field-0.0)
    )

pub overflow_add-w : goal.overflow_add-w
overflow_add-w c =
    let s = (c.in_ok-check.ensures.passed refl).0 in
    omega (arith, s.w-high, s.h-high)

pub overflow_mul-w : goal.overflow_mul-w
overflow_mul-w c =
    let s = (c.in_ok-check.ensures.passed refl).0 in
    omega (arith, s.w-high, s.h-high)

pub returns-then-not-has_rooms : goal.returns-then-not-has_rooms
returns-then-not-has_rooms c =
    let a = c.args in
    let l = a.l in
    find-short a.w a.h a.bytes a.levels a.labels a.stack l.points l.straight l.cand l.buf a.most _
    c.in_ok-check.ensures.answer refl _ c.has_rooms.ensures c.if-not-has_rooms.true

pub returns-then-not-is_version : goal.returns-then-not-is_version
returns-then-not-is_version c =
    let a = c.args in
    let l = a.l in
    find-version a.w a.h a.bytes a.levels a.labels a.stack l.points l.straight l.cand l.buf a.most _
    c.in_ok-check.ensures.answer refl _ c.has_rooms.ensures c.if-not-has_rooms.false _
    c.is_version.ensures c.if-not-is_version.true

pub returns : goal.returns
returns c =
    let a = c.args in
    let l = a.l in
    find_none a.w a.h a.bytes a.levels a.labels a.stack l.points l.straight l.cand l.buf a.most _
    c.in_ok-check.ensures.answer refl _ c.has_rooms.ensures c.if-not-has_rooms.false _
    c.is_version.ensures c.if-not-is_version.false
