-- `finder::prepare::prepare` meets its contract: a refusal has touched nothing, else the picture door has done all. Assumes nothing.
use mathlib.Core.Path.{sym}
use lib.ListN.{length}
use Rattle.std.proofs.lemmas.Result.{err_from_is_err_and}
use Rattle.refusal.proofs.Numbers.{number-none}
use Rattle.finder.proofs.Passing.{passed, refused-levels, refused-labels, refused-stack}
use Rattle.finder.proofs.Prepared.{prepared-refused, prepared-given, ready}
use Rattle.finder.proofs.prepare.prepare.Goals as goal

pub returns-in_err-check : goal.returns-in_err-check
returns-in_err-check c =
    let a = c.args in
    let q = c.in_err-check in
    let p = err_from_is_err_and c.from_residual.result c.from_residual.ensures.1 in
    let some = number-none q.field-0.0 in
    rw (p.1, p.2) (
    record {
      answer = prepared-refused _ _ _ q.ensures some;
      levels = refused-levels a.gray.now a.levels.now a.w a.h _ some;
      labels = refused-labels a.gray.now a.labels.now a.w a.h _ some;
      stack = refused-stack a.gray.now a.stack.now a.w a.h _ some;
      ready = λ k e. cc;
    }
    )

pub returns : goal.returns
returns c =
    let a = c.args in
    let l = a.l in
    let o = c.picture in
    let z = sym c.in_ok-check.ensures in
    let p = passed a.w a.h (length a.gray.now) (length a.levels.now) (length a.labels.now) (length a.stack.now)
    l.points l.straight l.cand l.buf a.most z in
    record {
      answer = prepared-given _ _ _ _ o.ensures.answer p.grids z;
      levels = o.ensures.levels;
      labels = o.ensures.labels;
      stack = o.ensures.stack;
      ready = ready a.gray.now a.levels.now a.labels.now _ _ a.w a.h (length a.stack.now) a.most l
          o.result o.ensures.answer z o.auto.grid o.auto.labels o.ensures.levels o.ensures.labels;
    }
