-- `fit::middle::pass` meets its contract: no line, too few points, or the line through the points that `select` left at the beginning of
-- buf. Assumes nothing.
use mathlib.Core.Path.{sym}
use native.Mathlib.Omega.{arith}
use Rattle.fit.proofs.Lines.{pass-none, pass-few, pass-fit}
use Rattle.fit.proofs.Selects.{kept-long, kept_same, kept-past}
use Rattle.laws.proofs.Past.{past-none}
use Rattle.fit.proofs.middle.pass.Goals as goal

pub returns-in_default : goal.returns-in_default
returns-in_default c =
    record {
      answer = pass-none _ _ _ _ c.in_default.is;
      buf_past = past-none _ _;
    }

pub returns-then-m-lt8 : goal.returns-then-m-lt8
returns-then-m-lt8 c =
    record {
      answer = pass-few _ _ _ _ c.in-Along.is
          c.select-m.ensures c.if-m-lt8.true;
      buf_past = kept-past c.select-m.ensures
          c.requires.s_in_bounds;
    }

pub overflow_mul-m : goal.overflow_mul-m
overflow_mul-m c = let z = c.select-m.ensures.few in omega arith

pub slice_bounds-tls_line-end : goal.slice_bounds-tls_line-end
slice_bounds-tls_line-end c =
    let z = c.select-m.ensures.few in let w =
    kept_same c.select-m.ensures
    c.requires.s_in_bounds in omega arith

pub slice_bounds-tls_line-end-2 : goal.slice_bounds-tls_line-end-2
slice_bounds-tls_line-end-2 c =
    sym (kept-long c.select-m.ensures
    c.requires.s_in_bounds)

pub tls_line-requires : goal.tls_line-requires
tls_line-requires c =
    let few = c.select-m.ensures.few in
    let long = kept-long c.select-m.ensures
    c.requires.s_in_bounds in
    omega arith

pub returns : goal.returns
returns c =
    record {
      answer = pass-fit _ _ _ _ c.in-Along.is
          c.select-m.ensures _ c.if-m-lt8.false c.tls_line.ensures;
      buf_past = kept-past c.select-m.ensures
          c.requires.s_in_bounds;
    }
