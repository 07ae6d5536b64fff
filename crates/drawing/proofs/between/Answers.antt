-- `drawing::between` meets its contract: the weighted sum is at most 65,535 times itself. Assumes nothing.
use Rattle.drawing.proofs.Points.{weight-fits, between-few}
use mathlib.Core.Path.{refl}
use native.Mathlib.Omega.{arith}
use Rattle.drawing.specs.Lines.{line_point}
use Rattle.drawing.proofs.Points.{weight-fits}
use Rattle.drawing.proofs.between.Goals as goal

pub overflow_mul-weighted : goal.overflow_mul-weighted
overflow_mul-weighted c =
    let a = c.args in
    let p = c.requires in
    omega (arith, weight-fits a.a a.b a.n a.k (omega arith) (omega arith) p.1 p.2)

pub overflow_mul-weighted-2 : goal.overflow_mul-weighted-2
overflow_mul-weighted-2 c =
    let a = c.args in
    let p = c.requires in
    omega (arith, weight-fits a.a a.b a.n a.k (omega arith) (omega arith) p.1 p.2)

pub overflow_add-weighted : goal.overflow_add-weighted
overflow_add-weighted c =
    let a = c.args in
    let p = c.requires in
    omega (arith, weight-fits a.a a.b a.n a.k (omega arith) (omega arith) p.1 p.2)

pub overflow_mul-result : goal.overflow_mul-result
overflow_mul-result c =
    let a = c.args in
    let p = c.requires in
    omega (arith, weight-fits a.a a.b a.n a.k (omega arith) (omega arith) p.1 p.2)

pub overflow_add-result : goal.overflow_add-result
overflow_add-result c =
    let a = c.args in
    let p = c.requires in
    omega (arith, weight-fits a.a a.b a.n a.k (omega arith) (omega arith) p.1 p.2)

pub returns : goal.returns
unfolding line_point
returns c =
    let a = c.args in
    let p = c.requires in
    record {
      answer = refl;
      most = between-few a.a a.b a.n p.0 a.k p.2 (omega arith) (omega arith);
    }
