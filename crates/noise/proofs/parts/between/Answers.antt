-- `noise::parts::between` meets its contract: none where the places are in the other order, else the product. Assumes nothing.
use mathlib.Core.Path.{sym}
use native.Mathlib.Omega.{arith}
use Rattle.noise.proofs.Product.{between_none, after-most, between-most, between_is}
use Rattle.noise.proofs.parts.between.Goals as goal

pub returns-then-last-first : goal.returns-then-last-first
returns-then-last-first c =
    let a = c.args in
    sym (between_none a.k a.n a.first a.last (omega arith) (omega arith) (omega arith))

pub overflow_mul-result : goal.overflow_mul-result
overflow_mul-result c =
    let a = c.args in
    let x = after-most a.k a.n a.first a.last (omega arith) (omega arith) (omega arith) in
    simp (c.middle_rows-middle.ensures, c.clear_rows-after.ensures) (omega arith)

pub overflow_mul-result-2 : goal.overflow_mul-result-2
overflow_mul-result-2 c =
    let a = c.args in
    let x = between-most a.k a.n a.first a.last (omega arith) (omega arith) (omega arith) in
    simp (c.clear_rows-before.ensures, c.middle_rows-middle.ensures, c.clear_rows-after.ensures) (omega arith)

pub returns : goal.returns
returns c =
    let a = c.args in
    simp (c.clear_rows-before.ensures, c.middle_rows-middle.ensures, c.clear_rows-after.ensures)
    (between_is a.k a.n a.first a.last (omega arith) (omega arith) (omega arith))
