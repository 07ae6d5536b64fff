-- `same_bits` has the three cases of `same_bits`: a NaN first, a NaN second, two numbers. Assumes nothing.
use Rattle.ieee.proofs.Tests.{ne-no-nan}
use Rattle.marks.proofs.Settling.{same-nan, same_not, same_numbers}
use Rattle.marks.proofs.split.same_bits.Goals as goal

pub returns-then-a : goal.returns-then-a
returns-then-a c = let a = c.args in same-nan a.a a.b c.if-a.true

pub returns-then-b : goal.returns-then-b
returns-then-b c = let a = c.args in same_not a.a a.b c.if-a.false c.if-b.true

pub float_to_bits-result : goal.float_to_bits-result
float_to_bits-result c = ne-no-nan _ c.if-a.false

pub float_to_bits-result-2 : goal.float_to_bits-result-2
float_to_bits-result-2 c = ne-no-nan _ c.if-b.false

pub returns : goal.returns
returns c = let a = c.args in same_numbers a.a a.b c.if-a.false c.if-b.false
