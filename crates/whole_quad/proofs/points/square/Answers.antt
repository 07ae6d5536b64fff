-- `whole_quad::points::square` meets its contract. Assumes nothing.
use Rattle.whole_quad.proofs.Numbers.{diff-fits, square-fits, square-cast, square-is}
use Rattle.whole_quad.proofs.points.square.Goals as goal

pub overflow_sub-d : goal.overflow_sub-d
overflow_sub-d c = diff-fits c.args.a c.args.b c.requires.0 c.requires.1

pub overflow_mul-result : goal.overflow_mul-result
overflow_mul-result c = square-fits c.args.a c.args.b c.requires.0 c.requires.1

pub overflow_cast-result : goal.overflow_cast-result
overflow_cast-result c = square-cast c.args.a c.args.b c.requires.0 c.requires.1

pub returns : goal.returns
returns c = square-is c.args.a c.args.b c.requires.0 c.requires.1
