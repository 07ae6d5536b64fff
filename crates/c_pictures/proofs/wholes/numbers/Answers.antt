-- `c_pictures::wholes::numbers` meets its contract. Assumes nothing.
use mathlib.Core.Path.{refl}
use Rattle.whole_quad.specs.Door.{quad_numbers}
use Rattle.c_pictures.proofs.wholes.numbers.Goals as goal

pub returns : goal.returns
unfolding quad_numbers
returns c = refl
