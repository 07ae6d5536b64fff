-- `c_pictures::shapes::numbers` meets its contract. Assumes nothing.
use mathlib.Core.Path.{refl}
use Rattle.hull.specs.Quad.{values_of}
use Rattle.c_pictures.proofs.shapes.numbers.Goals as goal

pub returns : goal.returns
unfolding values_of
returns c = refl
