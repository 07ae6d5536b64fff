-- `search::geometry::ring_numbers` meets its contract. Assumes nothing.
use Rattle.std.proofs.Common.{refl}
use Rattle.search.specs.Geometry.{ring_numbers}
use Rattle.search.proofs.geometry.ring_numbers.Goals as goal

pub returns : goal.returns
unfolding ring_numbers
returns c = refl
