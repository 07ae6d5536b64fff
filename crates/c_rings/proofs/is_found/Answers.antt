-- `c_rings::is_found` meets its contract: by cases. Assumes nothing.
use Rattle.std.proofs.Common.{◌≡◌, Option, Some, None, refl, ◌∙◌}
use Rattle.std.specs.Prelude.{is_some}
use Rattle.hull.specs.declared.points.Quad.{Quad}
use Rattle.c_rings.specs.Rings.{is_found}
use Rattle.c_rings.proofs.is_found.Goals as goal

some-found : (c : Option Quad) → is_some c ≡ is_found c
some-found (Some q) = refl
some-found None = refl

pub returns : goal.returns
returns c = c.is_some.ensures ∙ some-found c.args.c
