-- Where a ring of a version lies in the picture, by rules 26 and 27 and ring.rs in `ring_transform`. Definitions only.
-- Assumes nothing.
use Rattle.std.specs.Prelude.{ℕ, cond, List, [], ◌∷◌, Float, Option, Some, None}
use Rattle.std.specs.Float.Ieee.{eq, neg}
use Rattle.ieee.specs.Constants.{0f}
use Rattle.transform.specs.Mapping.{from_quad, with_radial}
use Rattle.transform.specs.declared.Transform.{Transform}
use Rattle.hull.specs.declared.points.Quad.{Quad}
use Rattle.fit.specs.F32.{◌⊕◌, whole_float, 3f}
use Rattle.lens.specs.declared.straight.Lens.{Lens}

-- The corners of the ring's outer square in module space: from −3 to side + 3 in x and y.
unfoldable pub ring_numbers : ℕ → List Float
ring_numbers side =
    let lo = neg 3f in
    let hi = whole_float side ⊕ 3f in
    lo ∷ lo ∷ hi ∷ lo ∷ hi ∷ hi ∷ lo ∷ hi ∷ []

-- The corners of a quad, x and y alternating.
abbrev pub corner_numbers : Quad → List Float
corner_numbers q = q.a.x ∷ q.a.y ∷ q.b.x ∷ q.b.y ∷ q.c.x ∷ q.c.y ∷ q.d.x ∷ q.d.y ∷ []

-- A transform with a lens; a coefficient of 0 is none.
unfoldable pub lensed : Lens → Transform → Transform
lensed l t = cond (eq l.k 0f) t (with_radial t l.x l.y l.k)

-- The same of a transform or none.
unfoldable pub lensed_map : Lens → Option Transform → Option Transform
lensed_map l (Some t) = Some (lensed l t)
lensed_map l None = None

-- The transform that takes the outer square of a ring of this side onto a quad, bent by a lens; or none.
unfoldable pub transform_of : Quad → ℕ → Lens → Option Transform
transform_of q side l = lensed_map l (from_quad (ring_numbers side) (corner_numbers q))
