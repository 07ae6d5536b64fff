-- The hull's vertices in a working list, and the quad of their numbers. Assumes nothing.
--   hull-few               a hull has at most as many vertices as there are points
--   hull-long              its numbers are twice as many as its vertices
--   hull-part, hull-past   the beginning of the list that the hull was put into, and its rest
--   quad-values            a quad is the quad of its numbers
use Rattle.std.proofs.Common.{◌≡◌, ℕ, ◌*◌, ◌≤◌, List, length, take, drop, sym, refl, ap, ◌∙◌, arith, take_at}
use Rattle.std.specs.Prelude.{Option, Some, None}
use Rattle.hull.specs.declared.points.Quad.{Quad}
use lib.Ieee.{Float}
use Rattle.laws.specs.Lists.{range}
use Rattle.hull.proofs.Walks.{points-long, walk-few}
use Rattle.whole.specs.Walk.{hull_with, lowest_with}
use Rattle.hull.specs.Points.{many}
use Rattle.hull.specs.Hull.{hull_tests, hull_of, hull_floats}
use Rattle.hull.specs.Quad.{values_of, quad_floats}
use Rattle.laws.proofs.Past.{past-front}
use Rattle.laws.specs.Lent.{UntouchedPast, laid}
use Rattle.lens.specs.Estimate.{quad_from, hull_quad}

-- ---- how many vertices
pub hull-few : (p : List Float) → length (hull_of p (many p)) ≤ many p
unfolding hull_of hull_with
hull-few p = walk-few (hull_tests p) (many p) (lowest_with (hull_tests p) 0 (range 0 (many p))) (many p) (lowest_with (hull_tests p) 0 (range 0 (many p)))

pub hull-long : (p : List Float) → length (hull_floats p) ≡ 2 * length (hull_of p (many p))
hull-long p = points-long p (hull_of p (many p))

-- ---- the list that the hull was put into
module _ (p old new : List Float) (h : ℕ) (eh : h ≡ length (hull_of p (many p))) (en : new ≡ laid (hull_floats p) old) where
  long : length (hull_floats p) ≡ 2 * h
  long = let z = hull-long p in omega arith

  pub hull-part : take (2 * h) new ≡ hull_floats p
  hull-part = ap (take (2 * h)) en ∙ take_at (hull_floats p) (drop (length (hull_floats p)) old) (2 * h) long

  pub hull-past : length p ≤ length old → UntouchedPast (length p) old new
  hull-past room =
      let few = hull-few p in
      let z = long in
      past-front (length p) (length (hull_floats p)) (hull_floats p) old (omega arith) (omega arith) refl en

-- ---- the quad
pub quad-values : (r : Option Quad) → quad_from (values_of r) ≡ r
unfolding values_of
quad-values (Some q) = refl
quad-values None = refl

pub quad-by : (p part : List Float) (r : Option Quad) → part ≡ hull_floats p → values_of r ≡ quad_floats part → r ≡ hull_quad p
quad-by p part r e h = sym (quad-values r) ∙ ap quad_from (h ∙ ap quad_floats e)
