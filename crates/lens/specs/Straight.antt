-- Points straightened by a lens, as ring.rs has it in `undistort` for rules 21 to 25. Definitions only. Assumes
-- nothing.
use Rattle.std.specs.Prelude.{Bool, true, List, Float}
use Rattle.fit.specs.F32.{◌⊕◌, ◌⊖◌, ◌⊗◌}
use Rattle.ieee.specs.Constants.{1f}
use Rattle.fit.specs.Select.{Rule, points_by}
use Rattle.lens.specs.declared.straight.Lens.{Lens}

-- The factor 1 + k·d² of a point at the distance d from the lens's centre.
abbrev pub stretch : Lens → Float → Float → Float
stretch l x y = 1f ⊕ l.k ⊗ ((x ⊖ l.x) ⊗ (x ⊖ l.x) ⊕ (y ⊖ l.y) ⊗ (y ⊖ l.y))

-- Where a camera without the lens would have put the point.
abbrev pub straight_x : Lens → Float → Float → Float
straight_x l x y = l.x ⊕ (x ⊖ l.x) ⊗ stretch l x y

abbrev pub straight_y : Lens → Float → Float → Float
straight_y l x y = l.y ⊕ (y ⊖ l.y) ⊗ stretch l x y

-- Every point is kept, straightened.
abbrev pub every_point : Float → Float → Bool
every_point x y = true

abbrev pub straight_rule : Lens → Rule
straight_rule l = record { keep = every_point; first = straight_x l; second = straight_y l }

-- A list's points, straightened. A coefficient that is a NaN makes every number a NaN.
abbrev pub straight_of : Lens → List Float → List Float
straight_of l s = points_by (straight_rule l) s
