-- Member pixels read from grids of thresholds and labels that are those of the picture. Assumes nothing.
use mathlib.Core.Path.{◌≡◌}
use Prim.Native.Nat.{ℕ, ◌/◌, ◌<◌}
use native.Mathlib.Omega.{arith}
use Rattle.laws.specs.Plane.{Plane, Alike}
use Rattle.levels.specs.Level.{ink_of, cells, level}
use Rattle.labels.specs.Cells.{cells8, label_at}
use Rattle.boundary.specs.Boundary.{member_of, is_member}

-- `levels` and `labels` are what the door's lists hold, as planes.
pub member-lists : (p : Plane) (w h want : ℕ) (levels labels : Plane)
    → Alike (cells w) (cells h) levels (level p w h) → Alike (cells8 w) (cells8 h) labels (label_at p w h)
    → (x y : ℕ) → x < w → y < h → member_of want p levels labels x y ≡ is_member p w h want x y
unfolding is_member member_of ink_of
member-lists p w h want levels labels same_l same_b x y lx ly =
    rw (same_l (x / 16) (y / 16) (omega arith) (omega arith), same_b (x / 8) (y / 8) (omega arith) (omega arith))
