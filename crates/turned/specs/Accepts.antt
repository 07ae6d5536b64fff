-- The calls that `DoorsMoved` speaks of are there: a moved picture is taken again, and the doors accept a picture taken where the lent
-- lists have a place for each cell, and four numbers for each row and column of a region's box. Statements only.
use Rattle.std.specs.Prelude.{◌≡◌, List, ℕ, ◌+◌, ◌-◌, ◌*◌, ◌<◌, ◌≤◌, Float, length}
use Rattle.laws.specs.Move.{Move, wide_of, high_of, moved_bytes}
use Rattle.levels.specs.Level.{cells}
use Rattle.labels.specs.Cells.{cells_of}
use Rattle.picture.specs.Door.{check_grids}
use Rattle.turned.specs.Taken.{Taken}
use Rattle.doubled.specs.Checks.{check_hull, check_quad}
use Rattle.doubled.specs.Doubled.{check_doubled}
use Rattle.turned.specs.Calls.{Pictured, region_of, checked_for, Outlined, numbers_listed, DoubledCall, stored_by, WholeHullCall, whole_vertices}

-- The doors by whole numbers accept the numbers l, where lent lists have as many places.
pub record WholeAccepted (l : List Float) : Type 0 where
  pub doubled : (room : ℕ) → length l ≤ room → check_doubled l room ≡ 0
  pub hull : (d : DoubledCall l) (room : ℕ) → length l ≤ room → check_hull (stored_by l d) room ≡ 0
  pub quad : (d : DoubledCall l) (k : WholeHullCall (stored_by l d)) → check_quad (whole_vertices (stored_by l d) k) ≡ 0

pub record DoorsAccept : Type 0 where
  -- The moved picture is taken, with the moved sides: these are 16 times those of the level cells.
  pub moved : (most W H : ℕ) (s : List ℕ) → Taken most W H s → (m : Move)
      → (wide_of m (16 * W) (16 * H) ≡ 16 * wide_of m W H) × (high_of m (16 * W) (16 * H) ≡ 16 * high_of m W H)
      × Taken most (wide_of m W H) (high_of m W H) (moved_bytes m (16 * W) (16 * H) s)
  -- What is taken up to a side is taken up to a greater one.
  pub wider : (most more W H : ℕ) (s : List ℕ) → most ≤ more → Taken most W H s → Taken more W H s
  -- No check of the picture door refuses a picture taken.
  pub picture : (W H : ℕ) (s : List ℕ) → Taken 4096 W H s → (grid labels stack : ℕ)
      → cells (16 * W) * cells (16 * H) ≤ grid → cells_of (16 * W) (16 * H) ≤ labels → cells_of (16 * W) (16 * H) ≤ stack
      → check_grids (16 * W) (16 * H) (length s) grid labels stack ≡ 0
  -- Nor does one of the outline door, for a region that was answered.
  pub outline : (W H : ℕ) (s : List ℕ) → Taken 4096 W H s → (c : Pictured s (16 * W) (16 * H)) (i room : ℕ)
      → i < c.regions.kept
      → 4 * ((region_of s (16 * W) (16 * H) c i).x1 - (region_of s (16 * W) (16 * H) c i).x0
      + ((region_of s (16 * W) (16 * H) c i).y1 - (region_of s (16 * W) (16 * H) c i).y0)) ≤ room
      → checked_for s (16 * W) (16 * H) c (region_of s (16 * W) (16 * H) c i) room ≡ 0
  -- Nor, of the numbers that it then listed, one of `doubled`, of whole_hull's `convex_hull` on the numbers that this stored, where the lent
  -- lists have as many places, or of whole_quad's `quad` on the vertices that are listed then.
  pub whole : (W H : ℕ) (s : List ℕ) → Taken 4096 W H s → (c : Pictured s (16 * W) (16 * H)) (i : ℕ)
      → i < c.regions.kept → (o : Outlined s (16 * W) (16 * H) c (region_of s (16 * W) (16 * H) c i))
      → WholeAccepted (numbers_listed o.answer o.list)
