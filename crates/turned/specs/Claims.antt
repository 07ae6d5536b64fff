-- Demand 3 as one claim, rules 39 and 40: over every picture, move, version and list of marks,
-- of the same definitions that the doors' contracts cite. Statements only. A `Move` is any number of quarter turns, with or without the
-- mirror first; points are in doubled coordinates, so that centres and edges of pixels are whole. How hull and quad are worked out, and the
-- greatest side, are parameters: f32 numbers up to 1,024, and whole numbers up to 4,096.
--
-- The conditions are needed. Equal counts are told apart by their labels, and a move renumbers labels. The picture of README's
-- example is its own mirror image and its quad is not: more than one pair of its hull's vertices is farthest apart.
use Rattle.std.specs.Prelude.{◌≡◌, ◌↔◌, true, List, ℕ, ◌*◌, ◌<◌}
use Rattle.laws.specs.Lists.{NoDup}
use Rattle.laws.specs.Plane.{Plane, plane}
use Rattle.laws.specs.Move.{Move, wide_of, high_of, place_of, box_of, moved_bytes}
use Rattle.whole.specs.Points.{Pt, Rot, Clockwise, Starts}
use Rattle.whole.specs.Quad.{Far, OneTop}
use Rattle.whole.specs.Moves.{often, moved_point, moved_round}
use Rattle.levels.specs.Level.{level, ink_at}
use Rattle.labels.specs.Cells.{cells8, cell, ink_cell, label_at, groups_of}
use Rattle.regions.specs.Kept.{kept_count, kept_label, kept_cells}
use Rattle.regions.specs.Boxes.{region_box}
use Rattle.hull.specs.Points.{pts_of}
use Rattle.boundary.specs.Boundary.{outline_of}
use Rattle.marks.specs.Claims.{PosesMoved}
use Rattle.turned.specs.Taken.{Taken, NoTies, Way, in_floats, in_wholes}

-- ---- a picture p of w by h, which are 16 × W and 16 × H, and the moved picture p' of w' by h'
module _ (m : Move) (W H : ℕ) (p p' : Plane) where
  abbrev pub w : ℕ
  w = 16 * W

  abbrev pub h : ℕ
  h = 16 * H

  abbrev pub w' : ℕ
  w' = wide_of m w h

  abbrev pub h' : ℕ
  h' = high_of m w h

  -- Where region cell (x, y) goes.
  abbrev pub cell_to : ℕ → ℕ → ℕ × ℕ
  cell_to x y = place_of m (cells8 w) (cells8 h) x y

  -- "The threshold at each moved level cell"
  unfoldable pub SameThresholds : Type 0
  SameThresholds = (x y : ℕ) → x < W → y < H
      → level p' w' h' (place_of m W H x y).0 (place_of m W H x y).1 ≡ level p w h x y

  -- "ink or not at each moved pixel"
  unfoldable pub SameInk : Type 0
  SameInk = (x y : ℕ) → x < w → y < h → ink_at p' w' h' (place_of m w h x y).0 (place_of m w h x y).1 ≡ ink_at p w h x y

  -- "A cell group is the ink cells that share a label; the groups are the moved groups": which cells are ink, and which two
  -- share a label
  unfoldable pub SameInkCells : Type 0
  SameInkCells = (x y : ℕ) → x < cells8 w → y < cells8 h
      → ink_cell p' w' h' (cell (cells8 w') (cell_to x y).0 (cell_to x y).1) ≡ ink_cell p w h (cell (cells8 w) x y)

  unfoldable pub SameGroups : Type 0
  SameGroups = (x y u v : ℕ) → x < cells8 w → y < cells8 h → u < cells8 w → v < cells8 h
      → ink_cell p w h (cell (cells8 w) x y) ≡ true → ink_cell p w h (cell (cells8 w) u v) ≡ true
      → (label_at p w h x y ≡ label_at p w h u v)
      ↔ (label_at p' w' h' (cell_to x y).0 (cell_to x y).1 ≡ label_at p' w' h' (cell_to u v).0 (cell_to u v).1)

  -- "the i-th has the moved group and the moved box of the first picture's i-th, and its count"
  unfoldable pub SameRegion : ℕ → Type 0
  SameRegion i =
      ((x y : ℕ) → x < cells8 w → y < cells8 h
      → (label_at p w h x y ≡ kept_label p w h i) ↔ (label_at p' w' h' (cell_to x y).0 (cell_to x y).1 ≡ kept_label p' w' h' i))
      × (region_box p' w' h' (kept_label p' w' h' i) ≡ box_of m w h (region_box p w h (kept_label p w h i)))
      × (kept_cells p' w' h' i ≡ kept_cells p w h i)

  -- The boundary points of the i-th kept region of each picture, with runs of 4 or more.
  abbrev pub points : ℕ → List (ℕ × ℕ)
  points i = outline_of 4 p w h (kept_label p w h i)

  abbrev pub points' : ℕ → List (ℕ × ℕ)
  points' i = outline_of 4 p' w' h' (kept_label p' w' h' i)

  -- "A point is among its boundary points as often as the point moved there was among those of the first picture's i-th"
  unfoldable pub SamePoints : ℕ → Type 0
  SamePoints i = (q : Pt) → often (moved_point m w h q) (pts_of (points' i)) ≡ often q (pts_of (points i))

  -- ---- with hulls and quads worked out in some way
  module _ (way : Way) where
    -- The hulls of these points, and their quads.
    abbrev pub hull : ℕ → List Pt
    hull i = pts_of (way.hull_of_points (points i))

    abbrev pub hull' : ℕ → List Pt
    hull' i = pts_of (way.hull_of_points (points' i))

    abbrev pub quad : ℕ → List Pt
    quad i = pts_of (way.quad_of_hull (way.hull_of_points (points i)))

    abbrev pub quad' : ℕ → List Pt
    quad' i = pts_of (way.quad_of_hull (way.hull_of_points (points' i)))

    -- "Its hull lists the moved vertices, each once, clockwise (x right, y down) from its own start"
    unfoldable pub SameHull : ℕ → Type 0
    SameHull i =
        Rot (moved_round m w h (hull i)) (hull' i) × NoDup (hull' i) × Clockwise (hull' i) × Starts (hull' i) (pts_of (points' i))

    -- "Where, besides, exactly one pair of a region's hull vertices is farthest apart, and at most one vertex lies farthest out on each
    -- side of it, its quad is none in both or has the same corners, moved alike, clockwise from some corner." None is the empty list,
    -- which is no other list turned round; corners are clockwise as a hull's vertices are.
    unfoldable pub SameQuad : ℕ → Type 0
    SameQuad i = (a b : Pt) → Far (hull i) a b → OneTop (hull i) a b → OneTop (hull i) b a
        → Rot (moved_round m w h (quad i)) (quad' i) × Clockwise (quad' i)

    pub record Moved : Type 0 where
      pub thresholds : SameThresholds
      pub ink : SameInk
      pub ink_cells : SameInkCells
      pub groups : SameGroups
      -- "the groups are the moved groups": there are no others
      pub many : groups_of p' w' h' ≡ groups_of p w h
      -- "As many regions are kept", and of each of them:
      pub kept : kept_count p' w' h' ≡ kept_count p w h
      pub regions : (i : ℕ) → i < kept_count p w h → SameRegion i
      pub boundary : (i : ℕ) → i < kept_count p w h → SamePoints i
      pub hulls : (i : ℕ) → i < kept_count p w h → SameHull i
      pub quads : (i : ℕ) → i < kept_count p w h → SameQuad i

-- Every picture taken with sides up to `most`, every move.
unfoldable pub PicturesMoved : ℕ → Way → Type 0
PicturesMoved most way =
    (W H : ℕ) (s : List ℕ) → Taken most W H s → NoTies (plane (16 * W) s) (16 * W) (16 * H) → (m : Move)
    → Moved m W H (plane (16 * W) s) (plane (wide_of m (16 * W) (16 * H)) (moved_bytes m (16 * W) (16 * H) s)) way

-- Demand 3. `PosesMoved` is stated where the eight counts are: for every version, list of as many marks, shift by whole quarters,
-- reversal, and any of these followed by another.
pub record Demand3 : Type 0 where
  pub pictures : PicturesMoved 1024 in_floats
  -- "What fitters were told about turned pictures now reaches 4,096 on this path, under the same conditions."
  pub large : PicturesMoved 4096 in_wholes
  pub poses : PosesMoved
