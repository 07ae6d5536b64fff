-- The lines of rule 49, as one table over the rules' own definitions: a field a line, in its order, of every
-- picture, line and place that the line speaks of. Points of hulls and runs are in doubled coordinates. Statements, and the pictures that
-- they speak of.
use Rattle.std.specs.Prelude.{◌≡◌, Bool, true, false, ◌||◌, [], ◌∷◌, map, ℕ, suc, ◌+◌, ◌*◌, ◌-◌, ◌<◌, ◌≤◌, eqb, pos, negsuc, length}
use Rattle.laws.specs.Plane.{Plane}
use Rattle.threshold.specs.Threshold.{threshold}
use Rattle.levels.specs.Level.{dark, level}
use Rattle.levels.specs.Spots.{Spotted, RowOf14}
use Rattle.labels.specs.Cells.{cells8, ink_cell, label_at, groups_of, group_size}
use Rattle.regions.specs.Kept.{kept_count, kept_label, kept_cells}
use Rattle.boundary.specs.Runs.{edges, OneRun}
use Rattle.hull.specs.Hull.{hull_points}
use Rattle.hull.specs.Quad.{quad_points}
use Rattle.lcr_core.specs.Mark.{mark}
use Rattle.lcr_core.specs.Border.{outer_cell}
use Rattle.lcr_core.specs.declared.border.Cell.{Cell}

-- Of the region cells of a picture p of w by h, those in columns 0 and k of the first row are ink cells, and no others.
pub record OnlyInk (p : Plane) (w h k : ℕ) : Type 0 where
  pub wide : k < cells8 w
  pub cells : (c : ℕ) → ink_cell p w h c ≡ (eqb c 0 || eqb c k)

-- Of a picture p of w by h there are two groups of ink cells, a and b in either order: a has 15 cells and b has 16.
pub record TwoGroups (p : Plane) (w h a b : ℕ) : Type 0 where
  pub groups : groups_of p w h ≡ 2
  pub either : a + b ≡ 1
  pub fifteen : group_size p w h a ≡ 15
  pub sixteen : group_size p w h b ≡ 16

-- The table.
pub record Stars : Type 0 where
  -- Contrast 79 gives 0; light 87, dark 0 gives 69; light 255, dark 0 gives 204.
  pub contrast-79 : (dark light : ℕ) → light - dark ≡ 79 → threshold dark light ≡ 0
  pub light-87 : threshold 0 87 ≡ 69
  pub light-255 : threshold 0 255 ≡ 204
  -- Full level cell, rest at 255: 12 pixels of 0 give dark 248, 13 give 0.
  pub pixels-12 : (p : Plane) (w h cx cy : ℕ) → Spotted p w h cx cy 12 → dark p w h cx cy ≡ 248
  pub pixels-13 : (p : Plane) (w h cx cy : ℕ) → Spotted p w h cx cy 13 → dark p w h cx cy ≡ 0
  -- Row of 14 level cells, first with light 255 and dark 0, others flat 255: cells 0 to 11 get 204, cell 12 gets 0.
  pub cells-to-11 : (p : Plane) → RowOf14 p → (x : ℕ) → x ≤ 11 → level p 224 16 x 0 ≡ 204
  pub cell-12 : (p : Plane) → RowOf14 p → level p 224 16 12 0 ≡ 0
  -- Ink cells at columns 0 and 3 share a label; only 0 and 4: two labels.
  pub columns-0-3 : (p : Plane) (w h : ℕ) → OnlyInk p w h 3
      → (label_at p w h 0 0 ≡ 1) × (label_at p w h 3 0 ≡ 1) × (groups_of p w h ≡ 1)
  pub columns-0-4 : (p : Plane) (w h : ℕ) → OnlyInk p w h 4
      → (label_at p w h 0 0 ≡ 1) × (label_at p w h 4 0 ≡ 2) × (groups_of p w h ≡ 2)
  -- 15 cells are dropped, 16 kept.
  pub cells-15-16 : (p : Plane) (w h a b : ℕ) → TwoGroups p w h a b
      → (kept_count p w h ≡ 1) × (kept_label p w h 0 ≡ suc b) × (kept_cells p w h 0 ≡ 16)
  -- A run of 3 gives nothing, of 4 its ends: anywhere in a line of n pixels whose first is pixel s.
  pub run-3 : (n a s : ℕ) (t : ℕ → Bool) → OneRun n a 3 t → edges 4 n t s ≡ []
  pub run-4 : (n a s : ℕ) (t : ℕ → Bool) → OneRun n a 4 t → edges 4 n t s ≡ 2 * (s + a) ∷ 2 * (s + (a + 4)) ∷ []
  -- Hull of (0,0), (4,0), (4,4), (0,4), (2,0) is the first four, in that order; its quad too.
  pub hull-five : hull_points ((0, 0) ∷ (8, 0) ∷ (8, 8) ∷ (0, 8) ∷ (4, 0) ∷ []) ≡ (0, 0) ∷ (8, 0) ∷ (8, 8) ∷ (0, 8) ∷ []
  pub quad-five : quad_points ((0, 0) ∷ (8, 0) ∷ (8, 8) ∷ (0, 8) ∷ []) ≡ (0, 0) ∷ (8, 0) ∷ (8, 8) ∷ (0, 8) ∷ []
  -- Hulls: no points 0 vertices; (1,1) twice 1; (0,0), (1,0), (2,0) 2.
  pub hull-none : length (hull_points []) ≡ 0
  pub hull-twice : length (hull_points ((2, 2) ∷ (2, 2) ∷ [])) ≡ 1
  pub hull-line : length (hull_points ((0, 0) ∷ (2, 0) ∷ (4, 0) ∷ [])) ≡ 2
  -- Version 1: position 26 is cell (23,−3), 27 is (23,−2), 103 is (−3,−2).
  pub position-26 : ◌≡◌ {A = Cell} (outer_cell 1 26) (record { x = pos 23; y = negsuc 2 })
  pub position-27 : ◌≡◌ {A = Cell} (outer_cell 1 27) (record { x = pos 23; y = negsuc 1 })
  pub position-103 : ◌≡◌ {A = Cell} (outer_cell 1 103) (record { x = negsuc 2; y = negsuc 1 })
  -- Version 1, marks 0 to 7: 0 1 0 0 1 0 1 0.
  pub marks-0-7 : map (mark 1) (0 ∷ 1 ∷ 2 ∷ 3 ∷ 4 ∷ 5 ∷ 6 ∷ 7 ∷ [])
      ≡ false ∷ true ∷ false ∷ false ∷ true ∷ false ∷ true ∷ false ∷ []
