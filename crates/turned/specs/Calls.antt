-- Calls of the doors that demand 3 speaks of. A record of a call has as its fields the very equations of the door's contract, so that what
-- is said of every such record is said of every run of the code. Definitions only. Assumes nothing.
use Rattle.std.specs.Prelude.{◌≡◌, Bool, List, [], ℕ, ◌*◌, ◌≤◌, Float, length, get_or, take, Option, Result, Ok, Err}
use Rattle.refusal.specs.declared.Refusal.{Refusal}
use Rattle.refusal.specs.Numbers.{number_in, said, said_some}
use Rattle.regions.specs.Regions.{no_region, box_in}
use Rattle.picture.specs.Door.{picture_answer, levels_after, labels_after}
use Rattle.regions.specs.declared.answer.Kept.{Kept}
use Rattle.regions.specs.declared.answer.Region.{Region}
use Rattle.hull.specs.Door.{hulled, vertices_after}
use Rattle.hull.specs.Quad.{quad_floats, values_of}
use Rattle.hull.specs.declared.points.Quad.{Quad}
use Rattle.doubled.specs.Checks.{check_hull}
use Rattle.doubled.specs.Doubled.{check_doubled, doubled_after}
use Rattle.whole_hull.specs.Door.{hull_answer, hull_after}
use Rattle.whole_quad.specs.Door.{quad_answer}
use Rattle.whole_quad.specs.declared.corners.Quad.{Quad as WholeQuad}
use Rattle.outline.specs.Door.{number_for, door_points, outline_answer, outline_after}
use Rattle.marks.specs.Doors.{correlate_answer}
use Rattle.marks.specs.declared.correlate.Correlated.{Correlated}

-- ---- the picture door and the outline door

-- An accepted call of the picture door on a picture s of w by h: the lists as lent, the answer, two of the lists as left, and the regions
-- answered.
pub record Pictured (s : List ℕ) (w h : ℕ) : Type 0 where
  pub lent-grid : List ℕ
  pub lent-labels : List ℕ
  pub lent-stack : List ℕ
  pub answer : Result Kept Refusal
  pub grid : List ℕ
  pub labels : List ℕ
  pub answer-is : said answer ≡ picture_answer s w h (length lent-grid) (length lent-labels) (length lent-stack)
  pub grid-is : grid ≡ levels_after (number_in answer) s w h lent-grid
  pub labels-is : labels ≡ labels_after (number_in answer) s w h lent-labels
  pub regions : Kept
  pub accepted : answer ≡ Ok regions

-- The i-th region that was answered.
abbrev pub region_of : (s : List ℕ) (w h : ℕ) → Pictured s w h → ℕ → Region
region_of s w h c i = get_or c.regions.list i no_region

-- The checks of the outline door, and its points, for that region: handed the grids that the picture door left, the region's label and
-- box, and a list of so many places.
abbrev pub checked_for : (s : List ℕ) (w h : ℕ) → Pictured s w h → Region → ℕ → ℕ
checked_for s w h c r room = number_for s c.grid c.labels w h (box_in r) room

abbrev pub points_for : (s : List ℕ) (w h : ℕ) → Pictured s w h → Region → List (ℕ × ℕ)
points_for s w h c r = door_points r.label w s c.grid c.labels (box_in r)

-- An accepted call of the outline door for a region: the list as lent, the answer, and the list as left.
pub record Outlined (s : List ℕ) (w h : ℕ) (c : Pictured s w h) (r : Region) : Type 0 where
  pub lent : List Float
  pub answer : Result ℕ Refusal
  pub list : List Float
  pub answer-is : said answer ≡ outline_answer s c.grid c.labels r.label w h (box_in r) (length lent)
  pub list-is : list ≡ outline_after s c.grid c.labels r.label w h (box_in r) lent
  pub accepted : checked_for s w h c r (length lent) ≡ 0

-- The numbers that the outline door listed: two for each point answered.
abbrev pub numbers_listed : Result ℕ Refusal → List Float → List Float
numbers_listed (Ok n) l = take (2 * n) l
numbers_listed (Err r) l = []

-- ---- hull and quad, by f32 numbers

-- An accepted call of `convex_hull` on the numbers l: the list as lent, the answer, and the list as left.
pub record HullCall (l : List Float) : Type 0 where
  pub lent : List Float
  pub answer : Result ℕ Refusal
  pub list : List Float
  pub answer-is : said answer ≡ hulled l (length lent)
  pub list-is : list ≡ vertices_after (said answer) l lent
  pub accepted : length l ≤ length lent

-- How many vertices it answered, and the numbers of those that it listed.
abbrev pub count_of : Result ℕ Refusal → ℕ
count_of (Ok n) = n
count_of (Err r) = 0

abbrev pub vertices_of : (l : List Float) → HullCall l → List Float
vertices_of l k = take (2 * count_of k.answer) k.list

-- A call of `quad` on the numbers l.
pub record QuadCall (l : List Float) : Type 0 where
  pub answer : Option Quad
  pub answer-is : values_of answer ≡ quad_floats l

-- ---- hull and quad, by whole numbers

-- An accepted call of `doubled` on the numbers l: the list as lent, the answer, and the list as left.
pub record DoubledCall (l : List Float) : Type 0 where
  pub lent : List ℕ
  pub answer : Result (Unit {0}) Refusal
  pub list : List ℕ
  pub answer-is : number_in answer ≡ check_doubled l (length lent)
  pub list-is : list ≡ doubled_after (number_in answer) l lent
  pub accepted : number_in answer ≡ 0

-- The numbers that it stored: as many as it was handed.
abbrev pub stored_by : (l : List Float) → DoubledCall l → List ℕ
stored_by l d = take (length l) d.list

-- An accepted call of whole_hull's `convex_hull` on the numbers p: the list as lent, the answer, and the list as left.
pub record WholeHullCall (p : List ℕ) : Type 0 where
  pub lent : List ℕ
  pub answer : Result ℕ Refusal
  pub list : List ℕ
  pub answer-is : said answer ≡ hull_answer p (length lent)
  pub list-is : list ≡ hull_after (said answer) p lent
  pub accepted : check_hull p (length lent) ≡ 0

-- The numbers of the vertices that it listed.
abbrev pub whole_vertices : (p : List ℕ) → WholeHullCall p → List ℕ
whole_vertices p k = take (2 * count_of k.answer) k.list

-- A call of whole_quad's `quad` on the numbers p.
pub record WholeQuadCall (p : List ℕ) : Type 0 where
  pub answer : Result (Option WholeQuad) Refusal
  pub answer-is : said_some answer ≡ quad_answer p

-- ---- marks

-- A call of `correlate` on marks of a version.
pub record CorrelateCall (v : ℕ) (marks : List Bool) : Type 0 where
  pub answer : Result Correlated Refusal
  pub answer-is : said answer ≡ correlate_answer v marks

-- The eight counts that it answered.
abbrev pub counts_in : Result Correlated Refusal → List ℕ
counts_in (Ok a) = a.counts
counts_in (Err r) = []
