-- The doors carry demand 3: what they answer and leave in lent memory, for a picture and for the moved picture, and for marks and the moved
-- marks, is moved alike. It is said of every accepted call, so it speaks of every run of the code. Statements only.
use Rattle.std.specs.Prelude.{◌≡◌, ◌↔◌, Bool, cond, List, ℕ, ◌+◌, ◌*◌, ◌<◌, Float, length, get_or}
use Rattle.regions.specs.Regions.{box_in}
use Rattle.laws.specs.Plane.{plane}
use Rattle.laws.specs.Move.{Move, wide_of, high_of, place_of, box_of, moved_bytes}
use Rattle.levels.specs.Level.{cells, ink_of}
use Rattle.labels.specs.Cells.{cells8}
use Rattle.regions.specs.declared.answer.Region.{Region}
use Rattle.lcr_core.specs.Version.{IsVersion, positions_of}
use Rattle.marks.specs.Pose.{MarkMove, MarksMoved, corner_to, reversed_to}
use Rattle.turned.specs.Taken.{Taken, NoTies}
use Rattle.turned.specs.Outlines.{ByFloats, ByWholes}
use Rattle.turned.specs.Calls.{Pictured, region_of, Outlined, numbers_listed, CorrelateCall, counts_in}

-- ---- pictures

-- A picture s of w by h, which are 16 × W and 16 × H, with a call c, and a picture s' of w' by h' with a call c'.
module _ (m : Move) (W H : ℕ) (s : List ℕ) (c : Pictured s (16 * W) (16 * H)) (s' : List ℕ)
    (c' : Pictured s' (wide_of m (16 * W) (16 * H)) (high_of m (16 * W) (16 * H))) where
  abbrev pub w : ℕ
  w = 16 * W

  abbrev pub h : ℕ
  h = 16 * H

  abbrev pub w' : ℕ
  w' = wide_of m w h

  abbrev pub h' : ℕ
  h' = high_of m w h

  -- The labels that the picture door left: at cell (x, y), and at the cell where it goes.
  abbrev pub labelled : ℕ → ℕ → ℕ
  labelled x y = plane (cells8 w) c.labels x y

  abbrev pub labelled' : ℕ → ℕ → ℕ
  labelled' x y = plane (cells8 w') c'.labels (place_of m (cells8 w) (cells8 h) x y).0 (place_of m (cells8 w) (cells8 h) x y).1

  -- Two regions answered: the moved cells by the labels left, the moved box, the same count.
  pub record RegionsAlike (r r' : Region) : Type 0 where
    pub group : (x y : ℕ) → x < cells8 w → y < cells8 h → (labelled x y ≡ r.label) ↔ (labelled' x y ≡ r'.label)
    pub box : box_in r' ≡ box_of m w h (box_in r)
    pub count : r'.cells ≡ r.cells

  -- All that the picture door left and answered; and, for each region answered, `alike` of the numbers that the outline door lists.
  pub record DoorsAlike (alike : List Float → List Float → Type 0) : Type 0 where
    pub thresholds : (x y : ℕ) → x < W → y < H
        → plane (cells w') c'.grid (place_of m W H x y).0 (place_of m W H x y).1 ≡ plane (cells w) c.grid x y
    pub ink : (x y : ℕ) → x < w → y < h
        → ink_of (plane w' s') (plane (cells w') c'.grid) (place_of m w h x y).0 (place_of m w h x y).1
        ≡ ink_of (plane w s) (plane (cells w) c.grid) x y
    pub unlabelled : (x y : ℕ) → x < cells8 w → y < cells8 h → (labelled x y ≡ 0) ↔ (labelled' x y ≡ 0)
    pub groups : (x y u v : ℕ) → x < cells8 w → y < cells8 h → u < cells8 w → v < cells8 h → 0 < labelled x y → 0 < labelled u v
        → (labelled x y ≡ labelled u v) ↔ (labelled' x y ≡ labelled' u v)
    pub all : c'.regions.all ≡ c.regions.all
    pub kept : c'.regions.kept ≡ c.regions.kept
    pub regions : (i : ℕ) → i < c.regions.kept → RegionsAlike (region_of s w h c i) (region_of s' w' h' c' i)
    pub outlines : (i : ℕ) → i < c.regions.kept
        → (o : Outlined s w h c (region_of s w h c i)) (o' : Outlined s' w' h' c' (region_of s' w' h' c' i))
        → alike (numbers_listed o.answer o.list) (numbers_listed o'.answer o'.list)

-- Every picture taken with sides up to `most`, every move, every accepted call on either picture.
unfoldable pub PictureDoorsMoved : ℕ → (Move → ℕ → ℕ → List Float → List Float → Type 0) → Type 0
PictureDoorsMoved most alike =
    (W H : ℕ) (s : List ℕ) → Taken most W H s → NoTies (plane (16 * W) s) (16 * W) (16 * H) → (m : Move)
    → (c : Pictured s (16 * W) (16 * H))
    → (c' : Pictured (moved_bytes m (16 * W) (16 * H) s) (wide_of m (16 * W) (16 * H)) (high_of m (16 * W) (16 * H)))
    → DoorsAlike m W H s c (moved_bytes m (16 * W) (16 * H) s) c' (alike m (16 * W) (16 * H))

-- ---- marks

-- The count of a pose among the eight: corners 0 to 3 forward, then reversed.
abbrev pub count_at : List ℕ → ℕ → Bool → ℕ
count_at counts r reversed = get_or counts (cond reversed (4 + r) r) 0

-- Every version, every list of as many marks, every move of marks: the counts answered are the same at the poses so moved.
unfoldable pub MarkDoorMoved : Type 0
MarkDoorMoved = (v : ℕ) → IsVersion v → (g : MarkMove) (old new : List Bool) → length old ≡ positions_of v → MarksMoved v g old new
    → (c : CorrelateCall v old) (c' : CorrelateCall v new) (r : ℕ) (reversed : Bool) → r < 4
    → count_at (counts_in c'.answer) (corner_to g r) (reversed_to g reversed) ≡ count_at (counts_in c.answer) r reversed

pub record DoorsMoved : Type 0 where
  pub pictures : PictureDoorsMoved 1024 ByFloats
  pub large : PictureDoorsMoved 4096 ByWholes
  pub marks : MarkDoorMoved
