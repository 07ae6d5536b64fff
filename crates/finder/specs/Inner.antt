-- What the finder's inner functions keep. Definitions only. Assumes nothing.
use Rattle.std.specs.Prelude.{ℕ, ◌+◌, ◌≤◌, ◌≡◌, cond, List, ltb, Float, length, get_or}
use Rattle.laws.specs.Fold.{bit}
use Rattle.laws.specs.Lent.{UntouchedPast}
use Rattle.laws.specs.Plane.{plane}
use Rattle.regions.specs.Regions.{no_region, kept_regions}
use Rattle.regions.specs.declared.answer.Region.{Region}
use Rattle.regions.specs.declared.answer.Kept.{Kept}
use Rattle.region_outline.specs.Region.{need_of, Gridded}
use Rattle.search.specs.Samples.{Photo}
use Rattle.finder.specs.declared.refusals.Rooms.{Rooms}

-- All ink as a region: any label, and the whole picture's box.
unfoldable pub whole_region : ℕ → ℕ → Region
whole_region w h = record { label = 0; cells = 0; x0 = 0; y0 = 0; x1 = w; y1 = h }

-- The region of try i by the kept regions, and how many tries there are.
unfoldable pub region_by : Kept → ℕ → ℕ → ℕ → Region
region_by k i w h = cond (ltb i k.kept) (get_or k.list i no_region) (whole_region w h)

unfoldable pub tries_by : Kept → ℕ
tries_by k = k.kept + bit (ltb 1 k.all)

-- Four lists of numbers have n places or more.
pub record Roomy (n : ℕ) (a b c d : List Float) : Type 0 where
  pub first : n ≤ length a
  pub second : n ≤ length b
  pub third : n ≤ length c
  pub fourth : n ≤ length d

-- Four lists of which n places are needed keep their lengths and the places past them.
pub record Worked (n : ℕ) (a a' b b' c c' d d' : List Float) : Type 0 where
  pub first : UntouchedPast n a a'
  pub second : UntouchedPast n b b'
  pub third : UntouchedPast n c c'
  pub fourth : UntouchedPast n d d'

-- What an accepted call knows once the picture door has made the level grid, the labels and the regions: l has the lengths of the lists of
-- numbers.
pub record FinderReady (s : List ℕ) (w h most : ℕ) (levels labels : List ℕ) (k : Kept) (l : Rooms) : Type 0 where
  pub photo : Photo s w h
  pub grids : Gridded s w h levels labels
  pub kept : k ≡ kept_regions (plane w s) w h
  pub version : most ≤ 64
  pub room : (need_of w h ≤ l.points) × (need_of w h ≤ l.straight) × (need_of w h ≤ l.cand) × (need_of w h ≤ l.buf)
