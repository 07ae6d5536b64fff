-- The kept regions of a picture, by rules 14 and 15. Definitions only. Assumes nothing.
use Rattle.std.specs.Prelude.{cond, List, [], ◌∷◌, ℕ, ltb}
use Rattle.laws.specs.Move.{Box, box_at}
use Rattle.laws.specs.Plane.{Plane}
use Rattle.regions.specs.Boxes.{region_box}
use Rattle.labels.specs.Cells.{groups_of}
use Rattle.regions.specs.Kept.{kept_count, kept_label, kept_cells}
use Rattle.regions.specs.declared.answer.Kept.{Kept}
use Rattle.regions.specs.declared.answer.Region.{Region}

-- What stands in the places of the list past the regions.
abbrev pub no_region : Region
no_region = record { label = 0; cells = 0; x0 = 0; y0 = 0; x1 = 0; y1 = 0 }

-- A region's numbers, in the order in which texts and C functions have them.
abbrev pub region_fields : Region → List ℕ
region_fields r = r.label ∷ r.cells ∷ r.x0 ∷ r.y0 ∷ r.x1 ∷ r.y1 ∷ []

-- A region's box, by its numbers.
abbrev pub box_in : Region → Box
box_in r = box_at r.x0 r.y0 r.x1 r.y1

-- The i-th kept region of a picture p: its label, how many cells it has, and its box in pixels.
unfoldable pub region : Plane → ℕ → ℕ → ℕ → Region
region p w h i = record {
  label = kept_label p w h i;
  cells = kept_cells p w h i;
  x0 = (region_box p w h (kept_label p w h i)).x0;
  y0 = (region_box p w h (kept_label p w h i)).y0;
  x1 = (region_box p w h (kept_label p w h i)).x1;
  y1 = (region_box p w h (kept_label p w h i)).y1;
}

-- Place i of the list: the i-th region, where so many are kept.
unfoldable pub region_at : Plane → ℕ → ℕ → ℕ → Region
region_at p w h i = cond (ltb i (kept_count p w h)) (region p w h i) no_region

-- How many regions there are, how many are kept, and these, the first first.
unfoldable pub kept_regions : Plane → ℕ → ℕ → Kept
kept_regions p w h = record {
  all = groups_of p w h;
  kept = kept_count p w h;
  list = region_at p w h 0 ∷ region_at p w h 1 ∷ region_at p w h 2 ∷ region_at p w h 3 ∷ [];
}
