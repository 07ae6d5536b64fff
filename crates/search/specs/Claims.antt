-- What holds of samples and of the search over versions. Statements only.
use Rattle.std.specs.Prelude.{◌≡◌, ℕ, ◌≤◌, true, false, ◌||◌, List, is_nan}
use Rattle.std.specs.Float.Ieee.{lt, le}
use Rattle.ieee.specs.Constants.{0f}
use Rattle.fit.specs.F32.{whole_float}
use Rattle.transform.specs.declared.Pixel.{Pixel}
use Rattle.search.specs.Samples.{outside, add_sample}
use Rattle.search.specs.Versions.{search_of}
use Rattle.search.specs.declared.samples.Sum.{Sum}
use Rattle.search.specs.declared.versions.Goal.{Goal}

-- The search has ended, for every picture and goal: its 65 steps are enough for versions 1 to 64.
unfoldable pub SearchEnds : Type 0
SearchEnds = (gray : List ℕ) (w h : ℕ) (g : Goal) → g.most ≤ 64 → (search_of gray w h g).ended ≡ true

-- A sample with a NaN coordinate is skipped. Any other is outside where a coordinate is below 0, or at or past a side.
pub record NanSkipped : Type 0 where
  pub skipped : (gray : List ℕ) (w h : ℕ) (s : Sum) (p : Pixel) → (is_nan p.x || is_nan p.y) ≡ true → add_sample gray w h s p ≡ s
  pub others : (w h : ℕ) (p : Pixel) → w ≤ 4096 → h ≤ 4096 → is_nan p.x ≡ false → is_nan p.y ≡ false
      → outside w h p ≡ (lt p.x 0f || (lt p.y 0f || (le (whole_float w) p.x || le (whole_float h) p.y)))
