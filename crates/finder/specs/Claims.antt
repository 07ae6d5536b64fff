-- Statements of theorems, and nothing else.
use Rattle.std.specs.Prelude.{◌≡◌, true, false, List, ℕ, ◌≤◌, ◌<◌, length}
use Rattle.laws.specs.Plane.{plane}
use Rattle.picture_checks.specs.Picture.{Sides}
use Rattle.lcr_core.specs.Version.{is_version}
use Rattle.hull.specs.Points.{floats_of}
use Rattle.ring.specs.Checks.{check_ring}
use Rattle.ring.specs.Trace.{is_fixed}
use Rattle.ring.specs.declared.quads.Trace.{Trace}
use Rattle.region_outline.specs.Region.{need_of}
use Rattle.finder.specs.Find.{try_points, best_trace}

-- The ring door refuses no try: the points of every try of a picture are at most 16,384, in pairs, and within ±32,768, and three working
-- lists of 4 × (width + height) numbers have room for them.
unfoldable pub TriesTaken : Type 0
TriesTaken =
    (gray : List ℕ) (w h i a b c most : ℕ) → Sides w h (length gray) → need_of w h ≤ a → need_of w h ≤ b → need_of w h ≤ c
    → is_version most ≡ true
    → check_ring w h (length gray) (floats_of (try_points (plane w gray) w h i)) a b c most ≡ 0

-- The first trace with a fix stands, whatever comes after it.
unfoldable pub FirstFixStands : Type 0
FirstFixStands =
    (f : ℕ → Trace) (n i : ℕ) → i < n → is_fixed (f i).fix ≡ true → ((j : ℕ) → j < i → is_fixed (f j).fix ≡ false) → best_trace f n ≡ f i
