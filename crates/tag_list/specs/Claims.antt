-- Statements of theorems, and nothing else.
use Rattle.std.specs.Prelude.{◌≡◌, true, List, ℕ, ◌≤◌, ◌<◌, length}
use Rattle.laws.specs.Plane.{Plane}
use Rattle.regions.specs.Kept.{kept_count, kept_label}
use Rattle.boundary.specs.Boundary.{is_member}
use Rattle.tag_list.specs.Tags.{tags_of}

-- A picture has at most four tags, so that the answer has a place for each.
unfoldable pub AtMostFour : Type 0
AtMostFour = (gray : List ℕ) (w h most : ℕ) → length (tags_of gray w h most) ≤ 4

-- Two tags of kept regions are of ink that has no pixel in common: a pixel that is a member of both is of one region. That they are not
-- the same tag does not follow: two regions' outlines may read as one ring.
unfoldable pub NoInkShared : Type 0
NoInkShared =
    (p : Plane) (w h i j x y : ℕ) → i < kept_count p w h → j < kept_count p w h → is_member p w h (kept_label p w h i) x y ≡ true
    → is_member p w h (kept_label p w h j) x y ≡ true → i ≡ j
