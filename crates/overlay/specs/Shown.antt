-- What the overlay's inner functions are handed. Definitions only. Assumes nothing.
use Rattle.std.specs.Prelude.{List, ℕ, ◌*◌, ◌≤◌, length}

-- A picture of w by h, and a colour number for each of its pixels.
pub record Shown (w h : ℕ) (gray plane : List ℕ) : Type 0 where
  pub wide : w ≤ 1024
  pub pixels : w * h ≤ length gray
  pub numbers : w * h ≤ length plane
