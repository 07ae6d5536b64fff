-- Which pictures the program takes. Definitions only. Assumes nothing.
use Rattle.std.specs.Prelude.{◌≡◌, ℕ, ◌*◌, ◌≤◌}

-- Sides w and h of 1 to 2,048, and so many bytes.
pub record TagsPicture (w h bytes : ℕ) : Type 0 where
  pub some_wide : 1 ≤ w
  pub wide : w ≤ 2048
  pub some_high : 1 ≤ h
  pub high : h ≤ 2048
  pub count : bytes ≡ w * h
