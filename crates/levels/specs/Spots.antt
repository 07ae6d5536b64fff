-- The level cells that rule 49's lines speak of. Definitions only. Assumes nothing.
use Rattle.std.specs.Prelude.{◌⊎◌, ◌≡◌, ℕ, ◌+◌, ◌*◌, ◌<◌, ◌≤◌, eqb}
use Rattle.laws.specs.Fold.{bit}
use Rattle.laws.specs.Plane.{Plane, box}
use Rattle.levels.specs.Level.{dark, light}

-- Level cell (cx, cy) of a picture p of w by h is full, each of its pixels is 0 or 255, and so many of them are 0.
pub record Spotted (p : Plane) (w h cx cy zeros : ℕ) : Type 0 where
  pub wide : 16 * cx + 16 ≤ w
  pub high : 16 * cy + 16 ≤ h
  pub ends : (i j : ℕ) → i < 16 → j < 16 → (p (16 * cx + i) (16 * cy + j) ≡ 0) ⊎ (p (16 * cx + i) (16 * cy + j) ≡ 255)
  pub many : box ◌+◌ 0 (λ x y. bit (eqb (p x y) 0)) (16 * cx) (16 * cy) 16 16 ≡ zeros

-- A picture of a row of 14 level cells, 224 by 16 pixels: the first with light 255 and dark 0, the others flat 255.
pub record RowOf14 (p : Plane) : Type 0 where
  pub first-light : light p 224 16 0 0 ≡ 255
  pub first-dark : dark p 224 16 0 0 ≡ 0
  pub flat : (x y : ℕ) → 16 ≤ x → x < 224 → y < 16 → p x y ≡ 255
