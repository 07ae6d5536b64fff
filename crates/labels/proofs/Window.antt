-- The window of a cell `i` of a grid of `h` rows of `w` cells has the cells near it: row_within, window-around.
-- Assumes nothing.
use mathlib.Core.Bool.{true}
use mathlib.Core.List.Memᴰ
use mathlib.Core.List.{List, Memᴰ}
use mathlib.Core.Path.{◌∙◌, ◌≡◌, ap, subst}
use Prim.Native.Nat.{◌%◌, ◌*◌, ◌+◌, ◌-◌, ◌/◌, ◌<◌, ◌≤◌, min, ℕ}
use native.Mathlib.Nat.{div-add-mod', div-lt_iff_lt-mul, mod-lt, mul-le-mul_right, suc-mul}
use native.Mathlib.Omega.{arith}
use lib.Arith.{digits_div, digits_mod}
use Rattle.laws.specs.Lists.{range}
use Rattle.laws.proofs.Lists.{in-range, range-has}
use Rattle.laws.proofs.Joined.{joined-mem, joined-has}
use Rattle.labels.specs.Labelling.{window}
use Rattle.labels.proofs.FillLaws.{Around}
use Rattle.labels.proofs.Near.{close-both, close_of, near-both, near_of}
use Rattle.labels.specs.Labels.{near}

-- a row of the window lies within the grid
pub row_within : (g h w x : ℕ) → g < h → x ≤ w → g * w + x ≤ h * w
row_within g h w x p q = omega (arith, mul-le-mul_right w p, suc-mul g w)

-- ---- the cells of the window are the near ones
module _ (w h c : ℕ) (pos : 0 < w) where
  abbrev x₀ : ℕ
  x₀ = c % w - 3

  abbrev x₁ : ℕ
  x₁ = min (c % w + 4) w

  abbrev y₀ : ℕ
  y₀ = c / w - 3

  abbrev y₁ : ℕ
  y₁ = min (c / w + 4) h

  abbrev row : ℕ → List ℕ
  row g = range ((y₀ + g) * w + x₀) (x₁ - x₀)

  window-near : (j : ℕ) → Memᴰ j (window w h c) → near w c j ≡ true
  unfolding window
  window-near j t =
      let r = joined-mem (y₁ - y₀) row j t in
      let g = y₀ + r.0 in
      let b = in-range (g * w + x₀) (x₁ - x₀) j r.2 in
      let m = mod-lt c pos in
      let at : j ≡ g * w + (j - g * w) = omega (arith, b.0) in
      let small : j - g * w < w = omega (arith, b.0, b.1) in
      let column : j % w ≡ j - g * w = ap (λ (y : ℕ). y % w) at ∙ digits_mod g small in
      let line : j / w ≡ g = ap (λ (y : ℕ). y / w) at ∙ digits_div g small in
      near_of w c j (rw column (close_of _ _ (omega (arith, b)) (omega (arith, b))))
      (rw line (close_of _ _ (omega (arith, r.1)) (omega (arith, r.1))))

  window-all : (j : ℕ) → near w c j ≡ true → j < h * w → Memᴰ j (window w h c)
  unfolding window
  window-all j nr l =
      let q = near-both w c j nr in
      let columns = close-both _ _ q.0 in
      let rows = close-both _ _ q.1 in
      let whole = div-add-mod' j w in
      let small = mod-lt j pos in
      let below = (div-lt_iff_lt-mul pos).1 l in
      let e : j / w ≡ y₀ + (j / w - y₀) = omega arith in
      let z : j ≡ j / w * w + x₀ + (j - (j / w * w + x₀)) = omega arith in
      joined-has (y₁ - y₀) row j (j / w - y₀) (omega arith)
      (subst (λ (g : ℕ). Memᴰ j (range (g * w + x₀) (x₁ - x₀))) e
      (Memᴰ.cast z (range-has (j / w * w + x₀) (x₁ - x₀) (j - (j / w * w + x₀)) (omega arith))))

pub window-around : (w h : ℕ) → 0 < w → Around (near w) (h * w) (window w h)
window-around w h pos = record { near_by = λ c. window-near w h c pos; all = λ c. window-all w h c pos }
