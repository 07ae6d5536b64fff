-- Cells of a pixel, and that a member pixel is one below its cell's cut. small_mul, place-lt, row_within; region-at, level-at; member-cut.
-- Assumes nothing.
use mathlib.Core.Path.{◌≡◌, refl, sym, ◌∙◌}
use mathlib.Core.Bool.{Bool, true, false, ◌&&◌, cond}
use mathlib.Core.List.{List}
use Prim.Native.Nat.{ℕ, ◌+◌, ◌*◌, ◌/◌, ◌≤◌, ◌<◌}
use native.Mathlib.Nat.{mul-le-mul, mul_comm, suc-mul, mul-le-mul_right}
use native.Mathlib.Omega.{arith}
use lib.Dec.{ltb}
use lib.ListN.{length, get_or}
use borrow.Author.Tests.{le-ltb}
use Rattle.laws.proofs.Planes.{place-lt}
use Rattle.laws.specs.Plane.{plane}
use Rattle.levels.specs.Level.{ink_of, cells}
use Rattle.labels.specs.Cells.{cells8}
use Rattle.boundary.specs.Boundary.{counts, member_of, member_at}
use Rattle.outline.specs.Inner.{cut_of, Grids}

pub small_mul : (a b : ℕ) → a ≤ 512 → b ≤ 512 → a * b ≤ 262144
small_mul a b h k = mul-le-mul {n₁ = a} {m₁ = b} {n₂ = 512} {m₂ = 512} h k

-- the end of row y of a grid of w by h
row-end : (y w h : ℕ) → y < h → y * w + w ≤ w * h
row-end y w h l = omega (arith, upto, mul_comm w h)
  where
    upto : y * w + w ≤ h * w
    upto = rw (← suc-mul y w) (mul-le-mul_right w l)

-- a part of a row lies in the picture
pub row_within : (x n y w h : ℕ) → x + n ≤ w → y < h → y * w + x + n ≤ w * h
row_within x n y w h lx ly = omega (arith, row-end y w h ly)

module _ (levels labels : List ℕ) (w h : ℕ) (g : Grids levels labels w h) (x y : ℕ) (lx : x < w) (ly : y < h) where
  pub region-at : y / 8 * cells8 w + x / 8 < length labels
  region-at = omega (arith, place-lt (x / 8) (y / 8) (cells8 w) (cells8 h) (omega arith) (omega arith), g.region_room)

  pub level-at : y / 8 / 2 * cells w + x / 8 / 2 < length levels
  level-at = omega (arith, place-lt (x / 8 / 2) (y / 8 / 2) (cells w) (cells h) (omega arith) (omega arith), g.level_room)

-- a member pixel is below its cell's cut
pub member-cut : (want w : ℕ) (s levels labels : List ℕ) (x y : ℕ)
    → member_at want w s levels labels x y ≡ ltb (get_or s (y * w + x) 0) (cut_of want w levels labels (x / 8) (y / 8))
unfolding member_at member_of ink_of cut_of
member-cut want w s levels labels x y =
    let ex : x / 16 ≡ x / 8 / 2 = omega arith in
    let ey : y / 16 ≡ y / 8 / 2 = omega arith in
    rw (ex, ey)
    (go (counts want (plane (cells8 w) labels (x / 8) (y / 8))) (get_or s (y * w + x) 0) (plane (cells w) levels (x / 8 / 2) (y / 8 / 2)))
  where
    and-true : (a : Bool) → (a && true) ≡ a
    and-true true = refl
    and-true false = refl

    and-false : (a : Bool) → (a && false) ≡ false
    and-false true = refl
    and-false false = refl

    go : (b : Bool) (p t : ℕ) → (ltb p t && b) ≡ ltb p (cond b t 0)
    go true p t = and-true (ltb p t)
    go false p t = and-false (ltb p t) ∙ sym (le-ltb p 0 (omega arith))
