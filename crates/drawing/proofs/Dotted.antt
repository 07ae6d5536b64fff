-- Dots in a plane, one by one.
--     In, in-picture, in-set         a spot in the picture: what the test tells, and back
--     passed, failed                 what the test's answer tells
--     dot-in, dot-out                one dot, in the picture and outside
--     place-fits                     its place does not wrap, and is within
--     dots-none, dots-more, dots-length, dot-length
--     Dotting, dotting-begin, dotting-turn, dotting-end, dotting-sides, dotting-length   the loop over a line's points
-- Assumes nothing.
use mathlib.Core.Path.{◌≡◌, refl, sym, ap, ◌∙◌}
use mathlib.Core.Bool.{Bool, true, false, ◌&&◌, cond}
use mathlib.Core.List.{List}
use Prim.Native.Nat.{ℕ, zero, suc, ◌+◌, ◌-◌, ◌*◌, ◌≤◌, ◌<◌}
use native.Mathlib.Nat.{mul-le-mul}
use native.Mathlib.Numerals.{add-one}
use native.Mathlib.Omega.{arith}
use lib.Dec.{leb, ltb}
use lib.ListN.{length, set, length-set}
use borrow.Author.Tests.{ltb-true, leb-true, lt-ltb, le-leb}
use Rattle.laws.proofs.Bools.{both, and_left, and_right}
use Rattle.laws.proofs.Planes.{place-lt}
use Rattle.picture_checks.specs.Picture.{Sides}
use Rattle.drawing.specs.Lines.{steps_of, line_point, on_side, dot_on, dots_on}
use Rattle.drawing.specs.declared.Spot.{Spot}

-- A spot in the picture.
pub record In (w h x y : ℕ) : Type 0 where
  pub x-from : 32768 ≤ x
  pub x-under : x - 32768 < w
  pub y-from : 32768 ≤ y
  pub y-under : y - 32768 < h

pub in-picture : (w h x y : ℕ) → (on_side w x && on_side h y) ≡ true → In w h x y
in-picture w h x y e =
    let p = and_left (on_side w x) (on_side h y) e in
    let q = and_right (on_side w x) (on_side h y) e in
    record {
      x-from = leb-true 32768 x (and_left (leb 32768 x) (ltb (x - 32768) w) p);
      x-under = ltb-true (x - 32768) w (and_right (leb 32768 x) (ltb (x - 32768) w) p);
      y-from = leb-true 32768 y (and_left (leb 32768 y) (ltb (y - 32768) h) q);
      y-under = ltb-true (y - 32768) h (and_right (leb 32768 y) (ltb (y - 32768) h) q);
    }

pub in-set : (w h x y : ℕ) → In w h x y → (on_side w x && on_side h y) ≡ true
in-set w h x y i =
    both (on_side w x) (on_side h y)
    (both (leb 32768 x) (ltb (x - 32768) w) (le-leb 32768 x i.x-from) (lt-ltb (x - 32768) w i.x-under))
    (both (leb 32768 y) (ltb (y - 32768) h) (le-leb 32768 y i.y-from) (lt-ltb (y - 32768) h i.y-under))

-- what a test's answer tells of the test
pub passed : {p t : Bool} → t ≡ p → t ≡ true → p ≡ true
passed e told = sym e ∙ told

pub failed : {p t : Bool} → t ≡ p → t ≡ false → p ≡ false
failed e told = sym e ∙ told

-- ---- one dot
module _ (w h x y colour : ℕ) (s : List ℕ) where
  pub dot-in : (on_side w x && on_side h y) ≡ true → set s ((y - 32768) * w + (x - 32768)) colour ≡ dot_on w h x y colour s
  unfolding dot_on
  dot-in e = ap (λ (t : Bool). cond t (set s ((y - 32768) * w + (x - 32768)) colour) s) (sym e)

  pub dot-out : (on_side w x && on_side h y) ≡ false → s ≡ dot_on w h x y colour s
  unfolding dot_on
  dot-out e = ap (λ (t : Bool). cond t (set s ((y - 32768) * w + (x - 32768)) colour) s) (sym e)

  pub dot-length : length (dot_on w h x y colour s) ≡ length s
  unfolding dot_on
  dot-length = go (on_side w x && on_side h y)
    where
      go : (t : Bool) → length (cond t (set s ((y - 32768) * w + (x - 32768)) colour) s) ≡ length s
      go true = length-set s ((y - 32768) * w + (x - 32768)) colour
      go false = refl

-- a place in a picture is within its bytes
pub place-fits : {w h x y bytes : ℕ} → Sides w h bytes → In w h x y → (y - 32768) * w + (x - 32768) < bytes
place-fits {w} {h} {x} {y} p i = omega (arith, place-lt (x - 32768) (y - 32768) w h i.x-under i.y-under, p.count)

-- and few
pub bytes-few : {w h bytes : ℕ} → Sides w h bytes → bytes ≤ 16777216
bytes-few {w} {h} p = omega (arith, p.count, mul-le-mul p.w-high p.h-high)

-- ---- the dots of a line
module _ (w h : ℕ) (a b : Spot) (colour : ℕ) (s : List ℕ) where
  pub dots-none : s ≡ dots_on w h a b colour 0 s
  unfolding dots_on
  dots-none = refl

  pub dots-more : (k : ℕ)
      → dot_on w h (line_point a.x b.x (steps_of a b) k) (line_point a.y b.y (steps_of a b) k) colour (dots_on w h a b colour k s)
      ≡ dots_on w h a b colour (k + 1) s
  unfolding dots_on
  dots-more k = ap (λ (m : ℕ). dots_on w h a b colour m s) (sym (add-one k))

  pub dots-length : (k : ℕ) → length (dots_on w h a b colour k s) ≡ length s
  unfolding dots_on
  dots-length zero = refl
  dots-length (suc k) = dot-length w h _ _ colour (dots_on w h a b colour k s) ∙ dots-length k

-- ---- the loop
-- From s₀ to s the first k points are drawn, and no more points than there are.
pub record Dotting (w h : ℕ) (a b : Spot) (colour : ℕ) (s₀ s : List ℕ) (k : ℕ) : Type 0 where
  pub list : s ≡ dots_on w h a b colour k s₀
  pub early : k ≤ steps_of a b + 1

pub dotting-begin : (w h : ℕ) (a b : Spot) (colour : ℕ) (s : List ℕ) → Dotting w h a b colour s s 0
dotting-begin w h a b colour s = record { list = dots-none w h a b colour s; early = omega arith }

module _ {w h : ℕ} {a b : Spot} {colour : ℕ} {s₀ s : List ℕ} {k : ℕ} (d : Dotting w h a b colour s₀ s k) where
  pub dotting-sides : Sides w h (length s₀) → Sides w h (length s)
  dotting-sides p = rw (d.list, dots-length w h a b colour s₀ k) p

  pub dotting-length : length s ≡ length s₀
  dotting-length = ap length d.list ∙ dots-length w h a b colour s₀ k

  pub dotting-turn : (n x y : ℕ) (t : List ℕ) → n ≡ steps_of a b → k ≤ n → x ≡ line_point a.x b.x n k → y ≡ line_point a.y b.y n k
      → t ≡ dot_on w h x y colour s → Dotting w h a b colour s₀ t (k + 1)
  dotting-turn n x y t e more p q r = record {
    list =
        r ∙ ap (dot_on w h x y colour) d.list
        ∙ ap (λ (i : ℕ). dot_on w h i y colour (dots_on w h a b colour k s₀)) (p ∙ ap (λ (m : ℕ). line_point a.x b.x m k) e)
        ∙ ap (λ (i : ℕ). dot_on w h (line_point a.x b.x (steps_of a b) k) i colour (dots_on w h a b colour k s₀))
        (q ∙ ap (λ (m : ℕ). line_point a.y b.y m k) e)
        ∙ dots-more w h a b colour s₀ k;
    early = omega arith;
  }

  pub dotting-end : (n : ℕ) → n ≡ steps_of a b → n < k → s ≡ dots_on w h a b colour (steps_of a b + 1) s₀
  dotting-end n e past =
      let z : k ≡ steps_of a b + 1 = omega (arith, d.early) in d.list ∙ ap (λ (m : ℕ). dots_on w h a b colour m s₀) z
