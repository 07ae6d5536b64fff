-- What a line is, pixel by pixel: the theorems of specs/Claims.antt.
--     sides-pass, line-is, line_stays           a line in a picture, and in other lists
--     dot-here, dot-keeps, dot-other            a pixel after one dot: at its place, coloured before, elsewhere
--     dots-on, dots-off                         after some points: of a pixel that is one of them, and of one that is none
--     lines-drawn, no_gaps                      the claims
-- Assumes nothing.
use mathlib.Core.Path.{◌≡◌, refl, sym, ap, ◌∙◌}
use mathlib.Core.Logic.{◌⊎◌, inl, inr}
use mathlib.Core.Bool.{Bool, true, false, ◌&&◌, cond}
use mathlib.Core.List.{List}
use Prim.Native.Nat.{ℕ, zero, suc, ◌+◌, ◌-◌, ◌*◌, ◌/◌, ◌%◌, ◌≤◌, ◌<◌}
use native.Mathlib.Decide.{ℕ_discrete}
use native.Mathlib.Omega.{arith}
use lib.Dec.{eqb}
use lib.ListN.{length, get_or, set}
use lib.Seq.{get_or-set_same, get_or-set_other}
use borrow.Author.Tests.{eq-eqb, ne_eqb}
use Rattle.picture_checks.proofs.Sides.{side-is}
use Rattle.laws.specs.Check.{or_refuse}
use Rattle.laws.specs.Plane.{plane}
use Rattle.laws.proofs.Bools.{which, at-or-below}
use Rattle.laws.proofs.Planes.{place-lt, place-col, place-row}
use Rattle.picture_checks.specs.Picture.{is_side, check_picture, Sides}
use Rattle.drawing.specs.Lines.{steps_of, line_point, on_side, dot_on, dots_on, line_on}
use Rattle.drawing.specs.Claims.{IsPoint, IsPixel, Beyond, Drawn, LinesDrawn, NoGaps}
use Rattle.drawing.specs.declared.Spot.{Spot}
use Rattle.drawing.proofs.Points.{between_first, between-last, between-low, between-high, between_next, steps-some, steps_apart}
use Rattle.drawing.proofs.Dotted.{In, in-picture, in-set, dot-in, dot-out, dots-length}

-- ---- a line in a picture
pub sides-pass : {w h bytes : ℕ} → Sides w h bytes → check_picture w h bytes 0 ≡ 0
sides-pass {w} {h} {bytes} p =
    ap (λ (t : Bool). or_refuse t 1 (or_refuse (is_side h) 1 (or_refuse (eqb bytes (w * h)) 2 0))) (side-is w p.w-low p.w-high)
    ∙ ap (λ (t : Bool). or_refuse t 1 (or_refuse (eqb bytes (w * h)) 2 0)) (side-is h p.h-low p.h-high)
    ∙ ap (λ (t : Bool). or_refuse t 2 0) (eq-eqb bytes (w * h) p.count)

module _ (w h : ℕ) (a b : Spot) (colour : ℕ) (s : List ℕ) (n : ℕ) (e : n ≡ check_picture w h (length s) 0) where
  by : (t : Bool) → eqb (check_picture w h (length s) 0) 0 ≡ t
      → cond t (dots_on w h a b colour (steps_of a b + 1) s) s ≡ line_on w h a b colour s
  unfolding line_on
  by t q = ap (λ (u : Bool). cond u (dots_on w h a b colour (steps_of a b + 1) s) s) (sym q)

  pub line-is : n ≡ 0 → dots_on w h a b colour (steps_of a b + 1) s ≡ line_on w h a b colour s
  line-is z = by true (eq-eqb (check_picture w h (length s) 0) 0 (sym e ∙ z))

  pub line_stays : (n ≡ 0 → ⊥) → s ≡ line_on w h a b colour s
  line_stays ne = by false (ne_eqb (check_picture w h (length s) 0) 0 (λ z. ne (e ∙ z)))

-- ---- a pixel after one dot
module _ (w h x y colour : ℕ) (s : List ℕ) (c r : ℕ) (across : c < w) (down : r < h) where
  pub dot-here : Sides w h (length s) → x ≡ 32768 + c → y ≡ 32768 + r → plane w (dot_on w h x y colour s) c r ≡ colour
  dot-here p e f =
      let i : In w h x y = record { x-from = omega arith; x-under = omega arith; y-from = omega arith; y-under = omega arith } in
      let cx : x - 32768 ≡ c = omega arith in
      let ry : y - 32768 ≡ r = omega arith in
      ap (λ (l : List ℕ). get_or l (r * w + c) 0) (sym (dot-in w h x y colour s (in-set w h x y i)))
      ∙ ap (λ (j : ℕ). get_or (set s (j * w + (x - 32768)) colour) (r * w + c) 0) ry
      ∙ ap (λ (j : ℕ). get_or (set s (r * w + j) colour) (r * w + c) 0) cx
      ∙ get_or-set_same s (r * w + c) colour 0 (omega (arith, place-lt c r w h across down, p.count))

  pub dot-keeps : Sides w h (length s) → plane w s c r ≡ colour → plane w (dot_on w h x y colour s) c r ≡ colour
  dot-keeps p old = go (which (on_side w x && on_side h y))
    where
      stored : (at : ℕ) → Dec (r * w + c ≡ at) → get_or (set s at colour) (r * w + c) 0 ≡ colour
      stored at (yes e) =
          ap (λ (j : ℕ). get_or (set s j colour) (r * w + c) 0) (sym e)
          ∙ get_or-set_same s (r * w + c) colour 0 (omega (arith, place-lt c r w h across down, p.count))
      stored at (no ne) = get_or-set_other s at (r * w + c) colour 0 ne ∙ old

      go : ((on_side w x && on_side h y) ≡ true) ⊎ ((on_side w x && on_side h y) ≡ false) → plane w (dot_on w h x y colour s) c r ≡ colour
      go (inl t) =
          ap (λ (l : List ℕ). get_or l (r * w + c) 0) (sym (dot-in w h x y colour s t))
          ∙ stored ((y - 32768) * w + (x - 32768)) (ℕ_discrete (r * w + c) ((y - 32768) * w + (x - 32768)))
      go (inr t) = ap (λ (l : List ℕ). get_or l (r * w + c) 0) (sym (dot-out w h x y colour s t)) ∙ old

  pub dot-other : (x ≡ 32768 + c → y ≡ 32768 + r → ⊥) → plane w (dot_on w h x y colour s) c r ≡ plane w s c r
  dot-other none = go (which (on_side w x && on_side h y))
    where
      apart_from : In w h x y → r * w + c ≡ (y - 32768) * w + (x - 32768) → ⊥
      apart_from i e =
          let cx : c ≡ x - 32768 =
          sym (place-col c r w across) ∙ ap (λ (j : ℕ). j % w) e ∙ place-col (x - 32768) (y - 32768) w i.x-under in
          let ry : r ≡ y - 32768 =
          sym (place-row c r w across) ∙ ap (λ (j : ℕ). j / w) e ∙ place-row (x - 32768) (y - 32768) w i.x-under in
          none (omega (arith, i.x-from)) (omega (arith, i.y-from))

      go : ((on_side w x && on_side h y) ≡ true) ⊎ ((on_side w x && on_side h y) ≡ false)
          → plane w (dot_on w h x y colour s) c r ≡ plane w s c r
      go (inl t) =
          ap (λ (l : List ℕ). get_or l (r * w + c) 0) (sym (dot-in w h x y colour s t))
          ∙ get_or-set_other s ((y - 32768) * w + (x - 32768)) (r * w + c) colour 0 (apart_from (in-picture w h x y t))
      go (inr t) = ap (λ (l : List ℕ). get_or l (r * w + c) 0) (sym (dot-out w h x y colour s t))

-- ---- a pixel after some points
module _ (w h : ℕ) (a b : Spot) (colour : ℕ) (s : List ℕ) (c r : ℕ) (across : c < w) (down : r < h) where
  abbrev x-at : ℕ → ℕ
  x-at k = line_point a.x b.x (steps_of a b) k

  abbrev y-at : ℕ → ℕ
  y-at k = line_point a.y b.y (steps_of a b) k

  pub dots-on : Sides w h (length s) → (m k : ℕ) → k < m → x-at k ≡ 32768 + c → y-at k ≡ 32768 + r
      → plane w (dots_on w h a b colour m s) c r ≡ colour
  unfolding dots_on
  dots-on p zero k early e f = absurd (omega arith)
  dots-on p (suc m) k early e f = go (λ l. dots-on p m k l e f) (at-or-below k m early)
    where
      long : Sides w h (length (dots_on w h a b colour m s))
      long = rw (dots-length w h a b colour s m) p

      go : (k < m → plane w (dots_on w h a b colour m s) c r ≡ colour) → (k ≡ m) ⊎ (k < m)
          → plane w (dot_on w h (x-at m) (y-at m) colour (dots_on w h a b colour m s)) c r ≡ colour
      go before (inl z) =
          dot-here w h (x-at m) (y-at m) colour (dots_on w h a b colour m s) c r across down long (ap x-at (sym z) ∙ e) (ap y-at (sym z) ∙ f)
      go before (inr l) = dot-keeps w h (x-at m) (y-at m) colour (dots_on w h a b colour m s) c r across down long (before l)

  pub dots-off : (m : ℕ) → ((k : ℕ) → k < m → x-at k ≡ 32768 + c → y-at k ≡ 32768 + r → ⊥)
      → plane w (dots_on w h a b colour m s) c r ≡ plane w s c r
  unfolding dots_on
  dots-off zero none = refl
  dots-off (suc m) none =
      dot-other w h (x-at m) (y-at m) colour (dots_on w h a b colour m s) c r across down (none m (omega arith))
      ∙ dots-off m (λ k l. none k (omega arith))

-- ---- the claims
module _ (w h : ℕ) (a b : Spot) (colour : ℕ) (s : List ℕ) (p : Sides w h (length s)) where
  all : dots_on w h a b colour (steps_of a b + 1) s ≡ line_on w h a b colour s
  all = line-is w h a b colour s 0 (sym (sides-pass p)) refl

  on : (k c r : ℕ) → c < w → r < h → IsPoint a b k c r → plane w (line_on w h a b colour s) c r ≡ colour
  on k c r across down i =
      ap (λ (l : List ℕ). plane w l c r) (sym all)
      ∙ dots-on w h a b colour s c r across down p (steps_of a b + 1) k (omega (arith, i.early)) i.column i.row

  off : (c r : ℕ) → c < w → r < h → ((k : ℕ) → IsPoint a b k c r → ⊥) → plane w (line_on w h a b colour s) c r ≡ plane w s c r
  off c r across down none =
      ap (λ (l : List ℕ). plane w l c r) (sym all)
      ∙ dots-off w h a b colour s c r across down (steps_of a b + 1)
      (λ k early e f. none k (record { early = omega arith; column = e; row = f }))

  begins : (c r : ℕ) → c < w → r < h → IsPixel a c r → plane w (line_on w h a b colour s) c r ≡ colour
  begins c r across down i =
      on 0 c r across down
      (record {
        early = omega arith;
        column = between_first a.x b.x (steps_of a b) (steps-some a b) ∙ i.column;
        row = between_first a.y b.y (steps_of a b) (steps-some a b) ∙ i.row;
      })

  ends : (c r : ℕ) → c < w → r < h → IsPixel b c r → plane w (line_on w h a b colour s) c r ≡ colour
  ends c r across down i =
      on (steps_of a b) c r across down
      (record {
        early = omega arith;
        column = between-last a.x b.x (steps_of a b) (steps-some a b) ∙ i.column;
        row = between-last a.y b.y (steps_of a b) (steps-some a b) ∙ i.row;
      })

  within : (u t n k z : ℕ) → 1 ≤ n → k ≤ n → line_point u t n k ≡ z → Beyond u t z → ⊥
  within u t n k z some early e (inl l) = omega (arith, between-low u t n some k early)
  within u t n k z some early e (inr l) = omega (arith, between-high u t n some k early)

  beside : (c r : ℕ) → c < w → r < h → Beyond a.x b.x (32768 + c) ⊎ Beyond a.y b.y (32768 + r)
      → plane w (line_on w h a b colour s) c r ≡ plane w s c r
  beside c r across down (inl l) =
      off c r across down (λ k i. within a.x b.x (steps_of a b) k (32768 + c) (steps-some a b) i.early i.column l)
  beside c r across down (inr l) =
      off c r across down (λ k i. within a.y b.y (steps_of a b) k (32768 + r) (steps-some a b) i.early i.row l)

  drawn : Drawn w h a b colour s
  drawn = record {
    on = on;
    off = off;
    begins = begins;
    ends = ends;
    beside = beside;
    same = ap length (sym all) ∙ dots-length w h a b colour s (steps_of a b + 1);
  }

pub lines-drawn : LinesDrawn
unfolding LinesDrawn
lines-drawn w h a b colour s p = drawn w h a b colour s p

pub no_gaps : NoGaps
unfolding NoGaps
no_gaps a b k early =
    let n = steps_of a b in (
      between_next a.x b.x n (steps-some a b) k early (steps_apart a b).0,
      between_next a.y b.y n (steps-some a b) k early (steps_apart a b).1,
    )
