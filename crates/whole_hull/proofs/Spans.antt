-- The least and the greatest x of points.
--     spans_step                         one point more
--     inside_on, inside_back             there are points from left to right only, seen from either end
-- Assumes nothing.
use mathlib.Core.Path.{◌≡◌, ap, sym, ◌∙◌}
use mathlib.Core.Logic.{◌⊎◌, inl, inr}
use mathlib.Core.Bool.{true, false}
use mathlib.Core.List.{List}
use Prim.Native.Nat.{ℕ, ◌+◌, ◌-◌, ◌≤◌, ◌<◌}
use native.Mathlib.Omega.{arith}
use Rattle.laws.specs.Plane.{value_at}
use Rattle.laws.proofs.Bools.{at-or-below}
use Rattle.doubled.specs.Points.{x_at}
use Rattle.whole_hull.specs.Inner.{Tops, Spans, PlacesWithin}

pub spans_step : (p : List ℕ) (k x left right l r : ℕ) → x ≡ x_at p k → Spans p k left right → l ≤ left → right ≤ r → l ≤ x → x ≤ r
    → r ≤ 8192 → Spans p (k + 1) l r
spans_step p k x left right l r is s hl hr lx xr wide = record {
  order = omega arith;
  wide = wide;
  places = λ i n. go i (at-or-below i k (omega arith));
}
  where
    go : (i : ℕ) → (i ≡ k) ⊎ (i < k) → (l ≤ x_at p i) × (x_at p i ≤ r)
    go i (inl e) = let z : x_at p i ≡ x = ap (x_at p) e ∙ sym is in (omega arith, omega arith)
    go i (inr b) = let q = s.places i b in (omega arith, omega arith)

module _ {p : List ℕ} {k left right : ℕ} (s : Spans p k left right) {a : List ℕ} where
  pub inside_on : Tops false p k a → PlacesWithin (value_at a) left right
  inside_on t = record {
    order = s.order;
    wide = s.wide;
    places = λ w f. let r = t.is w f in let q = s.places r.0 r.1 in let e = r.2 in (omega arith, omega arith);
  }

  pub inside_back : Tops true p k a → PlacesWithin (value_at a) (8192 - right) (8192 - left)
  inside_back t = record {
    order = let o = s.order in omega arith;
    wide = omega arith;
    places = λ w f. let r = t.is w f in let q = s.places r.0 r.1 in let e = r.2 in (omega arith, omega arith);
  }
