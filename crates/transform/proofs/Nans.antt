-- A place with a NaN has a NaN for each coordinate of its pixel, whatever the transform. Assumes nothing.
--   mul-nan, add-nan                   operations on a NaN
--   applied-nan-l, applied-nan-r       the pixel of such a place
use Rattle.std.proofs.Common.{◌≡◌, Bool, true, false, cond, sym, refl, ap, ◌∙◌}
use lib.Ieee.{Float, nan, inf, fin, Format, binary64, add, sub, mul, div, eq}
use Rattle.ieee.specs.Narrow.{narrow}
use Rattle.transform.specs.Mapping.{zero, plane_place, bent, four_rounds, about_centre, through_lens, flat_place, rounded, applied, no_pixel}
use Rattle.transform.specs.declared.Transform.{Transform}
use Rattle.transform.specs.declared.Place.{Place}

mul-nan : (f : Format) (x : Float) → mul f x nan ≡ nan
unfolding mul
mul-nan f nan = refl
mul-nan f (inf s) = refl
mul-nan f (fin s m e) = refl

add-nan : (f : Format) (x : Float) → add f x nan ≡ nan
unfolding add
add-nan f nan = refl
add-nan f (inf s) = refl
add-nan f (fin s m e) = refl

-- a coordinate before the division
plane-l : (a b c v : Float) → plane_place a b c nan v ≡ nan
unfolding add
plane-l a b c v = ap (λ (z : Float). add binary64 (add binary64 z (mul binary64 b v)) c) (mul-nan binary64 a)

plane-r : (a b c u : Float) → plane_place a b c u nan ≡ nan
unfolding add
plane-r a b c u =
    ap (λ (z : Float). add binary64 (add binary64 (mul binary64 a u) z) c) (mul-nan binary64 b)
    ∙ ap (λ (z : Float). add binary64 z c) (add-nan binary64 (mul binary64 a u))

abbrev nowhere : Place
nowhere = record { x = nan; y = nan }

-- two NaNs by any divisor
both : (p q w : Float) → p ≡ nan → q ≡ nan → ◌≡◌ {A = Place} record { x = div binary64 p w; y = div binary64 q w } nowhere
unfolding div
both p q w e f =
    let at : Float → Float → Place = λ a b. record { x = div binary64 a w; y = div binary64 b w } in
    ap (λ (z : Float). at z q) e ∙ ap (at nan) f

flat-l : (t : Transform) (v : Float) → flat_place t nan v ≡ nowhere
unfolding flat_place
flat-l t v = both _ _ _ (plane-l t.m0 t.m1 t.m2 v) (plane-l t.m3 t.m4 t.m5 v)

flat-r : (t : Transform) (u : Float) → flat_place t u nan ≡ nowhere
unfolding flat_place
flat-r t u = both _ _ _ (plane-r t.m0 t.m1 t.m2 u) (plane-r t.m3 t.m4 t.m5 u)

centre-nan : (cx cy k : Float) → about_centre cx cy k nowhere ≡ nowhere
unfolding about_centre four_rounds bent sub add div
centre-nan cx cy k =
    let at : Float → Float → Place = λ a b. record { x = a; y = b } in
    ap (λ (z : Float). at z (add binary64 cy nan)) (add-nan binary64 cx) ∙ ap (at nan) (add-nan binary64 cy)

lens-nan : (cx cy k : Float) → through_lens cx cy k nowhere ≡ nowhere
unfolding through_lens
lens-nan cx cy k = go (eq k zero)
  where
    go : (b : Bool) → cond b nowhere (about_centre cx cy k nowhere) ≡ nowhere
    go true = refl
    go false = centre-nan cx cy k

narrow-none : rounded nowhere ≡ no_pixel
unfolding narrow
narrow-none = refl

pub applied-nan-l : (t : Transform) (v : Float) → no_pixel ≡ applied t nan v
unfolding applied
applied-nan-l t v =
    sym (ap (λ (p : Place). rounded (through_lens t.cx t.cy t.kappa p)) (flat-l t v)
    ∙ ap rounded (lens-nan t.cx t.cy t.kappa) ∙ narrow-none)

pub applied-nan-r : (t : Transform) (u : Float) → no_pixel ≡ applied t u nan
unfolding applied
applied-nan-r t u =
    sym (ap (λ (p : Place). rounded (through_lens t.cx t.cy t.kappa p)) (flat-r t u)
    ∙ ap rounded (lens-nan t.cx t.cy t.kappa) ∙ narrow-none)
