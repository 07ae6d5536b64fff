-- The regions of the tries: kept-four, tries-is, region-boxed, region-tried. Four lists: worked-none, worked_then, roomy-then. photo-sides
-- of a picture.
--     a picture: photo-sides
--     four lists: worked-none, worked_then, worked-one, roomy-then
--     the tries by the kept regions: tries-two, tries-one, by-list, by_all, kept-is, kept-four, all-groups, tries-is, region-tried,
--     region-boxed
-- Assumes nothing.
use mathlib.Core.Path.{◌≡◌, refl, sym, ap, ◌∙◌, subst}
use mathlib.Core.Bool.{Bool, cond}
use mathlib.Core.List.{List}
use Prim.Native.Nat.{ℕ, ◌+◌, ◌≤◌, ◌<◌}
use native.Mathlib.Omega.{arith}
use lib.Dec.{ltb}
use lib.ListN.{length, get_or}
use lib.Ieee.{Float}
use borrow.Author.Tests.{lt-ltb, le-ltb}
use Rattle.laws.specs.Move.{box_at}
use Rattle.laws.specs.Fold.{bit}
use Rattle.laws.specs.Plane.{Plane}
use Rattle.laws.specs.Lent.{UntouchedPast}
use Rattle.laws.proofs.Past.{past-none, past-then, past_more}
use Rattle.picture_checks.specs.Picture.{Sides}
use Rattle.labels.specs.Cells.{groups_of}
use Rattle.regions.specs.Kept.{kept_count, kept_label}
use Rattle.regions.specs.Regions.{no_region, region, kept_regions}
use Rattle.regions.specs.declared.answer.Region.{Region}
use Rattle.regions.specs.declared.answer.Kept.{Kept}
use Rattle.boundary.specs.Boundary.{is_member, boundary, outline_of}
use Rattle.region_outline.specs.Region.{region_points, Boxed}
use Rattle.region_outline.proofs.Points.{count-four, listed, kept-boxed}
use Rattle.search.specs.Samples.{Photo}
use Rattle.finder.specs.Find.{tries_of, try_points}
use Rattle.finder.specs.Inner.{whole_region, region_by, tries_by, Roomy, Worked}

-- ---- a picture
pub photo-sides : (s : List ℕ) (w h : ℕ) → Photo s w h → Sides w h (length s)
photo-sides s w h t =
    record { w-low = t.wide.0; w-high = t.wide.1; h-low = t.high.0; h-high = t.high.1; count = t.bytes }

-- ---- four lists
pub worked-none : (n : ℕ) (a b c d : List Float) → Worked n a a b b c c d d
worked-none n a b c d = record { first = past-none n a; second = past-none n b; third = past-none n c; fourth = past-none n d }

pub worked_then : {n : ℕ} {a a' a'' b b' b'' c c' c'' d d' d'' : List Float} → Worked n a a' b b' c c' d d' → Worked n a' a'' b' b'' c' c'' d' d''
    → Worked n a a'' b b'' c c'' d d''
worked_then p q = record {
  first = past-then p.first q.first;
  second = past-then p.second q.second;
  third = past-then p.third q.third;
  fourth = past-then p.fourth q.fourth;
}

-- by a call that needs fewer places of the last three
pub worked-one : (n : ℕ) {m : ℕ} {a a' b b' c c' d d' : List Float} → m ≤ n → UntouchedPast n a a' → UntouchedPast m b b'
    → UntouchedPast m c c' → UntouchedPast m d d' → Worked n a a' b b' c c' d d'
worked-one n l p q r s = record { first = p; second = past_more n l q; third = past_more n l r; fourth = past_more n l s }

pub roomy-then : {n : ℕ} {a a' b b' c c' d d' : List Float} → Roomy n a b c d → Worked n a a' b b' c c' d d' → Roomy n a' b' c' d'
roomy-then r p = record {
  first = omega (arith, r.first, p.first.same);
  second = omega (arith, r.second, p.second.same);
  third = omega (arith, r.third, p.third.same);
  fourth = omega (arith, r.fourth, p.fourth.same);
}

-- ---- the tries by the kept regions
pub tries-two : (k : Kept) → 1 < k.all → k.kept + 1 ≡ tries_by k
unfolding tries_by
tries-two k l = sym (ap (λ (b : Bool). k.kept + bit b) (lt-ltb 1 k.all l))

pub tries-one : (k : Kept) → k.all ≤ 1 → k.kept ≡ tries_by k
unfolding tries_by
tries-one k l =
    let z : k.kept ≡ k.kept + 0 = omega arith in z ∙ sym (ap (λ (b : Bool). k.kept + bit b) (le-ltb 1 k.all l))

module _ (k : Kept) (i w h : ℕ) where
  pub by-list : i < k.kept → get_or k.list i no_region ≡ region_by k i w h
  unfolding region_by
  by-list l = sym (ap (λ (b : Bool). cond b (get_or k.list i no_region) (whole_region w h)) (lt-ltb i k.kept l))

  pub by_all : k.kept ≤ i → record { label = 0; cells = 0; x0 = 0; y0 = 0; x1 = w; y1 = h } ≡ region_by k i w h
  unfolding region_by whole_region
  by_all l = sym (ap (λ (b : Bool). cond b (get_or k.list i no_region) (whole_region w h)) (le-ltb i k.kept l))

module _ (p : Plane) (w h : ℕ) (k : Kept) (e : k ≡ kept_regions p w h) where
  pub kept-is : k.kept ≡ kept_count p w h
  kept-is = ap (λ (z : Kept). z.kept) e ∙ unfold kept_regions in refl

  all-is : k.all ≡ groups_of p w h
  all-is = ap (λ (z : Kept). z.all) e ∙ unfold kept_regions in refl

  pub kept-four : k.kept ≤ 4
  kept-four = omega (arith, kept-is, count-four p w h)

  pub all-groups : k.all ≡ groups_of p w h
  all-groups = all-is

  pub tries-is : (n : ℕ) → n ≡ tries_by k → n ≡ tries_of p w h
  unfolding tries_by tries_of
  tries-is n en =
      en ∙ ap (λ (m : ℕ). m + bit (ltb 1 k.all)) kept-is ∙ ap (λ (m : ℕ). kept_count p w h + bit (ltb 1 m)) all-is

  nth-is : (i : ℕ) → i < kept_count p w h → get_or k.list i no_region ≡ region p w h i
  nth-is i l = ap (λ (z : Kept). get_or z.list i no_region) e ∙ listed p w h i l

  -- the region of a try, by whether it is kept
  by-kept : (i : ℕ) → i < kept_count p w h → region_by k i w h ≡ region p w h i
  unfolding region_by
  by-kept i l =
      ap (λ (b : Bool). cond b (get_or k.list i no_region) (whole_region w h)) (ap (ltb i) kept-is ∙ lt-ltb i (kept_count p w h) l)
      ∙ nth-is i l

  by_whole : (i : ℕ) → kept_count p w h ≤ i → region_by k i w h ≡ whole_region w h
  unfolding region_by
  by_whole i l =
      ap (λ (b : Bool). cond b (get_or k.list i no_region) (whole_region w h)) (ap (ltb i) kept-is ∙ le-ltb i (kept_count p w h) l)

  kept-points : (i : ℕ) → region_points p w h (region p w h i) ≡ outline_of 4 p w h (kept_label p w h i)
  unfolding region outline_of
  kept-points i = refl

  whole-points : region_points p w h (whole_region w h) ≡ boundary 4 (is_member p w h 0) (box_at 0 0 w h)
  unfolding whole_region
  whole-points = refl

  try-kept : (i : ℕ) → i < kept_count p w h → outline_of 4 p w h (kept_label p w h i) ≡ try_points p w h i
  unfolding try_points
  try-kept i l = rw (lt-ltb i (kept_count p w h) l)

  try-whole : (i : ℕ) → kept_count p w h ≤ i → boundary 4 (is_member p w h 0) (box_at 0 0 w h) ≡ try_points p w h i
  unfolding try_points
  try-whole i l = rw (le-ltb i (kept_count p w h) l)

  pub region-tried : (i : ℕ) (r : Region) → r ≡ region_by k i w h → region_points p w h r ≡ try_points p w h i
  region-tried i r er = go (native.Mathlib.Decide.dec_lt i (kept_count p w h))
    where
      go : Dec (i < kept_count p w h) → region_points p w h r ≡ try_points p w h i
      go (yes l) = ap (region_points p w h) (er ∙ by-kept i l) ∙ kept-points i ∙ try-kept i l
      go (no l) = ap (region_points p w h) (er ∙ by_whole i (omega arith)) ∙ whole-points ∙ try-whole i (omega arith)

  whole_in : 0 < w → 0 < h → Boxed w h (whole_region w h)
  unfolding whole_region
  whole_in a b = record { across = a; down = b; right = omega arith; bottom = omega arith }

  pub region-boxed : (i : ℕ) (r : Region) → r ≡ region_by k i w h → 1 ≤ w → 1 ≤ h → Boxed w h r
  region-boxed i r er a b = go (native.Mathlib.Decide.dec_lt i (kept_count p w h))
    where
      go : Dec (i < kept_count p w h) → Boxed w h r
      go (yes l) = subst (λ (z : Region). Boxed w h z) (sym (er ∙ by-kept i l)) (kept-boxed p w h i (omega arith) l)
      go (no l) = subst (λ (z : Region). Boxed w h z) (sym (er ∙ by_whole i (omega arith))) (whole_in (omega arith) (omega arith))
