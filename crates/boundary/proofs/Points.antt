-- The boundary points of the kept regions of a moved picture. Assumes nothing.
use mathlib.Core.Path.{◌≡◌, sym, ap, ap₂, ◌∙◌}
use mathlib.Core.Logic.{⊎_elim}
use mathlib.Core.Bool.{Bool, ◌&&◌, ◌||◌, not}
use Prim.Native.Nat.{ℕ, suc, ◌*◌, ◌/◌, ◌<◌}
use native.Mathlib.Omega.{arith}
use lib.Dec.{eqb}
use borrow.Author.Tests.{eq-eqb, ne_eqb, eqb-true}
use Rattle.laws.specs.Plane.{Plane, Alike}
use Rattle.laws.specs.Move.{Move, wide_of, high_of, moved, place_of, Box}
use Rattle.laws.proofs.Bools.{both, and_right, either, or_right, bool-ext}
use Rattle.laws.proofs.Moves.{place-div}
use Rattle.whole.specs.Points.{Pt}
use Rattle.levels.specs.Level.{ink_of, ink_at}
use Rattle.levels.proofs.Ink.{ink-of}
use Rattle.labels.specs.Cells.{cells8, label_at, groups_of, group_size}
use Rattle.regions.specs.Kept.{kept_count, kept_label, kept_at}
use Rattle.regions.specs.Boxes.{region_box}
use Rattle.regions.proofs.Kept.{Untied}
use Rattle.regions.proofs.Regions.{region-of, region-cell, region-in, box_of_lem}
use Rattle.boundary.specs.Boundary.{member_of, is_member, boundary, outline_of}
use Rattle.hull.specs.Points.{pts_of}
use Rattle.whole.specs.Moves.{often, moved_point}
use Rattle.boundary.proofs.Boundary.{Within, boundary-move}

-- with one label wanted, a member's label is that one
only : (L k : ℕ) → (not (eqb L 0) && (eqb (suc k) 0 || eqb L (suc k))) ≡ eqb L (suc k)
only L k =
    bool-ext (not (eqb L 0) && (eqb (suc k) 0 || eqb L (suc k))) (eqb L (suc k))
    (λ e. ⊎_elim (λ z. absurd (no (suc k) (eqb-true (suc k) 0 z))) (λ z. z)
    (either (eqb (suc k) 0) (eqb L (suc k)) (and_right (not (eqb L 0)) (eqb (suc k) 0 || eqb L (suc k)) e)))
    (λ e. both (not (eqb L 0)) (eqb (suc k) 0 || eqb L (suc k)) (ap not (ne_eqb L 0 (λ z. omega (arith, eqb-true L (suc k) e))))
    (or_right (eqb (suc k) 0) (eqb L (suc k)) e))
  where
    no : (n : ℕ) → suc k ≡ 0 → ⊥
    no n e = omega arith

module _ (m : Move) (W H : ℕ) (pos_w : 0 < W) (pos_h : 0 < H) (p p' : Plane)
    (same : Alike (wide_of m (16 * W) (16 * H)) (high_of m (16 * W) (16 * H)) p' (moved m (16 * W) (16 * H) p))
    (untied : Untied (group_size p (16 * W) (16 * H)) (groups_of p (16 * W) (16 * H))) (i : ℕ) (l : i < kept_count p (16 * W) (16 * H)) where
  abbrev w : ℕ
  w = 16 * W

  abbrev h : ℕ
  h = 16 * H

  abbrev w' : ℕ
  w' = wide_of m w h

  abbrev h' : ℕ
  h' = high_of m w h

  member_of_lem : (x y : ℕ) → x < w → y < h
      → is_member p' w' h' (kept_label p' w' h' i) (place_of m w h x y).0 (place_of m w h x y).1 ≡ is_member p w h (kept_label p w h i) x y
  unfolding is_member member_of ink_of ink_at kept_label
  member_of_lem x y lx ly =
      let a = cells8 w in
      let b = cells8 h in
      let P = place_of m w h x y in
      let e : w ≡ 8 * a = omega arith in
      let f : h ≡ 8 * b = omega arith in
      let d = place-div m 8 a b x y (omega arith) (omega arith) (omega arith) in
      let dx : P.0 / 8 ≡ (place_of m a b (x / 8) (y / 8)).0 = ap₂ (λ (s t : ℕ). (place_of m s t x y).0 / 8) e f ∙ d.0 in
      let dy : P.1 / 8 ≡ (place_of m a b (x / 8) (y / 8)).1 = ap₂ (λ (s t : ℕ). (place_of m s t x y).1 / 8) e f ∙ d.1 in
      let r = region-of m W H pos_w pos_h p p' same untied i l (x / 8) (y / 8) (omega arith) (omega arith) in
      let L = label_at p w h (x / 8) (y / 8) in
      let L' = label_at p' w' h' (P.0 / 8) (P.1 / 8) in
      let at : L' ≡ label_at p' w' h' (place_of m a b (x / 8) (y / 8)).0 (place_of m a b (x / 8) (y / 8)).1 =
      ap₂ (λ (s t : ℕ). label_at p' w' h' s t) dx dy in
      let labels : eqb L' (kept_label p' w' h' i) ≡ eqb L (kept_label p w h i) =
      bool-ext (eqb L' (kept_label p' w' h' i)) (eqb L (kept_label p w h i))
      (λ z. eq-eqb L (kept_label p w h i) (r.1 (sym at ∙ eqb-true L' (kept_label p' w' h' i) z)))
      (λ z. eq-eqb L' (kept_label p' w' h' i) (at ∙ r.0 (eqb-true L (kept_label p w h i) z))) in
      ap₂ (λ (s t : Bool). s && t) (ink-of m W H p p' same x y lx ly)
      (only L' (kept_at (group_size p' w' h') (groups_of p' w' h') i) ∙ labels ∙ sym (only L (kept_at (group_size p w h) (groups_of p w h) i)))

  pub region-within : Within (region_box p w h (kept_label p w h i)) w h
  region-within =
      let c = region-cell p w h i l in
      let r = region-in p w h (kept_label p w h i) (omega arith) c.0 c.1 c.2 in
      record { across' = omega (arith, r.0); down' = omega (arith, r.1); wide = r.2; high = r.3 }

  -- A point is among the boundary points as often as the point moved there was.
  pub points-of : (k : ℕ) (q : Pt)
      → often (moved_point m w h q) (pts_of (outline_of k p' w' h' (kept_label p' w' h' i)))
      ≡ often q (pts_of (outline_of k p w h (kept_label p w h i)))
  unfolding outline_of
  points-of k q =
      ap (λ (z : Box). often (moved_point m w h q) (pts_of (boundary k (is_member p' w' h' (kept_label p' w' h' i)) z)))
      (box_of_lem m W H pos_w pos_h p p' same untied i l)
      ∙ boundary-move m w h q k (is_member p w h (kept_label p w h i)) (is_member p' w' h' (kept_label p' w' h' i))
      (region_box p w h (kept_label p w h i)) region-within member_of_lem
