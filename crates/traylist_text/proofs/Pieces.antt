-- Lines stored piece by piece. A line: line-room, line-is, line-next. Short numbers: one-short, two-short, region-short. The line of a
-- quad:
-- corners-text, corners-short, none-line, found-line, found-near. The lines of an outline: hull-part, hull-near, lines_stored. Assumes
-- nothing.
use mathlib.Core.Path.{◌≡◌, refl, sym, ap, ◌∙◌, subst}
use mathlib.Core.List.{List, [], ◌∷◌, map}
use Prim.Native.Nat.{ℕ, zero, suc, ◌+◌, ◌*◌, ◌≤◌, ◌<◌}
use native.Mathlib.Omega.{arith}
use Rattle.std.proofs.Common.{Option, Some, None}
use lib.ListN.{length, take, drop}
use lib.Seq.{take_at}
use lib.Ieee.{Float}
use Rattle.hull.proofs.Walks.{points-long}
use Rattle.regions.specs.Regions.{region_fields}
use Rattle.regions.specs.declared.answer.Region.{Region}
use Rattle.hull.specs.Points.{many}
use Rattle.hull.specs.Hull.{hull_of, hull_floats}
use Rattle.hull.specs.Quad.{quad_of, quad_floats, values_of}
use Rattle.hull.specs.declared.points.Quad.{Quad}
use Rattle.text.specs.Text.{spaced, line_of, quad_word, none_word}
use Rattle.traylist_text.specs.Listing.{outline_word}
use Rattle.laws.specs.Lent.{Stored, laid}
use Rattle.traylist_text.specs.Inner.{Short, NearPoints, cut_double, corners_line, lines_by, TrayRegion}
use Rattle.laws.proofs.Stores.{stored-append, stored-ext, stored-length}
use Rattle.traylist_text.proofs.Numbers.{spaced-short, line-short}
use Rattle.traylist_text.proofs.Outlines.{near-points, near-doubled}

-- ---- a line
pub line-room : {at r r' : ℕ} {l l' l'' : List ℕ} (w ns : List ℕ) → Short ns → at + (length w + (6 * length ns + 1)) ≤ length l
    → Stored at w l l' r → Stored r (spaced ns) l' l'' r' → r' < length l''
line-room w ns s fit v u = omega (arith, fit, spaced-short ns s, v.next, u.next, stored-length v, stored-length u)

pub line-is : {at r r' r'' : ℕ} {l l' l'' l''' : List ℕ} (w ns : List ℕ) → Stored at w l l' r → Stored r (spaced ns) l' l'' r'
    → Stored r' (10 ∷ []) l'' l''' r'' → Stored at (line_of w ns) l l''' r''
unfolding line_of
line-is w ns v u x = stored-append v (stored-append u x)

pub line-next : {at r : ℕ} {l l' : List ℕ} (w ns : List ℕ) (k : ℕ) → Short ns → at + (length w + (6 * length ns + 1)) + k ≤ length l
    → Stored at (line_of w ns) l l' r → r + k ≤ length l'
line-next w ns k s fit v = omega (arith, fit, line-short w ns s, v.next, stored-length v)

-- ---- short numbers
pub one-short : (n : ℕ) → n < 100000 → Short (n ∷ [])
one-short n a zero l = a
one-short n a (suc i) l = absurd (omega arith)

pub two-short : (n m : ℕ) → n < 100000 → m < 100000 → Short (n ∷ m ∷ [])
two-short n m a b zero l = a
two-short n m a b (suc zero) l = b
two-short n m a b (suc (suc i)) l = absurd (omega arith)

pub region-short : (w h : ℕ) (r : Region) → TrayRegion w h r → w ≤ 160 → h ≤ 160
    → Short (region_fields r)
region-short w h r t a b zero l = t.label
region-short w h r t a b (suc zero) l = t.cells
region-short w h r t a b (suc (suc zero)) l = omega (arith, t.boxed.across, t.boxed.right)
region-short w h r t a b (suc (suc (suc zero))) l = omega (arith, t.boxed.down, t.boxed.bottom)
region-short w h r t a b (suc (suc (suc (suc zero)))) l = omega (arith, t.boxed.right)
region-short w h r t a b (suc (suc (suc (suc (suc zero))))) l = omega (arith, t.boxed.bottom)
region-short w h r t a b (suc (suc (suc (suc (suc (suc i)))))) l = absurd (omega arith)

-- ---- the line of a quad
module _ (q : Quad) (n1 n2 n3 n4 n5 n6 n7 n8 : ℕ) (e1 : n1 ≡ cut_double q.a.x) (e2 : n2 ≡ cut_double q.a.y) (e3 : n3 ≡ cut_double q.b.x)
    (e4 : n4 ≡ cut_double q.b.y) (e5 : n5 ≡ cut_double q.c.x) (e6 : n6 ≡ cut_double q.c.y) (e7 : n7 ≡ cut_double q.d.x)
    (e8 : n8 ≡ cut_double q.d.y) where
  corners-are : n1 ∷ n2 ∷ n3 ∷ n4 ∷ n5 ∷ n6 ∷ n7 ∷ n8 ∷ [] ≡ map cut_double (values_of (Some q))
  unfolding values_of
  corners-are = rw (e1, e2, e3, e4, e5, e6, e7, e8)

  pub corners-text : {at r : ℕ} {l l' : List ℕ} → Stored at (line_of quad_word (n1 ∷ n2 ∷ n3 ∷ n4 ∷ n5 ∷ n6 ∷ n7 ∷ n8 ∷ [])) l l' r
      → Stored at (corners_line (values_of (Some q))) l l' r
  unfolding corners_line values_of
  corners-text v =
      stored-ext (line_of quad_word (n1 ∷ n2 ∷ n3 ∷ n4 ∷ n5 ∷ n6 ∷ n7 ∷ n8 ∷ [])) (line_of quad_word (map cut_double (values_of (Some q))))
      (ap (line_of quad_word) corners-are) v

  pub corners-short : NearPoints (values_of (Some q)) → Short (n1 ∷ n2 ∷ n3 ∷ n4 ∷ n5 ∷ n6 ∷ n7 ∷ n8 ∷ [])
  corners-short near = subst (λ (l : List ℕ). Short l) (sym corners-are) (near-doubled (values_of (Some q)) near)

module _ (r : Option Quad) (p : List Float) (v : values_of r ≡ quad_floats p) where
  pub none-line : {at e : ℕ} {l l' : List ℕ} → r ≡ None → Stored at (line_of none_word []) l l' e → Stored at (corners_line (quad_floats
      p)) l l' e
  none-line z w =
      stored-ext (line_of none_word []) (corners_line (quad_floats p)) (none ∙ ap corners_line (sym (ap values_of z) ∙ v)) w
    where
      none : line_of none_word [] ≡ corners_line (values_of None)
      none = unfold corners_line values_of in refl

  pub found-line : {at e : ℕ} {l l' : List ℕ} (q : Quad) → r ≡ Some q → Stored at (corners_line (values_of (Some q))) l l' e
      → Stored at (corners_line (quad_floats p)) l l' e
  found-line q z w =
      stored-ext (corners_line (values_of (Some q))) (corners_line (quad_floats p)) (ap corners_line (sym (ap values_of z) ∙ v)) w

  pub found-near : (q : Quad) → r ≡ Some q → NearPoints p → NearPoints (values_of (Some q))
  found-near q z near = subst (λ (l : List Float). NearPoints l) (sym v ∙ ap values_of z) (near-points p near (quad_of p (many p)))

-- ---- the lines of an outline
module _ (p old last : List Float) (r : ℕ) (e : r ≡ length (hull_of p (many p))) (f : last ≡ laid (hull_floats p) old) where
  pub hull-part : take (2 * r) last ≡ hull_floats p
  hull-part =
      let n : length (hull_floats p) ≡ 2 * r = omega (arith, points-long p (hull_of p (many p)), e) in
      ap (λ (q : List Float). take (2 * r) q) f ∙ take_at (hull_floats p) (drop (length (hull_floats p)) old) (2 * r) n

  pub hull-near : NearPoints p → NearPoints (take (2 * r) last)
  hull-near near = subst (λ (l : List Float). NearPoints l) (sym hull-part) (near-points p near (hull_of p (many p)))

  pub lines_stored : {at n k : ℕ} {l l' l'' : List ℕ} → Stored at (line_of outline_word (many p ∷ r ∷ [])) l l' n
      → Stored n (corners_line (quad_floats (take (2 * r) last))) l' l'' k → Stored at (lines_by p) l l'' k
  unfolding lines_by
  lines_stored v u =
      stored-append
      (stored-ext (line_of outline_word (many p ∷ r ∷ [])) (line_of outline_word (many p ∷ length (hull_of p (many p)) ∷ []))
      (ap (λ (m : ℕ). line_of outline_word (many p ∷ m ∷ [])) e) v)
      (stored-ext (corners_line (quad_floats (take (2 * r) last))) (corners_line (quad_floats (hull_floats p)))
      (ap (λ (q : List Float). corners_line (quad_floats q)) hull-part) u)
