-- The conditions of demand 3 on quads can be met with a quad: a closed case, the outline of a square sheared by a pixel a row. Exactly one
-- pair of its hull's six vertices is farthest apart, one vertex lies farthest out on each side of it, and there are four corners.
--     far-by, top-by               the two conditions by tests of each vertex
--     sheared-hull, sheared-quad, sheared-far, sheared-top, sheared-under      the case
-- Assumes nothing.
use mathlib.Core.Path.{◌≡◌, refl, sym, ap, ◌∙◌}
use mathlib.Core.Logic.{inl, inr, ⊎_elim}
use mathlib.Core.Bool.{Bool, true, false, ◌&&◌, ◌||◌}
use mathlib.Core.List.Memᴰ
use mathlib.Core.List.{List, [], ◌∷◌}
use Prim.Native.Nat.{ℕ, ◌+◌}
use lib.Dec.{leb, ltb}
use lib.IntN.{ℤ, pos, negsuc}
use lib.Ieee.{of_bits, round, add, sub, mul, lt, le, eq, is_nan}
use Rattle.laws.specs.Fold.{first, end_of, joined}
use Rattle.laws.specs.Move.{Box}
use Rattle.laws.proofs.Bools.{and_left, and_right, either, clash}
use Rattle.ieee.specs.Ops.{sign, before}
use Rattle.whole.specs.Numbers.{◌⊕◌, ◌⊗◌, neg, NN, PP, pp}
use Rattle.whole.specs.Points.{Pt, cross, d2, Mem}
use Rattle.whole.specs.Hull.{is_neg, same_pt}
use Rattle.whole.specs.Quad.{Top, Far, OneTop}
use Rattle.whole.proofs.Sums.{⊕-comm, neg-⊕, neg-neg}
use Rattle.whole.proofs.Ord.{nn≡, pp≡, pnn}
use Rattle.whole.proofs.Run.{same_true, same_false}
use Rattle.whole.specs.Walk.{best_with, lowest_with, next_with, walk_with, hull_with, keep, farthest_with, ends, quad_with}
use Rattle.boundary.specs.Runs.{some, every, run_at, in_run, run_start, run_end, edges}
use Rattle.boundary.specs.Boundary.{row_points, column_points, rows_from, columns_from, boundary}
use Rattle.hull.specs.Points.{pt_of, pts_of, half_of, numbers_of, floats_of}
use Rattle.hull.specs.Hull.{cross_at, d2_at, better_at, lower_at, same_at, hull_of, hull_points}
use Rattle.hull.specs.Quad.{lace_at, area_at, quad_of, quad_points}

-- ---- the conditions by tests
-- Every point passes.
all_of : (Pt → Bool) → List Pt → Bool
all_of t [] = true
all_of t (a ∷ l) = t a && all_of t l

all-at : (t : Pt → Bool) (l : List Pt) → all_of t l ≡ true → (u : Pt) → Mem u l → t u ≡ true
unfolding all_of
all-at t [] e u m = elim m [ ]
all-at t (a ∷ l) e u (Memᴰ.head q) = rw q (and_left (t a) (all_of t l) e)
all-at t (a ∷ l) e u (Memᴰ.tail m) = all-at t l (and_right (t a) (all_of t l) e) u m

-- a is nearer than b: the difference is above 0
less : ℤ → ℤ → Bool
less a b = is_neg (a ⊕ neg b)

less-true : (a b : ℤ) → less a b ≡ true → PP (b ⊕ neg a)
unfolding less
less-true a b e = pp≡ (go (a ⊕ neg b) e) (neg-⊕ a (neg b) ∙ ap (λ (z : ℤ). neg a ⊕ z) (neg-neg b) ∙ ⊕-comm (neg a) b)
  where
    go : (z : ℤ) → is_neg z ≡ true → PP (neg z)
    go (pos n) e = absurd (clash e refl)
    go (negsuc n) e = unfold neg in pp n

module _ (H : List Pt) (a b : Pt) where
  -- two vertices are the ends, or nearer to each other
  farther : Pt → Pt → Bool
  farther u w = (same_pt u a && same_pt w b) || ((same_pt u b && same_pt w a) || less (d2 u w) (d2 a b))

  far-by : Mem a H → Mem b H → same_pt a b ≡ false → all_of (λ u. all_of (farther u) H) H ≡ true → Far H a b
  unfolding Far farther
  far-by ma mb other e = (
    ma,
    mb,
    same_false a b other,
    λ u w m n.
        ⊎_elim
        (λ q. inl (same_true u a (and_left (same_pt u a) (same_pt w b) q), same_true w b (and_right (same_pt u a) (same_pt w b) q)))
        (λ q. inr (⊎_elim
        (λ r. inl (same_true u b (and_left (same_pt u b) (same_pt w a) r), same_true w a (and_right (same_pt u b) (same_pt w a) r)))
        (λ r. inr (less-true (d2 u w) (d2 a b) r))
        (either (same_pt u b && same_pt w a) (less (d2 u w) (d2 a b)) q)))
        (either (same_pt u a && same_pt w b) ((same_pt u b && same_pt w a) || less (d2 u w) (d2 a b))
        (all-at (farther u) H (all-at (λ v. all_of (farther v) H) H e u m) w n)),
  )

  -- c, or less far out than c
  top-by : (c : Pt) → Mem c H → all_of (λ u. same_pt u c || less (cross a b u) (cross a b c)) H ≡ true → OneTop H a b
  unfolding OneTop Top
  top-by c mc e u w m n tu tw = only u m (tu.1 c mc) ∙ sym (only w n (tw.1 c mc))
    where
      only : (v : Pt) → Mem v H → NN (cross a b v ⊕ neg (cross a b c)) → v ≡ c
      only v k top =
          ⊎_elim (λ q. same_true v c q)
          (λ q. absurd (pnn (less-true (cross a b v) (cross a b c) q) (nn≡ top (neg-sub (cross a b v) (cross a b c)))))
          (either (same_pt v c) (less (cross a b v) (cross a b c))
          (all-at (λ u. same_pt u c || less (cross a b u) (cross a b c)) H e v k))
        where
          neg-sub : (x y : ℤ) → x ⊕ neg y ≡ neg (y ⊕ neg x)
          neg-sub x y = sym (neg-⊕ y (neg x) ∙ ap (λ (z : ℤ). neg y ⊕ z) (neg-neg x) ∙ ⊕-comm (neg y) x)

-- ---- the case
-- Members at y from 0 to 7 and x from y to y + 7.
sheared : ℕ → ℕ → Bool
sheared x y = ltb y 8 && (leb y x && ltb x (y + 8))

frame : Box
frame = record { x0 = 0; y0 = 0; x1 = 15; y1 = 8 }

vertices : List (ℕ × ℕ)
vertices = (0, 1) ∷ (7, 0) ∷ (15, 0) ∷ (30, 15) ∷ (23, 16) ∷ (15, 16) ∷ []

sheared-hull : hull_points (boundary 4 sheared frame) ≡ vertices
unfolding vertices sheared frame boundary rows_from columns_from joined row_points column_points edges run_start run_end first end_of in_run run_at
    some every hull_points hull_of hull_with walk_with next_with best_with lowest_with better_at lower_at same_at cross_at d2_at floats_of numbers_of half_of before sign is_nan lt eq
    round of_bits add sub mul
sheared-hull = refl

sheared-quad : quad_points vertices ≡ (0, 1) ∷ (15, 0) ∷ (30, 15) ∷ (15, 16) ∷ []
unfolding vertices quad_points quad_of quad_with farthest_with ends keep cross_at d2_at lace_at area_at floats_of numbers_of half_of lt le eq round of_bits add sub
    mul
sheared-quad = refl

sheared-far : Far (pts_of vertices) (pt_of (0, 1)) (pt_of (30, 15))
sheared-far =
    far-by (pts_of vertices) (pt_of (0, 1)) (pt_of (30, 15)) (unfold vertices in Memᴰ.head refl)
    (unfold vertices in Memᴰ.tail (Memᴰ.tail (Memᴰ.tail (Memᴰ.head refl))))
    (unfold same_pt pt_of ◌⊕◌ neg in refl)
    (unfold vertices all_of farther less same_pt d2 pt_of ◌⊕◌ ◌⊗◌ neg in refl)

sheared-top : OneTop (pts_of vertices) (pt_of (0, 1)) (pt_of (30, 15))
sheared-top =
    top-by (pts_of vertices) (pt_of (0, 1)) (pt_of (30, 15)) (pt_of (15, 16))
    (unfold vertices in Memᴰ.tail (Memᴰ.tail (Memᴰ.tail (Memᴰ.tail (Memᴰ.tail (Memᴰ.head refl))))))
    (unfold vertices all_of less same_pt cross pt_of ◌⊕◌ ◌⊗◌ neg in refl)

sheared-under : OneTop (pts_of vertices) (pt_of (30, 15)) (pt_of (0, 1))
sheared-under =
    top-by (pts_of vertices) (pt_of (30, 15)) (pt_of (0, 1)) (pt_of (15, 0))
    (unfold vertices in Memᴰ.tail (Memᴰ.tail (Memᴰ.head refl)))
    (unfold vertices all_of less same_pt cross pt_of ◌⊕◌ ◌⊗◌ neg in refl)
