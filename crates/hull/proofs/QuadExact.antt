-- For points of doubled coordinates up to 2,048 the quad of f32 points is that of whole points.
--     quad-exact
-- Assumes nothing.
use mathlib.Core.Path.{◌≡◌, refl, sym, ap, ap₂, ◌∙◌}
use mathlib.Core.Logic.{◌⊎◌, inl, inr}
use mathlib.Core.Bool.{Bool, true, false, not, ◌||◌}
use mathlib.Core.List.{List, map}
use Prim.Native.Nat.{ℕ, zero, suc, ◌*◌, ◌≤◌}
use native.Mathlib.Omega.{arith}
use native.Mathlib.Nat.{le_trans, mul-le-mul}
use lib.Dec.{lit≤}
use lib.ListN.{length}
use lib.IntN.{ℤ, pos, negsuc, neg_ℤ, nat_abs, ◌+ℤ◌, ◌-ℤ◌, ◌*ℤ◌}
use lib.Signed.{lt_z}
use lib.Ieee.{Float, binary32, of_bits, mul, lt, le}
use borrow.Author.Tests.{lt-ltb}
use Rattle.ieee.specs.Constants.{0f}
use Rattle.ieee.specs.Inner.{Val, eq_z}
use Rattle.ieee.specs.Cross.{cross_z}
use Rattle.ieee.proofs.Vals.{lt_val, eq_val, zero_val, rounds-val, add-val, sub_val, mul_val}
use Rattle.ieee.proofs.Signs.{small_product}
use Rattle.whole.specs.Numbers.{◌⊕◌, ◌⊗◌, neg, 𝟘, 𝟙, NN, nn}
use Rattle.whole.specs.Points.{Pt, pt_at}
use Rattle.whole.specs.Points as PW
use Rattle.whole.specs.Hull.{is_neg}
use Rattle.whole.specs.Quad.{lace, area, quad}
use Rattle.whole.specs.Walk.{quad_with, whole_ops}
use Rattle.whole.proofs.Turns.{d2_n}
use Rattle.whole.proofs.Indexed.{quad_with-cong, quad_is}
use Rattle.hull.specs.Points.{x_at, y_at, floats_of, pt_of, pts_of, Small}
use Rattle.hull.specs.Quad.{lace_at, area_at, quad_ops, quad_of, quad_points, minus_one}
use Rattle.hull.proofs.Exact.{at, pt_at_lem, small_at, vx, vy, dx, dy, near, sum-size, less-is, cross-round, d2-is, map-pt, length-pts}

-- −1 as an f32 is −4 / 4
minus_val : Val minus_one 2 (negsuc 3)
unfolding of_bits
minus_val = record { minus = true; size = 4; has = (refl, refl); is = refl }

-- distances, and −1 below them all
abbrev Rd : Float → ℤ → Type 0
Rd x z = (Val x 2 z × NN z) ⊎ ((x ≡ minus_one) × (z ≡ negsuc 0))

abbrev R : Float → ℤ → Type 0
R x z = Val x 2 z

alike : (u s : Float) (u' s' : ℤ) → R u u' → R s s' → lt u s ≡ is_neg (u' ⊕ neg s')
alike u s u' s' p q = lt_val p q ∙ less-is u' s'

not_neg : (z : ℤ) → NN z → (c : ℕ) → (lt_z z (negsuc c) ≡ false) × (lt_z (negsuc c) z ≡ true)
not_neg z (nn n) c = (refl, refl)

aliked : (u s : Float) (u' s' : ℤ) → Rd u u' → Rd s s' → lt u s ≡ is_neg (u' ⊕ neg s')
aliked u s u' s' (inl p) (inl q) = alike u s u' s' p.0 q.0
aliked u s u' s' (inl p) (inr q) =
    ap (lt u) q.0 ∙ lt_val p.0 minus_val ∙ (not_neg u' p.1 3).0 ∙ sym (not_neg u' p.1 0).0 ∙ ap (lt_z u') (sym q.1)
    ∙ less-is u' s'
aliked u s u' s' (inr p) (inl q) =
    ap (λ (x : Float). lt x s) p.0 ∙ lt_val minus_val q.0 ∙ (not_neg s' q.1 3).1 ∙ sym (not_neg s' q.1 0).1
    ∙ ap (λ (z : ℤ). lt_z z s') (sym p.1) ∙ less-is u' s'
aliked u s u' s' (inr p) (inr q) = ap₂ lt p.0 q.0 ∙ lt_val minus_val minus_val ∙ ap₂ lt_z (sym p.1) (sym q.1) ∙ less-is u' s'

-- not at least 0 is below 0, where there is no NaN
backs : (u : Float) (u' : ℤ) → R u u' → not (le 0f u) ≡ is_neg u'
unfolding le
backs u u' r = ap₂ (λ (x y : Bool). not (x || y)) (lt_val (zero_val binary32 2) r) (eq_val (zero_val binary32 2) r) ∙ go u'
  where
    go : (z : ℤ) → not (lt_z (pos 0) z || eq_z (pos 0) z) ≡ is_neg z
    go (pos zero) = refl
    go (pos (suc n)) = rw (lt-ltb 0 (suc n) (omega arith)) refl
    go (negsuc n) = refl

neg-size : (b : ℤ) → nat_abs (neg_ℤ b) ≡ nat_abs b
neg-size (pos zero) = refl
neg-size (pos (suc n)) = refl
neg-size (negsuc n) = refl

module _ (L : List (ℕ × ℕ)) (small : Small L) where
  abbrev F : List Float
  F = floats_of L

  abbrev P : List Pt
  P = pts_of L

  abbrev X : ℕ → ℕ
  X i = (at L i).0

  abbrev Y : ℕ → ℕ
  Y i = (at L i).1

  side-size : (o a b : ℕ) → nat_abs (cross_z (pos (X o)) (pos (Y o)) (pos (X a)) (pos (Y a)) (pos (X b)) (pos (Y b))) ≤ 8388608
  side-size o a b =
      let A = (pos (X a) -ℤ pos (X o)) *ℤ (pos (Y b) -ℤ pos (Y o)) in
      let B = (pos (Y a) -ℤ pos (Y o)) *ℤ (pos (X b) -ℤ pos (X o)) in
      omega (
        arith,
        sum-size A (neg_ℤ B),
        neg-size B,
        small_product 2048 4194304 (pos (X a) -ℤ pos (X o)) (pos (Y b) -ℤ pos (Y o)) (lit≤ tt) (dx L small a o) (dy L small b o),
        small_product 2048 4194304 (pos (Y a) -ℤ pos (Y o)) (pos (X b) -ℤ pos (X o)) (lit≤ tt) (dy L small a o) (dx L small b o),
      )

  side-is : (a b i : ℕ) → R ((quad_ops F).side a b i) ((whole_ops P).side a b i)
  unfolding whole_ops
  side-is a b i =
      rw (pt_at_lem L a, pt_at_lem L b, pt_at_lem L i)
      (unfold PW.cross pt_of ◌⊕◌ ◌⊗◌ neg in
      rounds-val binary32 (lit≤ tt) (le_trans (side-size a b i) (lit≤ tt)) (cross-round L small a b i))

  dist-is : (i j : ℕ) → Rd ((quad_ops F).d i j) ((whole_ops P).d i j)
  unfolding whole_ops
  dist-is i j = rw (pt_at_lem L i, pt_at_lem L j) (inl (d2-is L small i j, d2_n (pt_of (at L i)) (pt_of (at L j))))

  -- ---- the area
  prod : (a b : ℕ) → a ≤ 2048 → b ≤ 2048 → a * b ≤ 4194304
  prod a b la lb = mul-le-mul {n₁ = a} {m₁ = b} {n₂ = 2048} {m₂ = 2048} la lb

  mul_is : (a b : ℕ) → Val (mul binary32 (x_at F a) (y_at F b)) 2 (pos (X a * Y b))
  mul_is a b = mul_val binary32 (lit≤ tt) (le_trans (prod (X a) (Y b) (small_at L small a).0 (small_at L small b).1) (lit≤ tt))
      (vx L small a) (vy L small b)

  lace-size : (a b : ℕ) → nat_abs (pos (X a * Y b) -ℤ pos (X b * Y a)) ≤ 4194304
  lace-size a b = near 4194304 (X a * Y b) (X b * Y a) (prod (X a) (Y b) (small_at L small a).0 (small_at L small b).1)
      (prod (X b) (Y a) (small_at L small b).0 (small_at L small a).1)

  lace-is : (a b : ℕ) → Val (lace_at F a b) 2 (pos (X a * Y b) -ℤ pos (X b * Y a))
  unfolding lace_at
  lace-is a b = sub_val binary32 (lit≤ tt) (le_trans (lace-size a b) (lit≤ tt)) (mul_is a b) (mul_is b a)

  area-is : (a b c d : ℕ) → R ((quad_ops F).quad_area a b c d) ((whole_ops P).quad_area a b c d)
  unfolding area_at whole_ops
  area-is a b c d =
      rw (pt_at_lem L a, pt_at_lem L b, pt_at_lem L c, pt_at_lem L d)
      (unfold area lace pt_of ◌⊕◌ ◌⊗◌ neg in
      add-val binary32 (lit≤ tt) (le_trans (s4 a b c d) (lit≤ tt))
      (add-val binary32 (lit≤ tt) (le_trans (s3 a b c d) (lit≤ tt))
      (add-val binary32 (lit≤ tt) (le_trans (s2 a b c) (lit≤ tt)) (lace-is a b) (lace-is b c)) (lace-is c d)) (lace-is d a))
    where
      s2 : (a b c : ℕ) → nat_abs ((pos (X a * Y b) -ℤ pos (X b * Y a)) +ℤ (pos (X b * Y c) -ℤ pos (X c * Y b))) ≤ 8388608
      s2 a b c = omega (
        arith,
        sum-size (pos (X a * Y b) -ℤ pos (X b * Y a)) (pos (X b * Y c) -ℤ pos (X c * Y b)),
        lace-size a b,
        lace-size b c,
      )

      s3 : (a b c d : ℕ) → nat_abs
          ((pos (X a * Y b) -ℤ pos (X b * Y a)) +ℤ (pos (X b * Y c) -ℤ pos (X c * Y b)) +ℤ (pos (X c * Y d) -ℤ pos (X d * Y c))) ≤ 12582912
      s3 a b c d = omega (
        arith,
        sum-size ((pos (X a * Y b) -ℤ pos (X b * Y a)) +ℤ (pos (X b * Y c) -ℤ pos (X c * Y b))) (pos (X c * Y d) -ℤ pos (X d * Y c)),
        s2 a b c,
        lace-size c d,
      )

      s4 : (a b c d : ℕ) → nat_abs
          ((pos (X a * Y b) -ℤ pos (X b * Y a)) +ℤ (pos (X b * Y c) -ℤ pos (X c * Y b)) +ℤ (pos (X c * Y d) -ℤ pos (X d * Y c)) +ℤ
          (pos (X d * Y a) -ℤ pos (X a * Y d))) ≤ 16777216
      s4 a b c d = omega (
        arith,
        sum-size ((pos (X a * Y b) -ℤ pos (X b * Y a)) +ℤ (pos (X b * Y c) -ℤ pos (X c * Y b)) +ℤ (pos (X c * Y d) -ℤ pos (X d * Y c)))
            (pos (X d * Y a) -ℤ pos (X a * Y d)),
        s3 a b c d,
        lace-size d a,
      )

  quad_with-is : (n : ℕ) → quad_with (quad_ops F) n ≡ quad_with (whole_ops P) n
  quad_with-is = quad_with-cong Rd R (quad_ops F) (whole_ops P)
      (unfold whole_ops in aliked) (unfold whole_ops in alike)
      (unfold whole_ops 𝟙 neg in inr (refl, refl)) (unfold whole_ops 𝟘 in zero_val binary32 2)
      dist-is side-is area-is (unfold whole_ops in backs)

  -- The quad of f32 points is that of whole points.
  pub quad-exact : pts_of (quad_points L) ≡ quad (pts_of L)
  unfolding quad_points quad_of
  quad-exact =
      map-pt L (quad_with (quad_ops F) (length L))
      ∙ ap (map (pt_at P)) (quad_with-is (length L))
      ∙ ap (λ (n : ℕ). map (pt_at P) (quad_with (whole_ops P) n)) (sym (length-pts L))
      ∙ quad_is P
