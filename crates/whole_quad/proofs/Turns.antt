-- Turns and distances of points of a list, in natural numbers: side-is the side as it is worked out; cross-any, side-any, dist-any what
-- they are in whole numbers; side-back the side of the way back.
--     the side of a point, as it is worked out from coordinates and products of them: side-is
--     turns and distances: side-back, side-any, dist-any, apart_some
-- Assumes nothing.
use mathlib.Core.Path.{◌≡◌, refl, sym, ap, ap₂, ◌∙◌}
use mathlib.Core.Bool.{Bool, true, false}
use mathlib.Core.List.{List, [], ◌∷◌}
use Prim.Native.Nat.{ℕ, ◌+◌, ◌-◌, ◌*◌, ◌≤◌, ◌<◌}
use native.Mathlib.Nat.{mul-le-mul, add-mul}
use native.Mathlib.Omega.{arith}
use lib.Dec.{ltb}
use lib.ListN.{length, get_or, get_or-eq_default}
use borrow.Author.Tests.{ltb-true, ltb-false}
use lib.IntN.{ℤ, pos}
use Rattle.whole.specs.Numbers.{◌⊕◌, ◌⊗◌, neg}
use Rattle.whole.specs.Points.{Pt, cross, d2, pt_at}
use Rattle.whole.proofs.Ring.{𝕧, ◌:+◌, ◌:-◌, ◌:*◌, solve}
use Rattle.whole.proofs.Turns.{X, Y, C}
use Rattle.hull.specs.Points.{many, pt_of, pts_of}
use Rattle.hull.proofs.Exact.{pt_at_lem}
use Rattle.doubled.specs.Points.{pairs_of, x_at, y_at, Bounded}
use Rattle.doubled.proofs.Points.{pair-any}
use Rattle.whole_quad.specs.Inner.{turn_l, turn_r, side_at, d2_at, apart}
use Rattle.laws.specs.Gap.{gap}
use Rattle.whole_quad.proofs.Numbers.{sub-pos, gap-square}

-- ---- the side of a point, as it is worked out from coordinates and products of them
module _ (xa ya xb yb x y : ℕ) (hxa : xa ≤ 8192) (hya : ya ≤ 8192) (hxb : xb ≤ 8192) (hyb : yb ≤ 8192) (hx : x ≤ 8192) (hy : y ≤ 8192)
    (f₁ f₂ f₃ f₄ : ℕ) (e₁ : f₁ ≡ xa * yb) (e₂ : f₂ ≡ xb * ya) (e₃ : f₃ ≡ (xb + 8192 - xa) * y) (e₄ : f₄ ≡ (ya + 8192 - yb) * x) where
  abbrev l : ℕ
  l = xb * y + x * ya + xa * yb

  abbrev r : ℕ
  r = yb * x + y * xa + ya * xb

  at_most : (m n : ℕ) → m ≤ 8192 → n ≤ 8192 → m * n ≤ 67108864
  at_most m n hm hn = mul-le-mul {n₁ = m} {m₁ = n} {n₂ = 8192} {m₂ = 8192} hm hn

  moved : (m n k : ℕ) → n ≤ 8192 → (m + 8192 - n) * k + n * k ≡ m * k + 8192 * k
  moved m n k h =
      let e : m + 8192 - n + n ≡ m + 8192 = omega arith in
      sym (add-mul (m + 8192 - n) n k) ∙ ap (λ (j : ℕ). j * k) e ∙ add-mul m 8192 k

  side-nat : (268435456 + f₁ - f₂ + f₃ + f₄ - 8192 * (x + y) ≡ 268435456 + l - r)
      × (268435456 + f₁ - f₂ + f₃ + f₄ - 8192 * (x + y) ≤ 536870912)
  side-nat =
      let d₃ = moved xb xa y hxa in
      let d₄ = moved ya yb x hyb in
      let b₁ = at_most xb y hxb hy in
      let b₂ = at_most x ya hx hya in
      let b₃ = at_most xa yb hxa hyb in
      let c₁ = at_most yb x hyb hx in
      let c₂ = at_most y xa hy hxa in
      let c₃ = at_most ya xb hya hxb in
      let z : 268435456 + f₁ - f₂ + f₃ + f₄ - 8192 * (x + y) ≡ 268435456 + l - r
      = omega (arith, d₃, d₄, e₁, e₂, e₃, e₄, b₁, b₂, b₃, c₁, c₂, c₃) in
      (z, omega (arith, z, b₁, b₂, b₃))

  pub side-is : (p : List ℕ) (a b i : ℕ) → xa ≡ x_at p a → ya ≡ y_at p a → xb ≡ x_at p b → yb ≡ y_at p b → x ≡ x_at p i → y ≡ y_at p i
      → (268435456 + f₁ - f₂ + f₃ + f₄ - 8192 * (x + y) ≡ side_at p a b i)
      × (268435456 + f₁ - f₂ + f₃ + f₄ - 8192 * (x + y) ≤ 536870912)
  unfolding side_at turn_l turn_r
  side-is p a b i exa eya exb eyb ex ey = (side-nat.0 ∙ cc, side-nat.1)

-- ---- turns and distances
cross-nat : (ox oy ax ay bx by : ℕ)
    → cross (pt_of (ox, oy)) (pt_of (ax, ay)) (pt_of (bx, by)) ≡ pos (ax * by + bx * oy + ox * ay) ⊕ neg (pos (ay * bx + by * ox + oy * ax))
unfolding cross pt_of
cross-nat ox oy ax ay bx by =
    solve (pos ox ∷ pos oy ∷ pos ax ∷ pos ay ∷ pos bx ∷ pos by ∷ []) (C 0 1 2)
    ((X 1 :* Y 2 :+ X 2 :* Y 0 :+ X 0 :* Y 1) :- (Y 1 :* X 2 :+ Y 2 :* X 0 :+ Y 0 :* X 1)) refl
    ∙ fold
  where
    fold : (pos ax ⊗ pos by ⊕ pos bx ⊗ pos oy ⊕ pos ox ⊗ pos ay) ⊕ neg (pos ay ⊗ pos bx ⊕ pos by ⊗ pos ox ⊕ pos oy ⊗ pos ax)
        ≡ pos (ax * by + bx * oy + ox * ay) ⊕ neg (pos (ay * bx + by * ox + oy * ax))
    fold = unfold ◌⊕◌ ◌⊗◌ in refl

d2-nat : (ax ay bx by : ℕ) → d2 (pt_of (ax, ay)) (pt_of (bx, by)) ≡ pos (gap ax bx * gap ax bx + gap ay by * gap ay by)
unfolding d2 pt_of
d2-nat ax ay bx by = ap₂ ◌⊕◌ (gap-square ax bx) (gap-square ay by) ∙ fold (gap ax bx * gap ax bx) (gap ay by * gap ay by)
  where
    fold : (a b : ℕ) → pos a ⊕ pos b ≡ pos (a + b)
    fold a b = unfold ◌⊕◌ in refl

-- a coordinate, of a point past the list's end too
bound : (p : List ℕ) → Bounded p → (k : ℕ) → get_or p k 0 ≤ 8192
bound p b k = go (ltb k (length p)) refl
  where
    go : (t : Bool) → ltb k (length p) ≡ t → get_or p k 0 ≤ 8192
    go true e = b k (ltb-true k (length p) e)
    go false e = let z = get_or-eq_default p 0 {n = k} (ltb-false k (length p) e) in omega (arith, z)

turn_small : (p : List ℕ) → Bounded p → (a b i : ℕ) → (turn_l p a b i ≤ 201326592) × (turn_r p a b i ≤ 201326592)
unfolding turn_l turn_r
turn_small p b o a i = (
  let u = most (2 * a) (2 * i + 1) in let v = most (2 * i) (2 * o + 1) in let w = most (2 * o) (2 * a + 1) in omega (arith, u, v, w),
  let u = most (2 * a + 1) (2 * i) in let v = most (2 * i + 1) (2 * o) in let w = most (2 * o + 1) (2 * a) in omega (arith, u, v, w),
)
  where
    most : (j k : ℕ) → get_or p j 0 * get_or p k 0 ≤ 67108864
    most j k = mul-le-mul {n₁ = get_or p j 0} {m₁ = get_or p k 0} {n₂ = 8192} {m₂ = 8192} (bound p b j) (bound p b k)

-- the side of the way back
pub side-back : (p : List ℕ) → Bounded p → (a b i : ℕ) → 536870912 - side_at p a b i ≡ side_at p b a i
side-back p h a b i = let u = turn_small p h a b i in let v = turn_small p h b a i in unfold side_at turn_l turn_r in omega (arith, u, v)

module _ (p : List ℕ) where
  abbrev P : List Pt
  P = pts_of (pairs_of p)

  -- past the list's end too, where no number is left over
  module _ (even : length p ≡ 2 * many p) where
    pt-any : (i : ℕ) → pt_at P i ≡ pt_of (x_at p i, y_at p i)
    pt-any i = pt_at_lem (pairs_of p) i ∙ ap pt_of (pair-any p even i)

    cross-any : (o a b : ℕ) → cross (pt_at P o) (pt_at P a) (pt_at P b) ≡ pos (turn_l p o a b) ⊕ neg (pos (turn_r p o a b))
    unfolding turn_l turn_r
    cross-any o a b = rw (pt-any o, pt-any a, pt-any b) (cross-nat (x_at p o) (y_at p o) (x_at p a) (y_at p a) (x_at p b) (y_at p b))

    -- a turn, counted from 268,435,456
    pub side-any : Bounded p → (a b i : ℕ) → cross (pt_at P a) (pt_at P b) (pt_at P i) ≡ pos (side_at p a b i) ⊕ neg (pos 268435456)
    side-any h a b i =
        cross-any a b i
        ∙ moved-both (turn_l p a b i) (turn_r p a b i)
        ∙ ap (λ (z : ℤ). z ⊕ neg (pos 268435456)) (sub-pos (268435456 + turn_l p a b i) (turn_r p a b i) (omega (arith, (turn_small p h a b i).1)))
        ∙ unfold side_at in refl
      where
        moved-both : (l r : ℕ) → pos l ⊕ neg (pos r) ≡ (pos (268435456 + l) ⊕ neg (pos r)) ⊕ neg (pos 268435456)
        moved-both l r =
            solve (pos l ∷ pos r ∷ pos 268435456 ∷ []) (𝕧 0 :- 𝕧 1) (((𝕧 2 :+ 𝕧 0) :- 𝕧 1) :- 𝕧 2) refl ∙ unfold ◌⊕◌ neg in refl

    pub dist-any : (a b : ℕ) → d2 (pt_at P a) (pt_at P b) ≡ pos (d2_at p a b)
    unfolding d2_at
    dist-any a b = rw (pt-any a, pt-any b) (d2-nat (x_at p a) (y_at p a) (x_at p b) (y_at p b))

-- one more than a squared distance is above 0
pub apart_some : (p : List ℕ) (q : ℕ × ℕ) → 0 < apart p q
unfolding apart
apart_some p q = omega arith
