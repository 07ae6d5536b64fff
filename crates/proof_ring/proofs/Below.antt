-- The square with the marks of the positions below k.
--     below_none, below_next, below_all   no position painted yet; one more; all
-- Assumes nothing.
use mathlib.Core.Path.{◌≡◌, refl, sym, ap, ◌∙◌}
use mathlib.Core.Logic.{◌⊎◌, inl, inr, ⊎_elim}
use mathlib.Core.Bool.{Bool, true, false, ◌&&◌, cond}
use Prim.Native.Nat.{ℕ, ◌+◌, ◌<◌}
use native.Mathlib.Decide.{ℕ_discrete}
use native.Mathlib.Omega.{arith}
use lib.Dec.{ltb}
use borrow.Author.Tests.{eq-eqb, eqb-true, le-ltb, lt-ltb, ltb-false, ltb-true}
use Rattle.laws.proofs.Bools.{and_left, and_right, both, clash, which}
use Rattle.laws.specs.Plane.{Plane}
use Rattle.lcr_core.specs.Border.{coordinate, is_two_deep, outer_x, outer_y, position_at}
use Rattle.lcr_core.specs.Mark.{mark}
use Rattle.lcr_core.specs.Version.{positions_of, quarter_of}
use Rattle.std.specs.Prelude.{Option, Some, None}
use Rattle.proof_ring.specs.Inner.{dark_at, dark_if, dark_unless, grey_below, inner_spot, is_place_at, outer_spot, own_inner, square_below}
use Rattle.proof_ring.specs.Picture.{carries, grey_at, grey_of, ring_square}
use Rattle.proof_ring.proofs.Boxes.{Hit, dark-in, dark-out}
use Rattle.proof_ring.proofs.Squares.{InnerOf, carries-which, inner-carries, not-outside, outer-carries, outer-place, place-below, same_at}

-- ---- position by position

below_at : (v k x y p : ℕ) → position_at v (coordinate x) (coordinate y) ≡ Some p
    → square_below v k x y ≡ cond (ltb p k && carries (quarter_of v) p x y) (grey_of (mark v p)) 255
unfolding square_below grey_below
below_at v k x y p e = ap (λ (z : Option ℕ). grey_below v k x y z) e

below-outside : (v k x y : ℕ) → position_at v (coordinate x) (coordinate y) ≡ None → square_below v k x y ≡ 255
unfolding square_below grey_below
below-outside v k x y e = ap (λ (z : Option ℕ). grey_below v k x y z) e

pub below_none : (v x y : ℕ) → square_below v 0 x y ≡ 255
below_none v x y = go (position_at v (coordinate x) (coordinate y)) refl
  where
    go : (z : Option ℕ) → position_at v (coordinate x) (coordinate y) ≡ z → square_below v 0 x y ≡ 255
    go None e = below-outside v 0 x y e
    go (Some p) e =
        below_at v 0 x y p e ∙ ap (λ (t : Bool). cond (t && carries (quarter_of v) p x y) (grey_of (mark v p)) 255) (le-ltb p 0 (omega arith))

pub below_all : (v x y : ℕ) → square_below v (positions_of v) x y ≡ ring_square v x y
unfolding ring_square grey_at
below_all v x y = go (position_at v (coordinate x) (coordinate y)) refl
  where
    go : (z : Option ℕ) → position_at v (coordinate x) (coordinate y) ≡ z → square_below v (positions_of v) x y ≡ grey_at v x y z
    go None e = below-outside v (positions_of v) x y e
    go (Some p) e =
        below_at v (positions_of v) x y p e
        ∙ ap (λ (t : Bool). cond (t && carries (quarter_of v) p x y) (grey_of (mark v p)) 255)
        (lt-ltb p (positions_of v) (place-below v (coordinate x) (coordinate y) p e))

module _ (v k : ℕ) (h : k < positions_of v) (x y : ℕ) where
  -- a cell that is made dark is k's
  hit-outer : Hit true (outer_spot v k) x y → position_at v (coordinate x) (coordinate y) ≡ Some k
  hit-outer i = outer-place v k x y h i.across i.down

  place_at : (z : Option ℕ) → is_place_at k z ≡ true → z ≡ Some k
  place_at (Some p) e = ap Some (eqb-true p k e)
  place_at None e = absurd (let q : ◌≡◌ {A = ℕ} 0 1 = cc in omega arith)

  at_place : (z : Option ℕ) → z ≡ Some k → is_place_at k z ≡ true
  at_place z e = ap (λ (s : Option ℕ). is_place_at k s) e ∙ eq-eqb k k refl

  own-deep : own_inner v k ≡ true → is_two_deep k ≡ true
  unfolding own_inner
  own-deep e =
      and_left (is_two_deep k) (is_place_at k (position_at v (coordinate (inner_spot v k).x) (coordinate (inner_spot v k).y))) e

  own_back : own_inner v k ≡ true → position_at v (coordinate (inner_spot v k).x) (coordinate (inner_spot v k).y) ≡ Some k
  unfolding own_inner
  own_back e =
      place_at (position_at v (coordinate (inner_spot v k).x) (coordinate (inner_spot v k).y))
      (and_right (is_two_deep k) (is_place_at k (position_at v (coordinate (inner_spot v k).x) (coordinate (inner_spot v k).y))) e)

  own_is : is_two_deep k ≡ true → position_at v (coordinate (inner_spot v k).x) (coordinate (inner_spot v k).y) ≡ Some k → own_inner v k ≡ true
  unfolding own_inner
  own_is deep e =
      both (is_two_deep k) (is_place_at k (position_at v (coordinate (inner_spot v k).x) (coordinate (inner_spot v k).y))) deep
      (at_place (position_at v (coordinate (inner_spot v k).x) (coordinate (inner_spot v k).y)) e)

  moved-place : x ≡ (inner_spot v k).x → y ≡ (inner_spot v k).y
      → position_at v (coordinate x) (coordinate y) ≡ position_at v (coordinate (inner_spot v k).x) (coordinate (inner_spot v k).y)
  moved-place ex ey =
      ap (λ (i : ℕ). position_at v (coordinate i) (coordinate y)) ex
      ∙ ap (λ (i : ℕ). position_at v (coordinate (inner_spot v k).x) (coordinate i)) ey

  hit-inner : Hit (own_inner v k) (inner_spot v k) x y → position_at v (coordinate x) (coordinate y) ≡ Some k
  hit-inner i = moved-place i.across i.down ∙ own_back i.test

  -- where the cell is not k's, nothing is made dark
  unmarked : (g : Plane) → (position_at v (coordinate x) (coordinate y) ≡ Some k → ⊥) → dark_at v k g x y ≡ g x y
  unmarked g other =
      dark-out (own_inner v k) (inner_spot v k) (dark_if true (outer_spot v k) g) x y (λ i. other (hit-inner i))
      ∙ dark-out true (outer_spot v k) g x y (λ i. other (hit-outer i))

  -- a cell of k's that carries its mark is
  marked : (g : Plane) → position_at v (coordinate x) (coordinate y) ≡ Some k → carries (quarter_of v) k x y ≡ true → dark_at v k g x y ≡ 0
  marked g e c = ⊎_elim outer inner (carries-which (quarter_of v) k x y c)
    where
      one : dark_if true (outer_spot v k) g x y ≡ 0 → dark_at v k g x y ≡ 0
      one z = ⊎_elim
          (λ t. go (which-hit t))
          (λ f. dark-out (own_inner v k) (inner_spot v k) (dark_if true (outer_spot v k) g) x y (λ i. clash i.test f) ∙ z)
          (which (own_inner v k))
        where
          which-hit : own_inner v k ≡ true → (Hit (own_inner v k) (inner_spot v k) x y) ⊎ (Hit (own_inner v k) (inner_spot v k) x y → ⊥)
          which-hit t = pick (ℕ_discrete x (inner_spot v k).x) (ℕ_discrete y (inner_spot v k).y)
            where
              pick : Dec (x ≡ (inner_spot v k).x) → Dec (y ≡ (inner_spot v k).y)
                  → (Hit (own_inner v k) (inner_spot v k) x y) ⊎ (Hit (own_inner v k) (inner_spot v k) x y → ⊥)
              pick (yes a) (yes b) = inl (record { test = t; across = a; down = b })
              pick (no a) b = inr (λ i. a i.across)
              pick (yes a) (no b) = inr (λ i. b i.down)

          go : (Hit (own_inner v k) (inner_spot v k) x y) ⊎ (Hit (own_inner v k) (inner_spot v k) x y → ⊥) → dark_at v k g x y ≡ 0
          go (inl i) = dark-in (own_inner v k) (inner_spot v k) (dark_if true (outer_spot v k) g) x y i
          go (inr off) = dark-out (own_inner v k) (inner_spot v k) (dark_if true (outer_spot v k) g) x y off ∙ z

      outer : (x ≡ outer_x (quarter_of v) k) × (y ≡ outer_y (quarter_of v) k) → dark_at v k g x y ≡ 0
      outer a = one (dark-in true (outer_spot v k) g x y (record { test = refl; across = a.0; down = a.1 }))

      inner : InnerOf (quarter_of v) k x y → dark_at v k g x y ≡ 0
      inner b =
          dark-in (own_inner v k) (inner_spot v k) (dark_if true (outer_spot v k) g) x y
          (record { test = own_is b.deep (sym (moved-place b.across b.down) ∙ e); across = b.across; down = b.down })

  -- a cell of k's that does not carry it is not
  uncarried : (g : Plane) → (carries (quarter_of v) k x y ≡ true → ⊥) → dark_at v k g x y ≡ g x y
  uncarried g off =
      dark-out (own_inner v k) (inner_spot v k) (dark_if true (outer_spot v k) g) x y
      (λ i. off (inner-carries (quarter_of v) k x y (own-deep i.test) i.across i.down))
      ∙ dark-out true (outer_spot v k) g x y (λ i. off (outer-carries (quarter_of v) k x y i.across i.down))

  -- below k and below k + 1 are the same but for k
  same_test : (p : ℕ) → (p ≡ k → ⊥) → ltb p (k + 1) ≡ ltb p k
  same_test p ne = ⊎_elim
      (λ t. lt-ltb p (k + 1) (omega (arith, ltb-true p k t)) ∙ sym t)
      (λ f. le-ltb p (k + 1) (omega (arith, ne, ltb-false p k f)) ∙ sym f)
      (which (ltb p k))

  pub below_next : (light : Bool) → light ≡ mark v k → square_below v (k + 1) x y ≡ dark_unless light v k (square_below v k) x y
  below_next light el = go (position_at v (coordinate x) (coordinate y)) refl light el
    where
      later : (p : ℕ) → (p ≡ k → ⊥) → position_at v (coordinate x) (coordinate y) ≡ Some p → square_below v (k + 1) x y ≡ square_below v k x y
      later p ne e =
          below_at v (k + 1) x y p e
          ∙ ap (λ (t : Bool). cond (t && carries (quarter_of v) p x y) (grey_of (mark v p)) 255) (same_test p ne)
          ∙ sym (below_at v k x y p e)

      -- k itself: nothing before, its mark after
      before : position_at v (coordinate x) (coordinate y) ≡ Some k → square_below v k x y ≡ 255
      before e =
          below_at v k x y k e ∙ ap (λ (t : Bool). cond (t && carries (quarter_of v) k x y) (grey_of (mark v k)) 255)
          (le-ltb k k (omega arith))

      after : (light : Bool) → light ≡ mark v k → position_at v (coordinate x) (coordinate y) ≡ Some k
          → square_below v (k + 1) x y ≡ cond (carries (quarter_of v) k x y) (grey_of light) 255
      after light el e =
          below_at v (k + 1) x y k e
          ∙ ap (λ (t : Bool). cond (t && carries (quarter_of v) k x y) (grey_of (mark v k)) 255) (lt-ltb k (k + 1) (omega arith))
          ∙ ap (λ (t : Bool). cond (carries (quarter_of v) k x y) (grey_of t) 255) (sym el)

      white : (t : Bool) → ◌≡◌ {A = ℕ} (cond t 255 255) 255
      white true = refl
      white false = refl

      own : (light : Bool) → light ≡ mark v k → position_at v (coordinate x) (coordinate y) ≡ Some k
          → square_below v (k + 1) x y ≡ dark_unless light v k (square_below v k) x y
      own true el e = unfold dark_unless in (after true el e ∙ white (carries (quarter_of v) k x y) ∙ sym (before e))
      own false el e = unfold dark_unless in (after false el e ∙ dark (carries (quarter_of v) k x y) refl)
        where
          dark : (t : Bool) → carries (quarter_of v) k x y ≡ t → cond t 0 255 ≡ dark_at v k (square_below v k) x y
          dark true c = sym (marked (square_below v k) e c)
          dark false c = sym (uncarried (square_below v k) (λ t. clash t c) ∙ before e)

      rest : (light : Bool) → (position_at v (coordinate x) (coordinate y) ≡ Some k → ⊥) → square_below v (k + 1) x y ≡ square_below v k x y
          → square_below v (k + 1) x y ≡ dark_unless light v k (square_below v k) x y
      rest true other e = unfold dark_unless in e
      rest false other e = unfold dark_unless in (e ∙ sym (unmarked (square_below v k) other))

      go : (z : Option ℕ) → position_at v (coordinate x) (coordinate y) ≡ z → (light : Bool) → light ≡ mark v k
          → square_below v (k + 1) x y ≡ dark_unless light v k (square_below v k) x y
      go None e light el =
          rest light (λ a. not-outside k (sym a ∙ e)) (below-outside v (k + 1) x y e ∙ sym (below-outside v k x y e))
      go (Some p) e light el = pick (ℕ_discrete p k)
        where
          pick : Dec (p ≡ k) → square_below v (k + 1) x y ≡ dark_unless light v k (square_below v k) x y
          pick (yes same) = own light el (e ∙ ap Some same)
          pick (no ne) = rest light (λ a. ne (same_at p k (sym e ∙ a))) (later p ne e)
