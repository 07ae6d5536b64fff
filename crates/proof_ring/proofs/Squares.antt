-- The ring's square.
--     not-outside, same_at, place-below, outer-place   a cell's position is one of the version's; that of an outer cell
--     outer-carries, inner-carries, carries-which   the cells that carry a mark
--     square-mark, square-outer, square-inner, square-rest   the square in the request's words
-- Assumes nothing.
use mathlib.Core.Path.{◌≡◌, refl, sym, ap, ◌∙◌, subst}
use mathlib.Core.Logic.{◌⊎◌, inl, inr, ⊎_elim}
use mathlib.Core.Bool.{Bool, true, false, ◌&&◌, cond}
use Prim.Native.Nat.{ℕ, ◌%◌, ◌<◌, min}
use native.Mathlib.Nat.{mod-eq_of_lt, mod-lt}
use native.Mathlib.Omega.{arith}
use lib.Dec.{eqb, leb}
use lib.IntN.{ℤ}
use borrow.Author.Tests.{eq-eqb, eqb-true}
use Rattle.laws.proofs.Bools.{and_left, and_right, both, either, falsely, or_left, or_right}
use Rattle.lcr_core.proofs.Positions.{along-at, position-outer}
use Rattle.lcr_core.specs.Border.{along_of, cell_at, coordinate, edge_of, inner_cell, inward, is_two_deep, offset_of, on_edge, outer_cell, outer_x, outer_y, position_at, shell_of}
use Rattle.lcr_core.specs.Mark.{mark}
use Rattle.lcr_core.specs.Version.{positions_of, quarter_of, side_of}
use Rattle.lcr_core.specs.declared.border.Cell.{Cell}
use Rattle.std.specs.Prelude.{Option, Some, None}
use Rattle.proof_ring.specs.Claims.{IsOuter, IsOwnInner}
use Rattle.proof_ring.specs.Picture.{carries, grey_at, grey_of, is_cell, ring_square}

-- ---- positions

pub not-outside : (p : ℕ) → ◌≡◌ {A = Option ℕ} (Some p) None → ⊥
not-outside p e = let z : ◌≡◌ {A = ℕ} 0 1 = cc in omega arith

pub same_at : (p k : ℕ) → ◌≡◌ {A = Option ℕ} (Some p) (Some k) → p ≡ k
same_at p k e = cc

pub place-below : (v : ℕ) (x y : ℤ) (p : ℕ) → position_at v x y ≡ Some p → p < positions_of v
unfolding position_at
place-below v x y p e =
    go (leb 2 (shell_of (side_of v) x y) && leb (shell_of (side_of v) x y) 3)
    (on_edge (quarter_of v) (edge_of (side_of v) x y) (min (along_of (offset_of (side_of v) x y)) (quarter_of v))) e
  where
    go : (t : Bool) (k : ℕ) → cond t (Some (k % positions_of v)) None ≡ Some p → p < positions_of v
    go true k e =
        let z : k % positions_of v ≡ p = same_at (k % positions_of v) p e in omega
        (arith, mod-lt k {m = positions_of v} (omega arith))
    go false k e = absurd (not-outside p (sym e))

-- the outer cell of p is p's
pub outer-place : (v p x y : ℕ) → p < positions_of v → x ≡ outer_x (quarter_of v) p → y ≡ outer_y (quarter_of v) p
    → position_at v (coordinate x) (coordinate y) ≡ Some p
outer-place v p x y h ex ey =
    ap (λ (k : ℕ). position_at v (coordinate k) (coordinate y)) ex
    ∙ ap (λ (k : ℕ). position_at v (coordinate (outer_x (quarter_of v) p)) (coordinate k)) ey ∙ plain
  where
    plain : position_at v (coordinate (outer_x (quarter_of v) p)) (coordinate (outer_y (quarter_of v) p)) ≡ Some p
    plain =
        unfold outer_cell in
        (subst
        (λ (k : ℕ). position_at v (coordinate (outer_x (quarter_of v) k)) (coordinate (outer_y (quarter_of v) k)) ≡ Some p)
        (mod-eq_of_lt h) (position-outer v p h))

-- ---- cells that carry a mark

is-cell : (a b x y : ℕ) → x ≡ a → y ≡ b → is_cell a b x y ≡ true
is-cell a b x y ex ey = both (eqb x a) (eqb y b) (eq-eqb x a ex) (eq-eqb y b ey)

the-cell : (a b x y : ℕ) → is_cell a b x y ≡ true → (x ≡ a) × (y ≡ b)
the-cell a b x y e = (eqb-true x a (and_left (eqb x a) (eqb y b) e), eqb-true y b (and_right (eqb x a) (eqb y b) e))

pub outer-carries : (q p x y : ℕ) → x ≡ outer_x q p → y ≡ outer_y q p → carries q p x y ≡ true
unfolding carries
outer-carries q p x y ex ey =
    or_left (is_cell (outer_x q p) (outer_y q p) x y) (is_two_deep p && is_cell (inward q (outer_x q p)) (inward q (outer_y q p)) x y)
    (is-cell (outer_x q p) (outer_y q p) x y ex ey)

pub inner-carries : (q p x y : ℕ) → is_two_deep p ≡ true → x ≡ inward q (outer_x q p) → y ≡ inward q (outer_y q p) → carries q p x y ≡ true
unfolding carries
inner-carries q p x y deep ex ey =
    or_right (is_cell (outer_x q p) (outer_y q p) x y) (is_two_deep p && is_cell (inward q (outer_x q p)) (inward q (outer_y q p)) x y)
    (both (is_two_deep p) (is_cell (inward q (outer_x q p)) (inward q (outer_y q p)) x y) deep
    (is-cell (inward q (outer_x q p)) (inward q (outer_y q p)) x y ex ey))

-- which of the two a cell that carries is
pub record InnerOf (q p x y : ℕ) : Type 0 where
  pub deep : is_two_deep p ≡ true
  pub across : x ≡ inward q (outer_x q p)
  pub down : y ≡ inward q (outer_y q p)

pub carries-which : (q p x y : ℕ) → carries q p x y ≡ true → ((x ≡ outer_x q p) × (y ≡ outer_y q p)) ⊎ InnerOf q p x y
unfolding carries
carries-which q p x y e =
    ⊎_elim (λ a. inl (the-cell (outer_x q p) (outer_y q p) x y a)) (λ b. inr (inner b))
    (either (is_cell (outer_x q p) (outer_y q p) x y) (is_two_deep p && is_cell (inward q (outer_x q p)) (inward q (outer_y q p)) x y) e)
  where
    inner : (is_two_deep p && is_cell (inward q (outer_x q p)) (inward q (outer_y q p)) x y) ≡ true → InnerOf q p x y
    inner b =
        let c = the-cell (inward q (outer_x q p)) (inward q (outer_y q p)) x y
        (and_right (is_two_deep p) (is_cell (inward q (outer_x q p)) (inward q (outer_y q p)) x y) b) in
        record {
          deep = and_left (is_two_deep p) (is_cell (inward q (outer_x q p)) (inward q (outer_y q p)) x y) b;
          across = c.0;
          down = c.1;
        }

-- ---- the square in the request's words

square-at : (v p x y : ℕ) → position_at v (coordinate x) (coordinate y) ≡ Some p → carries (quarter_of v) p x y ≡ true
    → ring_square v x y ≡ grey_of (mark v p)
unfolding ring_square grey_at
square-at v p x y e c =
    ap (λ (z : Option ℕ). grey_at v x y z) e ∙ ap (λ (t : Bool). cond t (grey_of (mark v p)) 255) c

-- the places of a position's cells, and the cells at these places
module _ (v p x y : ℕ) (h : p < positions_of v) where
  outer-places : cell_at x y ≡ outer_cell v p → (x ≡ outer_x (quarter_of v) p) × (y ≡ outer_y (quarter_of v) p)
  unfolding outer_cell
  outer-places e = (
    sym (along-at x) ∙ ap (λ (c : Cell). along_of c.x) e ∙ along-at (outer_x (quarter_of v) (p % positions_of v))
        ∙ ap (λ (k : ℕ). outer_x (quarter_of v) k) (mod-eq_of_lt h),
    sym (along-at y) ∙ ap (λ (c : Cell). along_of c.y) e ∙ along-at (outer_y (quarter_of v) (p % positions_of v))
        ∙ ap (λ (k : ℕ). outer_y (quarter_of v) k) (mod-eq_of_lt h),
  )

  inner-places : cell_at x y ≡ inner_cell v p
      → (x ≡ inward (quarter_of v) (outer_x (quarter_of v) p)) × (y ≡ inward (quarter_of v) (outer_y (quarter_of v) p))
  unfolding inner_cell
  inner-places e = (
    sym (along-at x) ∙ ap (λ (c : Cell). along_of c.x) e
        ∙ along-at (inward (quarter_of v) (outer_x (quarter_of v) (p % positions_of v)))
        ∙ ap (λ (k : ℕ). inward (quarter_of v) (outer_x (quarter_of v) k)) (mod-eq_of_lt h),
    sym (along-at y) ∙ ap (λ (c : Cell). along_of c.y) e
        ∙ along-at (inward (quarter_of v) (outer_y (quarter_of v) (p % positions_of v)))
        ∙ ap (λ (k : ℕ). inward (quarter_of v) (outer_y (quarter_of v) k)) (mod-eq_of_lt h),
  )

  outer-at : x ≡ outer_x (quarter_of v) p → y ≡ outer_y (quarter_of v) p → cell_at x y ≡ outer_cell v p
  unfolding outer_cell
  outer-at ex ey =
      ap (λ (k : ℕ). cell_at k y) ex ∙ ap (λ (k : ℕ). cell_at (outer_x (quarter_of v) p) k) ey
      ∙ sym (ap (λ (k : ℕ). cell_at (outer_x (quarter_of v) k) (outer_y (quarter_of v) k)) (mod-eq_of_lt h))

  inner-at : x ≡ inward (quarter_of v) (outer_x (quarter_of v) p) → y ≡ inward (quarter_of v) (outer_y (quarter_of v) p)
      → cell_at x y ≡ inner_cell v p
  unfolding inner_cell
  inner-at ex ey =
      ap (λ (k : ℕ). cell_at k y) ex ∙ ap (λ (k : ℕ). cell_at (inward (quarter_of v) (outer_x (quarter_of v) p)) k) ey
      ∙ sym (ap (λ (k : ℕ). cell_at (inward (quarter_of v) (outer_x (quarter_of v) k)) (inward (quarter_of v) (outer_y (quarter_of v) k)))
      (mod-eq_of_lt h))

pub square-mark : (v p : ℕ) → p < positions_of v → ring_square v (outer_x (quarter_of v) p) (outer_y (quarter_of v) p) ≡ grey_of (mark v p)
square-mark v p h = square-at v p _ _ (outer-place v p _ _ h refl refl) (outer-carries (quarter_of v) p _ _ refl refl)

pub square-outer : (v p x y : ℕ) → p < positions_of v → IsOuter v p x y → ring_square v x y ≡ grey_of (mark v p)
square-outer v p x y h o =
    let e = outer-places v p x y h o.is in
    square-at v p x y (outer-place v p x y h e.0 e.1) (outer-carries (quarter_of v) p x y e.0 e.1)

pub square-inner : (v p x y : ℕ) → p < positions_of v → IsOwnInner v p x y → ring_square v x y ≡ grey_of (mark v p)
square-inner v p x y h o =
    let e = inner-places v p x y h o.is in
    square-at v p x y o.back (inner-carries (quarter_of v) p x y o.reference e.0 e.1)

pub square-rest : (v x y : ℕ) → ((p : ℕ) → p < positions_of v → IsOuter v p x y → ⊥) → ((p : ℕ) → p < positions_of v → IsOwnInner v p x y → ⊥)
    → ring_square v x y ≡ 255
unfolding ring_square grey_at
square-rest v x y no_outer no_inner = go (position_at v (coordinate x) (coordinate y)) refl
  where
    none : (p : ℕ) → position_at v (coordinate x) (coordinate y) ≡ Some p → carries (quarter_of v) p x y ≡ true → ⊥
    none p e c =
        let h = place-below v (coordinate x) (coordinate y) p e in
        ⊎_elim (λ a. no_outer p h (record { is = outer-at v p x y h a.0 a.1 }))
        (λ b. no_inner p h (record { is = inner-at v p x y h b.across b.down; reference = b.deep; back = e }))
        (carries-which (quarter_of v) p x y c)

    go : (z : Option ℕ) → position_at v (coordinate x) (coordinate y) ≡ z → grey_at v x y z ≡ 255
    go None e = refl
    go (Some p) e = ap (λ (t : Bool). cond t (grey_of (mark v p)) 255) (falsely (carries (quarter_of v) p x y) (none p e))
