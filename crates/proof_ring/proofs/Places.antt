-- Coordinates of cells and their places, as the machine reads them, and what the functions over cells give.
--     coordinate-range, coordinate-asked   a coordinate as the machine reads it back: what is asked of it
--     outer-fits, inner-fits               the places of the outer and the inner cell are in the square
--     outer-cell-is, inner-cell-is, spot_is   the cell of a position, and its spot
--     own-yes, own-outside, own-shallow    whether the inner cell carries its mark
-- Assumes nothing.
use mathlib.Core.Path.{◌≡◌, refl, sym, ap, ◌∙◌, subst}
use mathlib.Core.Bool.{Bool, true, false, ◌&&◌, cond}
use Prim.Native.Nat.{ℕ, suc, ◌-◌, ◌<◌, ◌≤◌}
use native.Mathlib.Nat.{mod-eq_of_lt}
use native.Mathlib.Omega.{arith}
use lib.Dec.{eqb, ltb}
use lib.IntN.{ℤ, pos, negsuc}
use borrow.Author.Tests.{ltb-false, ltb-true}
use mir.Syntax.{w32}
use mir.Val.{of_z, to_z}
use Rattle.lcr_core.proofs.Positions.{along-at}
use Rattle.lcr_core.proofs.Round.{outer-within}
use Rattle.lcr_core.proofs.Signed.{low-range, read}
use Rattle.lcr_core.specs.Border.{InRange, along_of, coordinate, depth_of, inner_cell, inward, is_two_deep, outer_cell, outer_x, outer_y, position_at}
use Rattle.lcr_core.specs.Version.{IsVersion, positions_of, quarter_of}
use Rattle.lcr_core.specs.declared.border.Cell.{Cell}
use Rattle.std.specs.Prelude.{Option, Some, None}
use Rattle.proof_ring.specs.Inner.{inner_spot, is_place_at, outer_spot, own_inner}
use Rattle.proof_ring.specs.declared.cells.Spot.{Spot}
use Rattle.proof_ring.proofs.Turning.{Within}

-- ---- one coordinate

depth_low : (k : ℕ) → k < 4096 → depth_of 4096 (coordinate k) ≤ 3
depth_low k h = go (ltb k 3) refl
  where
    go : (b : Bool) → ltb k 3 ≡ b → depth_of 4096 (cond b (negsuc (3 - suc k)) (pos (k - 3))) ≤ 3
    go true e = let l : k < 3 = ltb-true k 3 e in omega arith
    go false e = let l : 3 ≤ k = ltb-false k 3 e in omega arith

module _ (k : ℕ) (z : ℤ) (h : k < 4096) (e : z ≡ coordinate k) where
  in-range : InRange z
  in-range = subst InRange (sym e) (low-range k h)

  as_read : to_z w32 (of_z w32 z) ≡ coordinate k
  as_read = read z in-range ∙ e

  pub coordinate-range : InRange (to_z w32 (of_z w32 z))
  coordinate-range = subst InRange (sym as_read) (low-range k h)

  pub coordinate-asked : InRange (to_z w32 (of_z w32 z)) × (depth_of 4096 (to_z w32 (of_z w32 z)) ≤ 3)
  coordinate-asked = (coordinate-range, subst (λ (y : ℤ). depth_of 4096 y ≤ 3) (sym as_read) (depth_low k h))

  coordinate-given : (r : ℕ) → r ≡ along_of (to_z w32 (of_z w32 z)) → r ≡ k
  coordinate-given r er = er ∙ ap along_of as_read ∙ along-at k

-- ---- cells

-- a cell is at places a and b, both below 4,096
pub record CellIs (cell : Cell) (a b : ℕ) : Type 0 where
  pub across : cell.x ≡ coordinate a
  pub down : cell.y ≡ coordinate b
  pub wide : a < 4096
  pub high : b < 4096

inward-within : (q k : ℕ) → 1 ≤ q → k ≤ q → inward q k ≤ q
inward-within q k some h = go (eqb k 0) (eqb k q)
  where
    go : (a b : Bool) → cond a 1 (cond b (q - 1) k) ≤ q
    go true b = omega arith
    go false true = omega arith
    go false false = omega arith

module _ (v p : ℕ) (is : IsVersion v) (h : p < positions_of v) where
  pub outer-fits : Within (quarter_of v) (outer_spot v p)
  outer-fits = let w = outer-within (quarter_of v) (omega arith) p (omega arith) in record { across = w.0; down = w.1 }

  pub inner-fits : Within (quarter_of v) (inner_spot v p)
  inner-fits = record {
    across = inward-within (quarter_of v) (outer_x (quarter_of v) p) (omega arith) outer-fits.across;
    down = inward-within (quarter_of v) (outer_y (quarter_of v) p) (omega arith) outer-fits.down;
  }

  pub outer-cell-is : (cell : Cell) → cell ≡ outer_cell v p → CellIs cell (outer_spot v p).x (outer_spot v p).y
  unfolding outer_cell
  outer-cell-is cell e = record {
    across = ap (λ (c : Cell). c.x) e ∙ ap (λ (k : ℕ). coordinate (outer_x (quarter_of v) k)) (mod-eq_of_lt h);
    down = ap (λ (c : Cell). c.y) e ∙ ap (λ (k : ℕ). coordinate (outer_y (quarter_of v) k)) (mod-eq_of_lt h);
    wide = omega (arith, outer-fits.across, is.greatest);
    high = omega (arith, outer-fits.down, is.greatest);
  }

  pub inner-cell-is : (cell : Cell) → cell ≡ inner_cell v p → CellIs cell (inner_spot v p).x (inner_spot v p).y
  unfolding inner_cell
  inner-cell-is cell e = record {
    across = ap (λ (c : Cell). c.x) e ∙ ap (λ (k : ℕ). coordinate (inward (quarter_of v) (outer_x (quarter_of v) k))) (mod-eq_of_lt h);
    down = ap (λ (c : Cell). c.y) e ∙ ap (λ (k : ℕ). coordinate (inward (quarter_of v) (outer_y (quarter_of v) k))) (mod-eq_of_lt h);
    wide = omega (arith, inner-fits.across, is.greatest);
    high = omega (arith, inner-fits.down, is.greatest);
  }

-- the spot made of a cell's places
pub spot_is : (cell : Cell) (s : Spot) (rx ry : ℕ) → CellIs cell s.x s.y → rx ≡ along_of (to_z w32 (of_z w32 cell.x))
    → ry ≡ along_of (to_z w32 (of_z w32 cell.y)) → ◌≡◌ {A = Spot} (record { x = rx; y = ry }) s
spot_is cell s rx ry c ex ey =
    ap (λ (k : ℕ). record { x = k; y = ry }) (coordinate-given s.x cell.x c.wide c.across rx ex)
    ∙ ap (λ (k : ℕ). record { x = s.x; y = k }) (coordinate-given s.y cell.y c.high c.down ry ey)

-- ---- inner cells that carry the mark

module _ (v p : ℕ) (cell : Cell) (c : CellIs cell (inner_spot v p).x (inner_spot v p).y) (place : Option ℕ)
    (found : place ≡ position_at v (to_z w32 (of_z w32 cell.x)) (to_z w32 (of_z w32 cell.y))) (deep : is_two_deep p ≡ true) where
  place_is : position_at v (coordinate (inner_spot v p).x) (coordinate (inner_spot v p).y) ≡ place
  place_is =
      sym (found
      ∙ ap (λ (z : ℤ). position_at v z (to_z w32 (of_z w32 cell.y))) (as_read (inner_spot v p).x cell.x c.wide c.across)
      ∙ ap (λ (z : ℤ). position_at v (coordinate (inner_spot v p).x) z) (as_read (inner_spot v p).y cell.y c.high c.down))

  own-by : is_place_at p place ≡ own_inner v p
  unfolding own_inner
  own-by =
      sym (ap (λ (t : Bool). t && is_place_at p (position_at v (coordinate (inner_spot v p).x) (coordinate (inner_spot v p).y))) deep
      ∙ ap (λ (s : Option ℕ). is_place_at p s) place_is)

  pub own-yes : (k : ℕ) → place ≡ Some k → eqb k p ≡ own_inner v p
  own-yes k e = sym (ap (λ (s : Option ℕ). is_place_at p s) e) ∙ own-by

  pub own-outside : place ≡ None → false ≡ own_inner v p
  own-outside e = sym (ap (λ (s : Option ℕ). is_place_at p s) e) ∙ own-by

pub own-shallow : (v p : ℕ) → is_two_deep p ≡ false → false ≡ own_inner v p
unfolding own_inner
own-shallow v p e =
    sym (ap (λ (t : Bool). t && is_place_at p (position_at v (coordinate (inner_spot v p).x) (coordinate (inner_spot v p).y))) e)
