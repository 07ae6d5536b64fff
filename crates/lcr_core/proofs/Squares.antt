-- Outer cells are the border of the outer square: each lies on it (`on-square`), each cell of it is one (`from-square`), and no two
-- positions have one (`outer-once`).
--     each lies on the border: on-square
--     each cell of the border is one: from-square
--     no two positions have one: outer-once
-- Assumes nothing.
use mathlib.Core.Path.{◌≡◌, refl, sym, ap, ◌∙◌}
use mathlib.Core.Bool.{Bool, true, false, ◌||◌}
use Prim.Native.Nat.{ℕ, ◌+◌, ◌*◌, ◌-◌, ◌<◌, ◌≤◌}
use native.Mathlib.Omega.{arith}
use native.Mathlib.Nat.{mod-eq_of_lt}
use lib.Dec.{leb, eqb}
use borrow.Author.Tests.{leb-true, leb-false, eqb-true, eqb-false, eq-eqb}
use Rattle.laws.proofs.Bools.{or_left, or_right}
use Rattle.lcr_core.specs.Version.{quarter_of, positions_of}
use Rattle.lcr_core.specs.Border.{position_at, outer_x, outer_y, outer_cell, cell_at}
use Rattle.lcr_core.specs.Claims.{OnSquare}
use Rattle.lcr_core.specs.declared.border.Cell.{Cell}
use Rattle.std.specs.Prelude.{Option, Some}
use Rattle.lcr_core.proofs.Cells.{outer-x-1, outer-x-2, outer-x-3, outer-x-4, outer-y-1, outer-y-2, outer-y-3, outer-y-4}
use Rattle.lcr_core.proofs.Positions.{position-outer}

-- the outer cell by its places
outer-by : (v p x y : ℕ) → p < positions_of v → x ≡ outer_x (quarter_of v) p → y ≡ outer_y (quarter_of v) p → outer_cell v p ≡ cell_at x y
unfolding outer_cell
outer-by v p x y h ex ey = rw (mod-eq_of_lt h, ← ex, ← ey)

-- ---- each lies on the border

pub on-square : (v p : ℕ) → p < positions_of v → OnSquare v (outer_cell v p)
on-square v p h = go (leb p q) refl (leb p (2 * q)) refl (leb p (3 * q)) refl
  where
    q : ℕ
    q = quarter_of v

    edge : (a b c d : Bool) → d ≡ true → ((a || b) || (c || d)) ≡ true
    edge a b c d e = or_right (a || b) (c || d) (or_right c d e)

    go : (a : Bool) → leb p (quarter_of v) ≡ a → (b : Bool) → leb p (2 * quarter_of v) ≡ b → (c : Bool) → leb p (3 * quarter_of v) ≡ c
        → OnSquare v (outer_cell v p)
    go true ea b eb c ec =
        let l : p ≤ quarter_of v = leb-true p (quarter_of v) ea in
        record {
          across = p;
          down = 0;
          is = outer-by v p p 0 h (outer-x-1 (quarter_of v) p l) (outer-y-1 (quarter_of v) p l);
          wide = l;
          high = omega arith;
          edge = or_right (eqb p 0 || eqb p (quarter_of v)) (eqb 0 0 || eqb 0 (quarter_of v)) (or_left (eqb 0 0) (eqb 0 (quarter_of v)) refl);
        }
    go false ea true eb c ec =
        let g : quarter_of v < p = leb-false p (quarter_of v) ea in
        let l : p ≤ 2 * quarter_of v = leb-true p (2 * quarter_of v) eb in
        record {
          across = quarter_of v;
          down = p - quarter_of v;
          is = outer-by v p (quarter_of v) (p - quarter_of v) h (outer-x-2 (quarter_of v) p g l) (outer-y-2 (quarter_of v) p g l);
          wide = omega arith;
          high = omega arith;
          edge = or_left (eqb (quarter_of v) 0 || eqb (quarter_of v) (quarter_of v))
              (eqb (p - quarter_of v) 0 || eqb (p - quarter_of v) (quarter_of v))
              (or_right (eqb (quarter_of v) 0) (eqb (quarter_of v) (quarter_of v)) (eq-eqb (quarter_of v) (quarter_of v) refl));
        }
    go false ea false eb true ec =
        let g : 2 * quarter_of v < p = leb-false p (2 * quarter_of v) eb in
        let l : p ≤ 3 * quarter_of v = leb-true p (3 * quarter_of v) ec in
        record {
          across = 3 * quarter_of v - p;
          down = quarter_of v;
          is = outer-by v p (3 * quarter_of v - p) (quarter_of v) h (outer-x-3 (quarter_of v) p g l) (outer-y-3 (quarter_of v) p g l);
          wide = omega arith;
          high = omega arith;
          edge = edge (eqb (3 * quarter_of v - p) 0) (eqb (3 * quarter_of v - p) (quarter_of v)) (eqb (quarter_of v) 0)
              (eqb (quarter_of v) (quarter_of v)) (eq-eqb (quarter_of v) (quarter_of v) refl);
        }
    go false ea false eb false ec =
        let g : 3 * quarter_of v < p = leb-false p (3 * quarter_of v) ec in
        record {
          across = 0;
          down = 4 * quarter_of v - p;
          is = outer-by v p 0 (4 * quarter_of v - p) h (outer-x-4 (quarter_of v) p g) (outer-y-4 (quarter_of v) p g);
          wide = omega arith;
          high = omega arith;
          edge = or_left (eqb 0 0 || eqb 0 (quarter_of v)) (eqb (4 * quarter_of v - p) 0 || eqb (4 * quarter_of v - p) (quarter_of v))
              (or_left (eqb 0 0) (eqb 0 (quarter_of v)) refl);
        }

-- ---- each cell of the border is one

pub from-square : (v : ℕ) (cell : Cell) → OnSquare v cell → (p : ℕ) × (p < positions_of v) × (outer_cell v p ≡ cell)
from-square v cell s = go (eqb y 0) refl (eqb x (quarter_of v)) refl (eqb y (quarter_of v)) refl (eqb x 0) refl s.edge
  where
    x : ℕ
    x = s.across

    y : ℕ
    y = s.down

    found : (p : ℕ) → p < positions_of v → s.across ≡ outer_x (quarter_of v) p → s.down ≡ outer_y (quarter_of v) p
        → (p : ℕ) × (p < positions_of v) × (outer_cell v p ≡ cell)
    found p h ex ey = (p, h, outer-by v p s.across s.down h ex ey ∙ sym s.is)

    go : (a : Bool) → eqb s.down 0 ≡ a → (b : Bool) → eqb s.across (quarter_of v) ≡ b → (c : Bool) → eqb s.down (quarter_of v) ≡ c
        → (d : Bool) → eqb s.across 0 ≡ d → ((d || b) || (a || c)) ≡ true → (p : ℕ) × (p < positions_of v) × (outer_cell v p ≡ cell)
    go true ea b eb c ec d ed t =
        let w = s.wide in
        let z : s.down ≡ 0 = eqb-true s.down 0 ea in
        found s.across (omega arith) (outer-x-1 (quarter_of v) s.across w) (z ∙ outer-y-1 (quarter_of v) s.across w)
    go false ea true eb c ec d ed t =
        let h = s.high in
        let n : (s.down ≡ 0 → ⊥) = eqb-false s.down 0 ea in
        let z : s.across ≡ quarter_of v = eqb-true s.across (quarter_of v) eb in
        let k : s.down ≡ quarter_of v + s.down - quarter_of v = omega arith in
        found (quarter_of v + s.down) (omega arith) (z ∙ outer-x-2 (quarter_of v) (quarter_of v + s.down) (omega arith) (omega arith))
        (k ∙ outer-y-2 (quarter_of v) (quarter_of v + s.down) (omega arith) (omega arith))
    go false ea false eb true ec d ed t =
        let w = s.wide in
        let n : (s.across ≡ quarter_of v → ⊥) = eqb-false s.across (quarter_of v) eb in
        let z : s.down ≡ quarter_of v = eqb-true s.down (quarter_of v) ec in
        let k : s.across ≡ 3 * quarter_of v - (3 * quarter_of v - s.across) = omega arith in
        found (3 * quarter_of v - s.across) (omega arith)
        (k ∙ outer-x-3 (quarter_of v) (3 * quarter_of v - s.across) (omega arith) (omega arith))
        (z ∙ outer-y-3 (quarter_of v) (3 * quarter_of v - s.across) (omega arith) (omega arith))
    go false ea false eb false ec true ed t =
        let h = s.high in
        let n : (s.down ≡ 0 → ⊥) = eqb-false s.down 0 ea in
        let m : (s.down ≡ quarter_of v → ⊥) = eqb-false s.down (quarter_of v) ec in
        let z : s.across ≡ 0 = eqb-true s.across 0 ed in
        let k : s.down ≡ 4 * quarter_of v - (4 * quarter_of v - s.down) = omega arith in
        found (4 * quarter_of v - s.down) (omega arith) (z ∙ outer-x-4 (quarter_of v) (4 * quarter_of v - s.down) (omega arith))
        (k ∙ outer-y-4 (quarter_of v) (4 * quarter_of v - s.down) (omega arith))
    go false ea false eb false ec false ed t = let z : ◌≡◌ {A = ℕ} 0 1 = cc in absurd (omega arith)

-- ---- no two positions have one

pub outer-once : (v p r : ℕ) → p < positions_of v → r < positions_of v → outer_cell v p ≡ outer_cell v r → p ≡ r
outer-once v p r hp hr e =
    let z : ◌≡◌ {A = Option ℕ} (Some p) (Some r) =
    sym (position-outer v p hp) ∙ ap (λ (c : Cell). position_at v c.x c.y) e ∙ position-outer v r hr in
    cc
