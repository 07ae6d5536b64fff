-- The loop over the cells that makes the box of a label, with the cell's column and row counted beside it (Spanning), and the region of a
-- label from its box. Assumes nothing.
use Rattle.regions.specs.declared.answer.Region.{Region}
use mathlib.Core.Bool.{false, true}
use mathlib.Core.List.{List}
use mathlib.Core.Logic.{◌⊎◌, inl, inr}
use mathlib.Core.Path.{◌≡◌, refl}
use Prim.Native.Nat.{◌*◌, ◌+◌, ◌<◌, ◌≤◌, min, suc, ℕ}
use native.Mathlib.Nat.{div-lt_iff_lt-mul, mod-lt}
use native.Mathlib.Omega.{arith}
use lib.Dec.{eqb}
use lib.ListN.{get_or, length}
use Rattle.laws.proofs.Bools.{which}
use Rattle.laws.proofs.Planes.{next_row, place-col, place-row, zero-place}
use Rattle.regions.proofs.Boxes.{highest-le, highest-no, highest-yes, lowest-le, lowest-no, lowest-yes}
use Rattle.regions.specs.Boxes.{highest, lowest}
use Rattle.regions.specs.Inner.{LabelBoxed, Grown, BoxSmall, cell_column, has, region_in, cell_row, size_in}

module _ (labels : List ℕ) (l w h : ℕ) where
  boxed-begin : LabelBoxed labels l w h 0 w h 0 0
  unfolding lowest highest
  boxed-begin = record { left = refl; top = refl; right = refl; bottom = refl }

  boxed-turn : {k x y x₀ y₀ x₁ y₁ x₀' y₀' x₁' y₁' : ℕ} → cell_column w k ≡ x → cell_row w k ≡ y → LabelBoxed labels l w h k x₀ y₀ x₁ y₁
      → Grown (eqb (get_or labels k 0) l) x y x₀ y₀ x₁ y₁ x₀' y₀' x₁' y₁' → LabelBoxed labels l w h (k + 1) x₀' y₀' x₁' y₁'
  unfolding has
  boxed-turn {k} {x} {y} {x₀' = a} {y₀' = b} {x₁' = c} {y₁' = d} ex ey q g = go (which (eqb (get_or labels k 0) l))
    where
      go : (eqb (get_or labels k 0) l ≡ true) ⊎ (eqb (get_or labels k 0) l ≡ false) → LabelBoxed labels l w h (k + 1) a b c d
      go (inl t) =
          let f = g.yes t in
          record {
            left = omega (arith, f.0, q.left, ex, lowest-yes (has labels l) (cell_column w) w k t);
            top = omega (arith, f.1, q.top, ey, lowest-yes (has labels l) (cell_row w) h k t);
            right = omega (arith, f.2, q.right, ex, highest-yes (has labels l) (cell_column w) k t);
            bottom = omega (arith, f.3, q.bottom, ey, highest-yes (has labels l) (cell_row w) k t);
          }
      go (inr t) =
          let f = g.no t in
          record {
            left = omega (arith, f.0, q.left, lowest-no (has labels l) (cell_column w) w k t);
            top = omega (arith, f.1, q.top, lowest-no (has labels l) (cell_row w) h k t);
            right = omega (arith, f.2, q.right, highest-no (has labels l) (cell_column w) k t);
            bottom = omega (arith, f.3, q.bottom, highest-no (has labels l) (cell_row w) k t);
          }

  pub boxed-small : {k x₀ y₀ x₁ y₁ : ℕ} → 0 < w → k ≤ h * w → LabelBoxed labels l w h k x₀ y₀ x₁ y₁ → BoxSmall w h x₀ y₀ x₁ y₁
  unfolding cell_column cell_row
  boxed-small {k} some below q = record {
    left = omega (arith, q.left, lowest-le (has labels l) (cell_column w) w k);
    top = omega (arith, q.top, lowest-le (has labels l) (cell_row w) h k);
    right = omega (arith, q.right, highest-le (has labels l) (cell_column w) w k (λ c d. mod-lt c some));
    bottom = omega (arith, q.bottom, highest-le (has labels l) (cell_row w) h k (λ c d. (div-lt_iff_lt-mul some).1 (omega arith)));
  }

-- The box of the first k cells, of which k is in column x and row y.
pub record Spanning (labels : List ℕ) (l w h k x y x₀ y₀ x₁ y₁ : ℕ) : Type 0 where
  pub upto : k ≤ length labels
  pub boxed : LabelBoxed labels l w h k x₀ y₀ x₁ y₁
  pub place : k ≡ y * w + x
  pub column : x < w

pub spanning-begin : (labels : List ℕ) (l w h : ℕ) → 0 < w → Spanning labels l w h 0 0 0 w h 0 0
spanning-begin labels l w h some = record { upto = omega arith; boxed = boxed-begin labels l w h; place = zero-place w; column = some }

module _ {labels : List ℕ} {l w h k x y x₀ y₀ x₁ y₁ : ℕ} (s : Spanning labels l w h k x y x₀ y₀ x₁ y₁) (within : k < length labels) where
  module _ {x₀' y₀' x₁' y₁' : ℕ} (g : Grown (eqb (get_or labels k 0) l) x y x₀ y₀ x₁ y₁ x₀' y₀' x₁' y₁') where
    next-box : LabelBoxed labels l w h (k + 1) x₀' y₀' x₁' y₁'
    unfolding cell_column cell_row
    next-box =
        boxed-turn labels l w h (rw s.place (place-col x y w s.column)) (rw s.place (place-row x y w s.column)) s.boxed g

    pub spanning-on : (x + 1 ≡ w → ⊥) → Spanning labels l w h (k + 1) (x + 1) y x₀' y₀' x₁' y₁'
    spanning-on more = record { upto = omega arith; boxed = next-box; place = omega (arith, s.place); column = omega (arith, s.column) }

    pub spanning-row : x + 1 ≡ w → Spanning labels l w h (k + 1) 0 (y + 1) x₀' y₀' x₁' y₁'
    spanning-row full = record { upto = omega arith; boxed = next-box; place = next_row k x y w s.place full; column = omega arith }

pub spanning-end : {labels : List ℕ} {l w h k x y x₀ y₀ x₁ y₁ : ℕ} → Spanning labels l w h k x y x₀ y₀ x₁ y₁ → length labels ≤ k
    → LabelBoxed labels l w h (length labels) x₀ y₀ x₁ y₁
spanning-end {labels} {k = k} s past =
    let e : length labels ≡ k = omega (arith, s.upto) in
    rw e s.boxed

-- the region of a label from its count and its box
pub region-is : (labels : List ℕ) (w h width height i : ℕ) {n l x₀ y₀ x₁ y₁ a b : ℕ} → l ≡ suc i → n ≡ size_in labels i
    → LabelBoxed labels l w h (length labels) x₀ y₀ x₁ y₁ → a ≡ min (8 * x₁) width → b ≡ min (8 * y₁) height
    → ◌≡◌ {A = Region} (record { label = l; cells = n; x0 = 8 * x₀; y0 = 8 * y₀; x1 = a; y1 = b }) (region_in labels w h width height i)
unfolding region_in
region-is labels w h width height i e p q r s = rw (p, r, s, q.left, q.top, q.right, q.bottom, e)
