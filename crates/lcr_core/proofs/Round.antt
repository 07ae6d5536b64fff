-- Outer cells round the square, in places.
--     OuterAt                          the outer cell of a position is at two places
--     on-top, on-right, on-bottom, on-left   a position of an edge, both its corners included
--     outer-within                     an outer cell's places are at most q
--     outer-turned, outer-swapped      the outer cell of p after a quarter turn, and with columns and rows swapped
-- Assumes nothing.
use mathlib.Core.Path.{◌≡◌, sym, ap, ◌∙◌, subst}
use Prim.Native.Nat.{ℕ, ◌+◌, ◌*◌, ◌-◌, ◌%◌, ◌<◌, ◌≤◌}
use native.Mathlib.Decide.{dec_lt}
use native.Mathlib.Nat.{mod-add-mod, mod-eq_of_lt, mod_self}
use native.Mathlib.Omega.{arith}
use Rattle.lcr_core.specs.Border.{outer_x, outer_y}
use Rattle.lcr_core.proofs.Cells.{outer-x-1, outer-x-2, outer-x-3, outer-x-4, outer-y-1, outer-y-2, outer-y-3, outer-y-4}

-- the outer cell of p is at places x and y
pub record OuterAt (q p x y : ℕ) : Type 0 where
  pub across : outer_x q p ≡ x
  pub down : outer_y q p ≡ y

module _ (q : ℕ) (some : 1 ≤ q) where
  on-top : (p : ℕ) → p ≤ q → OuterAt q p p 0
  on-top p h = record { across = sym (outer-x-1 q p h); down = sym (outer-y-1 q p h) }

  on-right : (p : ℕ) → q ≤ p → p ≤ 2 * q → OuterAt q p q (p - q)
  on-right p l h = go (dec_lt q p)
    where
      go : Dec (q < p) → OuterAt q p q (p - q)
      go (yes g) = record { across = sym (outer-x-2 q p g h); down = sym (outer-y-2 q p g h) }
      go (no g) =
          let e : p ≡ q = omega arith in
          let z : 0 ≡ p - q = omega arith in
          record { across = sym (outer-x-1 q p (omega arith)) ∙ e; down = sym (outer-y-1 q p (omega arith)) ∙ z }

  on-bottom : (p : ℕ) → 2 * q ≤ p → p ≤ 3 * q → OuterAt q p (3 * q - p) q
  on-bottom p l h = go (dec_lt (2 * q) p)
    where
      go : Dec (2 * q < p) → OuterAt q p (3 * q - p) q
      go (yes g) = record { across = sym (outer-x-3 q p g h); down = sym (outer-y-3 q p g h) }
      go (no g) =
          let i = on-right p (omega arith) (omega arith) in
          let z : q ≡ 3 * q - p = omega arith in
          let y : p - q ≡ q = omega arith in
          record { across = i.across ∙ z; down = i.down ∙ y }

  on-left : (p : ℕ) → 3 * q ≤ p → OuterAt q p 0 (4 * q - p)
  on-left p l = go (dec_lt (3 * q) p)
    where
      go : Dec (3 * q < p) → OuterAt q p 0 (4 * q - p)
      go (yes g) = record { across = sym (outer-x-4 q p g); down = sym (outer-y-4 q p g) }
      go (no g) =
          let i = on-bottom p (omega arith) (omega arith) in
          let z : 3 * q - p ≡ 0 = omega arith in
          let y : q ≡ 4 * q - p = omega arith in
          record { across = i.across ∙ z; down = i.down ∙ y }

  -- once round is where it began
  wrapped : (p x y : ℕ) → p ≤ 4 * q → OuterAt q p x y → OuterAt q (p % (4 * q)) x y
  wrapped p x y h o = go (dec_lt p (4 * q))
    where
      go : Dec (p < 4 * q) → OuterAt q (p % (4 * q)) x y
      go (yes l) = subst (λ (k : ℕ). OuterAt q k x y) (sym (mod-eq_of_lt l)) o
      go (no l) =
          let e : p ≡ 4 * q = omega arith in
          let z : p % (4 * q) ≡ 0 = ap (λ (k : ℕ). k % (4 * q)) e ∙ mod_self (4 * q) in
          let first = on-top 0 (omega arith) in
          let last = on-left p (omega arith) in
          let v : 4 * q - p ≡ 0 = omega arith in
          subst (λ (k : ℕ). OuterAt q k x y) (sym z)
          (record {
            across = first.across ∙ sym last.across ∙ o.across;
            down = first.down ∙ sym v ∙ sym last.down ∙ o.down;
          })

  at : (p x y x' y' : ℕ) → x ≡ x' → y ≡ y' → OuterAt q p x y → OuterAt q p x' y'
  at p x y x' y' ex ey o = record { across = o.across ∙ ex; down = o.down ∙ ey }

  pub outer-within : (p : ℕ) → p < 4 * q → (outer_x q p ≤ q) × (outer_y q p ≤ q)
  outer-within p h = go (dec_lt q p) (dec_lt (2 * q) p) (dec_lt (3 * q) p)
    where
      go : Dec (q < p) → Dec (2 * q < p) → Dec (3 * q < p) → (outer_x q p ≤ q) × (outer_y q p ≤ q)
      go (no a) b c = let o = on-top p (omega arith) in (omega (arith, o.across), omega (arith, o.down))
      go (yes a) (no b) c =
          let o = on-right p (omega arith) (omega arith) in (omega (arith, o.across), omega (arith, o.down))
      go (yes a) (yes b) (no c) =
          let o = on-bottom p (omega arith) (omega arith) in (omega (arith, o.across), omega (arith, o.down))
      go (yes a) (yes b) (yes c) =
          let o = on-left p (omega arith) in (omega (arith, o.across), omega (arith, o.down))

  -- the next quarter's outer cell is the outer cell turned
  pub outer-turned : (p : ℕ) → p < 4 * q → OuterAt q ((p + q) % (4 * q)) (q - outer_y q p) (outer_x q p)
  outer-turned p h = go (dec_lt q p) (dec_lt (2 * q) p) (dec_lt (3 * q) p)
    where
      go : Dec (q < p) → Dec (2 * q < p) → Dec (3 * q < p) → OuterAt q ((p + q) % (4 * q)) (q - outer_y q p) (outer_x q p)
      go (no a) b c =
          let o = on-top p (omega arith) in
          let z : q ≡ q - outer_y q p = omega (arith, o.down) in
          let y : p + q - q ≡ outer_x q p = omega (arith, o.across) in
          wrapped (p + q) _ _ (omega arith) (at (p + q) _ _ _ _ z y (on-right (p + q) (omega arith) (omega arith)))
      go (yes a) (no b) c =
          let o = on-right p (omega arith) (omega arith) in
          let z : 3 * q - (p + q) ≡ q - outer_y q p = omega (arith, o.down) in
          wrapped (p + q) _ _ (omega arith) (at (p + q) _ _ _ _ z (sym o.across) (on-bottom (p + q) (omega arith) (omega arith)))
      go (yes a) (yes b) (no c) =
          let o = on-bottom p (omega arith) (omega arith) in
          let z : 0 ≡ q - outer_y q p = omega (arith, o.down) in
          let y : 4 * q - (p + q) ≡ outer_x q p = omega (arith, o.across) in
          wrapped (p + q) _ _ (omega arith) (at (p + q) _ _ _ _ z y (on-left (p + q) (omega arith)))
      go (yes a) (yes b) (yes c) =
          let o = on-left p (omega arith) in
          let e : p + q ≡ 4 * q + (p - 3 * q) = omega arith in
          let m : (p + q) % (4 * q) ≡ p - 3 * q = round p (p - 3 * q) e (omega arith) in
          let z : p - 3 * q ≡ q - outer_y q p = omega (arith, o.down) in
          subst (λ (k : ℕ). OuterAt q k (q - outer_y q p) (outer_x q p)) (sym m)
          (at (p - 3 * q) _ _ _ _ z (sym o.across) (on-top (p - 3 * q) (omega arith)))
        where
          round : (p k : ℕ) → p + q ≡ 4 * q + k → k < 4 * q → (p + q) % (4 * q) ≡ k
          round p k e l =
              ap (λ (i : ℕ). i % (4 * q)) e ∙ sym (mod-add-mod (4 * q) (4 * q) k)
              ∙ ap (λ (i : ℕ). (i + k) % (4 * q)) (mod_self (4 * q))
              ∙ (let z : 0 + k ≡ k = omega arith in ap (λ (i : ℕ). i % (4 * q)) z) ∙ mod-eq_of_lt l

  -- the outer cell of −p is the outer cell of p with columns and rows swapped
  pub outer-swapped : (p : ℕ) → p < 4 * q → OuterAt q ((4 * q - p) % (4 * q)) (outer_y q p) (outer_x q p)
  outer-swapped p h = go (dec_lt q p) (dec_lt (2 * q) p) (dec_lt (3 * q) p)
    where
      go : Dec (q < p) → Dec (2 * q < p) → Dec (3 * q < p) → OuterAt q ((4 * q - p) % (4 * q)) (outer_y q p) (outer_x q p)
      go (no a) b c =
          let o = on-top p (omega arith) in
          let y : 4 * q - (4 * q - p) ≡ outer_x q p = omega (arith, o.across) in
          wrapped (4 * q - p) _ _ (omega arith) (at (4 * q - p) _ _ _ _ (sym o.down) y (on-left (4 * q - p) (omega arith)))
      go (yes a) (no b) c =
          let o = on-right p (omega arith) (omega arith) in
          let z : 3 * q - (4 * q - p) ≡ outer_y q p = omega (arith, o.down) in
          wrapped (4 * q - p) _ _ (omega arith)
          (at (4 * q - p) _ _ _ _ z (sym o.across) (on-bottom (4 * q - p) (omega arith) (omega arith)))
      go (yes a) (yes b) (no c) =
          let o = on-bottom p (omega arith) (omega arith) in
          let y : 4 * q - p - q ≡ outer_x q p = omega (arith, o.across) in
          wrapped (4 * q - p) _ _ (omega arith)
          (at (4 * q - p) _ _ _ _ (sym o.down) y (on-right (4 * q - p) (omega arith) (omega arith)))
      go (yes a) (yes b) (yes c) =
          let o = on-left p (omega arith) in
          wrapped (4 * q - p) _ _ (omega arith)
          (at (4 * q - p) _ _ _ _ (sym o.down) (sym o.across) (on-top (4 * q - p) (omega arith)))
