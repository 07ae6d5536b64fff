-- The table as it is filled, place by place.
--     ink-small, ink-at                    a bit of ink: at most 1; by the threshold of its level cell
--     held-.., counted-..                  the first places hold counts: read back, one more, one call after the other
--     row-to-begin, row-to-turn            a row up to column x, with its count
--     row-to-up, row-to-low, row-to-high   what is read, and bounds of it
--     Bounds, bounds, sized-bounds         places that are there
--     row-begin, -at, -turn, -all          a row, cell by cell
--     top-held, next_row, all-rows         the whole table, row by row
-- Assumes nothing.
use mathlib.Core.List.{List}
use mathlib.Core.Path.{◌∙◌, ◌≡◌, ap, ap₂, refl, sym}
use Prim.Native.Nat.{◌%◌, ◌*◌, ◌+◌, ◌/◌, ◌<◌, ◌≤◌, min, ℕ}
use native.Mathlib.Nat.{div-eq_of_lt, mul_comm, mul-le-mul}
use native.Mathlib.Omega.{arith}
use lib.Dec.{ltb}
use lib.ListN.{get_or, length, set}
use Rattle.laws.proofs.Folds.{bit_le}
use Rattle.laws.proofs.Past.{past_more, past-none, past-set, past-then, written-past}
use Rattle.laws.proofs.Planes.{row-end, rowwise-at}
use Rattle.laws.proofs.Steps.{filled-step}
use Rattle.laws.specs.Fold.{bit}
use Rattle.laws.specs.Lent.{UntouchedPast}
use Rattle.laws.specs.Plane.{Plane, drawn, plane, rowwise}
use Rattle.levels.specs.Level.{cells, ink_of}
use Rattle.darkness.proofs.Boxes.{before-left, before-row, before_small, before-top, row-le, row_more, row-none}
use Rattle.darkness.specs.Darkness.{ink_before, ink_bit}
use Rattle.darkness.specs.Inner.{CountedTo, TableHeld, RowTo, Sized, cell_end, place_below, row_ink}

-- ---- a bit of ink
pub ink-small : (w : ℕ) (s levels : List ℕ) (x y : ℕ) → ink_bit w s levels x y ≤ 1
unfolding ink_bit
ink-small w s levels x y = bit_le (ink_of (plane w s) (plane (cells w) levels) x y)

-- the bit of a pixel of level cell c, by the threshold that is read for it
pub ink-at : (w : ℕ) (s levels : List ℕ) (c x y : ℕ) {t pixel : ℕ} → t ≡ plane (cells w) levels c (y / 16) → 16 * c ≤ x → x < cell_end w c
    → pixel ≡ y * w + x → bit (ltb (get_or s pixel 0) t) ≡ ink_bit w s levels x y
unfolding ink_bit ink_of
ink-at w s levels c x y is low high at =
    let e : c ≡ x / 16 = omega arith in
    rw (is, e, at)

-- ---- the first places hold counts
module _ (f : Plane) (w : ℕ) where
  pub held_at : (k : ℕ) (table : List ℕ) → TableHeld f w k table → (x y : ℕ) → x ≤ w → y * (w + 1) + x < k
      → get_or table (y * (w + 1) + x) 0 ≡ ink_before f x y
  held_at k table held x y lx within =
      held (y * (w + 1) + x) within ∙ sym (rowwise-at (w + 1) (ink_before f) (y * (w + 1) + x) x y refl (omega arith))

  pub held_next : (k : ℕ) (table : List ℕ) (x y v : ℕ) → TableHeld f w k table → k < length table → k ≡ y * (w + 1) + x → x ≤ w
      → v ≡ ink_before f x y → TableHeld f w (k + 1) (set table k v)
  held_next k table x y v held within at lx is =
      filled-step 0 (rowwise (w + 1) (ink_before f)) table k v within held
      (is ∙ rowwise-at (w + 1) (ink_before f) k x y at (omega arith))

  pub counted-then : {k m : ℕ} {old mid new : List ℕ} → CountedTo f w k old mid → k ≤ m → CountedTo f w m mid new → CountedTo f w m old new
  counted-then {k} {m} a l b = record { held = b.held; past = past-then (past_more m l a.past) b.past }

  pub counted_next : {k : ℕ} {old table : List ℕ} (x y v : ℕ) → CountedTo f w k old table → k < length table → k ≡ y * (w + 1) + x → x ≤ w
      → v ≡ ink_before f x y → CountedTo f w (k + 1) old (set table k v)
  counted_next {k} {old} {table} x y v a within at lx is =
      record { held = held_next k table x y v a.held within at lx is; past = past-set v a.past }

-- ---- a row up to column x
pub row-to-begin : (f : Plane) (w y : ℕ) (table : List ℕ) (x n : ℕ) → TableHeld f w (place_below w x y) table → n ≡ row_ink f x y → x ≤ w
    → RowTo f w y table table x n
row-to-begin f w y table x n held sum column = record
    { done = record { held = held; past = past-none (place_below w x y) table }; sum = sum; column = column }

next_place : (w x y : ℕ) → place_below w (x + 1) y ≡ place_below w x y + 1
next_place w x y = omega arith

module _ {f : Plane} {w y : ℕ} {old table : List ℕ} {x n : ℕ} (a : RowTo f w y old table x n) (within : x < w) where
  -- what is read is the count of the row above
  pub row-to-up : {up : ℕ} → up ≡ y * (w + 1) + (x + 1) → get_or table up 0 ≡ ink_before f (x + 1) y
  row-to-up at = rw at (held_at f w (place_below w x y) table a.done.held (x + 1) y (omega arith) (omega arith))

  pub row-to-turn : {v r up down : ℕ} {new : List ℕ} → v ≡ f x y → r ≡ n + v → up ≡ y * (w + 1) + (x + 1) → down ≡ place_below w x y
      → new ≡ set table down (get_or table up 0 + r) → place_below w x y < length table → RowTo f w y old new (x + 1) r
  row-to-turn {v} {r} {up} {down} {new} is sum_is_lem above below New-is room = record {
    done =
        rw (New-is, below, next_place w x y)
        (counted_next f w (x + 1) (y + 1) (get_or table up 0 + r) a.done room refl (omega arith) value);
    sum = next;
    column = omega arith;
  }
    where
      next : r ≡ row_ink f (x + 1) y
      next = sum_is_lem ∙ ap₂ ◌+◌ a.sum is ∙ sym (row_more f x y)

      value : get_or table up 0 + r ≡ ink_before f (x + 1) (y + 1)
      value = ap₂ ◌+◌ (row-to-up above) next ∙ sym (before-row f (x + 1) y)

  module _ (small : (x y : ℕ) → f x y ≤ 1) (wide : w ≤ 4096) (high : y < 4096) where
    pub row-to-low : n ≤ 4096
    row-to-low = omega (arith, a.sum, row-le f small x y, a.column)

    pub row-to-high : {up : ℕ} → up ≡ y * (w + 1) + (x + 1) → get_or table up 0 ≤ 16777216
    row-to-high at = omega (arith, row-to-up at, before_small f small (x + 1) y (omega arith) (omega arith))

-- ---- places that are there
pub record Bounds (w h y : ℕ) : Type 0 where
  pub below : (y + 1) * (w + 1) + (w + 1) ≤ (w + 1) * (h + 1)
  pub most : (w + 1) * (h + 1) ≤ 16785409
  pub pixels : y * w + w ≤ w * h
  pub many : w * h ≤ 16777216

pub bounds : (w h y : ℕ) → w ≤ 4096 → h ≤ 4096 → y < h → Bounds w h y
bounds w h y wide high l = record {
  below = omega (arith, row-end (y + 1) (h + 1) (w + 1) (omega arith), mul_comm (w + 1) (h + 1));
  most = mul-le-mul {n₁ = w + 1} {m₁ = h + 1} {n₂ = 4097} {m₂ = 4097} (omega arith) (omega arith);
  pixels = omega (arith, row-end y h w l, mul_comm w h);
  many = mul-le-mul {n₁ = w} {m₁ = h} {n₂ = 4096} {m₂ = 4096} wide high;
}

pub sized-bounds : {s levels table : List ℕ} {w h y : ℕ} → Sized s levels table w h → y < h → Bounds w h y
sized-bounds {w = w} {h = h} {y = y} p l = bounds w h y p.picture.w-high p.picture.h-high l

-- ---- a row, cell by cell: filled up to level cell c
module _ (f : Plane) (w y : ℕ) where
  pub row-begin : (table : List ℕ) → TableHeld f w ((y + 1) * (w + 1)) table → (y + 1) * (w + 1) < length table
      → RowTo f w y (set table ((y + 1) * (w + 1)) 0) (set table ((y + 1) * (w + 1)) 0) (min (16 * 0) w) 0
  row-begin table held room =
      let z : min (16 * 0) w ≡ 0 = omega arith in
      let k : place_below w 0 y ≡ (y + 1) * (w + 1) + 1 = omega arith in
      rw z
      (row-to-begin f w y (set table ((y + 1) * (w + 1)) 0) 0 0
      (rw k (held_next f w ((y + 1) * (w + 1)) table 0 (y + 1) 0 held room (omega arith) (omega arith) (sym (before-left f (y + 1)))))
      (sym (row-none f y)) (omega arith))

  module _ (c : ℕ) {old table : List ℕ} {sum : ℕ} (a : RowTo f w y old table (min (16 * c) w) sum) where
    pub row_at : 16 * c < w → RowTo f w y table table (16 * c) sum
    row_at l =
        let z : 16 * c ≡ min (16 * c) w = omega arith in
        rw z (row-to-begin f w y table (min (16 * c) w) sum a.done.held a.sum a.column)

    pub row-turn : {new : List ℕ} {r : ℕ} → RowTo f w y table new (cell_end w c) r → RowTo f w y old new (min (16 * (c + 1)) w) r
    row-turn {new} {r} next =
        let z : min (16 * (c + 1)) w ≡ cell_end w c = omega (arith, next.column) in
        let on : place_below w (min (16 * c) w) y ≤ place_below w (cell_end w c) y = omega arith in
        rw z record { done = counted-then f w a.done on next.done; sum = next.sum; column = next.column }

  pub row-all : (c : ℕ) (first : List ℕ) {table : List ℕ} {sum : ℕ}
      → RowTo f w y (set first ((y + 1) * (w + 1)) 0) table (min (16 * c) w) sum → cells w ≤ c
      → CountedTo f w ((y + 2) * (w + 1)) first table
  row-all c first {table} a all =
      let z : min (16 * c) w ≡ w = omega arith in
      let k : (y + 2) * (w + 1) ≡ place_below w w y = omega arith in
      let d : CountedTo f w (place_below w w y) (set first ((y + 1) * (w + 1)) 0) table = rw z at a.done in
      let past : UntouchedPast ((y + 1) * (w + 1) + 1) first (set first ((y + 1) * (w + 1)) 0) = past-set 0 (past-none _ first) in
      rw k record { held = d.held; past = past-then (past_more (place_below w w y) (omega arith) past) d.past }

-- ---- the whole table
module _ (f : Plane) (w : ℕ) where
  -- the first row
  pub top-held : {new : List ℕ} → ((i : ℕ) → i < w + 1 → get_or new i 0 ≡ 0) → CountedTo f w ((0 + 1) * (w + 1)) new new
  top-held {new} none =
      let z : (0 + 1) * (w + 1) ≡ w + 1 = omega arith in
      rw z record {
        held = λ i l. none i l ∙ sym (before-top f (i % (w + 1))) ∙ ap (ink_before f (i % (w + 1))) (sym (div-eq_of_lt l));
        past = past-none (w + 1) new;
      }

  pub next_row : (y : ℕ) {old mid new : List ℕ} → CountedTo f w ((y + 1) * (w + 1)) old mid → CountedTo f w ((y + 2) * (w + 1)) mid new
      → CountedTo f w ((y + 1 + 1) * (w + 1)) old new
  next_row y a b =
      let z : (y + 1 + 1) * (w + 1) ≡ (y + 2) * (w + 1) = omega arith in
      rw z (counted-then f w a (omega arith) b)

  pub all-rows : (h y : ℕ) (old : List ℕ) {top new : List ℕ} → UntouchedPast (w + 1) old top → CountedTo f w ((y + 1) * (w + 1)) top new
      → y ≡ h → (w + 1) * (h + 1) ≤ length old → new ≡ drawn (w + 1) (h + 1) (ink_before f) old
  all-rows h y old {top} {new} past a e room =
      let z : (y + 1) * (w + 1) ≡ (w + 1) * (h + 1) = rw e (mul_comm (h + 1) (w + 1)) in
      let b : CountedTo f w ((w + 1) * (h + 1)) top new = rw z at a in
      written-past ((w + 1) * (h + 1)) (rowwise (w + 1) (ink_before f)) old new b.held
      (past-then (past_more ((w + 1) * (h + 1)) (omega arith) past) b.past) room
