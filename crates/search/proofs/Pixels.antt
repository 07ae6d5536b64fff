-- Places in the picture, and cells near it. Assumes nothing.
--   cut_inside               a number below n is cut to a whole number below n
--   along-no-nan             a coordinate along a side is no NaN
--   along-asks, along-whole  what its cast asks, and what it is
--   along-x, -y, inside-x, -y    what a place that is not outside is
--   near-coordinate          a small place's coordinate is in range
--   outer-near, inner-near   the cells of a position are in range
use Rattle.std.proofs.Common.{◌≡◌, ℕ, suc, ◌+◌, ◌-◌, ◌*◌, ◌/◌, ◌%◌, ◌^◌, ◌<◌, ◌≤◌, min, Bool, true, false, cond, ◌&&◌, T, eqb, ltb, leb, ℤ, pos, negsuc, sym, refl, ap, ◌∙◌, subst, true≢false, mul-le-mul_right, div-lt_iff_lt-mul, lt_of_mul-lt-mul_right, mul-one, mul_right_comm, arith, lit≤, lt→ltb, ltb-true, lt-ltb, eqb-true}
use lib.Ieee.{Float, nan, inf, fin, binary32, up, down, lt, le, eq, is_nan, round, of_int, of_bits, to_unsigned}
use lib.Ieee.Fits.{down_pos}
use lib.Ieee.Exact.{HasValue}
use lib.Ieee.Back.{round_whole}
use Rattle.ieee.specs.Constants.{0f}
use Rattle.ieee.proofs.Helpers.{trunc-in, below_64}
use Rattle.laws.proofs.Bools.{and_left, and_right, not-false, clash}
use Rattle.fit.specs.F32.{whole_float}
use Rattle.transform.specs.declared.Pixel.{Pixel}
use Rattle.lcr_core.specs.Version.{positions_of, quarter_of}
use Rattle.lcr_core.specs.Border.{InRange, coordinate, outer_x, outer_y, inward, outer_cell, inner_cell}
use Rattle.lcr_core.proofs.Cells.{places}
use Rattle.search.specs.Samples.{NearCell, along, outside}

-- ---- cut to a whole number
cut-lt : (n k m : ℕ) (s : Bool) (d e : ℤ) → s ≡ false → k * up d * 1 ≡ n * down d → lt (fin false m e) (fin s k d) ≡ true
    → m * up e / down e < n
unfolding lt
cut-lt n k m true d e es h l = absurd (true≢false es)
cut-lt n k m false d e es h l =
    let A = k * up d * down e in
    let B = m * up e * down d in
    let below : B < A = ltb-true B A l in
    let same : A ≡ n * down e * down d =
    ap (λ (z : ℕ). z * down e) (sym (mul-one (k * up d)) ∙ h) ∙ mul_right_comm n (down d) (down e) in
    (div-lt_iff_lt-mul (down_pos e)).1 (lt_of_mul-lt-mul_right (down d) {m = m * up e} {n = n * down e} (subst (λ (z : ℕ). B < z) same below))

capped : (v w n : ℕ) → v < n → min v w < n
capped v w n h = omega arith

cut_at : (n : ℕ) (y x : Float) → 1 ≤ n → HasValue y false n 1 → lt x y ≡ true → to_unsigned 32 x < n
unfolding to_unsigned lt
cut_at n nan x some h l = absurd h
cut_at n (inf t) x some h l = absurd h
cut_at n (fin t k d) nan some h l = some
cut_at n (fin t k d) (inf true) some h l = some
cut_at n (fin t k d) (inf false) some h l = absurd (clash l refl)
cut_at n (fin t k d) (fin true m e) some h l = some
cut_at n (fin t k d) (fin false m e) some h l = capped (m * up e / down e) (2 ^ 32 - 1) n (cut-lt n k m t d e h.0 h.1 l)

below_at : (n : ℕ) (y x : Float) → n ≤ 4096 → HasValue y false n 1 → lt x y ≡ true → lt x (fin false 1 (pos 32)) ≡ true
unfolding lt
below_at n nan x few h l = absurd h
below_at n (inf t) x few h l = absurd h
below_at n (fin t k d) nan few h l = l
below_at n (fin t k d) (inf true) few h l = refl
below_at n (fin t k d) (inf false) few h l = l
below_at n (fin t k d) (fin true m e) few h l = lt-ltb 0 (m * up e * 1 + 4294967296 * down e) (omega (arith, down_pos e))
below_at n (fin t k d) (fin false m e) few h l =
    let v = (div-lt_iff_lt-mul (down_pos e)).0 (cut-lt n k m t d e h.0 h.1 l) in
    lt-ltb (m * up e * 1) (4294967296 * down e) (omega (arith, v, mul-le-mul_right (down e) few, down_pos e))

pub cut_inside : (n : ℕ) (x : Float) → 1 ≤ n → n ≤ 4096 → lt x (whole_float n) ≡ true → to_unsigned 32 x < n
unfolding of_int
cut_inside n x some few l = cut_at n (round binary32 false n 1) x some (round_whole binary32 false n (omega arith)) l

-- ---- a coordinate along a side
pub along-no-nan : (n : ℕ) (x : Float) → along n x ≡ true → is_nan x ≡ false
unfolding along le lt eq is_nan
along-no-nan n nan a = absurd (clash (and_right (le 0f nan) (lt nan (whole_float n)) a) refl)
along-no-nan n (inf s) a = refl
along-no-nan n (fin s m e) a = refl

-- what its cast asks: it is above −1, and below 2 ^ 32
along-above : (n : ℕ) (x : Float) → along n x ≡ true → T (lt (fin true 1 (pos 0)) x)
unfolding along le lt eq of_bits
along-above n nan a = absurd (clash (and_left (le 0f nan) (lt nan (whole_float n)) a) refl)
along-above n (inf true) a = absurd (clash (and_left (le 0f (inf true)) (lt (inf true) (whole_float n)) a) refl)
along-above n (inf false) a = tt
along-above n (fin true m e) a =
    let none : 0 * down e ≡ m * up e * 1 =
    eqb-true (0 * down e) (m * up e * 1)
    (and_left (eqb (0 * down e) (m * up e * 1)) (eqb (0 * down e) 0) (and_left (le 0f (fin true m e)) (lt (fin true m e) (whole_float n)) a)) in
    lt→ltb (m * up e * 1) (1 * down e) (omega (arith, none, down_pos e))
along-above n (fin false m e) a = lt→ltb 0 (1 * down e + m * up e * 1) (omega (arith, down_pos e))

along-below : (n : ℕ) (x : Float) → n ≤ 4096 → along n x ≡ true → lt x (fin false 1 (pos 32)) ≡ true
unfolding along of_int
along-below n x few a =
    below_at n (round binary32 false n 1) x few (round_whole binary32 false n (omega arith)) (and_right (le 0f x) (lt x (whole_float n)) a)

pub along-asks : (n : ℕ) (x : Float) → n ≤ 4096 → along n x ≡ true → T (lt (fin true 1 (pos 0)) x) × T (lt x (fin false 1 (pos 64)))
along-asks n x few a = (along-above n x a, below_64 32 x (lit≤ tt) (along-below n x few a))

pub along-whole : (n : ℕ) (x : Float) → n ≤ 4096 → along n x ≡ true → to_unsigned 64 x ≡ to_unsigned 32 x
along-whole n x few a = trunc-in 32 x (lit≤ tt) (along-below n x few a)

along-cut : (n : ℕ) (x : Float) → 1 ≤ n → n ≤ 4096 → along n x ≡ true → to_unsigned 32 x < n
unfolding along
along-cut n x some few a = cut_inside n x some few (and_right (le 0f x) (lt x (whole_float n)) a)

-- ---- a place that is not outside
module _ (w h : ℕ) (p : Pixel) (inside : outside w h p ≡ false) where
  sides : (along w p.x && along h p.y) ≡ true
  unfolding outside
  sides = not-false (along w p.x && along h p.y) inside

  pub along-x : along w p.x ≡ true
  along-x = and_left (along w p.x) (along h p.y) sides

  pub along-y : along h p.y ≡ true
  along-y = and_right (along w p.x) (along h p.y) sides

  pub inside-x : 1 ≤ w → w ≤ 4096 → to_unsigned 32 p.x < w
  inside-x some few = along-cut w p.x some few along-x

  pub inside-y : 1 ≤ h → h ≤ 4096 → to_unsigned 32 p.y < h
  inside-y some few = along-cut h p.y some few along-y

-- ---- cells
near_by : (b : Bool) (m n : ℕ) → m < 32768 → n < 32768 → InRange (cond b (negsuc m) (pos n))
near_by true m n h l = record { within = h }
near_by false m n h l = record { within = l }

pub near-coordinate : (k : ℕ) → k < 32768 → InRange (coordinate k)
near-coordinate k h = near_by (ltb k 3) (3 - suc k) (k - 3) (omega arith) (omega arith)

at_most : (b : Bool) (x y n : ℕ) → x ≤ n → y ≤ n → cond b x y ≤ n
at_most true x y n p q = p
at_most false x y n p q = q

outer-x-few : (q k : ℕ) → k < 4 * q → outer_x q k ≤ 4 * q
unfolding outer_x
outer-x-few q k h =
    at_most (leb k q) k (cond (leb k (2 * q)) q (cond (leb k (3 * q)) (3 * q - k) 0)) (4 * q) (omega arith)
    (at_most (leb k (2 * q)) q (cond (leb k (3 * q)) (3 * q - k) 0) (4 * q) (omega arith)
    (at_most (leb k (3 * q)) (3 * q - k) 0 (4 * q) (omega arith) (omega arith)))

outer-y-few : (q k : ℕ) → k < 4 * q → outer_y q k ≤ 4 * q
unfolding outer_y
outer-y-few q k h =
    at_most (leb k q) 0 (cond (leb k (2 * q)) (k - q) (cond (leb k (3 * q)) q (4 * q - k))) (4 * q) (omega arith)
    (at_most (leb k (2 * q)) (k - q) (cond (leb k (3 * q)) q (4 * q - k)) (4 * q) (omega arith)
    (at_most (leb k (3 * q)) q (4 * q - k) (4 * q) (omega arith) (omega arith)))

inward-few : (q k n : ℕ) → 1 ≤ n → q ≤ n → k ≤ n → inward q k ≤ n
inward-few q k n some a b =
    at_most (eqb k 0) 1 (cond (eqb k q) (q - 1) k) n some (at_most (eqb k q) (q - 1) k n (omega arith) b)

small : (n q : ℕ) → n ≤ 4 * q → q < 4096 → n < 32768
small n q h l = omega arith

module _ (v p : ℕ) (few : v < 256) where
  place-few : (quarter_of v < 4096) × (p % positions_of v < 4 * quarter_of v)
  place-few = places v p (positions_of v) (quarter_of v) refl refl few

  pub outer-near : NearCell (outer_cell v p)
  unfolding outer_cell
  outer-near =
      let q = quarter_of v in
      let k = p % positions_of v in
      record {
        across = near-coordinate (outer_x q k) (small (outer_x q k) q (outer-x-few q k place-few.1) place-few.0);
        down = near-coordinate (outer_y q k) (small (outer_y q k) q (outer-y-few q k place-few.1) place-few.0);
      }

  pub inner-near : NearCell (inner_cell v p)
  unfolding inner_cell
  inner-near =
      let q = quarter_of v in
      let k = p % positions_of v in
      let x = inward-few q (outer_x q k) (4 * q) (omega arith) (omega arith) (outer-x-few q k place-few.1) in
      let y = inward-few q (outer_y q k) (4 * q) (omega arith) (omega arith) (outer-y-few q k place-few.1) in
      record {
        across = near-coordinate (inward q (outer_x q k)) (small (inward q (outer_x q k)) q x place-few.0);
        down = near-coordinate (inward q (outer_y q k)) (small (inward q (outer_y q k)) q y place-few.0);
      }
