-- Boxes read from the table that is drawn: the four places are there, and they give the count made pixel by pixel. Assumes nothing.
use mathlib.Core.Bool.{false}
use mathlib.Core.List.{List}
use mathlib.Core.Path.{◌∙◌, ◌≡◌, ap}
use Prim.Native.Nat.{◌*◌, ◌+◌, ◌/◌, ◌<◌, ◌≤◌, ℕ}
use native.Mathlib.Nat.{mul_comm, mul-le-mul_right}
use native.Mathlib.Omega.{arith}
use lib.ListN.{length}
use Rattle.laws.proofs.Folds.{length-written}
use Rattle.laws.proofs.Planes.{plane-drawn, row-end}
use Rattle.laws.proofs.Writes.{written-ext}
use Rattle.laws.specs.Fold.{written}
use Rattle.laws.specs.Plane.{Plane, drawn, plane, rowwise}
use Rattle.darkness.proofs.Boxes.{before_small, four-reads}
use Rattle.darkness.proofs.Checks.{good-box}
use Rattle.darkness.specs.Claims.{FourReads}
use Rattle.darkness.specs.Darkness.{box_ink, box_number, ink_before, ink_in}
use Rattle.darkness.specs.Door.{is_bad_box}
use Rattle.darkness.specs.Inner.{Readable, four_reads, reads_of}

-- the upper row of a box begins no later than the lower
pub rows_apart : {table : List ℕ} {w x0 y0 x1 y1 : ℕ} → Readable table w x0 y0 x1 y1 → y0 * (w + 1) ≤ y1 * (w + 1)
rows_apart {w = w} r = mul-le-mul_right (w + 1) r.top

module _ (f : Plane) (small : (x y : ℕ) → f x y ≤ 1) (w h : ℕ) (wide : w ≤ 4096) (high : h ≤ 4096) (old table : List ℕ)
    (is : table ≡ drawn (w + 1) (h + 1) (ink_before f) old) (room : (w + 1) * (h + 1) ≤ length old) where
  at : (x y : ℕ) → x ≤ w → y ≤ h → plane (w + 1) table x y ≡ ink_before f x y
  at x y lx ly = rw is (plane-drawn (w + 1) (h + 1) (ink_before f) old x y (omega arith) (omega arith))

  long : length table ≡ length old
  long = ap length is ∙ length-written ((w + 1) * (h + 1)) (rowwise (w + 1) (ink_before f)) old room

  module _ (x0 y0 x1 y1 : ℕ) (left : x0 ≤ x1) (top : y0 ≤ y1) (right : x1 ≤ w) (bottom : y1 ≤ h) where
    sums : ink_before f x1 y1 + ink_before f x0 y0 ≡ ink_in f x0 y0 x1 y1 + (ink_before f x0 y1 + ink_before f x1 y0)
    sums = unfold FourReads in four-reads f x0 y0 x1 y1 left top

    top_left : plane (w + 1) table x0 y0 ≡ ink_before f x0 y0
    top_left = at x0 y0 (omega arith) (omega arith)

    bottom-right : plane (w + 1) table x1 y1 ≡ ink_before f x1 y1
    bottom-right = at x1 y1 right bottom

    bottom-left : plane (w + 1) table x0 y1 ≡ ink_before f x0 y1
    bottom-left = at x0 y1 (omega arith) bottom

    top_right : plane (w + 1) table x1 y0 ≡ ink_before f x1 y0
    top_right = at x1 y0 right (omega arith)

    pub readable : Readable table w x0 y0 x1 y1
    readable = record {
      wide = wide;
      left = left;
      right = right;
      top = top;
      bottom = omega arith;
      room = omega (arith, row-end y1 (h + 1) (w + 1) (omega arith), mul_comm (w + 1) (h + 1), long);
      low = omega (arith, top_left, before_small f small x0 y0 (omega arith) (omega arith));
      high = omega (arith, bottom-right, before_small f small x1 y1 (omega arith) (omega arith));
      order = omega (arith, top_left, bottom-right, bottom-left, top_right, sums);
    }

    pub reads-is : four_reads table w x0 y0 x1 y1 ≡ ink_in f x0 y0 x1 y1
    reads-is = omega (arith, top_left, bottom-right, bottom-left, top_right, sums)

  module _ (boxes : List ℕ) (good : (i : ℕ) → i < length boxes / 4 → is_bad_box w h boxes i ≡ false) where
    pub all-readable : (i : ℕ) → i < length boxes / 4
        → Readable table w (box_number boxes i 0) (box_number boxes i 1) (box_number boxes i 2) (box_number boxes i 3)
    all-readable i l =
        let g = good-box w h (box_number boxes i 0) (box_number boxes i 1) (box_number boxes i 2) (box_number boxes i 3) (unfold is_bad_box in good i l) in
        readable (box_number boxes i 0) (box_number boxes i 1) (box_number boxes i 2) (box_number boxes i 3) g.0 g.1 g.2 g.3

    pub all-reads : (old : List ℕ)
        → written (length boxes / 4) (reads_of table w boxes) old ≡ written (length boxes / 4) (box_ink f boxes) old
    all-reads old =
        written-ext (length boxes / 4) (reads_of table w boxes) (box_ink f boxes) old (λ i l. unfold reads_of box_ink is_bad_box in
        (let g = good-box w h (box_number boxes i 0) (box_number boxes i 1) (box_number boxes i 2) (box_number boxes i 3) (good i l) in
        reads-is (box_number boxes i 0) (box_number boxes i 1) (box_number boxes i 2) (box_number boxes i 3) g.0 g.1 g.2 g.3))
