-- Centres of cells in a picture.
--     centre-in, centre-cell      a centre is in the picture, and its cell
--     light-read                  what the code reads is the mark read
--     spot-small, centre-place    the outer cell's places are small, and its centre's place is in the list
-- Assumes nothing.
use mathlib.Core.Path.{◌≡◌, ap, ◌∙◌}
use mathlib.Core.List.{List}
use Prim.Native.Nat.{ℕ, ◌+◌, ◌*◌, ◌/◌, ◌<◌, ◌≤◌}
use native.Mathlib.Omega.{arith}
use lib.Dec.{leb}
use lib.ListN.{get_or}
use Rattle.laws.proofs.Planes.{row-end}
use Rattle.lcr_core.specs.Version.{IsVersion, positions_of, quarter_of}
use Rattle.proof_ring.specs.Doors.{least_side}
use Rattle.proof_ring.specs.Inner.{outer_spot}
use Rattle.proof_ring.specs.Reading.{centre, light_read}
use Rattle.proof_ring.specs.declared.cells.Spot.{Spot}
use Rattle.proof_ring.proofs.Boxes.{cell-of}
use Rattle.proof_ring.proofs.Painting.{box-fits, within-is}
use Rattle.proof_ring.proofs.Places.{outer-fits}

pub centre-in : (v pitch k : ℕ) → 1 ≤ pitch → k ≤ quarter_of v → centre pitch k < least_side v pitch
centre-in v pitch k some h = omega (arith, box-fits v pitch k h, half pitch some)
  where
    half : (pitch : ℕ) → 1 ≤ pitch → pitch / 2 < pitch
    half pitch some = omega arith

pub centre-cell : (pitch k : ℕ) → 1 ≤ pitch → centre pitch k / pitch ≡ k + 2
centre-cell pitch k some = cell-of pitch (k + 2) (centre pitch k) (omega arith) (half pitch some)
  where
    half : (pitch : ℕ) → 1 ≤ pitch → centre pitch k < (k + 2) * pitch + pitch
    half pitch some = let h : pitch / 2 < pitch = omega arith in omega arith

-- what the code reads is the mark read
pub light-read : (v pitch : ℕ) (s : List ℕ) (w p : ℕ) (spot : Spot) (x y : ℕ) → spot ≡ outer_spot v p → x ≡ centre pitch spot.x
    → y ≡ centre pitch spot.y → leb 128 (get_or s (y * w + x) 0) ≡ light_read v pitch s w p
unfolding light_read
light-read v pitch s w p spot x y e ex ey =
    ap (λ (k : ℕ). leb 128 (get_or s (y * w + k) 0)) ex ∙ ap (λ (k : ℕ). leb 128 (get_or s (k * w + centre pitch spot.x) 0)) ey
    ∙ ap (λ (t : Spot). leb 128 (get_or s (centre pitch t.y * w + centre pitch t.x) 0)) e

-- the outer cell's places are small
pub spot-small : (v p : ℕ) (s : Spot) → IsVersion v → p < positions_of v → s ≡ outer_spot v p → (s.x ≤ 4096) × (s.y ≤ 4096)
spot-small v p s is within e =
    let i = within-is (quarter_of v) (outer_spot v p) s e (outer-fits v p is within) in
    (omega (arith, i.0, is.greatest), omega (arith, i.1, is.greatest))

-- the centre's place is in the list
pub centre-place : (v pitch w p len : ℕ) (s : Spot) (x y : ℕ) → IsVersion v → 1 ≤ pitch → least_side v pitch ≤ w
    → least_side v pitch * w ≤ len → p < positions_of v → s ≡ outer_spot v p → x ≡ centre pitch s.x → y ≡ centre pitch s.y
    → y * w + x < len
centre-place v pitch w p len s x y is some wide rows within e ex ey =
    let i = within-is (quarter_of v) (outer_spot v p) s e (outer-fits v p is within) in
    inside (omega (arith, ex, wide, centre-in v pitch s.x some i.0)) (omega (arith, ey, centre-in v pitch s.y some i.1))
  where
    inside : x < w → y < least_side v pitch → y * w + x < len
    inside lx ly = omega (arith, row-end y (least_side v pitch) w ly)
