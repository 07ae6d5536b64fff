-- The doors accept a picture taken, moved or not.
--     all-pass, pass-true       checks that pass, one after the other
--     sides-within              the moved sides of a picture taken;  bytes-moved  the moved bytes are bytes
--     points-few, points-up     the points of a region answered, for the doors by whole numbers
--     doors-accept              all of it
-- Assumes nothing.
use mathlib.Core.Path.{◌≡◌, refl, sym, ap, ap₂, ◌∙◌, subst}
use mathlib.Core.List.{List, [], ◌++◌, append-nil}
use Prim.Native.Nat.{ℕ, ◌+◌, ◌-◌, ◌*◌, ◌/◌, ◌%◌, ◌<◌, ◌≤◌}
use native.Mathlib.Omega.{arith}
use lib.Dec.{leb, ltb}
use borrow.Author.Tests.{le-leb, lt-ltb, eq-eqb}
use lib.ListN.{length, get_or}
use lib.Seq.{drop-nil}
use Rattle.picture_checks.proofs.Sides.{side-is}
use Rattle.laws.specs.Fold.{tab}
use Rattle.laws.specs.Plane.{Plane, plane, drawn, rowwise}
use Rattle.laws.specs.Move.{Move, still, flipped, turned, sides_of, wide_of, high_of, moved, moved_bytes}
use Rattle.laws.proofs.Bools.{both}
use Rattle.laws.proofs.Folds.{length-tab, get_or-written}
use Rattle.laws.proofs.Planes.{place-lt, col-lt, row_lt}
use Rattle.laws.proofs.Moves.{moved_at, back_of, back-within, place-back, sides-times}
use Rattle.levels.specs.Level.{cells}
use Rattle.labels.specs.Cells.{cells8, cells_of}
use Rattle.regions.specs.Kept.{kept_count, kept_label}
use Rattle.regions.specs.Boxes.{region_box}
use Rattle.picture.specs.Door.{check_grids}
use Rattle.regions.specs.Regions.{region, kept_regions, box_in}
use Rattle.regions.specs.declared.answer.Kept.{Kept}
use Rattle.regions.specs.declared.answer.Region.{Region}
use Rattle.regions.proofs.Regions.{region-cell, region-in}
use Rattle.hull.specs.Points.{UpTo}
use Rattle.boundary.specs.Boundary.{member_at}
use Rattle.boundary.proofs.Boundary.{Within}
use Rattle.boundary.proofs.Outlines.{boundary-within}
use Rattle.outline.specs.Door.{door_points}
use Rattle.outline.proofs.Doors.{points-le}
use Rattle.turned.specs.Taken.{Taken}
use Rattle.turned.specs.Calls.{Pictured, region_of, checked_for, points_for, Outlined, numbers_listed}
use Rattle.turned.specs.Accepts.{WholeAccepted, DoorsAccept}
use Rattle.turned.proofs.Calls.{regions-is, region-is, grid-room, label-room, listed-is}
use Rattle.turned.proofs.Wholes.{whole-accepted}

-- ---- the picture door

pictures : (W H : ℕ) (s : List ℕ) → Taken 4096 W H s → (grid labels stack : ℕ)
    → cells (16 * W) * cells (16 * H) ≤ grid → cells_of (16 * W) (16 * H) ≤ labels → cells_of (16 * W) (16 * H) ≤ stack
    → check_grids (16 * W) (16 * H) (length s) grid labels stack ≡ 0
pictures W H s t grid labels stack g l k =
    let a = t.wide in
    let b = t.wide-most in
    let c = t.high in
    let d = t.high-most in
    rw (
      side-is (16 * W) (omega arith) (omega arith),
      side-is (16 * H) (omega arith) (omega arith),
      eq-eqb (length s) (16 * W * (16 * H)) t.many,
      le-leb (cells (16 * W) * cells (16 * H)) grid g,
      le-leb (cells_of (16 * W) (16 * H)) labels l,
      le-leb (cells_of (16 * W) (16 * H)) stack k,
    )

-- ---- moved pictures

wider : (most more W H : ℕ) (s : List ℕ) → most ≤ more → Taken most W H s → Taken more W H s
wider most more W H s l t = record {
  wide = t.wide;
  wide-most = let a = t.wide-most in omega arith;
  high = t.high;
  high-most = let a = t.high-most in omega arith;
  many = t.many;
  bytes = t.bytes;
}

within : (m : Move) (w h n : ℕ) → (1 ≤ w) × (w ≤ n) → (1 ≤ h) × (h ≤ n)
    → (1 ≤ wide_of m w h) × (wide_of m w h ≤ n) × (1 ≤ high_of m w h) × (high_of m w h ≤ n)
unfolding sides_of
within still w h n a b = (a.0, a.1, b.0, b.1)
within flipped w h n a b = (a.0, a.1, b.0, b.1)
within (turned m) w h n a b = let r = within m w h n a b in (r.2, r.3, r.0, r.1)

length-drawn : (w h : ℕ) (g : Plane) → length (drawn w h g []) ≡ w * h
length-drawn w h g =
    ap (λ (l : List ℕ). length (tab (w * h) (rowwise w g) ++ l)) (drop-nil (w * h)) ∙ ap length (append-nil (tab (w * h) (rowwise w g)))
    ∙ length-tab (w * h) (rowwise w g)

byte_at : (m : Move) (w h : ℕ) (s : List ℕ) → length s ≡ w * h → ((i : ℕ) → i < length s → get_or s i 0 < 256)
    → (x y : ℕ) → x < wide_of m w h → y < high_of m w h → moved m w h (plane w s) x y < 256
byte_at m w h s many bytes x y lx ly =
    let b = back-within m w h x y lx ly in
    let a = (back_of m w h x y).0 in
    let c = (back_of m w h x y).1 in
    let e : moved m w h (plane w s) x y ≡ plane w s a c =
    ap (λ (q : ℕ × ℕ). moved m w h (plane w s) q.0 q.1) (sym (place-back m w h x y lx ly))
    ∙ moved_at m w h (plane w s) a c b.0 b.1 in
    subst (λ (n : ℕ). n < 256) (sym e) (bytes (c * w + a) (let l = place-lt a c w h b.0 b.1 in omega arith))

moved-taken : (most W H : ℕ) (s : List ℕ) → Taken most W H s → (m : Move) → Taken most (wide_of m W H) (high_of m W H) (moved_bytes m (16 * W) (16 * H) s)
moved-taken most W H s t m =
    let sides = sides-times m 16 W H in
    let r = within m (16 * W) (16 * H) _ ((let a = t.wide in omega arith), t.wide-most) ((let a = t.high in omega arith), t.high-most) in
    let w' = wide_of m (16 * W) (16 * H) in
    let h' = high_of m (16 * W) (16 * H) in
    let n = length-drawn w' h' (moved m (16 * W) (16 * H) (plane (16 * W) s)) in
    record {
      wide = omega (arith, r.0, sides.0);
      wide-most = omega (arith, r.1, sides.0);
      high = omega (arith, r.2, sides.1);
      high-most = omega (arith, r.3, sides.1);
      many = n ∙ ap₂ (λ (a b : ℕ). a * b) sides.0 sides.1;
      bytes = λ i l.
          let k : i < w' * h' = subst (λ (z : ℕ). i < z) n l in
          subst (λ (z : ℕ). z < 256)
          (sym (get_or-written (w' * h') (rowwise w' (moved m (16 * W) (16 * H) (plane (16 * W) s))) [] i 0 k))
          (byte_at m (16 * W) (16 * H) s t.many t.bytes (i % w') (i / w') (col-lt i w' h' k) (row_lt i w' h' k));
    }

-- ---- the outline door

-- a box that is not empty, in a picture
record Inside (r : Region) (w h : ℕ) : Type 0 where
  across : r.x0 < r.x1
  down : r.y0 < r.y1
  right : r.x1 ≤ w
  bottom : r.y1 ≤ h

inside : (p : Plane) (w h i : ℕ)
    → ((region_box p w h (kept_label p w h i)).x0 < (region_box p w h (kept_label p w h i)).x1)
    × ((region_box p w h (kept_label p w h i)).y0 < (region_box p w h (kept_label p w h i)).y1)
    × ((region_box p w h (kept_label p w h i)).x1 ≤ w) × ((region_box p w h (kept_label p w h i)).y1 ≤ h)
    → Inside (region p w h i) w h
unfolding region
inside p w h i r = record { across = r.0; down = r.1; right = r.2; bottom = r.3 }

checked : (W H : ℕ) (s : List ℕ) → Taken 4096 W H s → (c : Pictured s (16 * W) (16 * H)) (r : Region) (room : ℕ) → Inside r (16 * W) (16 * H)
    → 4 * (r.x1 - r.x0 + (r.y1 - r.y0)) ≤ room → checked_for s (16 * W) (16 * H) c r room ≡ 0
checked W H s t c r room at fit =
    let a = t.wide in
    let b = t.wide-most in
    let d = t.high in
    let e = t.high-most in
    let w = 16 * W in
    let h = 16 * H in
    rw (
      side-is w (omega arith) (omega arith),
      side-is h (omega arith) (omega arith),
      eq-eqb (length s) (w * h) t.many,
      both (ltb r.x0 r.x1) (leb r.x1 w) (lt-ltb r.x0 r.x1 at.across) (le-leb r.x1 w at.right),
      both (ltb r.y0 r.y1) (leb r.y1 h) (lt-ltb r.y0 r.y1 at.down) (le-leb r.y1 h at.bottom),
      both (leb (cells w * cells h) (length c.grid)) (leb (cells8 w * cells8 h) (length c.labels))
          (le-leb (cells w * cells h) (length c.grid) (grid-room s w h c))
          (le-leb (cells8 w * cells8 h) (length c.labels) (label-room s w h c)),
      le-leb (4 * (r.x1 - r.x0 + (r.y1 - r.y0))) room fit,
    )

-- a region that was answered
region-inside : (W H : ℕ) (s : List ℕ) → Taken 4096 W H s → (c : Pictured s (16 * W) (16 * H)) (i : ℕ)
    → i < c.regions.kept → Inside (region_of s (16 * W) (16 * H) c i) (16 * W) (16 * H)
region-inside W H s t c i l =
    let w = 16 * W in
    let h = 16 * H in
    let p = plane w s in
    let a = t.wide in
    let d = t.high in
    let k : i < kept_count p w h =
    subst (λ (n : ℕ). i < n) (ap (λ (z : Kept). z.kept) (regions-is s w h c) ∙ unfold kept_regions in refl) l in
    let z = region-cell p w h i k in
    let r = region-in p w h (kept_label p w h i) (omega arith) z.0 z.1 z.2 in
    subst (λ (q : Region). Inside q w h) (sym (region-is s w h c i k)) (inside p w h i r)

outlines : (W H : ℕ) (s : List ℕ) → Taken 4096 W H s → (c : Pictured s (16 * W) (16 * H)) (i room : ℕ)
    → i < c.regions.kept
    → 4 * ((region_of s (16 * W) (16 * H) c i).x1 - (region_of s (16 * W) (16 * H) c i).x0
    + ((region_of s (16 * W) (16 * H) c i).y1 - (region_of s (16 * W) (16 * H) c i).y0)) ≤ room
    → checked_for s (16 * W) (16 * H) c (region_of s (16 * W) (16 * H) c i) room ≡ 0
outlines W H s t c i room l fit =
    let w = 16 * W in
    let h = 16 * H in
    checked W H s t c (region_of s w h c i) room (region-inside W H s t c i l) fit

-- ---- the doors after it, by whole numbers

-- its points are at most 16,384, with coordinates up to 8,192
points-few : (s : List ℕ) (w h : ℕ) (c : Pictured s w h) (r : Region) → Inside r w h → w ≤ 4096 → h ≤ 4096 → length (points_for s w h c r) ≤ 16384
unfolding door_points
points-few s w h c r at lw lh =
    let a = at.right in
    let b = at.bottom in
    let n = points-le 4 (member_at r.label w s c.grid c.labels) (box_in r) in
    omega arith

points-up : (s : List ℕ) (w h : ℕ) (c : Pictured s w h) (r : Region) → Inside r w h → w ≤ 4096 → h ≤ 4096 → UpTo 8192 (points_for s w h c r)
unfolding door_points
points-up s w h c r at lw lh q t =
    let b : Within (box_in r) w h =
    record { across' = (let l = at.across in omega arith); down' = (let l = at.down in omega arith); wide = at.right; high = at.bottom } in
    let k = boundary-within 4 w h (member_at r.label w s c.grid c.labels) (box_in r) b q t in
    (omega (arith, k.0, lw), omega (arith, k.1, lh))

wholes : (W H : ℕ) (s : List ℕ) → Taken 4096 W H s → (c : Pictured s (16 * W) (16 * H)) (i : ℕ)
    → i < c.regions.kept → (o : Outlined s (16 * W) (16 * H) c (region_of s (16 * W) (16 * H) c i))
    → WholeAccepted (numbers_listed o.answer o.list)
wholes W H s t c i l o =
    let w = 16 * W in
    let h = 16 * H in
    let r = region_of s w h c i in
    let at = region-inside W H s t c i l in
    whole-accepted (points_for s w h c r) (numbers_listed o.answer o.list) (listed-is s w h c r o)
    (points-up s w h c r at t.wide-most t.high-most) (points-few s w h c r at t.wide-most t.high-most)

pub doors-accept : DoorsAccept
doors-accept = record {
  moved = λ most W H s t m. ((sides-times m 16 W H).0, (sides-times m 16 W H).1, moved-taken most W H s t m);
  wider = wider;
  picture = pictures;
  outline = outlines;
  whole = wholes;
}
