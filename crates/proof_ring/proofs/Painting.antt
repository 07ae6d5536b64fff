-- Lists of pixels that show a square, and what painting makes of them.
--     box-fits, rows_fit, room-kept      a cell's box is in the picture; room in a list as long
--     RowRoom, row_room                  a row of a box is in the list
--     within-is, spot-inside             a cell's places are in the square
--     cell-painted, if-painted, if-left, then-painted, light-left, dark-painted   one cell, two, a position
--     ground, painting-turn, painting-end   all 255; position by position
--     shown-drawn                        the list that shows the ring is the drawn list
-- Assumes nothing.
use mathlib.Core.Path.{◌≡◌, refl, sym, ap, ◌∙◌, subst}
use mathlib.Core.Bool.{Bool, true, false}
use mathlib.Core.List.{List, ◌++◌}
use Prim.Native.Nat.{ℕ, ◌+◌, ◌*◌, ◌-◌, ◌/◌, ◌<◌, ◌≤◌}
use native.Mathlib.Nat.{mul-le-mul_left, mul-le-mul_right}
use native.Mathlib.Omega.{arith}
use lib.ListN.{drop_of_length-le, get_or, length, replicate}
use lib.Seq.{length-sets, sets}
use Rattle.laws.proofs.Bools.{clash}
use Rattle.laws.proofs.Planes.{drawn-ext, drawn-self, place-lt, row-end}
use Rattle.laws.proofs.Stores.{run-at}
use Rattle.laws.specs.Fold.{tab}
use Rattle.laws.specs.Plane.{Plane, drawn, plane, rowwise}
use Rattle.lcr_core.specs.Mark.{AllMarks}
use Rattle.lcr_core.specs.Version.{positions_of, quarter_of, side_of}
use Rattle.proof_ring.specs.Doors.{least_side}
use Rattle.proof_ring.specs.Inner.{Painted, Repaints, Room, Shows, dark_at, dark_box, dark_if, dark_unless, spot_to, square_below}
use Rattle.proof_ring.specs.Picture.{framed, posed, ring_pixel, ring_square, square_side}
use Rattle.proof_ring.specs.declared.cells.Spot.{Spot}
use Rattle.proof_ring.specs.declared.paint.Plan.{Plan}
use Rattle.proof_ring.proofs.Boxes.{InFrame, dark-out, framed-all, framed-dark, framed-ext}
use Rattle.proof_ring.proofs.Rows.{box-by, box_in, box_out}
use Rattle.proof_ring.proofs.Below.{below_all, below_next, below_none}
use Rattle.proof_ring.proofs.Turning.{Within, posed-all, posed-dark, posed-ext, spot-within}

-- ---- room

pub box-fits : (v pitch x : ℕ) → x ≤ quarter_of v → (x + 2) * pitch + pitch ≤ least_side v pitch
box-fits v pitch x h = let l : x + 3 ≤ side_of v + 10 = omega arith in omega (arith, mul-le-mul_right pitch l)

pub rows_fit : (v pitch w y n : ℕ) → y ≤ quarter_of v → least_side v pitch * w ≤ n → ((y + 2) * pitch + pitch) * w ≤ n
rows_fit v pitch w y n h room = above (mul-le-mul_right w (box-fits v pitch y h)) room
  where
    above : {a b : ℕ} → a ≤ b → b ≤ n → a ≤ n
    above k l = omega arith

pub room-kept : (plan : Plan) (old new : List ℕ) → length new ≡ length old → Room plan old → Room plan new
room-kept plan old new e r = record {
  version = r.version;
  pitch-low = r.pitch-low;
  pitch-high = r.pitch-high;
  corner = r.corner;
  wide = r.wide;
  width = r.width;
  rows = subst (λ (n : ℕ). least_side plan.version plan.pitch * plan.width ≤ n) (sym e) r.rows;
}

-- what the loop over a box's rows needs
pub record RowRoom (w x0 y0 n j len : ℕ) : Type 0 where
  pub row : y0 + j ≤ len
  pub start : (y0 + j) * w ≤ len
  pub run : (y0 + j) * w + x0 + n ≤ len

pub row_room : (w x0 y0 n j len : ℕ) → j < n → x0 + n ≤ w → (y0 + n) * w ≤ len → RowRoom w x0 y0 n j len
row_room w x0 y0 n j len l fit room =
    let e = row-end (y0 + j) (y0 + n) w (omega arith) in
    let m = mul-le-mul_left {m = 1} {n = w} (y0 + n) (omega arith) in
    record { row = omega arith; start = omega arith; run = omega arith }

-- a spot that is another is in the square where that is
pub within-is : (q : ℕ) (s to : Spot) → to ≡ s → Within q s → (to.x ≤ q) × (to.y ≤ q)
within-is q s to e w = let i = subst (Within q) (sym e) w in (i.across, i.down)

-- ---- squares shown

module _ (plan : Plan) where
  abbrev v : ℕ
  v = plan.version

  abbrev posed_square : Plane → Plane
  posed_square g = posed (square_side v) plan.corner plan.reversed g

  last : square_side v ≡ quarter_of v + 1
  last = omega arith

  -- a cell in the frame is in the square
  place_in : (k : ℕ) → InFrame (square_side v) k → k - 2 ≤ quarter_of v
  place_in k i = omega (arith, i.least, i.most)

  framed_alike : (f g : Plane) (x y : ℕ) → ((a b : ℕ) → a ≤ quarter_of v → b ≤ quarter_of v → f a b ≡ g a b)
      → framed (square_side v) plan.pitch (posed_square f) x y ≡ framed (square_side v) plan.pitch (posed_square g) x y
  framed_alike f g x y same =
      framed-ext (square_side v) plan.pitch (posed_square f) (posed_square g) x y
      (λ i j. posed-ext (square_side v) (quarter_of v) last plan.corner plan.reversed f g same
      (x / plan.pitch - 2) (y / plan.pitch - 2) (place_in (x / plan.pitch) i) (place_in (y / plan.pitch) j))

  shows-ext : (f g : Plane) (s : List ℕ) → ((a b : ℕ) → a ≤ quarter_of v → b ≤ quarter_of v → f a b ≡ g a b)
      → Shows plan f s → Shows plan g s
  shows-ext f g s same sh = record { at = λ x y h k. sh.at x y h k ∙ framed_alike f g x y same }

  -- ---- one cell

  pub spot-inside : (s to : Spot) (q : ℕ) → Within (quarter_of v) s → q ≡ quarter_of v → to ≡ spot_to q plan.corner plan.reversed s
      → Within (quarter_of v) to
  spot-inside s to q w eq et =
      subst (Within (quarter_of v)) (sym (et ∙ ap (λ (k : ℕ). spot_to k plan.corner plan.reversed s) eq))
      (spot-within (quarter_of v) plan.corner plan.reversed s w)

  pub cell-painted : (s to : Spot) (q : ℕ) (old new : List ℕ) → 1 ≤ plan.pitch → Within (quarter_of v) s → q ≡ quarter_of v
      → to ≡ spot_to q plan.corner plan.reversed s
      → Painted plan.width
      (dark_box ((to.x + 2) * plan.pitch) ((to.y + 2) * plan.pitch) plan.pitch plan.pitch (plane plan.width old)) old new
      → Repaints plan (dark_if true s) old new
  cell-painted s to q old new some w eq et p =
      record { same = p.same; shows = λ g sh. record { at = λ x y h k. pixel g sh x y h k } }
    where
      is : to ≡ spot_to (quarter_of v) plan.corner plan.reversed s
      is = et ∙ ap (λ (k : ℕ). spot_to k plan.corner plan.reversed s) eq

      inside : Within (quarter_of v) to
      inside = spot-inside s to q w eq et

      boxes : (f g : Plane) (x0 y0 n x y : ℕ) → f x y ≡ g x y → dark_box x0 y0 n n f x y ≡ dark_box x0 y0 n n g x y
      boxes f g x0 y0 n x y e =
          box-by x0 y0 n n g x y (dark_box x0 y0 n n f x y) (λ i. box_in x0 y0 n n f x y i) (λ off. box_out x0 y0 n n f x y off ∙ e)

      pixel : (g : Plane) → Shows plan g old → (x y : ℕ) → x < plan.width → y * plan.width + x < length new
          → plane plan.width new x y ≡ framed (square_side v) plan.pitch (posed_square (dark_if true s g)) x y
      pixel g sh x y h k =
          p.at x y h k
          ∙ boxes (plane plan.width old) (framed (square_side v) plan.pitch (posed_square g))
          ((to.x + 2) * plan.pitch) ((to.y + 2) * plan.pitch) plan.pitch x y
          (sh.at x y h (subst (λ (n : ℕ). y * plan.width + x < n) p.same k))
          ∙ sym (framed-dark (square_side v) plan.pitch to (posed_square g) x y some
          (omega (arith, inside.across)) (omega (arith, inside.down)))
          ∙ framed-ext (square_side v) plan.pitch (dark_if true to (posed_square g)) (posed_square (dark_if true s g)) x y
          (λ i j. ap (λ (t : Spot). dark_if true t (posed_square g) (x / plan.pitch - 2) (y / plan.pitch - 2)) is
          ∙ sym (posed-dark (square_side v) (quarter_of v) last plan.corner plan.reversed s g w
          (x / plan.pitch - 2) (y / plan.pitch - 2) (place_in (x / plan.pitch) i) (place_in (y / plan.pitch) j)))

  -- ---- a position

  -- an inner cell, where it is painted and where it is not
  pub if-painted : (t b : Bool) (s to : Spot) (old new : List ℕ) → t ≡ b → t ≡ true → to ≡ s → Repaints plan (dark_if true to) old new
      → Repaints plan (dark_if b s) old new
  if-painted t b s to old new e on es r =
      subst (λ (z : Bool). Repaints plan (dark_if z s) old new) (sym (sym e ∙ on))
      (subst (λ (z : Spot). Repaints plan (dark_if true z) old new) es r)

  pub if-left : (t b : Bool) (s : Spot) (old : List ℕ) → t ≡ b → t ≡ false → Repaints plan (dark_if b s) old old
  if-left t b s old e left =
      record {
        same = refl;
        shows = λ g sh.
            shows-ext g (dark_if b s g) old (λ x y _ _. sym (dark-out b s g x y (λ i. clash i.test (sym e ∙ left)))) sh;
      }

  -- the outer cell, then the inner one
  pub then-painted : (b : Bool) (s u to : Spot) (old mid new : List ℕ) → to ≡ s → Repaints plan (dark_if true to) old mid
      → Repaints plan (dark_if b u) mid new → Repaints plan (λ g. dark_if b u (dark_if true s g)) old new
  then-painted b s u to old mid new es f h =
      let f' = subst (λ (z : Spot). Repaints plan (dark_if true z) old mid) es f in
      record { same = h.same ∙ f.same; shows = λ g sh. h.shows (dark_if true s g) (f'.shows g sh) }

  pub light-left : (light : Bool) (p : ℕ) (old : List ℕ) → light ≡ true → Repaints plan (dark_unless light v p) old old
  unfolding dark_unless
  light-left light p old e =
      subst (λ (t : Bool). Repaints plan (dark_unless t v p) old old) (sym e) (record { same = refl; shows = λ g sh. sh })

  pub dark-painted : (light : Bool) (p : ℕ) (old new : List ℕ) → light ≡ false → Repaints plan (dark_at v p) old new
      → Repaints plan (dark_unless light v p) old new
  unfolding dark_unless
  dark-painted light p old new e r = subst (λ (t : Bool). Repaints plan (dark_unless t v p) old new) (sym e) r

  -- ---- all positions

  -- the ground
  pub ground : (n : ℕ) (old new : List ℕ) → n ≡ length old → new ≡ sets old 0 (replicate n 255) → Shows plan (square_below v 0) new
  ground n old new en e = record { at = λ x y h k. pixel x y (y * plan.width + x) refl k }
    where
      long : length new ≡ n
      long = ap length e ∙ length-sets old 0 (replicate n 255) ∙ sym en

      pixel : (x y i : ℕ) → y * plan.width + x ≡ i → y * plan.width + x < length new
          → plane plan.width new x y ≡ framed (square_side v) plan.pitch (posed_square (square_below v 0)) x y
      pixel x y i ei k =
          ap (λ (l : List ℕ). get_or l (y * plan.width + x) 0) e
          ∙ run-at old 0 n 255 (y * plan.width + x) (omega arith) (omega arith) (omega (arith, long))
          ∙ sym (framed-all (square_side v) plan.pitch (posed_square (square_below v 0)) x y
          (posed-all (square_side v) (quarter_of v) last plan.corner plan.reversed (square_below v 0) 255 (below_none v)))

  -- one position more
  pub painting-turn : (p : ℕ) (seq : List Bool) (old new : List ℕ) → p < positions_of v → AllMarks v seq
      → Shows plan (square_below v p) old → Repaints plan (dark_unless (get_or seq p false) v p) old new
      → Shows plan (square_below v (p + 1)) new
  painting-turn p seq old new h marks sh r =
      shows-ext (dark_unless (get_or seq p false) v p (square_below v p)) (square_below v (p + 1)) new
      (λ x y _ _. sym (below_next v p h x y (get_or seq p false) (marks.at p h))) (r.shows (square_below v p) sh)

  pub painting-end : (p : ℕ) (s : List ℕ) → p ≡ positions_of v → Shows plan (square_below v p) s → Shows plan (ring_square v) s
  painting-end p s e sh =
      shows-ext (square_below v p) (ring_square v) s (λ x y _ _. ap (λ (k : ℕ). square_below v k x y) e ∙ below_all v x y) sh

  -- ---- the picture

  pub shown-drawn : (h : ℕ) (old new : List ℕ) → length old ≡ plan.width * h → length new ≡ length old → Shows plan (ring_square v) new
      → new ≡ drawn plan.width h (ring_pixel v plan.pitch plan.corner plan.reversed) old
  unfolding ring_pixel
  shown-drawn h old new many same sh =
      drawn-self plan.width h new (omega arith)
      ∙ drawn-ext plan.width h (plane plan.width new) pixel new
      (λ x y lx ly. sh.at x y lx (omega (arith, place-lt x y plan.width h lx ly)))
      ∙ ap (λ (l : List ℕ). tab (plan.width * h) (rowwise plan.width pixel) ++ l)
      (drop_of_length-le new {i = plan.width * h} (omega arith) ∙ sym (drop_of_length-le old {i = plan.width * h} (omega arith)))
    where
      pixel : Plane
      pixel = ring_pixel v plan.pitch plan.corner plan.reversed
