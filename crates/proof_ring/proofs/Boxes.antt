-- Squares framed in a picture, with a cell made dark.
--     dark-by, dark-in, dark-out         a square with a cell made dark, by both cases
--     framed-ext, framed_at, framed-all  framed squares that agree; a pixel of a cell; one grey throughout
--     framed-beside, framed-above, off-frame   a pixel outside the frame
--     cell-of                            the cell of a pixel
--     framed-dark                        a dark cell is a dark box of pixels
-- Assumes nothing.
use mathlib.Core.Path.{◌≡◌, refl, sym, ap, ◌∙◌}
use mathlib.Core.Bool.{Bool, true, false, ◌&&◌, cond}
use Prim.Native.Nat.{ℕ, ◌+◌, ◌*◌, ◌-◌, ◌/◌, ◌<◌, ◌≤◌}
use native.Mathlib.Nat.{div-add-mod', mod-lt, mul-le-mul_right}
use native.Mathlib.Omega.{arith}
use lib.Dec.{eqb, leb, ltb}
use borrow.Author.Tests.{eqb-true, eqb-false, le-leb, leb-true, lt-ltb, ltb-true}
use Rattle.laws.proofs.Bools.{and_left, and_right, clash, falsely}
use Rattle.laws.proofs.Planes.{place-row}
use Rattle.laws.specs.Plane.{Plane}
use Rattle.proof_ring.specs.Claims.{OffSquare, after, before}
use Rattle.proof_ring.specs.Inner.{dark_box, dark_if}
use Rattle.proof_ring.specs.Picture.{framed, in_square}
use Rattle.proof_ring.specs.declared.cells.Spot.{Spot}
use Rattle.proof_ring.proofs.Rows.{InBox, box-by}

-- ---- a dark cell

-- the cell is made dark
pub record Hit (t : Bool) (s : Spot) (x y : ℕ) : Type 0 where
  pub test : t ≡ true
  pub across : x ≡ s.x
  pub down : y ≡ s.y

pub dark-by : (t : Bool) (s : Spot) (g : Plane) (x y z : ℕ) → (Hit t s x y → z ≡ 0) → ((Hit t s x y → ⊥) → z ≡ g x y)
    → z ≡ dark_if t s g x y
unfolding dark_if
dark-by t s g x y z dark rest = go t refl (eqb x s.x) refl (eqb y s.y) refl
  where
    go : (a : Bool) → t ≡ a → (b : Bool) → eqb x s.x ≡ b → (c : Bool) → eqb y s.y ≡ c → z ≡ cond (a && (b && c)) 0 (g x y)
    go false ea b eb c ec = rest (λ i. clash i.test ea)
    go true ea false eb c ec = rest (λ i. eqb-false x s.x eb i.across)
    go true ea true eb false ec = rest (λ i. eqb-false y s.y ec i.down)
    go true ea true eb true ec = dark record { test = ea; across = eqb-true x s.x eb; down = eqb-true y s.y ec }

pub dark-in : (t : Bool) (s : Spot) (g : Plane) (x y : ℕ) → Hit t s x y → dark_if t s g x y ≡ 0
dark-in t s g x y i = sym (dark-by t s g x y 0 (λ _. refl) (λ off. absurd (off i)))

pub dark-out : (t : Bool) (s : Spot) (g : Plane) (x y : ℕ) → (Hit t s x y → ⊥) → dark_if t s g x y ≡ g x y
dark-out t s g x y off = sym (dark-by t s g x y (g x y) (λ i. absurd (off i)) (λ _. refl))

-- ---- frames

-- what the frame's test says
pub record InFrame (n k : ℕ) : Type 0 where
  pub least : 2 ≤ k
  pub most : k < n + 2

in_frame : (n k : ℕ) → in_square n k ≡ true → InFrame n k
in_frame n k e = record {
  least = leb-true 2 k (and_left (leb 2 k) (ltb k (n + 2)) e);
  most = ltb-true k (n + 2) (and_right (leb 2 k) (ltb k (n + 2)) e);
}

is_framed : (n k : ℕ) → InFrame n k → in_square n k ≡ true
is_framed n k i = rw (le-leb 2 k i.least) (lt-ltb k (n + 2) i.most)

module _ (n pitch : ℕ) where
  -- squares that agree at the cell of a pixel
  pub framed-ext : (f g : Plane) (x y : ℕ)
      → (InFrame n (x / pitch) → InFrame n (y / pitch) → f (x / pitch - 2) (y / pitch - 2) ≡ g (x / pitch - 2) (y / pitch - 2))
      → framed n pitch f x y ≡ framed n pitch g x y
  unfolding framed
  framed-ext f g x y same = go (in_square n (x / pitch)) refl (in_square n (y / pitch)) refl
    where
      go : (a : Bool) → in_square n (x / pitch) ≡ a → (b : Bool) → in_square n (y / pitch) ≡ b
          → cond (a && b) (f (x / pitch - 2) (y / pitch - 2)) 255 ≡ cond (a && b) (g (x / pitch - 2) (y / pitch - 2)) 255
      go false ea b eb = refl
      go true ea false eb = refl
      go true ea true eb = same (in_frame n (x / pitch) ea) (in_frame n (y / pitch) eb)

  -- a pixel of the cell at places a and b
  pub framed_at : (g : Plane) (x y a b : ℕ) → x / pitch ≡ a + 2 → y / pitch ≡ b + 2 → a < n → b < n → framed n pitch g x y ≡ g a b
  unfolding framed
  framed_at g x y a b ea eb la lb =
      let fa : in_square n (a + 2) ≡ true = is_framed n (a + 2) (record { least = omega arith; most = omega arith }) in
      let fb : in_square n (b + 2) ≡ true = is_framed n (b + 2) (record { least = omega arith; most = omega arith }) in
      let da : a + 2 - 2 ≡ a = omega arith in
      let db : b + 2 - 2 ≡ b = omega arith in
      ap (λ (k : ℕ). cond (in_square n k && in_square n (y / pitch)) (g (k - 2) (y / pitch - 2)) 255) ea
      ∙ ap (λ (k : ℕ). cond (in_square n (a + 2) && in_square n k) (g (a + 2 - 2) (k - 2)) 255) eb
      ∙ ap (λ (t : Bool). cond (t && in_square n (b + 2)) (g (a + 2 - 2) (b + 2 - 2)) 255) fa
      ∙ ap (λ (t : Bool). cond (true && t) (g (a + 2 - 2) (b + 2 - 2)) 255) fb
      ∙ ap (λ (k : ℕ). g k (b + 2 - 2)) da
      ∙ ap (λ (k : ℕ). g a k) db

  -- a pixel outside the frame
  pub framed-beside : (g : Plane) (x y : ℕ) → (InFrame n (x / pitch) → ⊥) → framed n pitch g x y ≡ 255
  unfolding framed
  framed-beside g x y off =
      ap (λ (t : Bool). cond (t && in_square n (y / pitch)) (g (x / pitch - 2) (y / pitch - 2)) 255)
      (falsely (in_square n (x / pitch)) (λ e. off (in_frame n (x / pitch) e)))

  pub framed-above : (g : Plane) (x y : ℕ) → (InFrame n (y / pitch) → ⊥) → framed n pitch g x y ≡ 255
  unfolding framed
  framed-above g x y off =
      ap (λ (t : Bool). cond (in_square n (x / pitch) && t) (g (x / pitch - 2) (y / pitch - 2)) 255)
      (falsely (in_square n (y / pitch)) (λ e. off (in_frame n (y / pitch) e)))
      ∙ none (in_square n (x / pitch))
    where
      none : (t : Bool) → cond (t && false) (g (x / pitch - 2) (y / pitch - 2)) 255 ≡ 255
      none true = refl
      none false = refl

  -- a square that is 255 throughout
  pub framed-all : (g : Plane) (x y : ℕ) → ((a b : ℕ) → g a b ≡ 255) → framed n pitch g x y ≡ 255
  unfolding framed
  framed-all g x y white = go (in_square n (x / pitch) && in_square n (y / pitch))
    where
      go : (t : Bool) → cond t (g (x / pitch - 2) (y / pitch - 2)) 255 ≡ 255
      go true = white (x / pitch - 2) (y / pitch - 2)
      go false = refl

-- ---- the pixels of a cell

-- the cells that a pixel's distance from the edge makes
pub cell-of : (pitch k x : ℕ) → k * pitch ≤ x → x < k * pitch + pitch → x / pitch ≡ k
cell-of pitch k x low high =
    let e : k * pitch + (x - k * pitch) ≡ x = omega arith in
    ap (λ (z : ℕ). z / pitch) (sym e) ∙ place-row (x - k * pitch) k pitch (omega arith)

cell-low : (pitch k x : ℕ) → x / pitch ≡ k → k * pitch ≤ x
cell-low pitch k x e = omega (arith, div-add-mod' x pitch, ap (λ (z : ℕ). z * pitch) e)

cell-high : (pitch k x : ℕ) → 1 ≤ pitch → x / pitch ≡ k → x < k * pitch + pitch
cell-high pitch k x some e = omega (arith, div-add-mod' x pitch, ap (λ (z : ℕ). z * pitch) e, mod-lt x {m = pitch} some)

-- a pixel before the frame or after it
pub off-frame : (n pitch x : ℕ) → 1 ≤ pitch → OffSquare n pitch x → InFrame n (x / pitch) → ⊥
off-frame n pitch x some (before l) i =
    omega (arith, mul-le-mul_right pitch i.least, cell-low pitch (x / pitch) x refl)
off-frame n pitch x some (after l) i =
    omega (arith, mul-le-mul_right pitch i.most, cell-high pitch (x / pitch) x some refl)

pub framed-dark : (n pitch : ℕ) (s : Spot) (g : Plane) (x y : ℕ) → 1 ≤ pitch → s.x < n → s.y < n
    → framed n pitch (dark_if true s g) x y
    ≡ dark_box ((s.x + 2) * pitch) ((s.y + 2) * pitch) pitch pitch (framed n pitch g) x y
framed-dark n pitch s g x y some lx ly =
    box-by ((s.x + 2) * pitch) ((s.y + 2) * pitch) pitch pitch (framed n pitch g) x y (framed n pitch (dark_if true s g) x y)
    (λ i. framed_at n pitch (dark_if true s g) x y s.x s.y
    (cell-of pitch (s.x + 2) x i.left i.right) (cell-of pitch (s.y + 2) y i.top i.bottom) lx ly
    ∙ dark-in true s g s.x s.y (record { test = refl; across = refl; down = refl }))
    (λ off. framed-ext n pitch (dark_if true s g) g x y (λ a b. dark-out true s g (x / pitch - 2) (y / pitch - 2) (λ h. off (inside a b h))))
  where
    inside : InFrame n (x / pitch) → InFrame n (y / pitch) → Hit true s (x / pitch - 2) (y / pitch - 2)
        → InBox ((s.x + 2) * pitch) ((s.y + 2) * pitch) pitch pitch x y
    inside a b h =
        let ex : x / pitch ≡ s.x + 2 = omega (arith, h.across, a.least) in
        let ey : y / pitch ≡ s.y + 2 = omega (arith, h.down, b.least) in
        record {
          left = cell-low pitch (s.x + 2) x ex;
          right = cell-high pitch (s.x + 2) x some ex;
          top = cell-low pitch (s.y + 2) y ey;
          bottom = cell-high pitch (s.y + 2) y some ey;
        }
