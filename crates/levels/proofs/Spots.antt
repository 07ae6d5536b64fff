-- The levels of a full cell whose pixels are 0 or 255, by how many are 0: low and high bins of a cell with two of its bins in use.
--     spot-dark-few, spot-dark-many, spot-light-few   dark 248 to 12 pixels of 0, dark 0 from 13 on, light 255 to 243
--     flat-spotted                                    a cell of 255 has none
-- Assumes nothing.
use mathlib.Core.Logic.{◌⊎◌, inl, inr}
use mathlib.Core.Path.{◌∙◌, ◌≡◌, ap, refl}
use Prim.Native.Nat.{◌*◌, ◌+◌, ◌<◌, ◌≤◌, suc, zero, ℕ}
use native.Mathlib.Nat.{zero-add}
use native.Mathlib.Numerals.{add-one}
use native.Mathlib.Omega.{arith}
use lib.Dec.{eqb}
use borrow.Author.Tests.{ne_eqb}
use Rattle.laws.proofs.Boxes.{box-add}
use Rattle.laws.proofs.Planes.{box-ext}
use Rattle.laws.specs.Fold.{bit, fold, sum_to}
use Rattle.laws.specs.Plane.{Plane, box, box_row}
use Rattle.levels.proofs.Hist.{high-at, low-at, low-none}
use Rattle.levels.proofs.Turned.{hist-box}
use Rattle.levels.specs.Level.{cut, dark, from_top, hist, in_bin, light, span}
use Rattle.levels.specs.Spots.{Spotted}

-- ---- sums over a cell
all-0 : (x0 y0 : ℕ) → box ◌+◌ 0 (λ x y. 0) x0 y0 16 16 ≡ 0
unfolding box box_row fold
all-0 x0 y0 = refl

all-1 : (x0 y0 : ℕ) → box ◌+◌ 0 (λ x y. 1) x0 y0 16 16 ≡ 256
unfolding box box_row fold
all-1 x0 y0 = refl

-- ---- bins of a pixel of 0 or 255
bin-0 : (n : ℕ) → (n ≡ 0) ⊎ (n ≡ 255) → in_bin 0 n ≡ bit (eqb n 0)
unfolding in_bin
bin-0 n (inl e) = rw e
bin-0 n (inr e) = rw e

bin-31 : (n : ℕ) → (n ≡ 0) ⊎ (n ≡ 255) → bit (eqb n 0) + in_bin 31 n ≡ 1
unfolding in_bin
bin-31 n (inl e) = rw e
bin-31 n (inr e) = rw e

bin-between : (b n : ℕ) → 1 ≤ b → b < 31 → (n ≡ 0) ⊎ (n ≡ 255) → in_bin b n ≡ 0
unfolding in_bin
bin-between b n l m (inl e) = rw (e, ne_eqb 0 b (λ z. omega arith))
bin-between b n l m (inr e) = rw (e, ne_eqb 31 b (λ z. omega arith))

-- the running count stays at the first bin's
running : (f : ℕ → ℕ) (n : ℕ) → f 0 ≡ n → ((b : ℕ) → 1 ≤ b → b < 31 → f b ≡ 0) → (b : ℕ) → b < 31 → sum_to (suc b) f ≡ n
unfolding fold
running f n e none zero l = omega arith
running f n e none (suc b) l =
    let h = running f n e none b (omega arith) in
    let z = none (suc b) (omega arith) l in
    omega arith

module _ (p : Plane) (w h cx cy n : ℕ) (s : Spotted p w h cx cy n) where
  wide : span w cx ≡ 16
  wide = omega (arith, s.wide)

  high : span h cy ≡ 16
  high = omega (arith, s.high)

  cut-12 : cut w h cx cy ≡ 12
  cut-12 = rw (wide, high)

  -- a bin's count, where each pixel has g there
  bin-count : (b : ℕ) (g : ℕ → ℕ) → ((v : ℕ) → (v ≡ 0) ⊎ (v ≡ 255) → in_bin b v ≡ g v)
      → hist p w h cx cy b ≡ box ◌+◌ 0 (λ x y. g (p x y)) (16 * cx) (16 * cy) 16 16
  bin-count b g same =
      rw (hist-box p w h cx cy b, wide, high)
      (box-ext ◌+◌ 0 (λ x y. in_bin b (p x y)) (λ x y. g (p x y)) (16 * cx) (16 * cy) 16 16
      (λ i j li lj. same (p (16 * cx + i) (16 * cy + j)) (s.ends i j li lj)))

  first-bin : hist p w h cx cy 0 ≡ n
  first-bin = bin-count 0 (λ v. bit (eqb v 0)) bin-0 ∙ s.many

  between : (b : ℕ) → 1 ≤ b → b < 31 → hist p w h cx cy b ≡ 0
  between b l m = bin-count b (λ v. 0) (λ v q. bin-between b v l m q) ∙ all-0 (16 * cx) (16 * cy)

  last-bin : n + hist p w h cx cy 31 ≡ 256
  last-bin =
      let a = bin-count 31 (in_bin 31) (λ v q. refl) in
      let j = box-add (λ x y. bit (eqb (p x y) 0)) (λ x y. in_bin 31 (p x y)) (16 * cx) (16 * cy) 16 16 in
      let u : box ◌+◌ 0 (λ x y. bit (eqb (p x y) 0) + in_bin 31 (p x y)) (16 * cx) (16 * cy) 16 16 ≡ 256 =
      box-ext ◌+◌ 0 (λ x y. bit (eqb (p x y) 0) + in_bin 31 (p x y)) (λ x y. 1) (16 * cx) (16 * cy) 16 16
      (λ i j li lj. bin-31 (p (16 * cx + i) (16 * cy + j)) (s.ends i j li lj))
      ∙ all-1 (16 * cx) (16 * cy) in
      omega (arith, a, j, u, s.many)

  pub spot-dark-few : n ≤ 12 → dark p w h cx cy ≡ 248
  unfolding dark
  spot-dark-few few =
      rw cut-12 (ap (λ (k : ℕ). 8 * k)
      (low-none (hist p w h cx cy) 12
      (λ i l. rw (add-one i) (omega (arith, running (hist p w h cx cy) n first-bin between i l)))))

  pub spot-dark-many : 13 ≤ n → dark p w h cx cy ≡ 0
  unfolding dark
  spot-dark-many many =
      rw cut-12 (ap (λ (k : ℕ). 8 * k)
      (low-at (hist p w h cx cy) 12 0 (omega arith) (λ i l. absurd (omega arith))
      (rw (add-one 0) (omega (arith, running (hist p w h cx cy) n first-bin between 0 (omega arith))))))

  pub spot-light-few : n ≤ 243 → light p w h cx cy ≡ 255
  unfolding light
  spot-light-few few =
      rw cut-12 (ap (λ (k : ℕ). 8 * k + 7)
      (high-at (hist p w h cx cy) 12 0 (omega arith) (λ i l. absurd (omega arith))
      (let z : sum_to 1 (from_top (hist p w h cx cy)) ≡ hist p w h cx cy 31 = top in omega (arith, last-bin))))
    where
      top : sum_to 1 (from_top (hist p w h cx cy)) ≡ hist p w h cx cy 31
      top = unfold fold in zero-add (hist p w h cx cy 31)

-- a cell of 255
pub flat-spotted : (p : Plane) (w h cx cy : ℕ) → 16 * cx + 16 ≤ w → 16 * cy + 16 ≤ h
    → ((i j : ℕ) → i < 16 → j < 16 → p (16 * cx + i) (16 * cy + j) ≡ 255) → Spotted p w h cx cy 0
flat-spotted p w h cx cy lw lh flat = record {
  wide = lw;
  high = lh;
  ends = λ i j li lj. inr (flat i j li lj);
  many =
      box-ext ◌+◌ 0 (λ x y. bit (eqb (p x y) 0)) (λ x y. 0) (16 * cx) (16 * cy) 16 16
      (λ i j li lj. ap (λ (v : ℕ). bit (eqb v 0)) (flat i j li lj))
      ∙ all-0 (16 * cx) (16 * cy);
}
