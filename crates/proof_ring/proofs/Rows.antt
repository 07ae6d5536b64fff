-- Rows of pixels with boxes painted row by row.
--     InBox, box-by, box_in, box_out     a box made dark: by both cases, a place in it, a place outside
--     painted-none, painted-row          no row of a box painted yet; one row more
-- Assumes nothing.
use mathlib.Core.Path.{◌≡◌, refl, sym, ◌∙◌}
use mathlib.Core.Logic.{◌⊎◌, inl, inr}
use mathlib.Core.Bool.{Bool, true, false, ◌&&◌, cond}
use mathlib.Core.List.{List}
use Prim.Native.Nat.{ℕ, ◌+◌, ◌*◌, ◌<◌, ◌≤◌}
use native.Mathlib.Decide.{ℕ_discrete, dec_lt}
use native.Mathlib.Omega.{arith}
use lib.Dec.{leb, ltb}
use borrow.Author.Tests.{ltb-true, ltb-false, leb-true, leb-false}
use lib.ListN.{get_or, length, replicate}
use lib.Seq.{length-sets, sets}
use Rattle.laws.proofs.Planes.{row-end}
use Rattle.laws.proofs.Stores.{run-at, run-off}
use Rattle.laws.specs.Plane.{Plane, plane}
use Rattle.proof_ring.specs.Inner.{Painted, dark_box}

-- ---- boxes

-- a place in a box
pub record InBox (x0 y0 lx ly x y : ℕ) : Type 0 where
  pub left : x0 ≤ x
  pub right : x < x0 + lx
  pub top : y0 ≤ y
  pub bottom : y < y0 + ly

-- a number is the plane's with a box made dark, where it is 0 in the box and the plane's outside it
pub box-by : (x0 y0 lx ly : ℕ) (g : Plane) (x y z : ℕ) → (InBox x0 y0 lx ly x y → z ≡ 0) → ((InBox x0 y0 lx ly x y → ⊥) → z ≡ g x y)
    → z ≡ dark_box x0 y0 lx ly g x y
unfolding dark_box
box-by x0 y0 lx ly g x y z dark rest = go (leb x0 x) refl (ltb x (x0 + lx)) refl (leb y0 y) refl (ltb y (y0 + ly)) refl
  where
    go : (a : Bool) → leb x0 x ≡ a → (b : Bool) → ltb x (x0 + lx) ≡ b → (c : Bool) → leb y0 y ≡ c → (d : Bool) → ltb y (y0 + ly) ≡ d
        → z ≡ cond ((a && b) && (c && d)) 0 (g x y)
    go false ea b eb c ec d ed = rest (λ i. omega (arith, leb-false x0 x ea, i.left))
    go true ea false eb c ec d ed = rest (λ i. omega (arith, ltb-false x (x0 + lx) eb, i.right))
    go true ea true eb false ec d ed = rest (λ i. omega (arith, leb-false y0 y ec, i.top))
    go true ea true eb true ec false ed = rest (λ i. omega (arith, ltb-false y (y0 + ly) ed, i.bottom))
    go true ea true eb true ec true ed =
        dark record {
          left = leb-true x0 x ea;
          right = ltb-true x (x0 + lx) eb;
          top = leb-true y0 y ec;
          bottom = ltb-true y (y0 + ly) ed;
        }

pub box_in : (x0 y0 lx ly : ℕ) (g : Plane) (x y : ℕ) → InBox x0 y0 lx ly x y → dark_box x0 y0 lx ly g x y ≡ 0
box_in x0 y0 lx ly g x y i = sym (box-by x0 y0 lx ly g x y 0 (λ _. refl) (λ off. absurd (off i)))

pub box_out : (x0 y0 lx ly : ℕ) (g : Plane) (x y : ℕ) → (InBox x0 y0 lx ly x y → ⊥) → dark_box x0 y0 lx ly g x y ≡ g x y
box_out x0 y0 lx ly g x y off = sym (box-by x0 y0 lx ly g x y (g x y) (λ i. absurd (off i)) (λ _. refl))

-- ---- rows

pub painted-none : (w x0 y0 n : ℕ) (l : List ℕ) → Painted w (dark_box x0 y0 n 0 (plane w l)) l l
painted-none w x0 y0 n l = record {
  same = refl;
  at = λ x y h k. sym (box_out x0 y0 n 0 (plane w l) x y (λ i. omega (arith, i.top, i.bottom)));
}

module _ (w x0 y0 n j : ℕ) (fit : x0 + n ≤ w) where
  -- a place of the row is in the run
  in-run : (x y : ℕ) → y ≡ y0 + j → x0 ≤ x → x < x0 + n
      → ((y0 + j) * w + x0 ≤ y * w + x) × (y * w + x < (y0 + j) * w + x0 + n)
  in-run x y e low high = rw e (omega arith, omega arith)

  -- a place of the picture that is not in the row is not in the run
  off-run : (x y : ℕ) → x < w → ((y ≡ y0 + j → x0 ≤ x → x < x0 + n → ⊥))
      → (y * w + x < (y0 + j) * w + x0) ⊎ ((y0 + j) * w + x0 + n ≤ y * w + x)
  off-run x y h off = go (dec_lt y (y0 + j)) (dec_lt (y0 + j) y) (dec_lt x x0) (dec_lt x (x0 + n))
    where
      go : Dec (y < y0 + j) → Dec (y0 + j < y) → Dec (x < x0) → Dec (x < x0 + n)
          → (y * w + x < (y0 + j) * w + x0) ⊎ ((y0 + j) * w + x0 + n ≤ y * w + x)
      go (yes a) b c d = inl (omega (arith, row-end y (y0 + j) w a))
      go (no a) (yes b) c d = inr (omega (arith, row-end (y0 + j) y w b))
      go (no a) (no b) (yes c) d = let e : y ≡ y0 + j = omega arith in inl (rw e (omega arith))
      go (no a) (no b) (no c) (no d) = let e : y ≡ y0 + j = omega arith in inr (rw e (omega arith))
      go (no a) (no b) (no c) (yes d) = absurd (off (omega arith) (omega arith) (omega arith))

  pub painted-row : (old l : List ℕ) → (y0 + j) * w + x0 + n ≤ length l → Painted w (dark_box x0 y0 n j (plane w old)) old l
      → Painted w (dark_box x0 y0 n (j + 1) (plane w old)) old (sets l ((y0 + j) * w + x0) (replicate n 0))
  painted-row old l room p = record {
    same = length-sets l ((y0 + j) * w + x0) (replicate n 0) ∙ p.same;
    at = λ x y h k. box-by x0 y0 n (j + 1) (plane w old) x y (get_or (sets l ((y0 + j) * w + x0) (replicate n 0)) (y * w + x) 0)
        (λ i. dark x y h (omega (arith, length-sets l ((y0 + j) * w + x0) (replicate n 0))) i (ℕ_discrete y (y0 + j)))
        (λ o. rest x y h (omega (arith, length-sets l ((y0 + j) * w + x0) (replicate n 0))) o);
  }
    where
      dark : (x y : ℕ) → x < w → y * w + x < length l → InBox x0 y0 n (j + 1) x y → Dec (y ≡ y0 + j)
          → get_or (sets l ((y0 + j) * w + x0) (replicate n 0)) (y * w + x) 0 ≡ 0
      dark x y h k i (yes e) =
          let b = in-run x y e i.left i.right in
          run-at l ((y0 + j) * w + x0) n 0 (y * w + x) room b.0 b.1
      dark x y h k i (no e) =
          run-off l ((y0 + j) * w + x0) n 0 (y * w + x) (off-run x y h (λ e' _ _. e e'))
          ∙ p.at x y h k
          ∙ box_in x0 y0 n j (plane w old) x y (record { left = i.left; right = i.right; top = i.top; bottom = last i e })
        where
          last : InBox x0 y0 n (j + 1) x y → (y ≡ y0 + j → ⊥) → y < y0 + j
          last i e = omega (arith, i.bottom, e)

      rest : (x y : ℕ) → x < w → y * w + x < length l → (InBox x0 y0 n (j + 1) x y → ⊥)
          → get_or (sets l ((y0 + j) * w + x0) (replicate n 0)) (y * w + x) 0 ≡ plane w old x y
      rest x y h k o =
          run-off l ((y0 + j) * w + x0) n 0 (y * w + x)
          (off-run x y h (λ e a b. o (record { left = a; right = b; top = omega arith; bottom = omega arith })))
          ∙ p.at x y h k
          ∙ box_out x0 y0 n j (plane w old) x y
          (λ i. o (record { left = i.left; right = i.right; top = i.top; bottom = omega (arith, i.bottom) }))
