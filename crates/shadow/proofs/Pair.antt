-- The pair of pictures that shows that a shadow reaches 11 cells: their cells by `Spots`, their thresholds by `Rows` (crate levels).
--     not-ten
-- Assumes nothing.
use mathlib.Core.Bool.{Bool, cond, false, true, ◌&&◌}
use mathlib.Core.List.{[]}
use mathlib.Core.Logic.{◌⊎◌, inl, inr}
use mathlib.Core.Path.{◌∙◌, ◌≡◌, ap₂, refl, sym}
use Prim.Native.Nat.{◌%◌, ◌*◌, ◌+◌, ◌/◌, ◌<◌, ◌≤◌, suc, zero, ℕ}
use native.Mathlib.Decide.{dec_lt, ℕ_discrete}
use native.Mathlib.Omega.{arith}
use lib.Dec.{eqb, ltb}
use lib.ListN.{get_or-eq_default, get_or, length, length-append, length-drop}
use borrow.Author.Tests.{le-ltb, ne_eqb}
use Rattle.laws.proofs.Bools.{clash}
use Rattle.laws.proofs.Folds.{get_or-written, length-tab}
use Rattle.laws.proofs.Planes.{plane-drawn}
use Rattle.laws.specs.Fold.{fold}
use Rattle.laws.specs.Plane.{Alike, Plane, box, box_row, drawn, plane, rowwise}
use Rattle.levels.proofs.Rows.{row-dark-first, row-light}
use Rattle.levels.proofs.Same.{level-ext}
use Rattle.levels.proofs.Spots.{flat-spotted, spot-dark-few, spot-dark-many, spot-light-few}
use Rattle.levels.specs.Level.{ink_of, ink_at, level, light}
use Rattle.levels.specs.Spots.{Spotted}
use Rattle.picture_checks.specs.Picture.{Picture}
use Rattle.shadow.specs.Claims.{InkPast, LevelsPast, NotTen}
use Rattle.shadow.specs.Shadow.{OneCell, clear_plane, clear_bytes, shaded, shaded_bytes}

-- ---- pixels of 0 and 255
ends : (b : Bool) (v : ℕ) → (v ≡ 0) ⊎ (v ≡ 255) → (cond b 0 v ≡ 0) ⊎ (cond b 0 v ≡ 255)
ends true v q = inl refl
ends false v q = q

clear-ends : (x y : ℕ) → (clear_plane x y ≡ 0) ⊎ (clear_plane x y ≡ 255)
clear-ends x y = ends (eqb x 176 && eqb y 0) 255 (inr refl)

shaded-ends : (x y : ℕ) → (shaded x y ≡ 0) ⊎ (shaded x y ≡ 255)
shaded-ends x y = ends (ltb x 13 && eqb y 0) (clear_plane x y) (clear-ends x y)

-- away from these the pixels are 255
clear-flat : (x y : ℕ) → (x ≡ 176 → ⊥) → clear_plane x y ≡ 255
clear-flat x y e = rw (ne_eqb x 176 e)

shaded-past : (x y : ℕ) → 13 ≤ x → shaded x y ≡ clear_plane x y
shaded-past x y l = rw (le-ltb x 13 l)

-- ---- the cells
clear-cell : (x : ℕ) → x < 14 → (n : ℕ) × (n ≤ 12) × Spotted clear_plane 224 16 x 0 n
clear-cell x lx = go (ℕ_discrete x 11)
  where
    spot : Spotted clear_plane 224 16 11 0 1
    spot = record {
      wide = omega arith;
      high = omega arith;
      ends = λ i j li lj. clear-ends (16 * 11 + i) (16 * 0 + j);
      many = unfold box box_row fold in refl;
    }

    go : Dec (x ≡ 11) → (n : ℕ) × (n ≤ 12) × Spotted clear_plane 224 16 x 0 n
    go (yes e) = (1, omega arith, rw e spot)
    go (no e) = (
      0,
      omega arith,
      flat-spotted clear_plane 224 16 x 0 (omega arith) (omega arith)
          (λ i j li lj. clear-flat (16 * x + i) (16 * 0 + j) (λ z. e (omega arith))),
    )

shaded-first : Spotted shaded 224 16 0 0 13
shaded-first = record {
  wide = omega arith;
  high = omega arith;
  ends = λ i j li lj. shaded-ends (16 * 0 + i) (16 * 0 + j);
  many = unfold box box_row fold in refl;
}

shaded-cell : (x : ℕ) → 1 ≤ x → x < 14 → (n : ℕ) × (n ≤ 12) × Spotted shaded 224 16 x 0 n
shaded-cell x low lx = go (ℕ_discrete x 11)
  where
    spot : Spotted shaded 224 16 11 0 1
    spot = record {
      wide = omega arith;
      high = omega arith;
      ends = λ i j li lj. shaded-ends (16 * 11 + i) (16 * 0 + j);
      many = unfold box box_row fold in refl;
    }

    go : Dec (x ≡ 11) → (n : ℕ) × (n ≤ 12) × Spotted shaded 224 16 x 0 n
    go (yes e) = (1, omega arith, rw e spot)
    go (no e) = (
      0,
      omega arith,
      flat-spotted shaded 224 16 x 0 (omega arith) (omega arith)
          (λ i j li lj. shaded-past (16 * x + i) (16 * 0 + j) (omega arith)
          ∙ clear-flat (16 * x + i) (16 * 0 + j) (λ z. e (omega arith))),
    )

-- ---- the thresholds
clear-level : level clear_plane 224 16 11 0 ≡ 0
clear-level =
    row-light clear_plane
    (λ x l. let s = clear-cell x l in spot-dark-few clear_plane 224 16 x 0 s.0 s.2 s.1)
    (λ x l. let s = clear-cell x l in spot-light-few clear_plane 224 16 x 0 s.0 s.2 (omega (arith, s.1)))
    11 (omega arith)

shaded-level : level shaded 224 16 11 0 ≡ 204
shaded-level =
    row-dark-first shaded (spot-dark-many shaded 224 16 0 0 13 shaded-first (omega arith))
    (λ x low l. let s = shaded-cell x low l in spot-dark-few shaded 224 16 x 0 s.0 s.2 s.1)
    lights 11 (omega arith)
  where
    lights : (x : ℕ) → x < 14 → light shaded 224 16 x 0 ≡ 255
    lights zero l = spot-light-few shaded 224 16 0 0 13 shaded-first (omega arith)
    lights (suc x) l = let s = shaded-cell (suc x) (omega arith) l in
        spot-light-few shaded 224 16 (suc x) 0 s.0 s.2 (omega (arith, s.1))

-- ---- from planes to bytes
clear-held : Alike 224 16 (plane 224 clear_bytes) clear_plane
unfolding clear_bytes
clear-held = plane-drawn 224 16 clear_plane []

shaded-held : Alike 224 16 (plane 224 shaded_bytes) shaded
unfolding shaded_bytes
shaded-held = plane-drawn 224 16 shaded []

one_cell : OneCell 224 16 0 0 clear_bytes shaded_bytes
one_cell x y lx ly other = clear-held x y lx ly ∙ go (dec_lt x 13) ∙ sym (shaded-held x y lx ly)
  where
    go : Dec (x < 13) → clear_plane x y ≡ shaded x y
    go (yes l) = absurd (other (omega arith, omega arith))
    go (no l) = sym (shaded-past x y (omega arith))

many : (f : Plane) → length (drawn 224 16 f []) ≡ 224 * 16
many f = simp (length-append, length-tab, length-drop) (omega arith)

small : (w h : ℕ) (f : Plane) → ((x y : ℕ) → f x y < 256) → (i : ℕ) → get_or (drawn w h f []) i 0 < 256
small w h f few i = go (dec_lt i (w * h))
  where
    go : Dec (i < w * h) → get_or (drawn w h f []) i 0 < 256
    go (yes l) = rw (get_or-written (w * h) (rowwise w f) [] i 0 l) (few (i % w) (i / w))
    go (no l) =
        let long : length (drawn w h f []) ≤ i = simp (length-append, length-tab, length-drop) (omega arith) in
        omega (arith, get_or-eq_default (drawn w h f []) 0 {n = i} long)

byte : (v : ℕ) → (v ≡ 0) ⊎ (v ≡ 255) → v < 256
byte v (inl e) = omega arith
byte v (inr e) = omega arith

picture : (f : Plane) → Picture (drawn 224 16 f []) 224 16
picture f = record { w-low = omega arith; w-high = omega arith; h-low = omega arith; h-high = omega arith; count = many f }

clear-bytes-level : level (plane 224 clear_bytes) 224 16 11 0 ≡ 0
clear-bytes-level = level-ext 224 16 (plane 224 clear_bytes) clear_plane clear-held 11 0 (omega arith) (omega arith) ∙ clear-level

shaded-bytes-level : level (plane 224 shaded_bytes) 224 16 11 0 ≡ 204
shaded-bytes-level = level-ext 224 16 (plane 224 shaded_bytes) shaded shaded-held 11 0 (omega arith) (omega arith) ∙ shaded-level

clear-ink : ink_at (plane 224 clear_bytes) 224 16 176 0 ≡ false
unfolding ink_at ink_of
clear-ink = ap₂ ltb (clear-held 176 0 (omega arith) (omega arith)) clear-bytes-level

shaded-ink : ink_at (plane 224 shaded_bytes) 224 16 176 0 ≡ true
unfolding ink_at ink_of
shaded-ink = ap₂ ltb (shaded-held 176 0 (omega arith) (omega arith)) shaded-bytes-level

pub not-ten : NotTen
unfolding clear_bytes shaded_bytes LevelsPast InkPast
not-ten = record {
  first = picture clear_plane;
  second = picture shaded;
  bytes = λ i. (
    small 224 16 clear_plane (λ x y. byte (clear_plane x y) (clear-ends x y)) i,
    small 224 16 shaded (λ x y. byte (shaded x y) (shaded-ends x y)) i,
  );
  one_cell = one_cell;
  away = inl (omega arith);
  first-level = clear-bytes-level;
  second-level = shaded-bytes-level;
  first-ink = clear-ink;
  second-ink = shaded-ink;
  no-levels = λ past.
      let z =
      past 224 16 clear_bytes shaded_bytes 0 0 one_cell 11 0 (omega arith) (omega arith) (inl (omega arith)) in
      omega (arith, z, clear-bytes-level, shaded-bytes-level);
  no-ink = λ past.
      clash shaded-ink
      (sym (past 224 16 clear_bytes shaded_bytes 0 0 one_cell 176 0 (omega arith) (omega arith) (inl (omega arith)))
      ∙ clear-ink);
}
