-- The checks of a reading, one by one: head-not-whole to head-on; the pixels behind it, pixels-few, pixels-enough; the letters,
-- letters-short, letters-first, letters-both. Assumes nothing.
use mathlib.Core.Path.{◌≡◌, refl}
use mathlib.Core.Bool.{Bool, true, false, ◌&&◌}
use mathlib.Core.List.{List}
use Prim.Native.Nat.{ℕ, ◌+◌, ◌*◌, ◌≤◌, ◌<◌}
use native.Mathlib.Omega.{arith}
use lib.Dec.{eqb}
use lib.ListN.{length, get_or, get_or-eq_default}
use borrow.Author.Tests.{le-leb, lt-leb, eq-eqb, ne_eqb}
use Rattle.picture_checks.specs.Picture.{is_side}
use Rattle.pgm.specs.Form.{has_letters}
use Rattle.pgm.specs.Doors.{image, found}
use Rattle.pgm.specs.Steps.{is_whole}
use Rattle.pgm.specs.Head.{check_head, pixels_answer}
use Rattle.laws.specs.Said.{give, refuse}
use Rattle.pgm.specs.declared.steps.Reading.{Reading}

module _ (h : Reading) where
  pub head-not-whole : is_whole h.stage ≡ false → 14 ≡ check_head h 0
  unfolding check_head
  head-not-whole e = rw e

  module _ (whole : is_whole h.stage ≡ true) where
    pub head-maximum : (h.maximum ≡ 255 → ⊥) → 15 ≡ check_head h 0
    unfolding check_head
    head-maximum e = rw (whole, ne_eqb h.maximum 255 e)

    module _ (maximum : h.maximum ≡ 255) where
      pub head-width : is_side h.width ≡ false → 1 ≡ check_head h 0
      unfolding check_head
      head-width e = rw (whole, eq-eqb h.maximum 255 maximum, e)

      module _ (wide : is_side h.width ≡ true) where
        pub head-height : is_side h.height ≡ false → 1 ≡ check_head h 0
        unfolding check_head
        head-height e = rw (whole, eq-eqb h.maximum 255 maximum, wide, e)

        pub head-on : is_side h.height ≡ true → 0 ≡ check_head h 0
        unfolding check_head
        head-on e = rw (whole, eq-eqb h.maximum 255 maximum, wide, e)

  -- ---- the pixels
  pub pixels-few : (n : ℕ) → n < h.at + h.width * h.height → refuse 2 ≡ pixels_answer h n
  unfolding pixels_answer found
  pixels-few n l = rw (lt-leb (h.at + h.width * h.height) n l)

  pub pixels-enough : (n : ℕ) → h.at + h.width * h.height ≤ n → give (image h.width h.height h.at) ≡ pixels_answer h n
  unfolding pixels_answer found
  pixels-enough n l = rw (le-leb (h.at + h.width * h.height) n l)

-- ---- the letters
pub letters-short : (s : List ℕ) → length s < 2 → false ≡ has_letters s
unfolding has_letters
letters-short s l = rw (get_or-eq_default s 0 {n = 1} (omega arith)) (none (eqb (get_or s 0 0) 80))
  where
    none : (a : Bool) → false ≡ (a && false)
    none true = refl
    none false = refl

pub letters-first : (s : List ℕ) → (get_or s 0 0 ≡ 80 → ⊥) → false ≡ has_letters s
unfolding has_letters
letters-first s e = rw (ne_eqb (get_or s 0 0) 80 e)

pub letters-both : (s : List ℕ) → get_or s 0 0 ≡ 80 → eqb (get_or s 1 0) 53 ≡ has_letters s
unfolding has_letters
letters-both s e = rw (eq-eqb (get_or s 0 0) 80 e)
