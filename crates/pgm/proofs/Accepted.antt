-- A file that is accepted.
--   Accepted, accepted, accepts, answered      what that is, from the checks and back; its answer
--   accepted-pixels                            as many pixels as the sides say
--   same_answer, same-pixels                   bytes after the pixels do not matter
-- Assumes nothing.
use mathlib.Core.Path.{◌≡◌, sym, ap, ◌∙◌}
use mathlib.Core.Bool.{true, ◌&&◌}
use mathlib.Core.List.{List, ◌++◌}
use Prim.Native.Nat.{ℕ, ◌+◌, ◌*◌, ◌≤◌}
use native.Mathlib.Omega.{arith}
use lib.Dec.{eqb, leb, lit<}
use lib.ListN.{length, take, drop, length-append, length-take, length-drop}
use lib.Seq.{drop-append-le, take-append-le}
use borrow.Author.Tests.{leb-true, le-leb}
use Rattle.laws.proofs.Bools.{and_left, and_right}
use Rattle.picture_checks.specs.Picture.{is_side}
use Rattle.picture_checks.proofs.Checked.{check-step}
use Rattle.pgm.specs.Form.{has_form, file_width, file_height, file_maximum, file_start}
use Rattle.pgm.specs.Doors.{image, check_header, check_pixels, check_file, found, file_answer, file_pixels}
use Rattle.laws.specs.Said.{give}
use Rattle.pgm.proofs.Longer.{header-append}

pub record Accepted (s : List ℕ) : Type 0 where
  pub has : has_form s ≡ true
  pub near : leb (file_start s) 4096 ≡ true
  pub maximum : eqb (file_maximum s) 255 ≡ true
  pub wide : is_side (file_width s) ≡ true
  pub high : is_side (file_height s) ≡ true
  pub enough : file_start s + file_width s * file_height s ≤ length s

pub accepted : (s : List ℕ) → check_file s ≡ 0 → Accepted s
unfolding check_file check_header check_pixels
accepted s e =
    let a = check-step (has_form s && leb (file_start s) 4096) 14 _ (lit< tt) e in
    let b = check-step (eqb (file_maximum s) 255) 15 _ (lit< tt) a.1 in
    let c = check-step (is_side (file_width s)) 1 _ (lit< tt) b.1 in
    let d = check-step (is_side (file_height s)) 1 _ (lit< tt) c.1 in
    let f = check-step (leb (file_start s + file_width s * file_height s) (length s)) 2 0 (lit< tt) d.1 in
    record {
      has = and_left (has_form s) (leb (file_start s) 4096) a.0;
      near = and_right (has_form s) (leb (file_start s) 4096) a.0;
      maximum = b.0;
      wide = c.0;
      high = d.0;
      enough = leb-true _ _ f.0;
    }

enough-check : (s : List ℕ) → Accepted s → check_pixels s ≡ 0
unfolding check_pixels
enough-check s a = rw (le-leb (file_start s + file_width s * file_height s) (length s) a.enough)

header-on : (s : List ℕ) → Accepted s → (rest : ℕ) → check_header s rest ≡ rest
unfolding check_header
header-on s a rest = rw (a.has, a.near, a.maximum, a.wide, a.high)

pub accepts : (s : List ℕ) → Accepted s → check_file s ≡ 0
unfolding check_file
accepts s a = header-on s a (check_pixels s) ∙ enough-check s a

pub answered : (s : List ℕ) → Accepted s → file_answer s ≡ give (image (file_width s) (file_height s) (file_start s))
unfolding file_answer found
answered s a = rw (accepts s a)

pub accepted-pixels : (s : List ℕ) → Accepted s → length (file_pixels s) ≡ file_width s * file_height s
unfolding file_pixels
accepted-pixels s a = part (file_width s * file_height s) (file_start s) a.enough
  where
    part : (n at : ℕ) → at + n ≤ length s → length (take n (drop at s)) ≡ n
    part n at l = simp (length-take, length-drop) (omega arith)

-- ---- a longer file
pub accepted-append : (s t : List ℕ) → Accepted s → Accepted (s ++ t)
accepted-append s t a =
    let h = header-append s t a.has in
    record {
      has = h.has;
      near = rw h.start a.near;
      maximum = rw h.maximum a.maximum;
      wide = rw h.width a.wide;
      high = rw h.height a.high;
      enough = rw (h.start, h.width, h.height, length-append s t) (longer (file_start s + file_width s * file_height s) a.enough);
    }
  where
    longer : (n : ℕ) → n ≤ length s → n ≤ length s + length t
    longer n l = omega arith

module _ (s t : List ℕ) (a : Accepted s) where
  pub same_answer : file_answer (s ++ t) ≡ file_answer s
  same_answer =
      let h = header-append s t a.has in
      answered (s ++ t) (accepted-append s t a) ∙ rw (h.width, h.height, h.start) (sym (answered s a))

  pub same-pixels : file_pixels (s ++ t) ≡ file_pixels s
  unfolding file_pixels
  same-pixels =
      let h = header-append s t a.has in
      rw (h.width, h.height, h.start) (cut (file_width s * file_height s) (file_start s) a.enough)
    where
      cut : (n at : ℕ) → at + n ≤ length s → take n (drop at (s ++ t)) ≡ take n (drop at s)
      cut n at l =
          ap (take n) (drop-append-le at s t (omega arith)) ∙ take-append-le n (drop at s) t (simp length-drop (omega arith))
