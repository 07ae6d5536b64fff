-- Answers of the doors that draw a ring and read one back, as the request on drawing a proof ring
-- has them, with its refusals in its order: 8, a version outside 1..64; 1, a side outside 1..4,096; 2, bytes not width × height; 16, a
-- pitch outside 1..16, a corner outside 0..3 or a side below (version side + 10) × pitch; and, at the reading, 11, marks not as many as
-- positions. Definitions only. Assumes nothing.
use Rattle.std.specs.Prelude.{Bool, ◌&&◌, List, ℕ, zero, suc, ◌+◌, ◌*◌, ◌≤◌, eqb, leb, length}
use Rattle.picture_checks.specs.Picture.{check_picture}
use Rattle.laws.specs.Check.{or_refuse}
use Rattle.laws.specs.Plane.{drawn}
use Rattle.laws.specs.Said.{Said, give, none, refuse}
use Rattle.lcr_core.specs.Version.{is_version, positions_of, side_of}
use Rattle.proof_ring.specs.Picture.{ring_pixel}
use Rattle.proof_ring.specs.Reading.{marks_read}

-- The least side of a picture, in pixels: the square with two cells before and after it
abbrev pub least_side : ℕ → ℕ → ℕ
least_side v pitch = (side_of v + 10) * pitch

-- 16, and what follows it
abbrev pub check_plan : ℕ → ℕ → ℕ → ℕ → ℕ → ℕ → ℕ
check_plan v pitch r w h rest =
    or_refuse (leb 1 pitch && leb pitch 16) 16
    (or_refuse (leb r 3) 16
    (or_refuse (leb (least_side v pitch) w) 16
    (or_refuse (leb (least_side v pitch) h) 16
    rest)))

-- All checks of a drawing; 0 where they pass
abbrev pub check_drawing : ℕ → ℕ → ℕ → ℕ → ℕ → ℕ → ℕ
check_drawing v pitch r w h bytes = or_refuse (is_version v) 8 (check_picture w h bytes (check_plan v pitch r w h 0))

-- All checks of a reading
abbrev pub check_reading : ℕ → ℕ → ℕ → ℕ → ℕ → ℕ → ℕ
check_reading v pitch w h bytes marks =
    or_refuse (is_version v) 8
    (check_picture w h bytes
    (check_plan v pitch 0 w h
    (or_refuse (eqb marks (positions_of v)) 11
    0)))

-- The number of the first check that fails, as an answer: that the picture is drawn, or that the marks are written, is all that it gives
abbrev pub answer_of : ℕ → Said (Unit {0})
answer_of zero = give tt
answer_of (suc n) = refuse (suc n)

-- What a drawing answers
abbrev pub draw_answer : ℕ → ℕ → ℕ → List ℕ → ℕ → ℕ → Said (Unit {0})
draw_answer v pitch r old w h = answer_of (check_drawing v pitch r w h (length old))

-- The lent picture after it: every pixel drawn, or as before on refusal
abbrev pub pixels_after : Said (Unit {0}) → ℕ → ℕ → ℕ → Bool → List ℕ → ℕ → ℕ → List ℕ
pixels_after (give u) v pitch r reversed old w h = drawn w h (ring_pixel v pitch r reversed) old
pixels_after none v pitch r reversed old w h = old
pixels_after (refuse n) v pitch r reversed old w h = old

-- What a reading answers
abbrev pub read_answer : ℕ → ℕ → List ℕ → ℕ → ℕ → List Bool → Said (Unit {0})
read_answer v pitch s w h old = answer_of (check_reading v pitch w h (length s) (length old))

-- The lent marks after it: every one written, or as before on refusal
abbrev pub marks_after : Said (Unit {0}) → ℕ → ℕ → List ℕ → ℕ → List Bool → List Bool
marks_after (give u) v pitch s w old = marks_read v pitch s w
marks_after none v pitch s w old = old
marks_after (refuse n) v pitch s w old = old

-- What the checks of 16 tell where they pass
pub record Planned (v pitch r w h : ℕ) : Type 0 where
  pub pitch-low : 1 ≤ pitch
  pub pitch-high : pitch ≤ 16
  pub corner : r ≤ 3
  pub wide : least_side v pitch ≤ w
  pub high : least_side v pitch ≤ h
