-- The checks of a header that has been read byte by byte. Definitions only. Assumes nothing.
use Rattle.std.specs.Prelude.{ℕ, ◌+◌, ◌*◌, ◌≤◌, eqb, leb}
use Rattle.laws.specs.Check.{or_refuse}
use Rattle.laws.specs.Said.{Said}
use Rattle.picture_checks.specs.Picture.{is_side}
use Rattle.pgm.specs.Steps.{is_whole}
use Rattle.pgm.specs.Doors.{found}
use Rattle.pgm.specs.declared.Image.{Image}
use Rattle.pgm.specs.declared.steps.Reading.{Reading}

-- 14: not whole. 15: another maximum value than 255. 1: a side outside 1..4,096. What follows these is `rest`.
unfoldable pub check_head : Reading → ℕ → ℕ
check_head h rest =
    or_refuse (is_whole h.stage) 14
    (or_refuse (eqb h.maximum 255) 15
    (or_refuse (is_side h.width) 1
    (or_refuse (is_side h.height) 1
    rest)))

-- What passed checks tell.
pub record Passed (h : Reading) : Type 0 where
  pub wide : h.width ≤ 4096
  pub high : h.height ≤ 4096
  pub near : h.at ≤ 4096

-- The answer for a file of n bytes whose header has passed. 2: too few pixel bytes.
unfoldable pub pixels_answer : Reading → ℕ → Said Image
pixels_answer h n = found (or_refuse (leb (h.at + h.width * h.height) n) 2 0) h.width h.height h.at
