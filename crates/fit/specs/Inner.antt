-- Pairs of points that are too short for a trial, told by the square of their length. Of inner functions only: no entry's promise cites
-- this. Definitions only. Assumes nothing.
use Rattle.std.specs.Prelude.{◌≡◌, Bool, true, ◌&&◌, T, Float}
use Rattle.std.specs.Float.{binary32}
use Rattle.std.specs.Float.Ieee.{lt, fits}
use Rattle.ieee.specs.Constants.{0f}
use Rattle.ieee.specs.Root.{sqrt}
use Rattle.fit.specs.F32.{◌⊘◌, 3f}

-- A square under c and above 0.
abbrev pub under_cut : Float → Float → Bool
under_cut d c = lt d c && lt 0f d

-- Squares under c and above 0 are of lengths under a third of the edge.
unfoldable pub ShortUnder : Float → Float → Type 0
ShortUnder len c = (d : Float) → T (fits binary32 d) → under_cut d c ≡ true → lt (sqrt binary32 d) (len ⊘ 3f) ≡ true
