-- The checks of a picture that every door that takes one makes first: refusals 1 and 2.
-- Definitions only. Assumes nothing.
use Rattle.std.specs.Prelude.{Bool, ◌&&◌, List, ◌≡◌, ℕ, ◌*◌, ◌≤◌, eqb, leb, length}
use Rattle.laws.specs.Check.{or_refuse}

-- A side is 1 to 4,096.
abbrev pub is_side : ℕ → Bool
is_side n = leb 1 n && leb n 4096

-- 1: a side outside 1..4,096. 2: bytes not width × height. What follows these is `rest`.
abbrev pub check_picture : ℕ → ℕ → ℕ → ℕ → ℕ
check_picture w h bytes rest =
    or_refuse (is_side w) 1
    (or_refuse (is_side h) 1
    (or_refuse (eqb bytes (w * h)) 2
    rest))

-- What these checks tell where they pass.
pub record Sides (w h bytes : ℕ) : Type 0 where
  pub w-low : 1 ≤ w
  pub w-high : w ≤ 4096
  pub h-low : 1 ≤ h
  pub h-high : h ≤ 4096
  pub count : bytes ≡ w * h

-- A legal picture: bytes row by row of these sides.
abbrev pub Picture : List ℕ → ℕ → ℕ → Type 0
Picture s w h = Sides w h (length s)
