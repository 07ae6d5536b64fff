-- The check that every door that takes a list of points makes first: refusal 6. Definitions only. Assumes
-- nothing.
use Rattle.std.specs.Prelude.{Bool, ◌&&◌, ℕ, ◌%◌, eqb, leb}

-- n numbers are points, two each, and at most 16,384 of them. 6: they are not
abbrev pub is_points : ℕ → Bool
is_points n = eqb (n % 2) 0 && leb n 32768
