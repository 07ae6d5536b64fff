-- Lengths of the first part of an array.
--     front      the first n places of a list that has them are n
--     refilled   the array with its first n places filled again has them
-- Assumes nothing.
use mathlib.Core.Path.{◌≡◌}
use mathlib.Core.List.{List, ◌++◌}
use Prim.Native.Nat.{ℕ, ◌≤◌}
use native.Mathlib.Omega.{arith}
use lib.ListN.{length, take, drop, length-take, length-append}

pub front : (n : ℕ) (l : List ℕ) → n ≤ length l → n ≡ length (take n l)
front n l h = simp length-take (omega arith)

pub refilled : (n : ℕ) (a l : List ℕ) → n ≡ length a → n ≤ length (a ++ drop n l)
refilled n a l e = simp length-append (omega arith)
