-- Lists of a known number of places. Assumes nothing.
--   same-places    n times a value
--   places         what `HasPlaces` says
--   front          the first n places of a list that has them are n
--   refilled       a list with its first n places filled again has them
use mathlib.Core.Path.{◌≡◌, sym}
use mathlib.Core.List.{List, ◌++◌}
use Prim.Native.Nat.{ℕ, ◌≤◌}
use native.Mathlib.Omega.{arith}
use lib.ListN.{length, take, drop, replicate, length-replicate, length-take, length-append}
use Rattle.word_bytes.specs.Inner.{HasPlaces}

pub same-places : {A : Type 0} (n : ℕ) (a : A) → HasPlaces n (replicate n a)
unfolding HasPlaces
same-places n a = sym (length-replicate n a)

pub places : {A : Type 0} (n : ℕ) (r : List A) → HasPlaces n r → n ≡ length r
unfolding HasPlaces
places n r e = e

pub front : {A : Type 0} (n : ℕ) (l : List A) → n ≤ length l → n ≡ length (take n l)
front n l h = simp length-take (omega arith)

pub refilled : {A : Type 0} (n : ℕ) (a l : List A) → n ≡ length a → n ≤ length (a ++ drop n l)
refilled n a l e = simp length-append (omega arith)
