-- Light or dark at each position, from `classify` of ring.rs: by the split of the finite lumas at the position and the 16 positions on
-- either side. Dark where the luma is not finite, and where its window has fewer than four finite ones. Definitions only. Assumes nothing.
use Rattle.std.specs.Prelude.{◌≡◌, Bool, false, cond, List, [], ◌∷◌, ◌++◌, ℕ, zero, suc, ◌+◌, ◌-◌, ◌%◌, ◌≤◌, ltb, Float, length, get_or, take}
use Rattle.std.specs.Float.{nan}
use Rattle.std.specs.Float.Ieee.{lt}
use Rattle.ieee.specs.Ops.{finite}
use Rattle.marks.specs.Split.{split}

-- The position at place j of a walk round n positions that starts 16 before position 0.
abbrev pub place_around : ℕ → ℕ → ℕ
place_around n j = (n + j - 16) % n

-- The luma there.
unfoldable pub luma_around : List Float → ℕ → Float
luma_around s j = get_or s (place_around (length s) j) nan

-- x put last where it is finite.
unfoldable pub kept : List Float → Float → List Float
kept w x = cond (finite x) (w ++ (x ∷ [])) w

-- The finite lumas at k places from place a on, in order.
unfoldable pub gathered : List Float → ℕ → ℕ → List Float
gathered s a zero = []
gathered s a (suc k) = kept (gathered s a k) (luma_around s (a + k))

-- The window of position p: the finite lumas from 16 positions before it to 16 after.
abbrev pub window : List Float → ℕ → List Float
window s p = gathered s p 33

-- Whether a luma x is light in its window: it is finite, the window has four numbers or more, and x is above their split.
unfoldable pub light_in : List Float → Float → Bool
light_in w x = cond (finite x) (cond (ltb (length w) 4) false (lt (split w) x)) false

-- Whether position p is light.
unfoldable pub light_at : List Float → ℕ → Bool
light_at s p = light_in (window s p) (get_or s p nan)

-- The marks that f gives at the positions below n, in order.
unfoldable pub marks_of : ℕ → (ℕ → Bool) → List Bool
marks_of zero f = []
marks_of (suc n) f = marks_of n f ++ (f n ∷ [])

-- Light or dark at every position.
unfoldable pub lights : List Float → List Bool
lights s = marks_of (length s) (light_at s)

-- As many positions as a version can have: a window passes no position twice, and all windows together have at most 1,144 places.
pub record Ring (n : ℕ) : Type 0 where
  pub least : 33 ≤ n
  pub most : n ≤ 1112

-- The first k numbers of a list are the finite lumas at the places below j.
pub record Gathered (s : List Float) (j k : ℕ) (l : List Float) : Type 0 where
  pub many : k ≡ length (gathered s 0 j)
  pub are : take k l ≡ gathered s 0 j

-- A list starts with the finite lumas of all windows: the places 16 before position 0 to 16 after the last.
pub record Around (s l : List Float) : Type 0 where
  pub are : take (length (gathered s 0 (length s + 32))) l ≡ gathered s 0 (length s + 32)
