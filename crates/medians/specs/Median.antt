-- `median` and `mad_sigma`, by rule 48 and refusals 9 and 10: order statistics of f32 values.
-- Definitions only. Assumes nothing.
use Rattle.std.specs.Prelude.{◌≡◌, List, [], ◌∷◌, map, Bool, true, cond, not, ◌&&◌, ℕ, ◌+◌, ◌-◌, ◌/◌, ◌%◌, leb, ltb, eqb, length, Float}
use Rattle.std.specs.Float.{nan, binary32}
use Rattle.std.specs.Float.Ieee.{lt, add, sub, mul, fits, of_bits}
use Rattle.ieee.specs.Ops.{abs, finite, plain}
use Rattle.ieee.specs.Constants.{1·4826, 0·5}
use Rattle.laws.specs.Check.{or_refuse}
use Rattle.laws.specs.Said.{Said, refuse, none, give}

-- how many values pass a test
unfoldable pub count_in : (Float → Bool) → List Float → ℕ
count_in p [] = 0
count_in p (x ∷ xs) = cond (p x) 1 0 + count_in p xs

-- the same values, in whatever order: every test is passed by as many
unfoldable pub SameValues : List Float → List Float → Type 0
SameValues s t = (p : Float → Bool) → count_in p s ≡ count_in p t

-- below x
abbrev pub under : Float → Float → Bool
under x y = lt y x

-- above x
abbrev pub over : Float → Float → Bool
over x y = lt x y

-- not above x
abbrev pub up_to : Float → Float → Bool
up_to x y = not (lt x y)

-- whether x has the place k in the order of the values, counted from 0: at most k are below it, and more than k are not above it
unfoldable pub is_kth : List Float → ℕ → Float → Bool
unfolding count_in
is_kth s k x = leb (count_in (under x) s) k && ltb k (count_in (up_to x) s)

-- the first value of a list that passes a test
unfoldable pub first_with : (Float → Bool) → List Float → Float
first_with p [] = nan
first_with p (x ∷ xs) = cond (p x) x (first_with p xs)

-- the k-th smallest value, counted from 0
unfoldable pub kth : List Float → ℕ → Float
unfolding first_with is_kth
kth s k = first_with (is_kth s k) s

-- 0.5
-- the middle value; of an even number 0·5 the sum of the two middle ones; of none 0
unfoldable pub median : List Float → Float
unfolding kth
median s =
    cond (eqb (length s) 0) (of_bits binary32 0)
    (cond (eqb (length s % 2) 1) (kth s (length s / 2))
    (mul binary32 0·5 (add binary32 (kth s (length s / 2 - 1)) (kth s (length s / 2)))))

-- the distance of x from c
unfoldable pub away : Float → Float → Float
unfolding abs
away c x = abs (sub binary32 x c)

-- the median distance from the median, times 1.4826
unfoldable pub mad_sigma : List Float → Float
unfolding median away
mad_sigma s = mul binary32 1·4826 (median (map (away (median s)) s))

-- what the doors take: no NaN, no infinity, no -0
unfoldable pub usable : Float → Bool
unfolding finite
usable x = finite x && plain x

-- every value of a list so
unfoldable pub all_usable : List Float → Bool
unfolding usable
all_usable [] = true
all_usable (x ∷ xs) = usable x && all_usable xs

-- what no list to be ordered may hold: what is no `f32`, a NaN, -0; an infinity may be a distance
unfoldable pub is_bad : Float → Bool
unfolding fits
is_bad x = not (fits binary32 x && plain x)

-- a list that can be ordered
unfoldable pub Numbers : List Float → Type 0
unfolding count_in is_bad
Numbers s = count_in is_bad s ≡ 0

-- 9: over 4,096 values. 10: a NaN, an infinity or -0 among them
unfoldable pub checked : List Float → Said Float → Said Float
unfolding all_usable
checked s rest = or_refuse (leb (length s) 4096) (refuse 9) (or_refuse (all_usable s) (refuse 10) rest)

-- what `median` answers
unfoldable pub median_answer : List Float → Said Float
unfolding checked median
median_answer s = checked s (give (median s))

-- what `mad_sigma` answers
unfoldable pub mad_sigma_answer : List Float → Said Float
unfolding checked mad_sigma
mad_sigma_answer s = checked s (give (mad_sigma s))

-- what `median` leaves in the lent list: the same values in some order where it gives one, else the list as it was
abbrev pub Left : Said Float → List Float → List Float → Type 0
Left (give x) s t = SameValues s t
Left none s t = t ≡ s
Left (refuse n) s t = t ≡ s
