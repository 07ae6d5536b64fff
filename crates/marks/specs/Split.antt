-- The split of one window of lumas, from `classify` of ring.rs: a threshold that starts at the mean and is moved four times to the middle
-- between the means of the numbers not above it and of those above it; and the round at which it has settled. Sums start from the first
-- term. Definitions only. Assumes nothing.
use Rattle.std.specs.Prelude.{Bool, not, ◌&&◌, ◌||◌, cond, List, ◌≡◌, ℕ, zero, suc, ◌-◌, ◌<◌, pos, eqb, Float, length, get_or}
use Rattle.std.specs.Float.{nan, binary32}
use Rattle.std.specs.Float.Ieee.{add, div, lt, eq, is_nan, of_int, of_bits, to_bits}
use Rattle.ieee.specs.Constants.{1f, 2f}
use Rattle.marks.specs.declared.split.Sides.{Sides}
use Rattle.marks.specs.declared.split.Settled.{Settled}

-- 0.0 as an `f32`
abbrev pub 0·0 : Float
0·0 = of_bits binary32 0

-- The sum of the first n + 1 numbers, from the first on.
unfoldable pub total_to : List Float → ℕ → Float
total_to w zero = get_or w 0 nan
total_to w (suc n) = add binary32 (total_to w n) (get_or w (suc n) nan)

-- The mean of a window.
unfoldable pub split_mean : List Float → Float
split_mean w = div binary32 (total_to w (length w - 1)) (of_int binary32 (pos (length w)))

-- One number put on its side of the threshold t: sum and count of those above it, and of the others.
unfoldable pub put_side : Float → Float → Sides → Sides
put_side t x s =
    cond (lt t x)
    (record { lo = s.lo; ln = s.ln; hi = add binary32 s.hi x; hn = add binary32 s.hn 1f })
    (record { lo = add binary32 s.lo x; ln = add binary32 s.ln 1f; hi = s.hi; hn = s.hn })

-- Both sides empty.
abbrev pub no_sides : Sides
no_sides = record { lo = 0·0; ln = 0·0; hi = 0·0; hn = 0·0 }

-- The sides of the first n numbers, put one after the other.
unfoldable pub sides_to : Float → List Float → ℕ → Sides
sides_to t w zero = no_sides
sides_to t w (suc n) = put_side t (get_or w n nan) (sides_to t w n)

-- The middle between the means of the two sides, or t where one side is empty.
unfoldable pub between : Float → Sides → Float
between t s =
    cond (eq s.ln 0·0 || eq s.hn 0·0) t
    (div binary32 (add binary32 (div binary32 s.lo s.ln) (div binary32 s.hi s.hn)) 2f)

-- One round of the split. After a round with an empty side t stays: the Rust ends there.
unfoldable pub split_round : List Float → Float → Float
split_round w t = between t (sides_to t w (length w))

-- k rounds from t.
unfoldable pub rounds : List Float → ℕ → Float → Float
rounds w zero t = t
rounds w (suc k) t = split_round w (rounds w k t)

-- Each of the first n numbers of a window is on the same side of a as of b.
unfoldable pub SameSides : List Float → Float → Float → ℕ → Type 0
SameSides w a b n = (i : ℕ) → i < n → lt a (get_or w i nan) ≡ lt b (get_or w i nan)

-- The split of a window: four rounds from its mean.
unfoldable pub split : List Float → Float
split w = rounds w 4 (split_mean w)

-- The split after round k, from the mean on: rounds count from 1. The split of a window is that after four.
unfoldable pub split_after : List Float → ℕ → Float
split_after w k = rounds w k (split_mean w)

-- ---- the round at which it has settled
-- Two splits have the same bits, any NaN as any NaN.
unfoldable pub same_bits : Float → Float → Bool
same_bits a b = cond (is_nan a) (is_nan b) (not (is_nan b) && eqb (to_bits binary32 a) (to_bits binary32 b))

-- The split after round k + 1 has the bits of the one before.
unfoldable pub settled_after : List Float → ℕ → Bool
settled_after w k = same_bits (split_after w (suc k)) (split_after w k)

-- The first round, from the second on, whose split has the bits of the one before, or 4 if there is none.
unfoldable pub round_of : List Float → ℕ
round_of w = cond (settled_after w 1) 2 (cond (settled_after w 2) 3 4)

-- The split of that round, with its number.
unfoldable pub settled_split : List Float → Settled
settled_split w = record { split = split_after w (round_of w); round = round_of w }
