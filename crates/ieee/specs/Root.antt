-- The square root of IEEE 754, over whole numbers. Definitions only.
use Rattle.std.specs.Prelude.{ℕ, zero, suc, ◌+◌, ◌-◌, ◌*◌, ◌/◌, ◌^◌, true, false, cond, nat_le, nat_lt, Float}
use Prim.Native.Nat.{compare}
use Rattle.std.specs.Float.{nan, inf, fin, Format}
use Rattle.std.specs.Float.Ieee.{prec, low, up, down, size, nearest, units}

-- The whole part of n's root, for an n below 4 ^ d: twice that of n / 4, or one more.
unfoldable pub root_to : ℕ → ℕ → ℕ
root_to zero n = 0
root_to (suc d) n = let r = root_to d (n / 4) in cond (nat_le ((2 * r + 1) * (2 * r + 1)) n) (2 * r + 1) (2 * r)

-- the greatest number whose square is at most n
unfoldable pub isqrt : ℕ → ℕ
unfolding root_to size
isqrt n = root_to (size n) n

-- The value of the format f that is nearest to the root of num / den, as `round` has it for num / den itself.
-- In units of f's smallest value the root is that of n / den. Of its whole part the format keeps the `prec` leading digits, q, and drops k.
-- The root is below, at or above the middle between q and q + 1 (times 2 ^ k units) as 4 * n / den is below, at or above the square of (2 *
-- q + 1) * 2 ^ k.
unfoldable pub root_at : Format → ℕ → ℕ → Float
unfolding isqrt size units
root_at f num den =
    let n = num * 2 ^ (2 * low f) in
    let w = isqrt (n / den) in
    let k = size w - prec f in
    let q = w / 2 ^ k in
    units f false (nearest q (compare (4 * n) ((2 * q + 1) * (2 * q + 1) * (2 ^ (2 * k) * den)))) k

-- IEEE 754's square_root: a zero keeps its sign, and below zero it is a NaN.
unfoldable pub sqrt : Format → Float → Float
unfolding root_at
sqrt f nan = nan
sqrt f (inf s) = cond s nan (inf false)
sqrt f (fin s zero e) = fin s zero e
sqrt f (fin true (suc m) e) = nan
sqrt f (fin false (suc m) e) = root_at f (suc m * up e) (down e)

-- the whole number nearest to the root of n, which never lies halfway
abbrev pub near_root : ℕ → ℕ
near_root n = cond (nat_lt (isqrt n * isqrt n + isqrt n) n) (isqrt n + 1) (isqrt n)
