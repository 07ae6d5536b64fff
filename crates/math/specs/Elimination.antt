-- Gaussian elimination of a system of f64 equations, by rules 26 and 27 and math.rs in `solve`: the first greatest
-- pivot of a column, rows exchanged, a factor of 0 skipped, no solution where a pivot's magnitude is below 1e-12, then back substitution.
-- A matrix is a list, row by row. Each definition that goes over places counts the steps that are left, d. Definitions only. Assumes
-- nothing.
use Rattle.std.specs.Prelude.{List, Bool, true, false, cond, ℕ, zero, suc, ◌+◌, ◌-◌, ◌*◌, eqb, set, Float}
use Rattle.std.specs.Float.{binary64}
use Rattle.std.specs.Float.Ieee.{sub, mul, div, lt, eq, of_bits}
use Rattle.ieee.specs.Ops.{abs}
use Rattle.ieee.specs.Constants.{1e-12}
use Rattle.math.specs.Lists.{number_at, swapped}

-- a matrix and the right side
pub record System : Type 0 where
  pub m : List Float
  pub v : List Float

-- the two as one
abbrev pub sys : List Float → List Float → System
sys a b = record { m = a; v = b }

-- of d rows from r on, and p, the row whose entry in column c has the greatest magnitude; the first of equal ones, and never a NaN for p
unfoldable pub pivot_on : List Float → ℕ → ℕ → ℕ → ℕ → ℕ → ℕ
unfolding lt abs
pivot_on a n c zero r p = p
pivot_on a n c (suc d) r p = pivot_on a n c d (r + 1) (cond (lt (abs (number_at a (p * n + c))) (abs (number_at a (r * n + c)))) r p)

-- the pivot's row of column c
abbrev pub pivot : List Float → ℕ → ℕ → ℕ
pivot a n c = pivot_on a n c (n - (c + 1)) (c + 1) c

-- d entries of the rows that start at i and j, exchanged, from column k on
unfoldable pub swap_on : ℕ → ℕ → ℕ → ℕ → List Float → List Float
swap_on i j zero k a = a
swap_on i j (suc d) k a = swap_on i j d (k + 1) (swapped a (i + k) (j + k))

-- d entries of the row that starts at r, less f times those of the row that starts at c, from column k on
unfoldable pub row_less : ℕ → ℕ → Float → ℕ → ℕ → List Float → List Float
row_less r c f zero k a = a
row_less r c f (suc d) k a = row_less r c f d (k + 1) (set a (r + k) (sub binary64 (number_at a (r + k)) (mul binary64 f (number_at a (c + k)))))

-- row r with column c eliminated, by the factor f
abbrev pub freed : ℕ → ℕ → ℕ → Float → System → System
freed n c r f s =
    sys (row_less (r * n) (c * n) f (n - c) c s.m) (set s.v r (sub binary64 (number_at s.v r) (mul binary64 f (number_at s.v c))))

-- row r with column c eliminated, where the pivot is e; as it was where the factor is 0
unfoldable pub cleared_row : ℕ → ℕ → Float → ℕ → System → System
unfolding row_less div eq
cleared_row n c e r s =
    let f = div binary64 (number_at s.m (r * n + c)) e in
    cond (eq f (of_bits binary64 0)) s (freed n c r f s)

-- d rows from r on, so
unfoldable pub clear_on : ℕ → ℕ → Float → ℕ → ℕ → System → System
unfolding cleared_row
clear_on n c e zero r s = s
clear_on n c e (suc d) r s = clear_on n c e d (r + 1) (cleared_row n c e r s)

-- rows c and p exchanged
unfoldable pub arranged : ℕ → ℕ → ℕ → System → System
unfolding swap_on
arranged n c p s = cond (eqb p c) s (sys (swap_on (c * n) (p * n) n 0 s.m) (swapped s.v c p))

-- column c: the pivot's row comes to place c, and the column is eliminated from the rows below
unfoldable pub column : ℕ → ℕ → System → System
unfolding arranged clear_on pivot_on
column n c s =
    let t = arranged n c (pivot s.m n c) s in
    clear_on n c (number_at t.m (c * n + c)) (n - (c + 1)) (c + 1) t

-- whether every pivot was great enough, and what is left
pub record Outcome : Type 0 where
  pub ok : Bool
  pub left : System

-- d columns from c on, up to one whose pivot's magnitude is below 1e-12
unfoldable pub forward_on : ℕ → ℕ → ℕ → System → Outcome
unfolding column lt abs pivot_on
forward_on n zero c s = record { ok = true; left = s }
forward_on n (suc d) c s =
    cond (lt (abs (number_at s.m (pivot s.m n c * n + c))) 1e-12)
    record { ok = false; left = s }
    (forward_on n d (c + 1) (column n c s))

-- s less the products of the row that starts at w with x, d of them from column k on
unfoldable pub less_on : List Float → List Float → ℕ → ℕ → ℕ → Float → Float
less_on a x w zero k s = s
less_on a x w (suc d) k s = less_on a x w d (k + 1) (sub binary64 s (mul binary64 (number_at a (w + k)) (number_at x k)))

-- the unknown d, where those after it are in x
abbrev pub unknown : System → ℕ → ℕ → List Float → Float
unknown s n d x =
    div binary64 (less_on s.m x (d * n) (n - (d + 1)) (d + 1) (number_at s.v d)) (number_at s.m (d * n + d))

-- the unknowns below d, from the last to the first
unfoldable pub back_on : System → ℕ → ℕ → List Float → List Float
unfolding less_on div
back_on s n zero x = x
back_on s n (suc d) x = back_on s n d (set x d (unknown s n d x))
