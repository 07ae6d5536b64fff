-- `solve` and `least_squares`, by rules 26 and 27 and in the table of doors (refusal 9). Elimination itself is in
-- `Elimination`. Definitions only. Assumes nothing.
use Rattle.std.specs.Prelude.{List, ◌++◌, Option, Some, None, Ok, cond, ◌&&◌, ℕ, zero, suc, ◌+◌, ◌-◌, ◌*◌, leb, ltb, eqb, length, set, replicate, Float}
use Rattle.std.specs.Float.{binary64}
use Rattle.std.specs.Float.Ieee.{add, mul, of_bits}
use Rattle.ieee.specs.Constants.{1e-9}
use Rattle.math.specs.Lists.{number_at}
use Rattle.math.specs.Elimination.{System, sys, Outcome, forward_on, back_on}
use Rattle.laws.specs.Check.{or_refuse}
use Rattle.laws.specs.Said.{Said, refuse}
use Rattle.refusal.specs.Numbers.{said_some}

-- +0, n times
abbrev pub zero_cells : ℕ → List Float
zero_cells n = replicate n (of_bits binary64 0)

-- no solution
abbrev pub without : Option (List Float)
without = None

-- n numbers, and +0 in the places past them
abbrev pub solved : ℕ → List Float → Option (List Float)
solved n x = Some (x ++ zero_cells (8 - n))

-- what elimination leaves, solved from the last row to the first
unfoldable pub finished : ℕ → Outcome → Option (List Float)
unfolding back_on
finished n o = cond o.ok (solved n (back_on o.left n n (zero_cells n))) without

-- the solution of n equations, or none
unfoldable pub solution : ℕ → List Float → List Float → Option (List Float)
unfolding finished forward_on
solution n a b = finished n (forward_on n n 0 (sys a b))

-- 9: size outside 1..8, or lengths that disagree: not n * n and n
unfoldable pub solve_answer : ℕ → List Float → List Float → Said (List Float)
unfolding solution
solve_answer n a b =
    or_refuse (leb 1 n && leb n 8) (refuse 9)
    (or_refuse (eqb (length a) (n * n) && eqb (length b) n) (refuse 9)
    (said_some (Ok (solution n a b))))

-- ---- least squares: samples of n values each, one after the other in basis, and a target for each
-- place i * n + j of the matrix, with the product of the sample's values i and j added; the sample's values start at w
abbrev pub matrix_cell : List Float → ℕ → ℕ → ℕ → ℕ → List Float → List Float
matrix_cell basis w n i j a =
    set a (i * n + j) (add binary64 (number_at a (i * n + j)) (mul binary64 (number_at basis (w + i)) (number_at basis (w + j))))

-- d places of row i from j on, so
unfoldable pub add_cells : List Float → ℕ → ℕ → ℕ → ℕ → ℕ → List Float → List Float
add_cells basis w n i zero j a = a
add_cells basis w n i (suc d) j a = add_cells basis w n i d (j + 1) (matrix_cell basis w n i j a)

-- row i of the system, with the sample's values and its target t added
unfoldable pub add_line : List Float → ℕ → Float → ℕ → ℕ → System → System
unfolding add_cells
add_line basis w t n i s =
    sys (add_cells basis w n i n 0 s.m) (set s.v i (add binary64 (number_at s.v i) (mul binary64 (number_at basis (w + i)) t)))

-- d rows from i on, so
unfoldable pub add_lines : List Float → ℕ → Float → ℕ → ℕ → ℕ → System → System
unfolding add_line
add_lines basis w t n zero i s = s
add_lines basis w t n (suc d) i s = add_lines basis w t n d (i + 1) (add_line basis w t n i s)

-- d samples from r on, so
unfoldable pub add_rows : List Float → List Float → ℕ → ℕ → ℕ → System → System
unfolding add_lines
add_rows basis targets n zero r s = s
add_rows basis targets n (suc d) r s = add_rows basis targets n d (r + 1) (add_lines basis (r * n) (number_at targets r) n n 0 s)

-- 1e-9 added to d places of the diagonal from i on
unfoldable pub nudged : ℕ → ℕ → ℕ → List Float → List Float
nudged n zero i a = a
nudged n (suc d) i a = nudged n d (i + 1) (set a (i * n + i) (add binary64 (number_at a (i * n + i)) 1e-9))

-- the normal equations of the samples: sums from +0 in the samples' order, then the diagonal
unfoldable pub normal : ℕ → List Float → List Float → System
unfolding add_rows nudged
normal n basis targets =
    let s = add_rows basis targets n (length targets) 0 (sys (zero_cells (n * n)) (zero_cells n)) in
    sys (nudged n n 0 s.m) s.v

-- the coefficients, or none; none too where there are fewer samples than terms
unfoldable pub fitted : ℕ → List Float → List Float → Option (List Float)
unfolding normal solution
fitted n basis targets =
    cond (ltb (length targets) n) without (solution n (normal n basis targets).m (normal n basis targets).v)

-- 9: terms outside 1..8, or not n values a sample
unfoldable pub fit_answer : ℕ → List Float → List Float → Said (List Float)
unfolding fitted
fit_answer n basis targets =
    or_refuse (leb 1 n && leb n 8) (refuse 9)
    (or_refuse (eqb (length basis) (length targets * n)) (refuse 9)
    (said_some (Ok (fitted n basis targets))))
