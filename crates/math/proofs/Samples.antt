-- How the sums of least squares go on by one step and end; the run of elimination. Assumes nothing.
use mathlib.Core.Path.{◌≡◌, refl, sym, ap, ◌∙◌}
use mathlib.Core.List.{List, ◌++◌}
use mathlib.Core.Bool.{Bool, true, false}
use Prim.Native.Nat.{ℕ, ◌+◌, ◌-◌, ◌*◌, ◌≤◌, ◌<◌}
use native.Mathlib.Nat.{le_trans, mul-le-mul_right, suc-mul, le_of_eq}
use lib.ListN.{length, set, take, drop}
use lib.Ieee.{Float, binary64, add, mul}
use Rattle.math.specs.Lists.{number_at}
use Rattle.math.specs.Elimination.{System, forward_on, back_on}
use Rattle.math.specs.Elimination.{sys}
use Rattle.ieee.specs.Constants.{1e-9}
use Rattle.math.specs.Equations.{matrix_cell, zero_cells, without, finished, solution, add_cells, add_line, add_lines, add_rows, nudged, normal}
use Rattle.std.proofs.Common.{Option, Some}
use Rattle.laws.proofs.Steps.{on, done, from_zero}
use Rattle.math.proofs.Doors.{take-zeros, drop-zeros}

-- ---- cells of a row
pub cells-begin : (basis : List Float) (w n i : ℕ) (a : List Float) → add_cells basis w n i (n - 0) 0 a ≡ add_cells basis w n i n 0 a
cells-begin basis w n i a = from_zero (add_cells basis w n i) (λ j a. a) n a

pub cells-step : (basis : List Float) (w n i j : ℕ) (a z : List Float) → j < n → add_cells basis w n i (n - j) j a ≡ z
    → add_cells basis w n i (n - (j + 1)) (j + 1) (matrix_cell basis w n i j a) ≡ z
unfolding add_cells
cells-step basis w n i j a z h q = sym (on (add_cells basis w n i) (matrix_cell basis w n i) n (λ d j a. refl) j a h) ∙ q

pub cells-end : (basis : List Float) (w n i j : ℕ) (a z : List Float) → n ≤ j → add_cells basis w n i (n - j) j a ≡ z → a ≡ z
unfolding add_cells
cells-end basis w n i j a z h q = sym (done (add_cells basis w n i) (λ j a. a) n (λ j a. refl) j a h) ∙ q

-- ---- rows
pub lines-begin : (basis : List Float) (w : ℕ) (t : Float) (n : ℕ) (s : System)
    → add_lines basis w t n (n - 0) 0 s ≡ add_lines basis w t n n 0 s
lines-begin basis w t n s = from_zero (add_lines basis w t n) (λ i s. s) n s

pub lines_step : (basis : List Float) (w : ℕ) (t : Float) (n i : ℕ) (a b a' : List Float) (z : System) → i < n
    → a' ≡ add_cells basis w n i n 0 a → add_lines basis w t n (n - i) i (sys a b) ≡ z
    → add_lines basis w t n (n - (i + 1)) (i + 1) (sys a' (set b i (add binary64 (number_at b i) (mul binary64 (number_at basis (w + i)) t)))) ≡ z
unfolding add_lines add_line
lines_step basis w t n i a b a' z h e q =
    ap (λ (m : List Float). add_lines basis w t n (n - (i + 1)) (i + 1)
    (sys m (set b i (add binary64 (number_at b i) (mul binary64 (number_at basis (w + i)) t))))) e
    ∙ sym (on (add_lines basis w t n) (add_line basis w t n) n (λ d i s. refl) i (sys a b) h) ∙ q

pub lines_end : (basis : List Float) (w : ℕ) (t : Float) (n i : ℕ) (s z : System) → n ≤ i → add_lines basis w t n (n - i) i s ≡ z → s ≡ z
unfolding add_lines
lines_end basis w t n i s z h q = sym (done (add_lines basis w t n) (λ i s. s) n (λ i s. refl) i s h) ∙ q

-- ---- samples
pub rows-begin : (basis targets : List Float) (n m : ℕ) (s : System) → add_rows basis targets n (m - 0) 0 s ≡ add_rows basis targets n m 0 s
rows-begin basis targets n m s = from_zero (add_rows basis targets n) (λ i s. s) m s

pub rows_step : (basis targets : List Float) (n m r : ℕ) (s s' z : System) → r < m → s' ≡ add_lines basis (r * n) (number_at targets r) n n 0 s
    → add_rows basis targets n (m - r) r s ≡ z → add_rows basis targets n (m - (r + 1)) (r + 1) s' ≡ z
unfolding add_rows
rows_step basis targets n m r s s' z h e q =
    ap (add_rows basis targets n (m - (r + 1)) (r + 1)) e
    ∙ sym (on (add_rows basis targets n) (λ r s. add_lines basis (r * n) (number_at targets r) n n 0 s) m (λ d r s. refl) r s h) ∙ q

pub rows_end : (basis targets : List Float) (n m r : ℕ) (s z : System) → m ≤ r → add_rows basis targets n (m - r) r s ≡ z → s ≡ z
unfolding add_rows
rows_end basis targets n m r s z h q = sym (done (add_rows basis targets n) (λ r s. s) m (λ r s. refl) r s h) ∙ q

-- ---- the diagonal
pub nudged-begin : (n : ℕ) (a : List Float) → nudged n (n - 0) 0 a ≡ nudged n n 0 a
nudged-begin n a = from_zero (nudged n) (λ i a. a) n a

pub nudged-step : (n i : ℕ) (a z : List Float) → i < n → nudged n (n - i) i a ≡ z
    → nudged n (n - (i + 1)) (i + 1) (set a (i * n + i) (add binary64 (number_at a (i * n + i)) 1e-9)) ≡ z
unfolding nudged
nudged-step n i a z h q = sym (on (nudged n) (λ i a. set a (i * n + i) (add binary64 (number_at a (i * n + i)) 1e-9)) n (λ d i a. refl) i a h) ∙ q

pub nudged-end : (n i : ℕ) (a z : List Float) → n ≤ i → nudged n (n - i) i a ≡ z → a ≡ z
unfolding nudged
nudged-end n i a z h q = sym (done (nudged n) (λ i a. a) n (λ i a. refl) i a h) ∙ q

-- ---- places
pub sample_in : (r n m L : ℕ) → r < m → L ≡ m * n → r * n + n ≤ L
sample_in r n m L h e = le_trans (le_of_eq (sym (suc-mul r n))) (le_trans (mul-le-mul_right n h) (le_of_eq (sym e)))

-- ---- the run
pub run_none : (n : ℕ) (a b a' b' : List Float) (r : Bool) → record { ok = r; left = sys a' b' } ≡ forward_on n n 0 (sys a b) → r ≡ false
    → without ≡ solution n a b
unfolding solution finished
run_none n a b a' b' r e f = sym (ap (finished n) (sym e) ∙ ap (λ (r : Bool). finished n record { ok = r; left = sys a' b' }) f)

pub run-some : (n : ℕ) (a b a' b' y : List Float) (r : Bool) → n ≤ 8 → record { ok = r; left = sys a' b' } ≡ forward_on n n 0 (sys a b)
    → r ≡ true → y ≡ back_on (sys a' b') n n (take n (zero_cells 8))
    → Some (y ++ drop n (zero_cells 8)) ≡ solution n a b
unfolding solution finished
run-some n a b a' b' y r h e f g =
    let shape : List Float → List Float → Option (List Float) = λ y z. Some (y ++ z) in
    ap (λ (z : List Float). shape y z) (drop-zeros n 8 h)
    ∙ ap (λ (y : List Float). shape y (zero_cells (8 - n))) (g ∙ ap (back_on (sys a' b') n n) (take-zeros n 8 h))
    ∙ sym (ap (finished n) (sym e) ∙ ap (λ (r : Bool). finished n record { ok = r; left = sys a' b' }) f)

-- ---- the fit
pub run-copied : (n : ℕ) (a b m v : List Float) (r : Option (List Float)) → m ≡ a → v ≡ b → r ≡ solution n m v → r ≡ solution n a b
run-copied n a b m v r e f q = q ∙ ap (λ (m : List Float). solution n m v) e ∙ ap (solution n a) f

pub fit_is : (n : ℕ) (basis targets m v m' v' m'' : List Float) (r : Option (List Float)) → m ≡ zero_cells (n * n) → v ≡ zero_cells n
    → sys m' v' ≡ add_rows basis targets n (length targets) 0 (sys m v) → m'' ≡ nudged n n 0 m' → r ≡ solution n m'' v'
    → r ≡ solution n (normal n basis targets).m (normal n basis targets).v
unfolding normal
fit_is n basis targets m v m' v' m'' r em ev es en er =
    let z = sys (zero_cells (n * n)) (zero_cells n) in
    let e : sys m' v' ≡ add_rows basis targets n (length targets) 0 z =
    es ∙ ap (λ (a : List Float). add_rows basis targets n (length targets) 0 (sys a v)) em
    ∙ ap (λ (b : List Float). add_rows basis targets n (length targets) 0 (sys (zero_cells (n * n)) b)) ev in
    er ∙ ap (λ (a : List Float). solution n a v') (en ∙ ap (λ (s : System). nudged n n 0 s.m) e)
    ∙ ap (λ (s : System). solution n (nudged n n 0 (add_rows basis targets n (length targets) 0 z).m) s.v) e
