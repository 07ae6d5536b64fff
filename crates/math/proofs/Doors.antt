-- Lists of +0, and the cases of the doors of equations.
--     lists of +0: take-zeros, drop-zeros, zeros-length
--     lengths: whole-samples
--     the doors: solve-low, solve-high, solve-matrix, solve-right, solve-pass, fit_low, fit-high, fit-lengths, fit-few, fit-pass,
--     not-whole, not-many, square8, square4, zeros-cells, zeros-cells4
-- Assumes nothing.
use mathlib.Core.Path.{◌≡◌, refl, sym, ap, ◌∙◌}
use mathlib.Core.List.{List}
use mathlib.Core.Bool.{Bool, true, false, cond, ◌&&◌}
use Prim.Native.Nat.{ℕ, ◌+◌, ◌-◌, ◌*◌, ◌/◌, ◌%◌, ◌≤◌, ◌<◌}
use native.Mathlib.Nat.{div-add-mod', add-zero}
use lib.Dec.{leb, eqb}
use lib.ListN.{length, take, drop, length-replicate}
use lib.Ieee.{Float, binary64, of_bits}
use Rattle.laws.proofs.Steps.{take-replicate, drop-replicate}
use borrow.Author.Tests.{eq-eqb, ne_eqb, le-leb, lt-leb, lt-ltb, le-ltb}
use Rattle.laws.specs.Check.{or_refuse}
use Rattle.laws.specs.Said.{refuse}
use Rattle.refusal.specs.Numbers.{said_some}
use Rattle.std.proofs.Common.{Option, Ok}
use Rattle.math.specs.Equations.{zero_cells, without, solution, solve_answer, normal, fitted, fit_answer}

-- ---- lists of +0
pub take-zeros : (n m : ℕ) → n ≤ m → take n (zero_cells m) ≡ zero_cells n
take-zeros n m h = take-replicate (of_bits binary64 0) n m h

pub drop-zeros : (n m : ℕ) → n ≤ m → drop n (zero_cells m) ≡ zero_cells (m - n)
drop-zeros n m h = drop-replicate (of_bits binary64 0) n m h

pub zeros-length : (n m : ℕ) → n ≤ m → n ≡ length (take n (zero_cells m))
zeros-length n m h = sym (ap length (take-zeros n m h) ∙ length-replicate n (of_bits binary64 0))

-- ---- lengths
pub whole-samples : (L n m : ℕ) → 1 ≤ n → L % n ≡ 0 → L / n ≡ m → L ≡ m * n
whole-samples L n m h e f = sym (div-add-mod' L n) ∙ ap (λ (k : ℕ). L / n * n + k) e ∙ add-zero (L / n * n) ∙ ap (λ (k : ℕ). k * n) f

-- ---- the doors
size_low : (n : ℕ) → n < 1 → (leb 1 n && leb n 8) ≡ false
size_low n h = ap (λ (b : Bool). b && leb n 8) (lt-leb 1 n h)

and-false : (b : Bool) → (b && false) ≡ false
and-false true = refl
and-false false = refl

size-high : (n : ℕ) → 8 < n → (leb 1 n && leb n 8) ≡ false
size-high n h = ap (λ (b : Bool). leb 1 n && b) (lt-leb n 8 h) ∙ and-false (leb 1 n)

size_ok : (n : ℕ) → 1 ≤ n → n ≤ 8 → (leb 1 n && leb n 8) ≡ true
size_ok n h l = ap (λ (b : Bool). b && leb n 8) (le-leb 1 n h) ∙ le-leb n 8 l

solve-by : (n : ℕ) (a b : List Float) (s t : Bool) → (leb 1 n && leb n 8) ≡ s → (eqb (length a) (n * n) && eqb (length b) n) ≡ t
    → solve_answer n a b ≡ or_refuse s (refuse 9) (or_refuse t (refuse 9) (said_some (Ok (solution n a b))))
unfolding solve_answer
solve-by n a b s t e f =
    let last = said_some (Ok (solution n a b)) in
    ap (λ (z : Bool). or_refuse z (refuse 9) (or_refuse (eqb (length a) (n * n) && eqb (length b) n) (refuse 9) last)) e
    ∙ ap (λ (z : Bool). or_refuse s (refuse 9) (or_refuse z (refuse 9) last)) f

pub solve-low : (n : ℕ) (a b : List Float) → n < 1 → refuse 9 ≡ solve_answer n a b
solve-low n a b h = sym (solve-by n a b false _ (size_low n h) refl)

pub solve-high : (n : ℕ) (a b : List Float) → 8 < n → refuse 9 ≡ solve_answer n a b
solve-high n a b h = sym (solve-by n a b false _ (size-high n h) refl)

pub solve-matrix : (n : ℕ) (a b : List Float) → 1 ≤ n → n ≤ 8 → (length a ≡ n * n → ⊥) → refuse 9 ≡ solve_answer n a b
solve-matrix n a b h l e = sym (solve-by n a b true false (size_ok n h l) (ap (λ (z : Bool). z && eqb (length b) n) (ne_eqb _ _ e)))

pub solve-right : (n : ℕ) (a b : List Float) → 1 ≤ n → n ≤ 8 → (length b ≡ n → ⊥) → refuse 9 ≡ solve_answer n a b
solve-right n a b h l e =
    sym (solve-by n a b true false (size_ok n h l)
    (ap (λ (z : Bool). eqb (length a) (n * n) && z) (ne_eqb _ _ e) ∙ and-false (eqb (length a) (n * n))))

pub solve-pass : (n : ℕ) (a b : List Float) → 1 ≤ n → n ≤ 8 → length a ≡ n * n → length b ≡ n
    → said_some (Ok (solution n a b)) ≡ solve_answer n a b
solve-pass n a b h l e f =
    sym (solve-by n a b true true (size_ok n h l) (ap (λ (z : Bool). z && eqb (length b) n) (eq-eqb _ _ e) ∙ eq-eqb _ _ f))

fit-by : (n : ℕ) (a b : List Float) (s t : Bool) → (leb 1 n && leb n 8) ≡ s → eqb (length a) (length b * n) ≡ t
    → fit_answer n a b ≡ or_refuse s (refuse 9) (or_refuse t (refuse 9) (said_some (Ok (fitted n a b))))
unfolding fit_answer
fit-by n a b s t e f =
    let last = said_some (Ok (fitted n a b)) in
    ap (λ (z : Bool). or_refuse z (refuse 9) (or_refuse (eqb (length a) (length b * n)) (refuse 9) last)) e
    ∙ ap (λ (z : Bool). or_refuse s (refuse 9) (or_refuse z (refuse 9) last)) f

pub fit_low : (n : ℕ) (a b : List Float) → n < 1 → refuse 9 ≡ fit_answer n a b
fit_low n a b h = sym (fit-by n a b false _ (size_low n h) refl)

pub fit-high : (n : ℕ) (a b : List Float) → 8 < n → refuse 9 ≡ fit_answer n a b
fit-high n a b h = sym (fit-by n a b false _ (size-high n h) refl)

pub fit-lengths : (n : ℕ) (a b : List Float) → 1 ≤ n → n ≤ 8 → (length a ≡ length b * n → ⊥) → refuse 9 ≡ fit_answer n a b
fit-lengths n a b h l e = sym (fit-by n a b true false (size_ok n h l) (ne_eqb _ _ e))

pub fit-few : (n : ℕ) (a b : List Float) → 1 ≤ n → n ≤ 8 → length a ≡ length b * n → length b < n → said_some (Ok without) ≡ fit_answer n a b
unfolding fitted
fit-few n a b h l e f =
    sym (fit-by n a b true true (size_ok n h l) (eq-eqb _ _ e)
    ∙ ap (λ (z : Bool). said_some (Ok (cond z without (solution n (normal n a b).m (normal n a b).v)))) (lt-ltb _ _ f))

pub fit-pass : (n : ℕ) (a b : List Float) (r : Option (List Float)) → 1 ≤ n → n ≤ 8 → length a ≡ length b * n → n ≤ length b
    → r ≡ solution n (normal n a b).m (normal n a b).v → said_some (Ok r) ≡ fit_answer n a b
unfolding fitted
fit-pass n a b r h l e f q =
    ap (λ (r : Option (List Float)). said_some (Ok r)) q
    ∙ sym (fit-by n a b true true (size_ok n h l) (eq-eqb _ _ e)
    ∙ ap (λ (z : Bool). said_some (Ok (cond z without (solution n (normal n a b).m (normal n a b).v)))) (le-ltb _ _ f))

-- 'no remainder, and so many' is 'so many times n'
pub not-whole : (L n m : ℕ) → (L % n ≡ 0 → ⊥) → L ≡ m * n → ⊥
not-whole L n m h e = h (ap (λ (k : ℕ). k % n) e ∙ native.Mathlib.Nat.mul-mod_left m n)

pub not-many : (L n m : ℕ) → 1 ≤ n → (L / n ≡ m → ⊥) → L ≡ m * n → ⊥
not-many L n m p h e = h (ap (λ (k : ℕ). k / n) e ∙ native.Mathlib.Nat.mul-div_left m p)

pub square8 : (n : ℕ) → n ≤ 8 → n * n ≤ 64
square8 n h = native.Mathlib.Nat.mul-le-mul h h

pub square4 : (n : ℕ) → n ≤ 4 → n * n ≤ 16
square4 n h = native.Mathlib.Nat.mul-le-mul h h

pub zeros-cells : (n : ℕ) → n ≤ 8 → n * n ≡ length (take (n * n) (zero_cells 64))
zeros-cells n h = zeros-length (n * n) 64 (square8 n h)

pub zeros-cells4 : (n : ℕ) → n ≤ 4 → n * n ≡ length (take (n * n) (zero_cells 16))
zeros-cells4 n h = zeros-length (n * n) 16 (square4 n h)
