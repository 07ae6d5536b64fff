-- A magnitude held against a limit by two comparisons, and small facts of tests and counts. Assumes nothing.
--   at-most-is             x ≤ y where y is not below x, of two numbers
--   abs-le                 |x| ≤ t exactly where −t ≤ x and x ≤ t, for any x and t, a NaN too
--   and_then, and-stop     a test that is `b && c`, by what b is
--   then-and, stop-and     a test that is `b && c`, by what c is
--   small_float            a count of up to 2^24 is an f32
use mathlib.Core.Path.{◌≡◌, refl, sym, ap, ◌∙◌}
use mathlib.Core.Logic.{⊎_elim}
use mathlib.Core.Bool.{Bool, true, false, not, ◌&&◌, ◌||◌}
use Prim.Native.Nat.{ℕ, zero, suc, ◌+◌, ◌*◌, ◌≤◌}
use native.Mathlib.Omega.{arith}
use native.Mathlib.Decide.{dec_lt}
use lib.Dec.{T, ltb, eqb, le→leb}
use lib.IntN.{pos}
use lib.Ieee.{Float, nan, inf, fin, below, level, up, down, lt, le, eq, is_nan, neg, binary32, in_float}
use borrow.Author.Tests.{ltb-true, ltb-false, eqb-true, lt-ltb, le-ltb, eq-eqb}
use Rattle.laws.proofs.Bools.{both, and_left, and_right, either, or_left, or_right, bool-ext, not-true, clash}
use Rattle.ieee.specs.Ops.{abs}

-- ---- magnitudes a and b of two numbers
-- a ≤ b, and a = b = 0, as comparisons have them
abbrev at_most : ℕ → ℕ → Bool
at_most a b = ltb a b || (eqb a b && true)

abbrev zeros : ℕ → ℕ → Bool
zeros a b = eqb a b && eqb a 0

at-most-le : (a b : ℕ) → at_most a b ≡ true → a ≤ b
at-most-le a b h =
    ⊎_elim
    (λ (l : ltb a b ≡ true). let z = ltb-true a b l in omega arith)
    (λ (e : (eqb a b && true) ≡ true). let z = eqb-true a b (and_left (eqb a b) true e) in omega arith)
    (either (ltb a b) (eqb a b && true) h)

le-at-most : (a b : ℕ) → a ≤ b → at_most a b ≡ true
le-at-most a b h = elim (dec_lt a b) [
  | yes l ↦ or_left (ltb a b) (eqb a b && true) (lt-ltb a b l)
  | no n ↦ or_right (ltb a b) (eqb a b && true) (both (eqb a b) true (eq-eqb a b (omega (arith, n))) refl)
]

zeros-first : (a b : ℕ) → zeros a b ≡ true → a ≡ 0
zeros-first a b h = eqb-true a 0 (and_right (eqb a b) (eqb a 0) h)

zeros-second : (a b : ℕ) → zeros a b ≡ true → b ≡ 0
zeros-second a b h =
    let e = eqb-true a b (and_left (eqb a b) (eqb a 0) h) in
    let z = zeros-first a b h in
    omega arith

both-zeros : (a b : ℕ) → a ≡ 0 → b ≡ 0 → zeros a b ≡ true
both-zeros a b h k = both (eqb a b) (eqb a 0) (eq-eqb a b (omega arith)) (eq-eqb a 0 h)

-- −a is never above b
never : (a b : ℕ) → (ltb 0 (a + b) || zeros a b) ≡ true
never zero zero = refl
never zero (suc b) = or_left (ltb 0 (0 + suc b)) (zeros 0 (suc b)) (lt-ltb 0 (0 + suc b) (omega arith))
never (suc a) b = or_left (ltb 0 (suc a + b)) (zeros (suc a) b) (lt-ltb 0 (suc a + b) (omega arith))

positive : (a b : ℕ) → at_most a b ≡ ((ltb 0 (b + a) || zeros b a) && at_most a b)
positive a b = sym (ap (λ (t : Bool). t && at_most a b) (never b a))

negative : (a b : ℕ) → at_most a b ≡ ((ltb a b || (eqb b a && true)) && (ltb 0 (a + b) || zeros a b))
negative a b =
    bool-ext (at_most a b) ((ltb a b || (eqb b a && true)) && (ltb 0 (a + b) || zeros a b))
    (λ h. both (ltb a b || (eqb b a && true)) (ltb 0 (a + b) || zeros a b) (there (at-most-le a b h)) (never a b))
    (λ h. le-at-most a b (back (and_left (ltb a b || (eqb b a && true)) (ltb 0 (a + b) || zeros a b) h)))
  where
    there : a ≤ b → (ltb a b || (eqb b a && true)) ≡ true
    there h = elim (dec_lt a b) [
      | yes l ↦ or_left (ltb a b) (eqb b a && true) (lt-ltb a b l)
      | no n ↦ or_right (ltb a b) (eqb b a && true) (both (eqb b a) true (eq-eqb b a (omega (arith, n))) refl)
    ]

    back : (ltb a b || (eqb b a && true)) ≡ true → a ≤ b
    back h =
        ⊎_elim
        (λ (l : ltb a b ≡ true). let z = ltb-true a b l in omega arith)
        (λ (e : (eqb b a && true) ≡ true). let z = eqb-true b a (and_left (eqb b a) true e) in omega arith)
        (either (ltb a b) (eqb b a && true) h)

positive-under : (a b : ℕ) → zeros a b ≡ (at_most b a && zeros a b)
positive-under a b =
    bool-ext (zeros a b) (at_most b a && zeros a b)
    (λ h. both (at_most b a) (zeros a b) (le-at-most b a (let p = zeros-first a b h in let q = zeros-second a b h in omega arith)) h)
    (λ h. and_right (at_most b a) (zeros a b) h)

negative-under : (a b : ℕ) → zeros a b ≡ (zeros b a && (ltb b a || (eqb a b && true)))
negative-under a b =
    bool-ext (zeros a b) (zeros b a && (ltb b a || (eqb a b && true)))
    (λ h. both (zeros b a) (ltb b a || (eqb a b && true)) (both-zeros b a (zeros-second a b h) (zeros-first a b h))
    (or_right (ltb b a) (eqb a b && true) (both (eqb a b) true (and_left (eqb a b) (eqb a 0) h) refl)))
    (λ h. let z = and_left (zeros b a) (ltb b a || (eqb a b && true)) h in both-zeros a b (zeros-second b a z) (zeros-first b a z))

-- ---- at most, and not above
same_sign : (a b : ℕ) → at_most a b ≡ not (ltb b a)
same_sign a b =
    bool-ext (at_most a b) (not (ltb b a)) (λ h. ap not (le-ltb b a (at-most-le a b h)))
    (λ h. le-at-most a b (ltb-false b a (not-true (ltb b a) h)))

over-under : (a b : ℕ) → zeros a b ≡ not (ltb 0 (b + a))
over-under a b =
    bool-ext (zeros a b) (not (ltb 0 (b + a)))
    (λ h. ap not (le-ltb 0 (b + a) (let p = zeros-first a b h in let q = zeros-second a b h in omega arith)))
    (λ h. let z = ltb-false 0 (b + a) (not-true (ltb 0 (b + a)) h) in both-zeros a b (omega arith) (omega arith))

swapped : (a b : ℕ) → (ltb b a || (eqb a b && true)) ≡ at_most b a
swapped a b =
    ap (λ (z : Bool). ltb b a || (z && true))
    (bool-ext (eqb a b) (eqb b a) (λ e. eq-eqb b a (sym (eqb-true a b e))) (λ e. eq-eqb a b (sym (eqb-true b a e))))

signs : (s t : Bool) (a b : ℕ) → (below s a t b || level s a t b) ≡ not (below t b s a)
signs false false a b = same_sign a b
signs false true a b = over-under a b
signs true false a b = never a b
signs true true a b = swapped a b ∙ same_sign b a

-- of two numbers one is at most the other where that is not below it
pub at-most-is : (x y : Float) → is_nan x ≡ false → is_nan y ≡ false → le x y ≡ not (lt y x)
unfolding le lt eq is_nan
at-most-is nan y p q = absurd (clash refl p)
at-most-is (inf s) nan p q = absurd (clash refl q)
at-most-is (inf true) (inf true) p q = refl
at-most-is (inf true) (inf false) p q = refl
at-most-is (inf false) (inf true) p q = refl
at-most-is (inf false) (inf false) p q = refl
at-most-is (inf true) (fin t n d) p q = refl
at-most-is (inf false) (fin t n d) p q = refl
at-most-is (fin s m e) nan p q = absurd (clash refl q)
at-most-is (fin s m e) (inf true) p q = refl
at-most-is (fin s m e) (inf false) p q = refl
at-most-is (fin s m e) (fin t n d) p q = signs s t (m * up e * down d) (n * up d * down e)

-- ---- |x| ≤ t
pub abs-le : (x t : Float) → (le (neg t) x && le x t) ≡ le (abs x) t
unfolding le lt eq neg abs
abs-le nan nan = refl
abs-le nan (inf true) = refl
abs-le nan (inf false) = refl
abs-le nan (fin true n d) = refl
abs-le nan (fin false n d) = refl
abs-le (inf true) nan = refl
abs-le (inf false) nan = refl
abs-le (inf true) (inf true) = refl
abs-le (inf true) (inf false) = refl
abs-le (inf false) (inf true) = refl
abs-le (inf false) (inf false) = refl
abs-le (inf true) (fin true n d) = refl
abs-le (inf true) (fin false n d) = refl
abs-le (inf false) (fin true n d) = refl
abs-le (inf false) (fin false n d) = refl
abs-le (fin true m e) nan = refl
abs-le (fin false m e) nan = refl
abs-le (fin true m e) (inf true) = refl
abs-le (fin true m e) (inf false) = refl
abs-le (fin false m e) (inf true) = refl
abs-le (fin false m e) (inf false) = refl
abs-le (fin false m e) (fin false n d) = sym (positive (m * up e * down d) (n * up d * down e))
abs-le (fin true m e) (fin false n d) = sym (negative (m * up e * down d) (n * up d * down e))
abs-le (fin false m e) (fin true n d) = sym (positive-under (m * up e * down d) (n * up d * down e))
abs-le (fin true m e) (fin true n d) = sym (negative-under (m * up e * down d) (n * up d * down e))

-- ---- tests joined by `&&` in code: t is what a first test gave, r what the function gives
pub and_then : {b c r t : Bool} → t ≡ b → t ≡ true → r ≡ c → r ≡ (b && c)
and_then {b} {c} e h q = q ∙ sym (ap (λ (t : Bool). t && c) (sym e ∙ h))

pub and-stop : {b t : Bool} (c : Bool) → t ≡ b → t ≡ false → false ≡ (b && c)
and-stop c e h = sym (ap (λ (t : Bool). t && c) (sym e ∙ h))

pub then-and : {b c r t : Bool} → t ≡ c → t ≡ true → r ≡ b → r ≡ (b && c)
then-and {b} {c} {r} e h q = q ∙ right-true b ∙ ap (λ (t : Bool). b && t) (sym h ∙ e)
  where
    right-true : (b : Bool) → b ≡ (b && true)
    right-true true = refl
    right-true false = refl

pub stop-and : {c t : Bool} (b : Bool) → t ≡ c → t ≡ false → false ≡ (b && c)
stop-and {c} b e h = right-false b ∙ ap (λ (t : Bool). b && t) (sym h ∙ e)
  where
    right-false : (b : Bool) → false ≡ (b && false)
    right-false true = refl
    right-false false = refl

-- ---- counts
pub small_float : (n : ℕ) → n ≤ 16777216 → T (in_float binary32 (pos n))
unfolding in_float
small_float n h = le→leb n 16777216 h
