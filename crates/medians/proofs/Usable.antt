-- The doors' test of the values, and lists filled place by place.
--     one value: finite_number, usable-no, usable-bits
--     the list: all-step, all_end, usable_at, numbers_of
--     distances: filled-away
--     tests turned round: not-true, not-false
-- Assumes nothing.
use mathlib.Core.Path.{◌≡◌, refl, sym, ap, ◌∙◌, subst}
use mathlib.Core.List.{List, [], ◌∷◌, map}
use mathlib.Core.Bool.{Bool, true, false, not, ◌&&◌, true≢false, false≢true}
use Prim.Native.Nat.{ℕ, zero, suc, ◌+◌, ◌*◌, ◌^◌, ◌≤◌, ◌<◌}
use native.Mathlib.Nat.{mul-one, one-mul}
use native.Mathlib.Omega.{arith}
use lib.IntN.{ℤ, pos, negsuc}
use lib.Dec.{T, eqb, eqb→eq}
use lib.Pow.{pow-lt}
use lib.ListN.{length, get_or, drop, length-map, get_or-map, drop_of_length-le}
use lib.Seq.{drop-cons, ext_get_or}
use lib.Ieee.{Float, nan, inf, fin, binary32, fits, is_nan, to_bits, of_bits, up, down, add, sub}
use lib.Ieee.Bits.{of_bits-to_bits}
use Rattle.laws.proofs.Bools.{and_left, and_right}
use Rattle.ieee.specs.Ops.{finite, abs}
use Rattle.math.specs.Lists.{number_at}
use Rattle.ieee.specs.Ops.{plain}
use Rattle.medians.specs.Median.{usable, all_usable, is_bad, Numbers, away}
use Rattle.medians.proofs.Order.{good_of}
use Rattle.medians.proofs.Counts.{none-all}

-- ---- one value
pub finite_number : (x : Float) → finite x ≡ true → T (not (is_nan x))
unfolding finite is_nan
finite_number nan h = absurd (false≢true h)
finite_number (inf s) h = tt
finite_number (fin s m e) h = tt

pub usable-no : (x : Float) → finite x ≡ false → false ≡ usable x
unfolding usable
usable-no x h = sym (ap (λ (b : Bool). b && plain x) h)

one-pow : (k : ℕ) → 2 ^ suc k ≡ 1 → ⊥
one-pow k h = let z : 2 ^ 0 < 2 ^ suc k = pow-lt {i = 0} {j = suc k} (omega arith) in no (2 ^ suc k) z h
  where
    no : (n : ℕ) → 1 < n → n ≡ 1 → ⊥
    no n h e = omega arith

zero_exp : (e : ℤ) → T (eqb (up e * down e) 1) → e ≡ pos 0
zero_exp (pos zero) h = refl
zero_exp (pos (suc k)) h = absurd (one-pow k (sym (mul-one (2 ^ suc k)) ∙ eqb→eq _ _ h))
zero_exp (negsuc k) h = absurd (one-pow k (sym (one-mul (2 ^ suc k)) ∙ eqb→eq _ _ h))

minus-zero : to_bits binary32 (fin true 0 (pos 0)) ≡ 2147483648
unfolding to_bits
minus-zero = refl

minus-zero-back : of_bits binary32 2147483648 ≡ fin true 0 (pos 0)
unfolding of_bits
minus-zero-back = refl

plain-bits : (x : Float) → T (fits binary32 x) → finite x ≡ true → (b : Bool) → eqb (to_bits binary32 x) 2147483648 ≡ b → not b ≡ plain x
unfolding finite fits
plain-bits x f h true q =
    let e : x ≡ fin true 0 (pos 0) =
    sym (of_bits-to_bits binary32 x f) ∙ ap (of_bits binary32) (eqb→eq _ _ (subst T (sym q) tt)) ∙ minus-zero-back in
    sym (ap plain e)
plain-bits nan f h false q = absurd (false≢true h)
plain-bits (inf s) f h false q = absurd (false≢true h)
plain-bits (fin false m e) f h false q = refl
plain-bits (fin true (suc m) e) f h false q = refl
plain-bits (fin true zero e) f h false q =
    let z = zero_exp e f in
    absurd (true≢false (sym (ap (λ (n : ℕ). eqb n 2147483648) (ap (λ (e : ℤ). to_bits binary32 (fin true 0 e)) z ∙ minus-zero)) ∙ q))

pub usable-bits : (x : Float) → T (fits binary32 x) → finite x ≡ true → not (eqb (to_bits binary32 x) 2147483648) ≡ usable x
unfolding usable
usable-bits x f h = plain-bits x f h (eqb (to_bits binary32 x) 2147483648) refl ∙ sym (ap (λ (b : Bool). b && plain x) h)

-- ---- the list
at_drop : (s : List Float) (i : ℕ) → i < length s → all_usable (drop i s) ≡ (usable (number_at s i) && all_usable (drop (suc i) s))
unfolding all_usable
at_drop s i h = ap all_usable (drop-cons s i nan h)

and-nil : (b : Bool) → (b && true) ≡ b
and-nil true = refl
and-nil false = refl

and_assoc : (a b c : Bool) → ((a && b) && c) ≡ (a && (b && c))
and_assoc true b c = refl
and_assoc false b c = refl

-- a walk over the list that joins what it has seen, ok, with what is to come
pub all-step : (s : List Float) (i : ℕ) (ok f next r : Bool) → i < length s → f ≡ usable (number_at s i) → next ≡ (ok && f)
    → (ok && all_usable (drop i s)) ≡ r → (next && all_usable (drop (i + 1) s)) ≡ r
all-step s i ok f next r h ef en e =
    ap (λ (b : Bool). b && all_usable (drop (i + 1) s)) en
    ∙ and_assoc ok f (all_usable (drop (i + 1) s))
    ∙ ap (λ (b : Bool). ok && b)
    (ap (λ (j : ℕ). f && all_usable (drop j s)) (native.Mathlib.Numerals.add-one i)
    ∙ ap (λ (b : Bool). b && all_usable (drop (suc i) s)) ef ∙ sym (at_drop s i h))
    ∙ e

pub all_end : (s : List Float) (i : ℕ) (ok r : Bool) → length s ≤ i → (ok && all_usable (drop i s)) ≡ r → ok ≡ r
unfolding all_usable
all_end s i ok r h e = sym (and-nil ok) ∙ sym (ap (λ (t : List Float). ok && all_usable t) (drop_of_length-le s h)) ∙ e

pub usable_at : (s : List Float) → all_usable s ≡ true → (x : ℕ) → x < length s → usable (number_at s x) ≡ true
unfolding all_usable
usable_at [] h x l = absurd (none x l)
  where
    none : (j : ℕ) → j < 0 → ⊥
    none j h = omega arith
usable_at (y ∷ ys) h zero l = and_left (usable y) (all_usable ys) h
usable_at (y ∷ ys) h (suc x) l = usable_at ys (and_right (usable y) (all_usable ys) h) x (omega arith)

pub numbers_of : (s : List Float) → all_usable s ≡ true → ((i : ℕ) → T (fits binary32 (number_at s i))) → Numbers s
unfolding Numbers usable
numbers_of s h f = none-all is_bad s
    (λ x l. good_of (number_at s x) (f x) (subst T (sym (and_right (finite (number_at s x)) (plain (number_at s x)) (usable_at s h x l))) tt))

-- ---- distances
away-nan : (c : Float) → away c nan ≡ nan
unfolding away abs sub add
away-nan c = refl

pub filled-away : (s t : List Float) (c : Float) (i : ℕ) → length t ≡ length s → length s ≤ i
    → ((x : ℕ) → x < i → number_at t x ≡ away c (number_at s x)) → t ≡ map (away c) s
filled-away s t c i e h f =
    ext_get_or nan t (map (away c) s) (e ∙ sym (length-map s (away c)))
    (λ x l. f x (omega arith) ∙ sym (ap (λ (d : Float). get_or (map (away c) s) x d) (sym (away-nan c)) ∙ get_or-map (away c) s x nan))

-- ---- tests turned round
