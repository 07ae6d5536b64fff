-- The checks of the doors, and what a check that passes tells.
--     good-step, good-stop                         the coordinates' test by one number more
--     Past, past-begin, past-turn                  the test by how many numbers are past 8,192
--     Passed, hull-passed, quad-passed             what an accepted call knows
-- Assumes nothing.
use mathlib.Core.Path.{◌≡◌, refl, sym, ap, ap₂, ◌∙◌, subst}
use mathlib.Core.Bool.{Bool, true, false, ◌&&◌}
use mathlib.Core.List.{List}
use Prim.Native.Nat.{ℕ, zero, suc, ◌+◌, ◌-◌, ◌*◌, ◌≤◌, ◌<◌}
use native.Mathlib.Nat.{sub-zero}
use native.Mathlib.Decide.{dec_lt}
use native.Mathlib.Omega.{arith}
use borrow.Author.Tests.{leb-true, le-leb, lt-leb}
use lib.Dec.{leb}
use lib.ListN.{length, get_or}
use Rattle.laws.specs.Check.{or_refuse}
use Rattle.laws.proofs.Bools.{and_left, and_right}
use Rattle.laws.proofs.Steps.{one_less, none_left}
use Rattle.hull.specs.Points.{many}
use Rattle.doubled.specs.Points.{Bounded}
use Rattle.picture_checks.specs.Points.{is_points}
use Rattle.picture_checks.proofs.Checked.{points-in}
use Rattle.doubled.specs.Checks.{coordinates_on, coordinates_of, check_hull, check_quad}

-- ---- the coordinates
pub good-begin : (s : List ℕ) (n : ℕ) → coordinates_on s (n - 0) 0 ≡ coordinates_on s n 0
good-begin s n = ap (λ (d : ℕ). coordinates_on s d 0) (sub-zero n)

module _ (s : List ℕ) (n k : ℕ) (z : Bool) (more : k < n) (q : coordinates_on s (n - k) k ≡ z) where
  good-by : (t : Bool) → leb (get_or s k 0) 8192 ≡ t → (t && coordinates_on s (n - (k + 1)) (k + 1)) ≡ z
  unfolding coordinates_on
  good-by t h =
      ap (λ (t : Bool). t && coordinates_on s (n - (k + 1)) (k + 1)) (sym h)
      ∙ sym (ap (λ (d : ℕ). coordinates_on s d k) (one_less n k more))
      ∙ q

  pub good-step : get_or s k 0 ≤ 8192 → coordinates_on s (n - (k + 1)) (k + 1) ≡ z
  good-step h = good-by true (le-leb (get_or s k 0) 8192 h)

  pub good-stop : 8192 < get_or s k 0 → false ≡ z
  good-stop h = good-by false (lt-leb (get_or s k 0) 8192 h)

pub good-end : (s : List ℕ) (n k : ℕ) (z : Bool) → n ≤ k → coordinates_on s (n - k) k ≡ z → true ≡ z
unfolding coordinates_on
good-end s n k z h q = sym (ap (λ (d : ℕ). coordinates_on s d k) (none_left n k h)) ∙ q

-- ---- by how many are past 8,192
-- c is 0 just where the first k numbers are coordinates
pub record Past (s : List ℕ) (k c : ℕ) : Type 0 where
  pub none : c ≡ 0 → coordinates_on s k 0 ≡ true
  pub some : 0 < c → coordinates_on s k 0 ≡ false
  pub few : c ≤ k

-- one number more at the end
on-more : (s : List ℕ) (d k : ℕ) → coordinates_on s (suc d) k ≡ (coordinates_on s d k && leb (get_or s (k + d) 0) 8192)
unfolding coordinates_on
on-more s zero k = go (leb (get_or s k 0) 8192) ∙ ap (λ (i : ℕ). leb (get_or s i 0) 8192) (at k)
  where
    go : (b : Bool) → (b && true) ≡ b
    go true = refl
    go false = refl

    at : (k : ℕ) → k ≡ k + 0
    at k = omega arith
on-more s (suc d) k =
    ap (λ (b : Bool). leb (get_or s k 0) 8192 && b)
    (on-more s d (k + 1) ∙ ap (λ (i : ℕ). coordinates_on s d (k + 1) && leb (get_or s i 0) 8192) (at k d))
    ∙ assoc (leb (get_or s k 0) 8192) (coordinates_on s d (k + 1)) (leb (get_or s (k + suc d) 0) 8192)
  where
    at : (k d : ℕ) → k + 1 + d ≡ k + suc d
    at k d = omega arith

    assoc : (a b c : Bool) → (a && (b && c)) ≡ ((a && b) && c)
    assoc true b c = refl
    assoc false b c = refl

more : (s : List ℕ) (k : ℕ) (a b : Bool) → coordinates_on s k 0 ≡ a → leb (get_or s k 0) 8192 ≡ b → coordinates_on s (k + 1) 0 ≡ (a && b)
more s k a b ea eb =
    let z : k + 1 ≡ suc k = omega arith in
    ap (λ (n : ℕ). coordinates_on s n 0) z ∙ on-more s k 0 ∙ ap₂ (λ (x y : Bool). x && y) ea (ap (λ (i : ℕ). leb (get_or s i 0) 8192) (at k) ∙ eb)
  where
    at : (k : ℕ) → 0 + k ≡ k
    at k = omega arith

pub past-begin : (s : List ℕ) → Past s 0 0
unfolding coordinates_on
past-begin s = record { none = λ e. refl; some = λ l. absurd (omega arith); few = omega arith }

pub past-turn : (s : List ℕ) (k c r : ℕ) → Past s k c → (r ≡ 0 → get_or s k 0 ≤ 8192) → (0 < r → 8192 < get_or s k 0) → r ≤ 1 → Past s (k + 1) (c + r)
past-turn s k c r v low high one = record {
  none = λ e. more s k true true (v.none (omega arith)) (le-leb (get_or s k 0) 8192 (low (omega arith)));
  some = λ l. go l (dec_lt 0 c);
  few = let f = v.few in omega arith;
}
  where
    off : (a : Bool) → (a && false) ≡ false
    off true = refl
    off false = refl

    go : 0 < c + r → Dec (0 < c) → coordinates_on s (k + 1) 0 ≡ false
    go l (yes t) = more s k false (leb (get_or s k 0) 8192) (v.some t) refl
    go l (no t) =
        more s k (coordinates_on s k 0) false refl (lt-leb (get_or s k 0) 8192 (high (omega arith))) ∙ off (coordinates_on s k 0)

-- what the test tells of each number
bounded-on : (s : List ℕ) (d k : ℕ) → coordinates_on s d k ≡ true → (i : ℕ) → k ≤ i → i < k + d → get_or s i 0 ≤ 8192
unfolding coordinates_on
bounded-on s zero k e i l m = absurd (omega arith)
bounded-on s (suc d) k e i l m =
    go (dec_lt k i) (bounded-on s d (k + 1) (and_right (leb (get_or s k 0) 8192) (coordinates_on s d (k + 1)) e) i)
  where
    here : get_or s k 0 ≤ 8192
    here = leb-true (get_or s k 0) 8192 (and_left (leb (get_or s k 0) 8192) (coordinates_on s d (k + 1)) e)

    go : Dec (k < i) → (k + 1 ≤ i → i < k + 1 + d → get_or s i 0 ≤ 8192) → get_or s i 0 ≤ 8192
    go (yes t) ih = ih (omega arith) (omega arith)
    go (no t) ih = let z : k ≡ i = omega arith in subst (λ (j : ℕ). get_or s j 0 ≤ 8192) z here

pub bounded : (s : List ℕ) → coordinates_of s ≡ true → Bounded s
bounded s e i l = bounded-on s (length s) 0 e i (omega arith) (omega arith)

-- ---- what an accepted call knows
pub record Passed (p : List ℕ) : Type 0 where
  pub even : length p ≡ 2 * many p
  pub few : length p ≤ 32768
  pub within : Bounded p

suc-not-zero : (n : ℕ) → suc n ≡ 0 → ⊥
suc-not-zero n e = omega arith

passed : (p : List ℕ) → is_points (length p) ≡ true → coordinates_of p ≡ true → Passed p
passed p e f = record {
  even = (points-in (length p) e).0;
  few = (points-in (length p) e).1;
  within = bounded p f;
}

pub hull-passed : (p : List ℕ) (room : ℕ) → check_hull p room ≡ 0 → Passed p × (length p ≤ room)
hull-passed p room e = go (is_points (length p)) refl (leb (length p) room) refl (coordinates_of p) refl e
  where
    go : (a : Bool) → is_points (length p) ≡ a → (b : Bool) → leb (length p) room ≡ b → (d : Bool) → coordinates_of p ≡ d
        → ◌≡◌ {A = ℕ} (or_refuse a 6 (or_refuse b 3 (or_refuse d 21 0))) 0 → Passed p × (length p ≤ room)
    go false ea b eb d ed z = absurd (suc-not-zero 5 z)
    go true ea false eb d ed z = absurd (suc-not-zero 2 z)
    go true ea true eb false ed z = absurd (suc-not-zero 20 z)
    go true ea true eb true ed z = (passed p ea ed, leb-true (length p) room eb)

pub quad-passed : (p : List ℕ) → check_quad p ≡ 0 → Passed p
quad-passed p e = go (is_points (length p)) refl (coordinates_of p) refl e
  where
    go : (a : Bool) → is_points (length p) ≡ a → (d : Bool) → coordinates_of p ≡ d
        → ◌≡◌ {A = ℕ} (or_refuse a 6 (or_refuse d 21 0)) 0 → Passed p
    go false ea d ed z = absurd (suc-not-zero 5 z)
    go true ea false ed z = absurd (suc-not-zero 20 z)
    go true ea true ed z = passed p ea ed
