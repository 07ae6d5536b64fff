-- Counts of agreeing points and trials by one step more, and the ways of a trial. Assumes nothing.
--   agree-begin, -step, -end       the count of no point yet, with one more, and at the end
--   short, more, no_more           a trial that is too short, better, not better
--   trial-by, trial-is             a trial by the length that the code finds, and by equal places
--   cut_short, no_cut              a cut whose root is under a third of the edge, and a NaN
--   cut-trial                      a trial under the cut
--   round-in, round-past           a place further round n places
--   unmoved, strided               a place before the first stride, and after one stride more
--   trials-step, trials-end        the best with one trial more, and at the end
use mathlib.Core.Path.{◌≡◌, refl, sym, ap, ◌∙◌}
use mathlib.Core.Bool.{Bool, true, false, cond}
use mathlib.Core.List.{List}
use Prim.Native.Nat.{ℕ, ◌+◌, ◌-◌, ◌*◌, ◌%◌, ◌≤◌, ◌<◌}
use native.Mathlib.Nat.{mod-eq_of_lt, mod-eq-sub-mod, add-mod}
use native.Mathlib.Omega.{arith}
use lib.Dec.{T, ltb}
use lib.Ieee.{Float, nan, binary32, lt, le, fits, is_nan}
use lib.Ieee.Fits.{add-fits, div-fits}
use borrow.Author.Tests.{lt-ltb, le-ltb}
use Rattle.ieee.specs.Constants.{0f}
use Rattle.laws.proofs.Bools.{and_left, and_right}
use Rattle.laws.proofs.Steps.{on, done, from_zero}
use Rattle.ieee.specs.Root.{sqrt}
use Rattle.ieee.proofs.RootOrder.{root-under}
use Rattle.ieee.proofs.Tests.{lt-no-nan-r}
use Rattle.fit.specs.F32.{◌⊕◌, ◌⊖◌, ◌⊗◌, ◌⊘◌, 1·5, 3f, x_of, y_of}
use Rattle.fit.specs.Select.{off_of}
use Rattle.fit.specs.Consensus.{one_if, agree_on, agree_of, better_trial, trial_at, trial_of, trials_on}
use Rattle.fit.specs.Inner.{under_cut, ShortUnder}
use Rattle.fit.specs.declared.consensus.Trial.{Trial}

-- ---- counts
module _ (s : List Float) (px py fx fy : Float) where
  abbrev count_step : ℕ → ℕ → ℕ
  count_step k m = one_if (le (off_of px py fx fy (x_of s k) (y_of s k)) 1·5) m

  pub agree-begin : (n m : ℕ) → agree_on s px py fx fy (n - 0) 0 m ≡ agree_on s px py fx fy n 0 m
  agree-begin n m = from_zero (agree_on s px py fx fy) count_step n m

  pub agree-step : (n k m m' z : ℕ) (b : Bool) → k < n → b ≡ le (off_of px py fx fy (x_of s k) (y_of s k)) 1·5 → m' ≡ one_if b m
      → agree_on s px py fx fy (n - k) k m ≡ z → agree_on s px py fx fy (n - (k + 1)) (k + 1) m' ≡ z
  unfolding agree_on
  agree-step n k m m' z b h e f q =
      ap (agree_on s px py fx fy (n - (k + 1)) (k + 1)) (f ∙ ap (λ (b : Bool). one_if b m) e)
      ∙ sym (on (agree_on s px py fx fy) count_step n (λ d k m. refl) k m h)
      ∙ q

  pub agree-end : (n k m z : ℕ) → n ≤ k → agree_on s px py fx fy (n - k) k m ≡ z → m ≡ z
  unfolding agree_on
  agree-end n k m z h q = sym (done (agree_on s px py fx fy) count_step n (λ k m. refl) k m h) ∙ q

-- ---- a trial
module _ (s : List Float) (len : Float) (best : Trial) (px py lx ly l : Float) where
  abbrev line_of : ℕ → Trial
  line_of n = record { count = n; x = px; y = py; u = lx ⊘ l; v = ly ⊘ l }

  abbrev best_of : ℕ → Trial
  best_of n = cond (ltb best.count n) (line_of n) best

  abbrev agreeing : ℕ
  agreeing = agree_of s px py (lx ⊘ l) (ly ⊘ l)

  short-by : (b : Bool) → lt l (len ⊘ 3f) ≡ b → cond b best (best_of agreeing) ≡ better_trial s len best px py lx ly l
  unfolding better_trial
  short-by b h = sym (ap (λ (b : Bool). cond b best (best_of agreeing)) h)

  pub short : lt l (len ⊘ 3f) ≡ true → best ≡ better_trial s len best px py lx ly l
  short h = short-by true h

  module _ (n : ℕ) (long : lt l (len ⊘ 3f) ≡ false) (e : n ≡ agreeing) where
    better-by : (b : Bool) → ltb best.count n ≡ b → cond b (line_of n) best ≡ better_trial s len best px py lx ly l
    better-by b h = ap (λ (b : Bool). cond b (line_of n) best) (sym h) ∙ ap best_of e ∙ short-by false long

    pub more : best.count < n → line_of n ≡ better_trial s len best px py lx ly l
    more h = better-by true (lt-ltb best.count n h)

    pub no_more : n ≤ best.count → best ≡ better_trial s len best px py lx ly l
    no_more h = better-by false (le-ltb best.count n h)

pub trial-by : (s : List Float) (len : Float) (best r : Trial) (i j : ℕ) (l : Float)
    → l ≡ sqrt binary32 ((x_of s j ⊖ x_of s i) ⊗ (x_of s j ⊖ x_of s i) ⊕ (y_of s j ⊖ y_of s i) ⊗ (y_of s j ⊖ y_of s i))
    → r ≡ better_trial s len best (x_of s i) (y_of s i) (x_of s j ⊖ x_of s i) (y_of s j ⊖ y_of s i) l → r ≡ trial_at s len best i j
unfolding trial_at
trial-by s len best r i j l e q = q ∙ ap (better_trial s len best (x_of s i) (y_of s i) (x_of s j ⊖ x_of s i) (y_of s j ⊖ y_of s i)) e

pub trial-is : (s : List Float) (len : Float) (best r : Trial) (i j i' j' : ℕ) → i ≡ i' → j ≡ j' → r ≡ trial_at s len best i j
    → r ≡ trial_at s len best i' j'
trial-is s len best r i j i' j' ei ej q = q ∙ ap (λ (i : ℕ). trial_at s len best i j) ei ∙ ap (trial_at s len best i') ej

-- ---- a cut
pub cut_short : (len c r : Float) → T (fits binary32 c) → r ≡ sqrt binary32 c → lt r (len ⊘ 3f) ≡ true → ShortUnder len c
unfolding ShortUnder
cut_short len c r f e l d g u =
    root-under d c (len ⊘ 3f) g f (div-fits binary32 len 3f) (and_right (lt d c) (lt 0f d) u) (and_left (lt d c) (lt 0f d) u)
    (ap (λ (r : Float). lt r (len ⊘ 3f)) (sym e) ∙ l)

pub no_cut : (len : Float) → ShortUnder len nan
unfolding ShortUnder is_nan
no_cut len d g u = absurd (lt-no-nan-r d nan (and_left (lt d nan) (lt 0f d) u))

pub cut-trial : (s : List Float) (len c : Float) (best : Trial) (i j : ℕ) → ShortUnder len c
    → under_cut ((x_of s j ⊖ x_of s i) ⊗ (x_of s j ⊖ x_of s i) ⊕ (y_of s j ⊖ y_of s i) ⊗ (y_of s j ⊖ y_of s i)) c ≡ true
    → best ≡ trial_at s len best i j
unfolding ShortUnder
cut-trial s len c best i j h u =
    let lx = x_of s j ⊖ x_of s i in
    let ly = y_of s j ⊖ y_of s i in
    let d = lx ⊗ lx ⊕ ly ⊗ ly in
    trial-by s len best best i j (sqrt binary32 d) refl
    (short s len best (x_of s i) (y_of s i) lx ly (sqrt binary32 d) (h d (add-fits binary32 (lx ⊗ lx) (ly ⊗ ly)) u))

-- ---- places
pub round-in : (a n : ℕ) → a < n → (a ≡ a % n) × (a < n)
round-in a n h = (sym (mod-eq_of_lt h), h)

pub round-past : (a n : ℕ) → n ≤ a → a < n + n → (a - n ≡ a % n) × (a - n < n)
round-past a n h l = let less : a - n < n = omega arith in (sym (mod-eq-sub-mod h ∙ mod-eq_of_lt less), less)

pub unmoved : (n step from : ℕ) → from % n ≡ (0 * step + from) % n
unmoved n step from = let same : from ≡ 0 * step + from = omega arith in ap (λ (z : ℕ). z % n) same

pub strided : (n k step from i f i' : ℕ) → i ≡ (k * step + from) % n → f ≡ step % n → i' ≡ (i + f) % n
    → i' ≡ ((k + 1) * step + from) % n
strided n k step from i f i' e g h =
    let next : k * step + from + step ≡ (k + 1) * step + from = omega arith in
    h ∙ ap (λ (z : ℕ). (z + f) % n) e ∙ ap (λ (z : ℕ). ((k * step + from) % n + z) % n) g ∙ sym (add-mod (k * step + from) step n)
    ∙ ap (λ (z : ℕ). z % n) next

-- ---- all trials
pub trials-step : (s : List Float) (len : Float) (n k : ℕ) (best best' z : Trial) → k < n → best' ≡ trial_of s len k best
    → trials_on s len (n - k) k best ≡ z → trials_on s len (n - (k + 1)) (k + 1) best' ≡ z
unfolding trials_on
trials-step s len n k best best' z h e q =
    ap (trials_on s len (n - (k + 1)) (k + 1)) e ∙ sym (on (trials_on s len) (trial_of s len) n (λ d k b. refl) k best h) ∙ q

pub trials-end : (s : List Float) (len : Float) (n k : ℕ) (best z : Trial) → n ≤ k → trials_on s len (n - k) k best ≡ z → best ≡ z
unfolding trials_on
trials-end s len n k best z h q = sym (done (trials_on s len) (trial_of s len) n (λ k b. refl) k best h) ∙ q
