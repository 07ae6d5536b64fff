-- The median from a selection: largest-begin, largest_step, median-none, median-odd, median-even.
--     the largest of the first: largest-begin, largest_step
--     order statistics: selected-kth, largest-kth
--     the three cases: median-none, median-odd, median-even
-- Assumes nothing.
use mathlib.Core.Path.{◌≡◌, refl, sym, ap, ◌∙◌, subst}
use mathlib.Core.Logic.{◌⊎◌, inl, inr}
use mathlib.Core.List.{List}
use mathlib.Core.Bool.{Bool, true, false, not, cond, true≢false}
use Prim.Native.Nat.{ℕ, suc, ◌+◌, ◌-◌, ◌/◌, ◌%◌, ◌≤◌, ◌<◌}
use native.Mathlib.Omega.{arith}
use lib.ListN.{length}
use lib.Dec.{eqb}
use lib.Ieee.{Float, lt, binary32, add, mul, of_bits}
use Rattle.ieee.proofs.Values.{lt-or-ge}
use borrow.Author.Tests.{eq-eqb, ne_eqb}
use Rattle.math.specs.Lists.{number_at}
use Rattle.medians.specs.Median.{count_in, SameValues, under, up_to, is_kth, kth, median, Numbers}
use Rattle.ieee.specs.Constants.{0·5}
use Rattle.medians.specs.Inner.{Selected, Largest}
use Rattle.medians.proofs.Order.{Good, lt_irrefl, lt-asym, le_trans}
use Rattle.medians.proofs.Counts.{count_most, count-fewer, count-least, some_at, number-at, same_numbers, kth-join, kth-is}

-- ---- the largest of the first
pub largest-begin : (s : List Float) → Largest s 1 (number_at s 0)
largest-begin s = record {
  place = 0;
  within = omega arith;
  is = refl;
  top = λ x h. let e : x ≡ 0 = omega arith in ap (λ (j : ℕ). lt (number_at s 0) (number_at s j)) e
      ∙ lt_irrefl (number_at s 0);
}

pub largest_step : (s : List Float) (i : ℕ) (m r : Float) → Numbers s → i < length s → Largest s i m → r ≡ cond (lt m (number_at s i)) (number_at s i) m
    → Largest s (i + 1) r
largest_step s i m r n h l q = subst (Largest s (i + 1)) (sym q) (go (lt m (number_at s i)) refl)
  where
    go : (b : Bool) → lt m (number_at s i) ≡ b → Largest s (i + 1) (cond (lt m (number_at s i)) (number_at s i) m)
    go false e = rw e (record { place = l.place; within = omega (arith, l.within); is = l.is; top = λ x k. low x (lt-or-ge x i) k })
      where
        low : (x : ℕ) → (x < i) ⊎ (i ≤ x) → x < i + 1 → lt m (number_at s x) ≡ false
        low x (inl k) w = l.top x k
        low x (inr k) w = let z : x ≡ i = omega arith in ap (λ (j : ℕ). lt m (number_at s j)) z ∙ e
    go true e = rw e (record { place = i; within = omega arith; is = refl; top = λ x k. low x (lt-or-ge x i) k })
      where
        good : Good m
        good = subst Good l.is (number-at s n l.place (omega (arith, l.within)))

        low : (x : ℕ) → (x < i) ⊎ (i ≤ x) → x < i + 1 → lt (number_at s i) (number_at s x) ≡ false
        low x (inl k) w = le_trans (number_at s x) m (number_at s i) (number-at s n x (omega arith)) good (number-at s n i h) (l.top x k)
            (lt-asym m (number_at s i) e)
        low x (inr k) w = let z : x ≡ i = omega arith in ap (λ (j : ℕ). lt (number_at s i) (number_at s j)) z ∙ lt_irrefl (number_at s i)

-- ---- order statistics
not-of : (b : Bool) → b ≡ false → not b ≡ true
not-of true e = absurd (true≢false e)
not-of false e = refl

count_same : (p : Float → Bool) (s t : List Float) → SameValues s t → count_in p s ≡ count_in p t
unfolding SameValues
count_same p s t h = h p

-- what is at its place, among the values in another order, is the k-th smallest
by-counts : (s t : List Float) (k : ℕ) (x : ℕ) → Numbers s → SameValues s t → x < length t → count_in (under (number_at t x)) t ≤ k
    → k < count_in (up_to (number_at t x)) t → number_at t x ≡ kth s k
by-counts s t k x n h l a b =
    let y = number_at t x in
    let e = count_same (under y) s t h in
    let f = count_same (up_to y) s t h in
    let q = kth-join s k y (omega arith) (omega arith) in
    kth-is s k y n (number-at t (same_numbers s t h n) x l) q
    (subst (λ (c : ℕ). 0 < c) (sym (count_same (is_kth s k) s t h)) (some_at (is_kth s k) t x l q))

pub selected-kth : (s t : List Float) (k : ℕ) (r : Float) → Numbers s → k < length s → Selected s t k r → r ≡ kth s k
selected-kth s t k r n h c =
    let l : k < length t = omega (arith, c.long) in
    c.is ∙ by-counts s t k k n c.same l
    (count_most (under (number_at t k)) t k (λ x m w. ap (lt (number_at t x)) (sym c.is) ∙ c.after x m w))
    (count-least (up_to (number_at t k)) t (suc k) l (λ x m. not-of (lt (number_at t k) (number_at t x)) (upto x m (lt-or-ge x k))))
  where
    upto : (x : ℕ) → x < suc k → (x < k) ⊎ (k ≤ x) → lt (number_at t k) (number_at t x) ≡ false
    upto x m (inl w) = ap (λ (y : Float). lt y (number_at t x)) (sym c.is) ∙ c.before x w
    upto x m (inr w) = let e : x ≡ k = omega arith in ap (λ (j : ℕ). lt (number_at t k) (number_at t j)) e ∙ lt_irrefl (number_at t k)

-- the largest before place k is the one before the k-th
pub largest-kth : (s t : List Float) (k : ℕ) (r y : Float) → Numbers s → 0 < k → k < length s → Selected s t k r → Largest t k y
    → y ≡ kth s (k - 1)
largest-kth s t k r y n z h c l =
    let j = l.place in
    let w : j < length t = omega (arith, l.within, c.long) in
    let a = count-fewer (under (number_at t j)) t k j l.within (lt_irrefl (number_at t j)) (λ x m v. above x m v) in
    let b = count-least (up_to (number_at t j)) t k (omega (arith, c.long))
    (λ x m. not-of (lt (number_at t j) (number_at t x)) (ap (λ (u : Float). lt u (number_at t x)) l.is ∙ l.top x m)) in
    sym l.is ∙ by-counts s t (k - 1) j n c.same w (omega arith) (omega arith)
  where
    good : (x : ℕ) → x < length t → Good (number_at t x)
    good x h = number-at t (same_numbers s t c.same n) x h

    above : (x : ℕ) → k ≤ x → x < length t → lt (number_at t x) (number_at t l.place) ≡ false
    above x m v =
        let kk : k < length t = omega (arith, c.long) in
        le_trans (number_at t l.place) (number_at t k) (number_at t x) (good l.place (omega (arith, l.within))) (good k kk) (good x v)
        (ap (λ (u : Float). lt u (number_at t l.place)) (sym c.is) ∙ c.before l.place l.within)
        (ap (lt (number_at t x)) (sym c.is) ∙ c.after x m v)

-- ---- the three cases
cases : List Float → Bool → Bool → Float
cases s a b = cond a (of_bits binary32 0)
    (cond b (kth s (length s / 2)) (mul binary32 0·5 (add binary32 (kth s (length s / 2 - 1)) (kth s (length s / 2)))))

by : (s : List Float) (a b : Bool) → eqb (length s) 0 ≡ a → eqb (length s % 2) 1 ≡ b → median s ≡ cases s a b
unfolding median cases
by s a b e f = ap (λ (z : Bool). cases s z (eqb (length s % 2) 1)) e ∙ ap (λ (z : Bool). cases s a z) f

pub median-none : (s : List Float) → length s ≡ 0 → of_bits binary32 0 ≡ median s
unfolding cases
median-none s e = sym (by s true _ (eq-eqb _ _ e) refl)

pub median-odd : (s t : List Float) (r : Float) → Numbers s → (length s ≡ 0 → ⊥) → length s % 2 ≡ 1 → Selected s t (length s / 2) r
    → r ≡ median s
unfolding cases
median-odd s t r n z o c = selected-kth s t (length s / 2) r n (omega arith) c ∙ sym (by s false true (ne_eqb _ _ z) (eq-eqb _ _ o))

pub median-even : (s t : List Float) (r y : Float) → Numbers s → (length s ≡ 0 → ⊥) → (length s % 2 ≡ 1 → ⊥)
    → Selected s t (length s / 2) r → Largest t (length s / 2) y
    → mul binary32 0·5 (add binary32 y r) ≡ median s
unfolding cases
median-even s t r y n z o c l =
    let a = selected-kth s t (length s / 2) r n (omega arith) c in
    let b = largest-kth s t (length s / 2) r y n (omega arith) (omega arith) c l in
    ap (λ (w : Float). mul binary32 0·5 (add binary32 w r)) b
    ∙ ap (λ (w : Float). mul binary32 0·5 (add binary32 (kth s (length s / 2 - 1)) w)) a
    ∙ sym (by s false false (ne_eqb _ _ z) (ne_eqb _ _ o))
