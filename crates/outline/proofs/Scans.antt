-- The state of a scan, and that the first start and the last end are what two scans find, one from either end.
-- scan-begin, scan-more, scan-le, scan-stays; what a state says, Open and Shut, with seen; start-found, start_none, end-found. Assumes
-- nothing.
use mathlib.Core.Path.{◌≡◌, refl, sym, ap, ◌∙◌, subst}
use mathlib.Core.Logic.{◌⊎◌, inl, inr, ⊎_elim}
use mathlib.Core.Bool.{Bool, true, false}
use Prim.Native.Nat.{ℕ, zero, suc, ◌+◌, ◌-◌, ◌≤◌, ◌<◌}
use native.Mathlib.Nat.{eq-or-lt_of_le, not-suc-le-zero, add-zero}
use native.Mathlib.Numerals.{add-one}
use native.Mathlib.Omega.{arith}
use borrow.Author.Tests.{le-leb, lt-leb, eq-eqb, ne_eqb, lt-ltb, ltb-true}
use Rattle.laws.proofs.Bools.{clash, falsely, le-or-lt}
use Rattle.laws.proofs.Folds.{first-at, first-none}
use Rattle.boundary.specs.Runs.{in_run, run_start, run_end}
use Rattle.outline.specs.Inner.{scan, scan_step}
use Rattle.boundary.proofs.Runs.{run_of, run-at, start-mirror, both_ends, run-end-le}

-- k members in a row from a on
abbrev pub Solid : (ℕ → Bool) → ℕ → ℕ → Type 0
Solid m k a = (j : ℕ) → j < k → m (a + j) ≡ true

-- ---- the scan's state
pub scan-begin : (k : ℕ) (m : ℕ → Bool) → scan k m 0 ≡ 0
unfolding scan
scan-begin k m = refl

pub scan-more : (k : ℕ) (m : ℕ → Bool) (i : ℕ) → scan k m (i + 1) ≡ scan_step k (scan k m i) (m i) i
unfolding scan
scan-more k m i = rw add-one

step-found : (k s i : ℕ) (b : Bool) → k ≤ s → scan_step k s b i ≡ s
unfolding scan_step
step-found k s i b h = rw (le-leb k s h)

step-out : (k s i : ℕ) → s < k → scan_step k s false i ≡ 0
unfolding scan_step
step-out k s i h = rw (lt-leb k s h)

step-on : (k s i : ℕ) → s + 1 < k → scan_step k s true i ≡ s + 1
unfolding scan_step
step-on k s i h = rw (lt-leb k s (omega arith), ne_eqb (s + 1) k (λ e. omega arith))

step-full : (k s i : ℕ) → s + 1 ≡ k → scan_step k s true i ≡ i + 1
unfolding scan_step
step-full k s i h = rw (lt-leb k s (omega arith), eq-eqb (s + 1) k h)

pub record Open (m : ℕ → Bool) (k i s : ℕ) : Type 0 where
  pub small : s < k
  pub most : s ≤ i
  pub trail : (j : ℕ) → j < i → i ≤ j + s → m j ≡ true
  pub longest : (a : ℕ) → a ≤ i → ((j : ℕ) → a ≤ j → j < i → m j ≡ true) → i ≤ a + s
  pub none : (a : ℕ) → Solid m k a → i < a + k

pub record Shut (m : ℕ → Bool) (k i s : ℕ) : Type 0 where
  pub large : k ≤ s
  pub most : s ≤ i
  pub full : Solid m k (s - k)
  pub least : (a : ℕ) → Solid m k a → s ≤ a + k

module _ (m : ℕ → Bool) (k : ℕ) where
  -- a longer trail without a start makes no start
  no_start : (i s : ℕ) → s < k → ((a : ℕ) → a ≤ i + 1 → ((j : ℕ) → a ≤ j → j < i + 1 → m j ≡ true) → i + 1 ≤ a + s)
      → ((a : ℕ) → Solid m k a → i < a + k) → (a : ℕ) → Solid m k a → i + 1 < a + k
  no_start i s small longest none a full = go (eq-or-lt_of_le (none a full))
    where
      at : (j : ℕ) → i + 1 ≡ a + k → a ≤ j → j < i + 1 → m j ≡ true
      at j e l h =
          let z : a + (j - a) ≡ j = omega arith in
          subst (λ (q : ℕ). m q ≡ true) z (full (j - a) (omega arith))

      go : (suc i ≡ a + k) ⊎ (suc i < a + k) → i + 1 < a + k
      go (inr l) = omega arith
      go (inl e) = let w = longest a (omega arith) (λ j l h. at j (omega arith) l h) in omega arith

  turn-open : (i s : ℕ) → Open m k i s → (b : Bool) → m i ≡ b → Open m k (i + 1) (scan_step k s b i) ⊎ Shut m k (i + 1) (scan_step k s b i)
  turn-open i s o false e =
      inl (subst (λ (q : ℕ). Open m k (i + 1) q) (sym (step-out k s i o.small)) (record {
        small = omega (arith, o.small);
        most = omega arith;
        trail = λ j l h. absurd (away j l h);
        longest = longest;
        none = no_start i 0 (omega (arith, o.small)) longest o.none;
      }))
    where
      away : (j : ℕ) → j < i + 1 → i + 1 ≤ j + 0 → ⊥
      away j l h = omega arith

      longest : (a : ℕ) → a ≤ i + 1 → ((j : ℕ) → a ≤ j → j < i + 1 → m j ≡ true) → i + 1 ≤ a + 0
      longest a l h = go (eq-or-lt_of_le l)
        where
          go : (a ≡ i + 1) ⊎ (a < i + 1) → i + 1 ≤ a + 0
          go (inl q) = omega arith
          go (inr q) = absurd (clash (h i (omega arith) (omega arith)) e)
  turn-open i s o true e = go (eq-or-lt_of_le o.small)
    where
      trail : (j : ℕ) → j < i + 1 → i + 1 ≤ j + (s + 1) → m j ≡ true
      trail j l h = go2 (eq-or-lt_of_le l)
        where
          go2 : (suc j ≡ i + 1) ⊎ (suc j < i + 1) → m j ≡ true
          go2 (inl q) = let z : j ≡ i = omega arith in ap m z ∙ e
          go2 (inr q) = o.trail j (omega arith) (omega arith)

      longest : (a : ℕ) → a ≤ i + 1 → ((j : ℕ) → a ≤ j → j < i + 1 → m j ≡ true) → i + 1 ≤ a + (s + 1)
      longest a l h = go2 (eq-or-lt_of_le l)
        where
          go2 : (a ≡ i + 1) ⊎ (a < i + 1) → i + 1 ≤ a + (s + 1)
          go2 (inl q) = omega arith
          go2 (inr q) = let w = o.longest a (omega arith) (λ j x y. h j x (omega arith)) in omega arith

      go : (suc s ≡ k) ⊎ (suc s < k) → Open m k (i + 1) (scan_step k s true i) ⊎ Shut m k (i + 1) (scan_step k s true i)
      go (inl q) =
          inr (subst (λ (z : ℕ). Shut m k (i + 1) z) (sym (step-full k s i (omega arith))) (record {
            large = let w = o.most in omega arith;
            most = omega arith;
            full = λ j l. let w = o.most in trail (i + 1 - k + j) (omega arith) (omega arith);
            least = λ a f. let w = o.none a f in omega arith;
          }))
      go (inr q) =
          inl (subst (λ (z : ℕ). Open m k (i + 1) z) (sym (step-on k s i (omega arith))) (record {
            small = omega arith;
            most = let w = o.most in omega arith;
            trail = trail;
            longest = longest;
            none = no_start i (s + 1) (omega arith) longest o.none;
          }))

  turn-shut : (i s : ℕ) (b : Bool) → Shut m k i s → Shut m k (i + 1) (scan_step k s b i)
  turn-shut i s b h =
      subst (λ (z : ℕ). Shut m k (i + 1) z) (sym (step-found k s i b h.large))
      (record { large = h.large; most = omega (arith, h.most); full = h.full; least = h.least })

  pub seen : 1 ≤ k → (i : ℕ) → Open m k i (scan k m i) ⊎ Shut m k i (scan k m i)
  unfolding scan
  seen some zero = inl
      (record {
        small = omega arith;
        most = omega arith;
        trail = λ j l h. absurd
            (not-suc-le-zero l);
        longest = λ a l h. omega arith;
        none = none;
      })
    where
      none : (a : ℕ) → Solid m k a → 0 < a + k
      none a f = omega arith
  seen some (suc i) =
      ⊎_elim (λ o. rw (← add-one i) (turn-open i (scan k m i) o (m i) refl))
      (λ h. inr (rw (← add-one i) (turn-shut i (scan k m i) (m i) h))) (seen some i)

  pub scan-le : 1 ≤ k → (i : ℕ) → scan k m i ≤ i
  scan-le some i = ⊎_elim (λ o. o.most) (λ h. h.most) (seen some i)

  pub scan-stays : (i d : ℕ) → k ≤ scan k m i → scan k m (i + d) ≡ scan k m i
  scan-stays i zero h = ap (scan k m) (add-zero i)
  scan-stays i (suc d) h =
      let ih = scan-stays i d h in
      let z : i + suc d ≡ i + d + 1 = omega arith in
      rw (z, scan-more k m (i + d), ih) (step-found k (scan k m i) (i + d) (m (i + d)) h)

  -- ---- the first start
  pub start-found : 1 ≤ k → (n : ℕ) → k ≤ scan k m n → (run_start k n m ≡ scan k m n - k) × (run_start k n m < n)
  unfolding run_start
  start-found some n h = go (seen some n)
    where
      no : (s : ℕ) → s < k → k ≤ s → ⊥
      no s a b = omega arith

      before : (s i a : ℕ) → i < s - k → a ≤ i → s ≤ a + k → ⊥
      before s i a l f g = omega arith

      at : Shut m k n (scan k m n) → run_start k n m ≡ scan k m n - k
      at t =
          unfold run_start in
          first-at n (in_run k n m) (scan k m n - k) (omega (arith, t.most))
          (λ i l. falsely (in_run k n m i)
          (λ e. let r = run-at k n m i e in before (scan k m n) i r.0 l r.1.from (t.least r.0 r.1.all)))
          (run_of k n m (scan k m n - k) (scan k m n - k)
          (record { from = omega arith; to = omega arith; inside = omega (arith, t.most); all = t.full }))

      go : Open m k n (scan k m n) ⊎ Shut m k n (scan k m n) → (run_start k n m ≡ scan k m n - k) × (run_start k n m < n)
      go (inl o) = absurd (no (scan k m n) o.small h)
      go (inr t) = let e = at t in (e, omega (arith, t.most))

  pub start_none : 1 ≤ k → (n : ℕ) → scan k m n < k → run_start k n m ≡ n
  unfolding run_start
  start_none some n h = go (seen some n)
    where
      no : (s : ℕ) → s < k → k ≤ s → ⊥
      no s a b = omega arith

      late : (a : ℕ) → a + k ≤ n → n < a + k → ⊥
      late a f g = omega arith

      go : Open m k n (scan k m n) ⊎ Shut m k n (scan k m n) → run_start k n m ≡ n
      go (inl o) =
          unfold run_start in
          first-none n (in_run k n m)
          (λ i l. falsely (in_run k n m i) (λ e. let r = run-at k n m i e in late r.0 r.1.inside (o.none r.0 r.1.all)))
      go (inr t) = absurd (no (scan k m n) h t.large)

-- ---- the last end, from the scan of the line read backwards
module _ (m b : ℕ → Bool) (k n : ℕ) (some : 1 ≤ k) (backwards : (i : ℕ) → i < n → b i ≡ m (n - 1 - i)) where
  pub end-found : k ≤ scan k m n → run_end k n m ≡ n + k - scan k b n
  end-found h = go (le-or-lt k (scan k b n))
    where
      turned : run_start k n b ≡ n - run_end k n m
      turned = start-mirror k n m b backwards

      less : n - run_end k n m < n
      less = ltb-true (n - run_end k n m) n (both_ends k n m ∙ lt-ltb (run_start k n m) n (start-found m k some n h).1)

      never : (r e : ℕ) → r ≡ n → r ≡ n - e → n - e < n → ⊥
      never r e a c d = omega arith

      go : (k ≤ scan k b n) ⊎ (scan k b n < k) → run_end k n m ≡ n + k - scan k b n
      go (inl u) =
          let f = start-found b k some n u in
          let s : scan k b n ≤ n = scan-le b k some n in
          omega (arith, f.0, turned, run-end-le k n m, less)
      go (inr u) = absurd (never (run_start k n b) (run_end k n m) (start_none b k some n u) turned less)
