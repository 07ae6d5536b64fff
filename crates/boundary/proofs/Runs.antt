-- Laws of runs: lines that agree have the same, and a line read backwards has first and last exchanged.
--     some_of, some_at, every_of, every-at, IsRun, run_of, run-at
--     lines that agree: run-ext
--     a line read backwards: run-mirror
--     first and last: start-mirror, end-mirror, both_ends, start-le, run-end-le, edges-ext
-- Assumes nothing.
use mathlib.Core.Path.{◌≡◌, refl, sym, ap, ◌∙◌}
use mathlib.Core.Logic.{◌⊎◌, inl, inr, ⊎_elim}
use mathlib.Core.Bool.{Bool, true, ◌&&◌}
use Prim.Native.Nat.{ℕ, zero, suc, ◌+◌, ◌-◌, ◌≤◌, ◌<◌}
use native.Mathlib.Omega.{arith}
use lib.Dec.{leb, ltb}
use borrow.Author.Tests.{lt-ltb, ltb-true, le-leb, leb-true}
use Rattle.laws.specs.Fold.{first, end_of}
use Rattle.laws.proofs.Bools.{both, and_left, and_right, either, or_left, or_right, clash, at-or-below, bool-ext}
use Rattle.laws.proofs.Folds.{first-le, first-ext, first_holds, first_below, first-turn, end-le, end-ext, end-above, end-holds}
use Rattle.boundary.specs.Runs.{some, every, run_at, in_run, run_start, run_end, edges}

pub some_of : (n : ℕ) (t : ℕ → Bool) (a : ℕ) → a < n → t a ≡ true → some n t ≡ true
unfolding some
some_of zero t a l e = absurd (omega arith)
some_of (suc n) t a l e =
    ⊎_elim (λ q. or_left (t n) (some n t) (ap t (sym q) ∙ e)) (λ q. or_right (t n) (some n t) (some_of n t a q e)) (at-or-below a n l)

pub some_at : (n : ℕ) (t : ℕ → Bool) → some n t ≡ true → (a : ℕ) × (a < n) × (t a ≡ true)
unfolding some
some_at zero t e = absurd (clash e refl)
some_at (suc n) t e = go (either (t n) (some n t) e) (some_at n t)
  where
    go : (t n ≡ true) ⊎ (some n t ≡ true) → (some n t ≡ true → (a : ℕ) × (a < n) × (t a ≡ true)) → (a : ℕ) × (a < suc n) × (t a ≡ true)
    go (inl q) ih = (n, omega arith, q)
    go (inr q) ih = let r = ih q in (r.0, omega (arith, r.1), r.2)

pub every_of : (n : ℕ) (t : ℕ → Bool) → ((j : ℕ) → j < n → t j ≡ true) → every n t ≡ true
unfolding every
every_of zero t f = refl
every_of (suc n) t f = both (t n) (every n t) (f n (omega arith)) (every_of n t (λ j l. f j (omega arith)))

pub every-at : (n : ℕ) (t : ℕ → Bool) → every n t ≡ true → (j : ℕ) → j < n → t j ≡ true
unfolding every
every-at zero t e j l = absurd (omega arith)
every-at (suc n) t e j l =
    ⊎_elim (λ q. ap t q ∙ and_left (t n) (every n t) e) (λ q. every-at n t (and_right (t n) (every n t) e) j q) (at-or-below j n l)

-- what a run is
pub record IsRun (k n : ℕ) (t : ℕ → Bool) (i a : ℕ) : Type 0 where
  pub from : a ≤ i
  pub to : i < a + k
  pub inside : a + k ≤ n
  pub all : (j : ℕ) → j < k → t (a + j) ≡ true

pub run_of : (k n : ℕ) (t : ℕ → Bool) (i a : ℕ) → IsRun k n t i a → in_run k n t i ≡ true
unfolding in_run run_at
run_of k n t i a r =
    some_of (suc i) (λ a. ltb i (a + k) && (leb (a + k) n && every k (λ j. t (a + j)))) a (omega (arith, r.from))
    (both (ltb i (a + k)) (leb (a + k) n && every k (λ j. t (a + j))) (lt-ltb i (a + k) r.to)
    (both (leb (a + k) n) (every k (λ j. t (a + j))) (le-leb (a + k) n r.inside) (every_of k (λ j. t (a + j)) r.all)))

pub run-at : (k n : ℕ) (t : ℕ → Bool) (i : ℕ) → in_run k n t i ≡ true → (a : ℕ) × IsRun k n t i a
unfolding in_run run_at
run-at k n t i e =
    let r = some_at (suc i) (λ a. ltb i (a + k) && (leb (a + k) n && every k (λ j. t (a + j)))) e in
    let q = and_right (ltb i (r.0 + k)) (leb (r.0 + k) n && every k (λ j. t (r.0 + j))) r.2 in (
      r.0,
      record {
        from = omega (arith, r.1);
        to = ltb-true i (r.0 + k) (and_left (ltb i (r.0 + k)) (leb (r.0 + k) n && every k (λ j. t (r.0 + j))) r.2);
        inside = leb-true (r.0 + k) n (and_left (leb (r.0 + k) n) (every k (λ j. t (r.0 + j))) q);
        all = every-at k (λ j. t (r.0 + j)) (and_right (leb (r.0 + k) n) (every k (λ j. t (r.0 + j))) q);
      },
    )

-- ---- lines that agree
module _ (k n : ℕ) (t u : ℕ → Bool) (same : (i : ℕ) → i < n → t i ≡ u i) where
  run-same : (i : ℕ) → in_run k n t i ≡ true → in_run k n u i ≡ true
  run-same i e =
      let r = run-at k n t i e in
      let q = r.1 in
      run_of k n u i r.0
      (record {
        from = q.from;
        to = q.to;
        inside = q.inside;
        all = λ j l. sym (same (r.0 + j) (omega (arith, q.inside)))
            ∙ q.all j l;
      })

pub run-ext : (k n : ℕ) (t u : ℕ → Bool) → ((i : ℕ) → i < n → t i ≡ u i) → (i : ℕ) → in_run k n t i ≡ in_run k n u i
run-ext k n t u same i = bool-ext (in_run k n t i) (in_run k n u i) (run-same k n t u same i) (run-same k n u t (λ j l. sym (same j l)) i)

-- ---- a line read backwards
module _ (k n : ℕ) (t u : ℕ → Bool) (same : (i : ℕ) → i < n → u i ≡ t (n - 1 - i)) where
  run-turn : (i : ℕ) → i < n → in_run k n u i ≡ true → in_run k n t (n - 1 - i) ≡ true
  run-turn i l e =
      let r = run-at k n u i e in
      let q = r.1 in
      run_of k n t (n - 1 - i) (n - (r.0 + k)) (record {
        from = omega (arith, q.to);
        to = omega (arith, q.from, q.inside, q.to);
        inside = omega (arith, q.inside);
        all = λ j s.
            let x : n - 1 - (r.0 + (k - 1 - j)) ≡ n - (r.0 + k) + j = turned n r.0 k j s q.inside in
            ap t (sym x) ∙ sym (same (r.0 + (k - 1 - j)) (less n r.0 k j s q.inside)) ∙ q.all (k - 1 - j) (omega arith);
      })
    where
      turned : (n a k j : ℕ) → j < k → a + k ≤ n → n - 1 - (a + (k - 1 - j)) ≡ n - (a + k) + j
      turned n a k j s z = omega arith

      less : (n a k j : ℕ) → j < k → a + k ≤ n → a + (k - 1 - j) < n
      less n a k j s z = omega arith

pub run-mirror : (k n : ℕ) (t u : ℕ → Bool) → ((i : ℕ) → i < n → u i ≡ t (n - 1 - i)) → (i : ℕ) → i < n
    → in_run k n u i ≡ in_run k n t (n - 1 - i)
run-mirror k n t u same i l = bool-ext (in_run k n u i) (in_run k n t (n - 1 - i)) (run-turn k n t u same i l) back
  where
    twice : (n i : ℕ) → i < n → n - 1 - (n - 1 - i) ≡ i
    twice n i l = omega arith

    back : in_run k n t (n - 1 - i) ≡ true → in_run k n u i ≡ true
    back e = rw (twice n i l) at
        (run-turn k n u t (λ j s. ap t (sym (twice n j s)) ∙ sym (same (n - 1 - j) (omega arith))) (n - 1 - i) (omega arith) e)

-- ---- first and last
module _ (k n : ℕ) (t u : ℕ → Bool) (same : (i : ℕ) → i < n → u i ≡ t (n - 1 - i)) where
  pub start-mirror : run_start k n u ≡ n - run_end k n t
  unfolding run_start run_end
  start-mirror = first-turn n (in_run k n t) (in_run k n u) (λ i l. run-mirror k n t u same i l)

  pub end-mirror : run_end k n u ≡ n - run_start k n t
  unfolding run_start run_end
  end-mirror =
      omega (
        arith,
        end-le n (in_run k n u),
        first-turn n (in_run k n u) (in_run k n t)
            (λ i l. sym (run-mirror k n t u same (n - 1 - i) (omega arith) ∙ ap (in_run k n t) (twice n i l))),
      )
    where
      twice : (n i : ℕ) → i < n → n - 1 - (n - 1 - i) ≡ i
      twice n i l = omega arith

-- there is a last where there is a first
pub both_ends : (k n : ℕ) (t : ℕ → Bool) → ltb (n - run_end k n t) n ≡ ltb (run_start k n t) n
unfolding run_start run_end
both_ends k n t =
    bool-ext (ltb (n - end_of n (in_run k n t)) n) (ltb (first n (in_run k n t)) n)
    (λ e.
    let p : 0 < end_of n (in_run k n t) = omega (arith, ltb-true (n - end_of n (in_run k n t)) n e) in
    let b = end-le n (in_run k n t) in
    lt-ltb (first n (in_run k n t)) n
    (omega (arith, first_below n (in_run k n t) (end_of n (in_run k n t) - 1) (omega arith) (end-holds n (in_run k n t) p))))
    (λ e.
    let l = ltb-true (first n (in_run k n t)) n e in
    let q = end-above n (in_run k n t) (first n (in_run k n t)) l (first_holds n (in_run k n t) l) in
    lt-ltb (n - end_of n (in_run k n t)) n (omega arith))

pub start-le : (k n : ℕ) (t : ℕ → Bool) → run_start k n t ≤ n
unfolding run_start
start-le k n t = first-le n (in_run k n t)

pub run-end-le : (k n : ℕ) (t : ℕ → Bool) → run_end k n t ≤ n
unfolding run_end
run-end-le k n t = end-le n (in_run k n t)

pub edges-ext : (k n : ℕ) (t u : ℕ → Bool) (s : ℕ) → ((i : ℕ) → i < n → t i ≡ u i) → edges k n t s ≡ edges k n u s
unfolding edges run_start run_end
edges-ext k n t u s same =
    rw (
      first-ext n (in_run k n t) (in_run k n u) (λ i l. run-ext k n t u same i),
      end-ext n (in_run k n t) (in_run k n u) (λ i l. run-ext k n t u same i),
    )
