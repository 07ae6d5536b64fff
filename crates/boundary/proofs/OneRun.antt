-- The points of a line that has one run, by its length: `one-short`, a run shorter than the shortest gives nothing; `one-long`, any other
-- its ends. Assumes nothing.
use mathlib.Core.Path.{◌≡◌}
use mathlib.Core.Logic.{◌⊎◌, inl, inr}
use mathlib.Core.Bool.{Bool, true, false}
use mathlib.Core.List.{[], ◌∷◌}
use Prim.Native.Nat.{ℕ, ◌+◌, ◌-◌, ◌*◌, ◌≤◌, ◌<◌}
use native.Mathlib.Omega.{arith}
use borrow.Author.Tests.{lt-ltb, le-ltb}
use Rattle.laws.specs.Fold.{first, end_of}
use Rattle.laws.proofs.Bools.{which}
use Rattle.laws.proofs.Folds.{first-at, first-none, end-above, end-holds}
use Rattle.boundary.specs.Runs.{in_run, run_start, run_end, edges, OneRun}
use Rattle.boundary.proofs.Runs.{IsRun, run_of, run-at}

module _ (k n a m : ℕ) (t : ℕ → Bool) (one : OneRun n a m t) (some : 1 ≤ k) where
  -- where k in a row lie
  within : (i b : ℕ) → IsRun k n t i b → (a ≤ b) × (b + k ≤ a + m)
  within i b r =
      let begin = (one.members (b + 0) (omega (arith, some, r.inside))).0 (r.all 0 some) in
      let end = (one.members (b + (k - 1)) (omega (arith, some, r.inside))).0 (r.all (k - 1) (omega (arith, some))) in
      (omega (arith, begin.0), omega (arith, some, end.1))

  member : (i : ℕ) → a ≤ i → i < a + m → t i ≡ true
  member i l h = (one.members i (omega (arith, h, one.fits))).1 (l, h)

  outside : (i : ℕ) → (in_run k n t i ≡ true → ⊥) → in_run k n t i ≡ false
  outside i no_run = go (which (in_run k n t i))
    where
      go : (in_run k n t i ≡ true) ⊎ (in_run k n t i ≡ false) → in_run k n t i ≡ false
      go (inl e) = absurd (no_run e)
      go (inr e) = e

  pub one-short : (s : ℕ) → m < k → edges k n t s ≡ []
  unfolding edges run_start
  one-short s short = rw (first-none n (in_run k n t) (λ i l. outside i (λ e. no_run i e)), le-ltb n n (omega arith))
    where
      no_run : (i : ℕ) → in_run k n t i ≡ true → ⊥
      no_run i e = let r = run-at k n t i e in let q = within i r.0 r.1 in omega (arith, short, q.0, q.1)

  module _ (long : k ≤ m) where
    run-from : (i b : ℕ) → a ≤ b → b + k ≤ a + m → b ≤ i → i < b + k → in_run k n t i ≡ true
    run-from i b low high from to =
        run_of k n t i b
        (record {
          from = from;
          to = to;
          inside = omega (arith, high, one.fits);
          all = λ j l. member (b + j) (omega (arith, low)) (omega (arith, l, high));
        })

    start_is : first n (in_run k n t) ≡ a
    start_is =
        first-at n (in_run k n t) a (omega (arith, some, long, one.fits)) (λ i l. outside i (λ e. before i l e))
        (run-from a a (omega arith) (omega (arith, long)) (omega arith) (omega (arith, some)))
      where
        before : (i : ℕ) → i < a → in_run k n t i ≡ true → ⊥
        before i l e = let r = run-at k n t i e in let q = within i r.0 r.1 in omega (arith, l, q.0, r.1.from)

    end_is : end_of n (in_run k n t) ≡ a + m
    end_is =
        let z = end_of n (in_run k n t) in
        let low : a + m - 1 < z =
        end-above n (in_run k n t) (a + m - 1) (omega (arith, some, long, one.fits))
        (run-from (a + m - 1) (a + m - k) (omega (arith, long)) (omega (arith, long)) (omega (arith, some, long))
        (omega (arith, some, long))) in
        let r = run-at k n t (z - 1) (end-holds n (in_run k n t) (omega arith)) in
        let q = within (z - 1) r.0 r.1 in
        omega (arith, low, q.1, r.1.to, some, long)

    pub one-long : (s : ℕ) → edges k n t s ≡ 2 * (s + a) ∷ 2 * (s + (a + m)) ∷ []
    unfolding edges run_start run_end
    one-long s = rw (start_is, end_is, lt-ltb a n (omega (arith, some, long, one.fits)))
