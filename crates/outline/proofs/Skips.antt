-- The search of a row for its first run: where a pixel is no member, no run starts in the places up to it that would need it.
-- Pixel by pixel from the last down, skip-on, skip-here, skip-none; the invariant Clear with clear-begin, clear-turn, clear-found,
-- clear-end; the ends of a row, extremes-some, extremes-none, extremes-le; its points, row-some, row-none. Assumes nothing.
use mathlib.Core.Path.{◌≡◌, refl, sym, ap, subst}
use Rattle.std.proofs.lemmas.Option.{none-some, same_Some}
use mathlib.Core.Logic.{⊎_elim}
use mathlib.Core.Bool.{Bool, true, false, cond}
use mathlib.Core.List.{List, [], ◌∷◌, map}
use Prim.Native.Nat.{ℕ, zero, suc, ◌+◌, ◌-◌, ◌*◌, ◌≤◌, ◌<◌}
use native.Mathlib.Nat.{eq-or-lt_of_le, not-suc-le-zero}
use native.Mathlib.Omega.{arith}
use lib.Dec.{ltb}
use borrow.Author.Tests.{lt-ltb, le-ltb}
use Rattle.laws.proofs.Bools.{clash, falsely, le-or-lt}
use Rattle.laws.proofs.Folds.{first-at, first-none}
use Rattle.boundary.specs.Runs.{in_run, run_start, run_end, edges}
use Rattle.boundary.specs.Boundary.{on_row, row_points}
use Rattle.outline.specs.Inner.{row_line, extremes_of, skip_of}
use Rattle.std.specs.Prelude.{Option, Some, None}
use Rattle.boundary.proofs.Runs.{run_of, run-at, start-mirror, start-le, run-end-le}

-- ---- from the last pixel of a run down to its first
module _ (t : ℕ → Bool) (k : ℕ) where
  pub skip-on : (j : ℕ) → 0 < j → t (k + (j - 1)) ≡ true → skip_of j t k ≡ skip_of (j - 1) t k
  unfolding skip_of
  skip-on zero l e = absurd (omega arith)
  skip-on (suc j) l e =
      let z : suc j - 1 ≡ j = omega arith in
      let f : t (k + j) ≡ true = subst (λ (m : ℕ). t (k + m) ≡ true) z e in
      rw (z, f)

  pub skip-here : (j : ℕ) → 0 < j → t (k + (j - 1)) ≡ false → skip_of j t k ≡ j
  unfolding skip_of
  skip-here zero l e = absurd (omega arith)
  skip-here (suc j) l e =
      let z : suc j - 1 ≡ j = omega arith in
      let f : t (k + j) ≡ false = subst (λ (m : ℕ). t (k + m) ≡ false) z e in
      rw f

  pub skip-none : (j : ℕ) → j ≤ 0 → skip_of j t k ≡ 0
  unfolding skip_of
  skip-none zero l = refl
  skip-none (suc j) l = absurd (not-suc-le-zero l)

-- no run in a line of n pixels starts before k
pub record Clear (run : ℕ) (t : ℕ → Bool) (n k : ℕ) : Type 0 where
  pub later : (a : ℕ) → a + run ≤ n → ((j : ℕ) → j < run → t (a + j) ≡ true) → k ≤ a

pub clear-begin : (run : ℕ) (t : ℕ → Bool) (n : ℕ) → Clear run t n 0
clear-begin run t n = record { later = λ a l all. omega arith }

module _ (run : ℕ) (t : ℕ → Bool) (n k : ℕ) (c : Clear run t n k) where
  -- past a pixel that is no member
  past : (i : ℕ) → i < run → t (k + i) ≡ false → Clear run t n (k + i + 1)
  past i l e = record { later = λ a b all. go a (c.later a b all) all }
    where
      hit : (a : ℕ) → k ≤ a → a ≤ k + i → ((j : ℕ) → j < run → t (a + j) ≡ true) → ⊥
      hit a lo hi all =
          let z : a + (k + i - a) ≡ k + i = omega arith in
          clash (subst (λ (q : ℕ). t q ≡ true) z (all (k + i - a) (omega arith))) e

      go : (a : ℕ) → k ≤ a → ((j : ℕ) → j < run → t (a + j) ≡ true) → k + i + 1 ≤ a
      go a lo all = ⊎_elim (λ h. h) (λ h. absurd (hit a lo (omega arith) all)) (le-or-lt (k + i + 1) a)

  -- past the pixels that the look at the first j of them skips
  turn : (d j : ℕ) → j ≤ run → d ≡ skip_of j t k → 0 < d → Clear run t n (k + d)
  unfolding skip_of
  turn d zero l e pos = absurd (omega arith)
  turn d (suc j) l e pos = go (t (k + j)) refl e (λ q. turn d j (omega arith) q pos)
    where
      go : (b : Bool) → t (k + j) ≡ b → d ≡ cond b (skip_of j t k) (suc j) → (d ≡ skip_of j t k → Clear run t n (k + d))
          → Clear run t n (k + d)
      go true f q on = on q
      go false f q on = let z : k + j + 1 ≡ k + d = omega arith in subst (λ (m : ℕ). Clear run t n m) z (past j l f)

  pub clear-turn : (d : ℕ) → d ≡ skip_of run t k → 0 < d → Clear run t n (k + d)
  clear-turn d e pos = turn d run (omega arith) e pos

  -- the pixels of a run at k
  whole : (j : ℕ) → skip_of j t k ≡ 0 → (i : ℕ) → i < j → t (k + i) ≡ true
  unfolding skip_of
  whole zero e i l = absurd (not-suc-le-zero l)
  whole (suc j) e i l = go (t (k + j)) refl e (λ q h. whole j q i h)
    where
      go : (b : Bool) → t (k + j) ≡ b → cond b (skip_of j t k) (suc j) ≡ 0 → (skip_of j t k ≡ 0 → i < j → t (k + i) ≡ true)
          → t (k + i) ≡ true
      go true f q on =
          ⊎_elim (λ h. let z : j ≡ i = omega arith in subst (λ (m : ℕ). t (k + m) ≡ true) z f) (λ h. on q (omega arith)) (eq-or-lt_of_le l)
      go false f q on = absurd (omega arith)

  pub clear-found : 0 < run → skip_of run t k ≡ 0 → k + run ≤ n → run_start run n t ≡ k
  unfolding run_start
  clear-found some e l =
      first-at n (in_run run n t) k (omega arith)
      (λ i b. falsely (in_run run n t i)
      (λ q. let r = run-at run n t i q in before i r.0 b r.1.from (c.later r.0 r.1.inside r.1.all)))
      (run_of run n t k k (record { from = omega arith; to = omega arith; inside = l; all = whole run e }))
    where
      before : (i a : ℕ) → i < k → a ≤ i → k ≤ a → ⊥
      before i a b f g = omega arith

  pub clear-end : n < k + run → run_start run n t ≡ n
  unfolding run_start
  clear-end l =
      first-none n (in_run run n t)
      (λ i b. falsely (in_run run n t i)
      (λ q. let r = run-at run n t i q in late r.0 r.1.inside (c.later r.0 r.1.inside r.1.all)))
    where
      late : (a : ℕ) → a + run ≤ n → k ≤ a → ⊥
      late a f g = omega arith

-- ---- the ends of a row, by searches from either end
ends-same : (a b s r : ℕ) → ◌≡◌ {A = Option (ℕ × ℕ)} (Some (a, b)) (Some (s, r)) → (a ≡ s) × (b ≡ r)
ends-same a b s r q =
    let e : ◌≡◌ {A = ℕ × ℕ} (a, b) (s, r) = same_Some (a, b) (s, r) q in
    (ap (λ (t : ℕ × ℕ). t.0) e, ap (λ (t : ℕ × ℕ). t.1) e)

module _ (run : ℕ) (p : ℕ → ℕ → Bool) (x0 n y : ℕ) where
  turned : (i : ℕ) → i < n → row_line p x0 n y true i ≡ row_line p x0 n y false (n - 1 - i)
  unfolding row_line
  turned i l = refl

  pub extremes-some : (a b : ℕ) → a ≡ run_start run n (row_line p x0 n y false) → b ≡ run_start run n (row_line p x0 n y true) → a < n
      → Some (a, n - b) ≡ extremes_of run n (row_line p x0 n y false)
  unfolding extremes_of
  extremes-some a b ea eb l = rw (← ea, lt-ltb a n l, e)
    where
      back : run_start run n (row_line p x0 n y true) ≡ n - run_end run n (row_line p x0 n y false)
      back = start-mirror run n (row_line p x0 n y false) (row_line p x0 n y true) turned

      e : n - b ≡ run_end run n (row_line p x0 n y false)
      e = omega (arith, run-end-le run n (row_line p x0 n y false), back)

  pub extremes-none : (a : ℕ) → a ≡ run_start run n (row_line p x0 n y false) → n ≤ a → None ≡ extremes_of run n (row_line p x0 n y false)
  unfolding extremes_of
  extremes-none a ea l = rw (← ea, le-ltb a n l)

  pub extremes-le : (a b : ℕ) → Some (a, b) ≡ extremes_of run n (row_line p x0 n y false) → (a ≤ n) × (b ≤ n)
  unfolding extremes_of
  extremes-le a b e = go (ltb (run_start run n t) n) (run_start run n t) (run_end run n t) (start-le run n t) (run-end-le run n t) e
    where
      t : ℕ → Bool
      t = row_line p x0 n y false

      go : (z : Bool) (s r : ℕ) → s ≤ n → r ≤ n → ◌≡◌ {A = Option (ℕ × ℕ)} (Some (a, b)) (cond z (Some (s, r)) None) → (a ≤ n) × (b ≤ n)
      go true s r ls lr q = let e = ends-same a b s r q in (omega (arith, e.0), omega (arith, e.1))
      go false s r ls lr q = absurd (none-some (a, b) (sym q))

  -- the points from the ends
  pub row-some : (a b : ℕ) → Some (a, b) ≡ extremes_of run n (row_line p x0 n y false)
      → (2 * (x0 + a), 2 * y + 1) ∷ (2 * (x0 + b), 2 * y + 1) ∷ [] ≡ row_points run p x0 n y
  unfolding extremes_of row_points edges row_line
  row-some a b e = go (ltb (run_start run n line) n) (run_start run n line) (run_end run n line) e
    where
      line : ℕ → Bool
      line i = p (x0 + i) y

      go : (z : Bool) (s r : ℕ) → ◌≡◌ {A = Option (ℕ × ℕ)} (Some (a, b)) (cond z (Some (s, r)) None)
          → ◌≡◌ {A = List (ℕ × ℕ)} ((2 * (x0 + a), 2 * y + 1) ∷ (2 * (x0 + b), 2 * y + 1) ∷ [])
          (map (on_row (2 * y + 1)) (cond z (2 * (x0 + s) ∷ 2 * (x0 + r) ∷ []) []))
      go true s r q = let e = ends-same a b s r q in rw (e.0, e.1)
      go false s r q = absurd (none-some (a, b) (sym q))

  pub row-none : None ≡ extremes_of run n (row_line p x0 n y false) → [] ≡ row_points run p x0 n y
  unfolding extremes_of row_points edges row_line
  row-none e = go (ltb (run_start run n line) n) (run_start run n line) (run_end run n line) e
    where
      line : ℕ → Bool
      line i = p (x0 + i) y

      go : (z : Bool) (s r : ℕ) → ◌≡◌ {A = Option (ℕ × ℕ)} None (cond z (Some (s, r)) None)
          → ◌≡◌ {A = List (ℕ × ℕ)} [] (map (on_row (2 * y + 1)) (cond z (2 * (x0 + s) ∷ 2 * (x0 + r) ∷ []) []))
      go true s r q = absurd (none-some (s, r) q)
      go false s r q = refl
