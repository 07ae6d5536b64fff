-- Every row has one answer: no outline point, or an outline between two places, and these are one pair.
--     add-up                         so the counts add up to the number of rows, and so do the answers
--     row-points                     what the tests say of a row's points
-- Assumes nothing.
use mathlib.Core.Path.{◌≡◌, refl, sym, ap, ◌∙◌}
use mathlib.Core.Logic.{⊎_elim}
use mathlib.Core.Bool.{Bool, true, false, cond, ◌&&◌}
use mathlib.Core.List.{List, [], ◌∷◌}
use Prim.Native.Nat.{ℕ, ◌+◌, ◌-◌, ◌*◌, ◌^◌, ◌≤◌, ◌<◌}
use native.Mathlib.Omega.{arith}
use lib.Dec.{eqb, ltb}
use borrow.Author.Tests.{eq-eqb, ne_eqb, eqb-true, lt-ltb, ltb-true, ltb-false, le-ltb, le-leb}
use Rattle.laws.specs.Fold.{bit, sum_to}
use Rattle.laws.proofs.Bools.{and_both, both, falsely, le-or-lt}
use Rattle.laws.proofs.Folds.{fold-ext}
use Rattle.laws.proofs.Sums.{sum-nil, sum-at}
use Rattle.boundary.specs.Runs.{run_start, run_end, edges}
use Rattle.boundary.proofs.Runs.{both_ends, start-le, run-end-le}
use Rattle.noise.specs.Rows.{row_ink_at, is_bare, is_between, rows_without, rows_with}
use Rattle.noise.specs.Door.{is_shortest, without_answer, with_answer, counted_rows}
use Rattle.noise.specs.Claims.{AddUp, RowPoints}
use Rattle.noise.proofs.Counting.{rows-add}

-- a start and an end, and the tests on them: exactly one passes
one_answer : (n s e : ℕ) → s ≤ n → e ≤ n → (s < n → 0 < e)
    → bit (eqb s n) + sum_to n (λ from. sum_to n (λ to. bit (eqb s from && eqb e (to + 1)))) ≡ 1
one_answer n s e sn en some = ⊎_elim outside inside (le-or-lt n s)
  where
    outside : n ≤ s → bit (eqb s n) + sum_to n (λ from. sum_to n (λ to. bit (eqb s from && eqb e (to + 1)))) ≡ 1
    outside l =
        let a : bit (eqb s n) ≡ 1 = ap bit (eq-eqb s n (omega arith)) in
        let b = sum-nil n (λ from. sum_to n (λ to. bit (eqb s from && eqb e (to + 1))))
        (λ i m. sum-nil n (λ to. bit (eqb s i && eqb e (to + 1)))
        (λ j w. ap (λ (b : Bool). bit (b && eqb e (j + 1))) (ne_eqb s i (λ z. omega arith)))) in
        omega arith

    inside : s < n → bit (eqb s n) + sum_to n (λ from. sum_to n (λ to. bit (eqb s from && eqb e (to + 1)))) ≡ 1
    inside l =
        let p = some l in
        let a : bit (eqb s n) ≡ 0 = ap bit (ne_eqb s n (λ z. omega arith)) in
        let b = sum-at n s (λ from. sum_to n (λ to. bit (eqb s from && eqb e (to + 1)))) l
        (λ i m other. sum-nil n (λ to. bit (eqb s i && eqb e (to + 1)))
        (λ j w. ap (λ (b : Bool). bit (b && eqb e (j + 1))) (ne_eqb s i (λ z. other (sym z))))) in
        let c = sum-at n (e - 1) (λ to. bit (eqb s s && eqb e (to + 1))) (omega arith)
        (λ i m other. ap bit (falsely (eqb s s && eqb e (i + 1))
        (λ t. other (let z : e ≡ i + 1 = eqb-true e (i + 1) (and_both (eqb s s) (eqb e (i + 1)) t).1 in omega arith)))) in
        let d : bit (eqb s s && eqb e (e - 1 + 1)) ≡ 1 =
        ap bit (both (eqb s s) (eqb e (e - 1 + 1)) (eq-eqb s s refl) (eq-eqb e (e - 1 + 1) (omega arith))) in
        omega arith

-- there is an end where there is a start
end-there : (k n : ℕ) (t : ℕ → Bool) → run_start k n t < n → 0 < run_end k n t
end-there k n t l = ended (run_end k n t) n (ltb-true (n - run_end k n t) n (both_ends k n t ∙ lt-ltb (run_start k n t) n l))
  where
    ended : (e n : ℕ) → n - e < n → 0 < e
    ended e n l = omega arith

-- ---- the counts add up
counts-add : (k n : ℕ) → rows_without k n + sum_to n (λ from. sum_to n (λ to. rows_with k n from to)) ≡ 2 ^ n
unfolding rows_without rows_with is_bare is_between
counts-add k n =
    rows-add n n (is_bare k n) (is_between k n)
    (λ row. one_answer n (run_start k n (row_ink_at row)) (run_end k n (row_ink_at row)) (start-le k n (row_ink_at row)) (run-end-le k n (row_ink_at row))
    (end-there k n (row_ink_at row)))

-- what the entries answer are the counts
bare-answered : (k n : ℕ) → is_shortest k ≡ true → n ≤ 60 → counted_rows (without_answer k n) ≡ rows_without k n
bare-answered k n e l = rw (e, le-leb n 60 l)

between-answered : (k n from to : ℕ) → is_shortest k ≡ true → n ≤ 60 → from < n → to < n
    → counted_rows (with_answer k n from to) ≡ rows_with k n from to
between-answered k n from to e l f t = rw (e, le-leb n 60 l, lt-ltb from n f, lt-ltb to n t)

answers-add : (k n : ℕ) → is_shortest k ≡ true → n ≤ 60
    → counted_rows (without_answer k n) + sum_to n (λ from. sum_to n (λ to. counted_rows (with_answer k n from to))) ≡ 2 ^ n
answers-add k n e l =
    omega (
      arith,
      counts-add k n,
      bare-answered k n e l,
      fold-ext ◌+◌ 0 n (λ from. sum_to n (λ to. counted_rows (with_answer k n from to))) (λ from. sum_to n (λ to. rows_with k n from to))
          (λ from f. fold-ext ◌+◌ 0 n (λ to. counted_rows (with_answer k n from to)) (λ to. rows_with k n from to)
          (λ to t. between-answered k n from to e l f t)),
    )

pub add-up : AddUp
add-up = record { counts = counts-add; answers = answers-add }

-- ---- what the tests say of a row's points
abbrev points : ℕ → ℕ → ℕ → List ℕ
points n s e = cond (ltb s n) (2 * (0 + s) ∷ 2 * (0 + e) ∷ []) []

none-there : (n s e : ℕ) → eqb s n ≡ true → points n s e ≡ []
none-there n s e t = let q = eqb-true s n t in rw (le-ltb s n (omega arith))

there-none : (n s e : ℕ) → s ≤ n → points n s e ≡ [] → eqb s n ≡ true
there-none n s e l none = go (ltb s n) refl none
  where
    go : (b : Bool) → ltb s n ≡ b → ◌≡◌ {A = List ℕ} (cond b (2 * (0 + s) ∷ 2 * (0 + e) ∷ []) []) [] → eqb s n ≡ true
    go true q w = absurd (let z : ◌≡◌ {A = ℕ} 0 1 = cc in omega arith)
    go false q w = eq-eqb s n (omega (arith, ltb-false s n q))

two-there : (n s e f l : ℕ) → f < n → (eqb s f && eqb e (l + 1)) ≡ true → points n s e ≡ 2 * f ∷ 2 * (l + 1) ∷ []
two-there n s e f l m t =
    let q = and_both (eqb s f) (eqb e (l + 1)) t in
    let a = eqb-true s f q.0 in
    let b = eqb-true e (l + 1) q.1 in
    rw (lt-ltb s n (omega arith)) (cons-two (omega arith) (omega arith))
  where
    cons-two : {a b c d : ℕ} → a ≡ c → b ≡ d → ◌≡◌ {A = List ℕ} (a ∷ b ∷ []) (c ∷ d ∷ [])
    cons-two p q = cc

there-two : (n s e f l : ℕ) → points n s e ≡ 2 * f ∷ 2 * (l + 1) ∷ [] → (eqb s f && eqb e (l + 1)) ≡ true
there-two n s e f l two = go (ltb s n) two
  where
    firsts : {a b c d : ℕ} → ◌≡◌ {A = List ℕ} (a ∷ b ∷ []) (c ∷ d ∷ []) → (a ≡ c) × (b ≡ d)
    firsts p = (cc, cc)

    go : (b : Bool) → ◌≡◌ {A = List ℕ} (cond b (2 * (0 + s) ∷ 2 * (0 + e) ∷ []) []) (2 * f ∷ 2 * (l + 1) ∷ [])
        → (eqb s f && eqb e (l + 1)) ≡ true
    go true w = let q = firsts w in both (eqb s f) (eqb e (l + 1)) (eq-eqb s f (omega arith)) (eq-eqb e (l + 1) (omega arith))
    go false w = absurd (let z : ◌≡◌ {A = ℕ} 0 1 = cc in omega arith)

pub row-points : RowPoints
unfolding RowPoints is_bare is_between edges
row-points k n row =
    let s = run_start k n (row_ink_at row) in
    let e = run_end k n (row_ink_at row) in
    record {
      bare = (none-there n s e, there-none n s e (start-le k n (row_ink_at row)));
      between = λ from to l. (two-there n s e from to l, there-two n s e from to);
    }
