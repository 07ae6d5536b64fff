-- Runs in a row as facts.
--     Solid, solid-..                k ink pixels in a row from a place; its pixels, and the same pixels in another row or a part of one
--     Free, bare-free, free-bare, bare-run   a row is bare where no k in a row are ink, and has such where it is not bare
--     Begins, start-begins, begins-start   where the first run starts: k in a row, and none from an earlier place
--     Ends, end-ends, ends-end       where the last run ends
-- Assumes nothing.
use mathlib.Core.Path.{◌≡◌, sym, ap, subst, ◌∙◌}
use mathlib.Core.Logic.{⊎_elim}
use mathlib.Core.Bool.{Bool, true, false}
use mathlib.Core.List.{List, ◌∷◌}
use Prim.Native.Nat.{ℕ, suc, ◌+◌, ◌-◌, ◌≤◌, ◌<◌}
use native.Mathlib.Nat.{add_assoc, suc-add}
use native.Mathlib.Omega.{arith}
use lib.Dec.{leb}
use lib.ListN.{take, drop}
use lib.Seq.{get_or-drop, get_or-take}
use borrow.Author.Tests.{eq-eqb, eqb-true, eqb-false, le-leb, leb-true}
use Rattle.laws.specs.Fold.{first, end_of}
use Rattle.laws.proofs.Bools.{and_both, both, falsely, le-or-lt}
use Rattle.laws.proofs.Folds.{first-at, first-none, first-le, first_holds, first_below, end-above, end-holds}
use Rattle.boundary.specs.Runs.{every, run_at, in_run, run_start, run_end}
use Rattle.boundary.proofs.Runs.{every_of, every-at, run_of, run-at}
use Rattle.noise.specs.Rows.{row_ink_at, is_bare}

-- k ink pixels in a row, the first at a
pub record Solid (k : ℕ) (t : ℕ → Bool) (a : ℕ) : Type 0 where
  pub all : (j : ℕ) → j < k → t (a + j) ≡ true

pub solid-at : (k : ℕ) (t : ℕ → Bool) (a i : ℕ) → Solid k t a → a ≤ i → i < a + k → t i ≡ true
solid-at k t a i s from to = ap t (there a i from) ∙ s.all (i - a) (omega arith)
  where
    there : (a i : ℕ) → a ≤ i → i ≡ a + (i - a)
    there a i from = omega arith

pub solid-of : (k : ℕ) (t : ℕ → Bool) (a : ℕ) → ((i : ℕ) → a ≤ i → i < a + k → t i ≡ true) → Solid k t a
solid-of k t a all = record { all = λ j l. all (a + j) (omega arith) (omega arith) }

solid-same : (k : ℕ) (t u : ℕ → Bool) (a b : ℕ) → ((j : ℕ) → j < k → t (a + j) ≡ u (b + j)) → Solid k t a → Solid k u b
solid-same k t u a b same s = record { all = λ j l. sym (same j l) ∙ s.all j l }

-- ---- in a row with a pixel more in front, without its first pixels, and in its first pixels
pub solid-up : (k : ℕ) (x : Bool) (row : List Bool) (a : ℕ) → Solid k (row_ink_at row) a → Solid k (row_ink_at (x ∷ row)) (suc a)
solid-up k x row a = solid-same k (row_ink_at row) (row_ink_at (x ∷ row)) a (suc a) (λ j l. rw (suc-add a j))

pub solid-down : (k : ℕ) (x : Bool) (row : List Bool) (a : ℕ) → Solid k (row_ink_at (x ∷ row)) (suc a) → Solid k (row_ink_at row) a
solid-down k x row a = solid-same k (row_ink_at (x ∷ row)) (row_ink_at row) (suc a) a (λ j l. rw (suc-add a j))

drop_at : (c : ℕ) (row : List Bool) (a j : ℕ) → row_ink_at (drop c row) (a + j) ≡ row_ink_at row (c + a + j)
drop_at c row a j = get_or-drop c row (a + j) false ∙ ap (row_ink_at row) (sym (add_assoc c a j))

pub solid-drop : (k c : ℕ) (row : List Bool) (a : ℕ) → Solid k (row_ink_at (drop c row)) a → Solid k (row_ink_at row) (c + a)
solid-drop k c row a = solid-same k (row_ink_at (drop c row)) (row_ink_at row) a (c + a) (λ j l. drop_at c row a j)

pub drop-solid : (k c : ℕ) (row : List Bool) (a : ℕ) → Solid k (row_ink_at row) (c + a) → Solid k (row_ink_at (drop c row)) a
drop-solid k c row a = solid-same k (row_ink_at row) (row_ink_at (drop c row)) (c + a) a (λ j l. sym (drop_at c row a j))

pub solid-take : (k n : ℕ) (row : List Bool) (a : ℕ) → a + k ≤ n → Solid k (row_ink_at (take n row)) a → Solid k (row_ink_at row) a
solid-take k n row a l = solid-same k (row_ink_at (take n row)) (row_ink_at row) a a (λ j w. get_or-take n row (a + j) false (omega arith))

pub take-solid : (k n : ℕ) (row : List Bool) (a : ℕ) → a + k ≤ n → Solid k (row_ink_at row) a → Solid k (row_ink_at (take n row)) a
take-solid k n row a l = solid-same k (row_ink_at row) (row_ink_at (take n row)) a a (λ j w. sym (get_or-take n row (a + j) false (omega arith)))

-- ---- as tests
pub run-solid : (k n : ℕ) (t : ℕ → Bool) (a : ℕ) → run_at k n t a ≡ true → (a + k ≤ n) × Solid k t a
unfolding run_at
run-solid k n t a e =
    let q = and_both (leb (a + k) n) (every k (λ j. t (a + j))) e in
    (leb-true (a + k) n q.0, record { all = every-at k (λ j. t (a + j)) q.1 })

pub solid-run : (k n : ℕ) (t : ℕ → Bool) (a : ℕ) → a + k ≤ n → Solid k t a → run_at k n t a ≡ true
unfolding run_at
solid-run k n t a l s =
    both (leb (a + k) n) (every k (λ j. t (a + j))) (le-leb (a + k) n l) (every_of k (λ j. t (a + j)) s.all)

solid-in : (k n : ℕ) (t : ℕ → Bool) (a i : ℕ) → a ≤ i → i < a + k → a + k ≤ n → Solid k t a → in_run k n t i ≡ true
solid-in k n t a i from to inside s = run_of k n t i a (record { from = from; to = to; inside = inside; all = s.all })

-- ---- no k ink pixels in a row
pub record Free (k n : ℕ) (t : ℕ → Bool) : Type 0 where
  pub none : (a : ℕ) → a + k ≤ n → Solid k t a → ⊥

pub bare-free : (k n : ℕ) (row : List Bool) → 0 < k → is_bare k n row ≡ true → Free k n (row_ink_at row)
unfolding is_bare run_start
bare-free k n row some e =
    let t = row_ink_at row in
    record {
      none = λ a l s. omega (
        arith,
        first_below n (in_run k n t) a (omega arith) (solid-in k n t a a (omega arith) (omega arith) l s),
        eqb-true (first n (in_run k n t)) n e,
      );
    }

pub free-bare : (k n : ℕ) (row : List Bool) → Free k n (row_ink_at row) → is_bare k n row ≡ true
unfolding is_bare run_start
free-bare k n row free =
    let t = row_ink_at row in
    eq-eqb (first n (in_run k n t)) n
    (first-none n (in_run k n t)
    (λ i l. falsely (in_run k n t i)
    (λ e. let r = run-at k n t i e in free.none r.0 r.1.inside (record { all = r.1.all }))))

pub bare-run : (k n : ℕ) (row : List Bool) → is_bare k n row ≡ false → (a : ℕ) × (a + k ≤ n) × Solid k (row_ink_at row) a
unfolding is_bare run_start
bare-run k n row e =
    let t = in_run k n (row_ink_at row) in
    let l = first-le n t in
    let ne = eqb-false (first n t) n e in
    let inside : first n t < n = ⊎_elim (λ z. absurd (ne (omega arith))) (λ z. z) (le-or-lt n (first n t)) in
    let r = run-at k n (row_ink_at row) (first n t) (first_holds n t inside) in
    (r.0, r.1.inside, record { all = r.1.all })

-- ---- where the first run starts
pub record Begins (k n : ℕ) (t : ℕ → Bool) (f : ℕ) : Type 0 where
  pub within : f + k ≤ n
  pub solid : Solid k t f
  pub first : (a : ℕ) → a < f → Solid k t a → ⊥

pub start-begins : (k n : ℕ) (t : ℕ → Bool) (f : ℕ) → 0 < k → f < n → run_start k n t ≡ f → Begins k n t f
unfolding run_start
start-begins k n t f some l e =
    let r = run-at k n t (first n (in_run k n t)) (first_holds n (in_run k n t) (omega arith)) in
    let from = r.1.from in
    let inside = r.1.inside in
    let s : Solid k t r.0 = record { all = r.1.all } in
    let at : r.0 ≡ f = ⊎_elim (λ z. omega arith) (λ z. absurd (early r.0 z inside s)) (le-or-lt f r.0) in
    record {
      within = omega arith;
      solid = subst (Solid k t) at s;
      first = λ a b u. early a b (omega arith) u;
    }
  where
    early : (a : ℕ) → a < f → a + k ≤ n → Solid k t a → ⊥
    early a b c s = omega (arith, first_below n (in_run k n t) a (omega arith) (solid-in k n t a a (omega arith) (omega arith) c s))

pub begins-start : (k n : ℕ) (t : ℕ → Bool) (f : ℕ) → 0 < k → Begins k n t f → run_start k n t ≡ f
unfolding run_start
begins-start k n t f some b =
    let inside = b.within in
    first-at n (in_run k n t) f (omega arith)
    (λ i l. falsely (in_run k n t i)
    (λ e.
    let r = run-at k n t i e in
    let from = r.1.from in
    b.first r.0 (omega arith) (record { all = r.1.all })))
    (solid-in k n t f f (omega arith) (omega arith) inside b.solid)

-- ---- where the last run ends
pub record Ends (k n : ℕ) (t : ℕ → Bool) (e : ℕ) : Type 0 where
  pub fits : k ≤ e
  pub within : e ≤ n
  pub solid : Solid k t (e - k)
  pub last : (a : ℕ) → a + k ≤ n → e < a + k → Solid k t a → ⊥

pub end-ends : (k n : ℕ) (t : ℕ → Bool) (e : ℕ) → 0 < k → 0 < e → run_end k n t ≡ e → Ends k n t e
unfolding run_end
end-ends k n t e some l is =
    let r = run-at k n t (end_of n (in_run k n t) - 1) (end-holds n (in_run k n t) (omega arith)) in
    let to = r.1.to in
    let inside = r.1.inside in
    let s : Solid k t r.0 = record { all = r.1.all } in
    let at : r.0 + k ≡ e = ⊎_elim (λ z. omega arith) (λ z. absurd (late r.0 inside z s)) (le-or-lt (r.0 + k) e) in
    let from : r.0 ≡ e - k = omega arith in
    record {
      fits = omega arith;
      within = omega arith;
      solid = subst (Solid k t) from s;
      last = late;
    }
  where
    late : (a : ℕ) → a + k ≤ n → e < a + k → Solid k t a → ⊥
    late a b c s = omega (
      arith,
      end-above n (in_run k n t) (a + k - 1) (omega arith) (solid-in k n t a (a + k - 1) (omega arith) (omega arith) b s),
    )

pub ends-end : (k n : ℕ) (t : ℕ → Bool) (e : ℕ) → 0 < k → Ends k n t e → run_end k n t ≡ e
unfolding run_end
ends-end k n t e some b =
    let fits = b.fits in
    let within = b.within in
    let above = end-above n (in_run k n t) (e - 1) (omega arith)
    (solid-in k n t (e - k) (e - 1) (omega arith) (omega arith) (omega arith) b.solid) in
    let r = run-at k n t (end_of n (in_run k n t) - 1) (end-holds n (in_run k n t) (omega arith)) in
    let to = r.1.to in
    ⊎_elim (λ z. omega arith) (λ z. absurd (b.last r.0 r.1.inside (omega arith) (record { all = r.1.all })))
    (le-or-lt (end_of n (in_run k n t)) e)
