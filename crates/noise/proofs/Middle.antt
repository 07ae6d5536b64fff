-- What lies from the start of the first run to the end of the last: how many rows of m pixels begin and end with k ink pixels.
--     middle-short, middle-tight     fewer pixels than a run, and no more than two
--     middle-long                    the pixels between two runs are free
--     middle-shift, middle-most      as the code has it; a bound
-- Assumes nothing.
use mathlib.Core.Path.{◌≡◌, sym, ap, ◌∙◌}
use mathlib.Core.Logic.{⊎_elim}
use mathlib.Core.Bool.{Bool, true, false, ◌&&◌}
use mathlib.Core.List.{List}
use Prim.Native.Nat.{ℕ, ◌+◌, ◌-◌, ◌*◌, ◌%◌, ◌^◌, ◌≤◌, ◌<◌}
use native.Mathlib.Nat.{one-mul, mul-one}
use native.Mathlib.Omega.{arith}
use lib.ListN.{take, drop}
use lib.Pow.{shl_exact}
use lib.Seq.{get_or-take, get_or-drop}
use Rattle.laws.proofs.Bools.{and_both, both, bool-ext, falsely, le-or-lt}
use Rattle.boundary.specs.Runs.{run_at}
use Rattle.boundary.proofs.Runs.{every_of, every-at}
use Rattle.noise.specs.Rows.{row_ink_at, rows_counted}
use Rattle.noise.specs.Inner.{is_middle, middle_rows}
use Rattle.noise.proofs.Counting.{rows_ext, rows_none, rows_all, rows-most, rows-product}
use Rattle.noise.proofs.Solid.{Solid, solid-at, solid-of, run-solid, solid-run}
use Rattle.noise.proofs.Bare.{all_ink, all_one}

-- the two runs of a middle
pub record Ended (k m : ℕ) (t : ℕ → Bool) : Type 0 where
  pub long : k ≤ m
  pub start : Solid k t 0
  pub end : Solid k t (m - k)

pub middle-ended : (k m : ℕ) (row : List Bool) → is_middle k m row ≡ true → Ended k m (row_ink_at row)
unfolding is_middle
middle-ended k m row e =
    let q = and_both (run_at k m (row_ink_at row) 0) (run_at k m (row_ink_at row) (m - k)) e in
    let s = run-solid k m (row_ink_at row) 0 q.0 in
    let long = s.0 in
    record { long = omega arith; start = s.1; end = (run-solid k m (row_ink_at row) (m - k) q.1).1 }

pub ended-middle : (k m : ℕ) (row : List Bool) → Ended k m (row_ink_at row) → is_middle k m row ≡ true
unfolding is_middle
ended-middle k m row e =
    let long = e.long in
    both (run_at k m (row_ink_at row) 0) (run_at k m (row_ink_at row) (m - k)) (solid-run k m (row_ink_at row) 0 (omega arith) e.start)
    (solid-run k m (row_ink_at row) (m - k) (omega arith) e.end)

-- ---- the counts
pub middle-short : (k m : ℕ) → m < k → middle_rows k m ≡ 0
unfolding middle_rows
middle-short k m l =
    rows_none m (is_middle k m) (λ row e. falsely (is_middle k m row) (λ t. omega (arith, (middle-ended k m row t).long)))

-- the two runs meet: every pixel is ink
pub middle-tight : (k m : ℕ) → k ≤ m → m ≤ k + k → middle_rows k m ≡ 1
unfolding middle_rows
middle-tight k m l h =
    rows_ext m (is_middle k m) (all_ink m) (λ row e. bool-ext (is_middle k m row) (all_ink m row) (all row) (ends row)) ∙ all_one m
  where
    all : (row : List Bool) → is_middle k m row ≡ true → all_ink m row ≡ true
    all row t =
        let q = middle-ended k m row t in
        every_of m (row_ink_at row) (λ j w. ⊎_elim
        (λ y. solid-at k (row_ink_at row) (m - k) j q.end (omega arith) (omega arith))
        (λ y. solid-at k (row_ink_at row) 0 j q.start (omega arith) (omega arith)) (le-or-lt k j))

    ends : (row : List Bool) → all_ink m row ≡ true → is_middle k m row ≡ true
    ends row t =
        ended-middle k m row (record {
          long = l;
          start = solid-of k (row_ink_at row) 0 (λ i x y. every-at m (row_ink_at row) t i (omega arith));
          end = solid-of k (row_ink_at row) (m - k) (λ i x y. every-at m (row_ink_at row) t i (omega arith));
        })

-- the two runs part: what lies between is free
middle-ends : (k d : ℕ) (row : List Bool) → is_middle k (k + (d + k)) row ≡ (all_ink k (take k row) && all_ink k (drop d (drop k row)))
middle-ends k d row =
    let m = k + (d + k) in
    let t = row_ink_at row in
    bool-ext (is_middle k m row) (all_ink k (take k row) && all_ink k (drop d (drop k row)))
    (λ e.
    let q = middle-ended k m row e in
    both (all_ink k (take k row)) (all_ink k (drop d (drop k row)))
    (every_of k (row_ink_at (take k row)) (λ j l. get_or-take k row j false l ∙ solid-at k t 0 j q.start (omega arith) (omega arith)))
    (every_of k (row_ink_at (drop d (drop k row)))
    (λ j l. far j ∙ solid-at k t (m - k) (k + (d + j)) q.end (omega arith) (omega arith))))
    (λ e.
    let q = and_both (all_ink k (take k row)) (all_ink k (drop d (drop k row))) e in
    let a = every-at k (row_ink_at (take k row)) q.0 in
    let z = every-at k (row_ink_at (drop d (drop k row))) q.1 in
    ended-middle k m row (record {
      long = omega arith;
      start = solid-of k t 0 (λ i x y. sym (get_or-take k row i false (omega arith)) ∙ a i (omega arith));
      end = record { all = λ j l. let same : m - k + j ≡ k + (d + j) = omega arith in ap t same ∙ sym (far j) ∙ z j l };
    }))
  where
    far : (j : ℕ) → row_ink_at (drop d (drop k row)) j ≡ row_ink_at row (k + (d + j))
    far j = get_or-drop d (drop k row) j false ∙ get_or-drop k row (d + j) false

pub middle-long : (k d : ℕ) → middle_rows k (k + (d + k)) ≡ 2 ^ d
unfolding middle_rows
middle-long k d =
    rows_ext (k + (d + k)) (is_middle k (k + (d + k))) (λ row. all_ink k (take k row) && all_ink k (drop d (drop k row)))
    (λ row e. middle-ends k d row)
    ∙ rows-product k (d + k) (all_ink k) (λ rest. all_ink k (drop d rest))
    ∙ ap (λ (z : ℕ). z * rows_counted (d + k) (λ rest. all_ink k (drop d rest))) (all_one k)
    ∙ one-mul (rows_counted (d + k) (λ rest. all_ink k (drop d rest)))
    ∙ rows-product d k (λ row. true) (all_ink k)
    ∙ ap (λ (z : ℕ). rows_counted d (λ row. true) * z) (all_one k)
    ∙ mul-one (rows_counted d (λ row. true))
    ∙ rows_all d

pub middle-shift : (k m : ℕ) → m ≤ 60 → k ≤ m → k ≤ m - k → 1 * 2 ^ (m - k - k) % 2 ^ 64 ≡ middle_rows k m
middle-shift k m small l h =
    shl_exact 1 (m - k - k) 64 (omega arith) (room k m small)
    ∙ one-mul (2 ^ (m - k - k))
    ∙ sym (middle-long k (m - k - k))
    ∙ ap (middle_rows k) (whole k m l h)
  where
    room : (k m : ℕ) → m ≤ 60 → 1 + (m - k - k) ≤ 64
    room k m small = omega arith

    whole : (k m : ℕ) → k ≤ m → k ≤ m - k → k + (m - k - k + k) ≡ m
    whole k m l h = omega arith

pub middle-most : (k m : ℕ) → middle_rows k m ≤ 2 ^ m
unfolding middle_rows
middle-most k m = rows-most m (is_middle k m)
