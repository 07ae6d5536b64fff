-- Stores into lists: lists written from functions that agree, values that stay small, an element after a store, and lists of zeros. Assumes
-- nothing.
use mathlib.Core.List.{List, ◌++◌}
use mathlib.Core.Logic.{◌⊎◌, inl, inr}
use mathlib.Core.Path.{◌∙◌, ◌≡◌, ap, sym}
use Prim.Native.Nat.{◌%◌, ◌*◌, ◌+◌, ◌/◌, ◌<◌, ◌≤◌, ℕ}
use native.Mathlib.Decide.{ℕ_discrete}
use native.Mathlib.Omega.{arith}
use lib.ListN.{drop, get_or, get_or-replicate, length, length-replicate, set}
use lib.Seq.{ext_get_or, get_or-set_other, get_or-set_same}
use Rattle.laws.proofs.Folds.{get_or-written, tab-ext}
use Rattle.laws.proofs.Planes.{col-lt, row_lt}
use Rattle.laws.specs.Fold.{written}
use Rattle.laws.specs.Lent.{zeros}
use Rattle.laws.specs.Plane.{Plane, drawn, rowwise}

-- functions that agree below n
pub written-ext : (n : ℕ) (f g : ℕ → ℕ) (old : List ℕ) → ((k : ℕ) → k < n → f k ≡ g k) → written n f old ≡ written n g old
written-ext n f g old same = ap (λ (l : List ℕ). l ++ drop n old) (tab-ext n f g same)

-- a store at place k of a list whose first k places are at most m
pub small-step : (m k v : ℕ) (l : List ℕ) → ((i : ℕ) → i < k → get_or l i 0 ≤ m) → v ≤ m → k < length l
    → (i : ℕ) → i < k + 1 → get_or (set l k v) i 0 ≤ m
small-step m k v l small here within i below = go (ℕ_discrete i k)
  where
    go : Dec (i ≡ k) → get_or (set l k v) i 0 ≤ m
    go (yes e) = rw (e, get_or-set_same l k v 0 within) here
    go (no e) = rw (get_or-set_other l k i v 0 e) (small i (omega arith))

-- a drawn plane of small values
pub small-drawn : (m w h : ℕ) (g : Plane) (old : List ℕ) → ((x y : ℕ) → x < w → y < h → g x y ≤ m)
    → (i : ℕ) → i < w * h → get_or (drawn w h g old) i 0 ≤ m
small-drawn m w h g old small i below =
    rw (get_or-written (w * h) (rowwise w g) old i 0 below) (small (i % w) (i / w) (col-lt i w h below) (row_lt i w h below))

-- an element after a store
pub at_set : (l : List ℕ) (j v c : ℕ) → j < length l
    → ((c ≡ j) × (get_or (set l j v) c 0 ≡ v)) ⊎ ((c ≡ j → ⊥) × (get_or (set l j v) c 0 ≡ get_or l c 0))
at_set l j v c within = go (ℕ_discrete c j)
  where
    go : Dec (c ≡ j) → ((c ≡ j) × (get_or (set l j v) c 0 ≡ v)) ⊎ ((c ≡ j → ⊥) × (get_or (set l j v) c 0 ≡ get_or l c 0))
    go (yes e) = inl (e, rw e (get_or-set_same l j v 0 within))
    go (no e) = inr (e, get_or-set_other l j c v 0 e)

-- a list of zeros as long as another
pub is-zeros : (old l : List ℕ) → length l ≡ length old → ((i : ℕ) → i < length l → get_or l i 0 ≡ 0) → l ≡ zeros old
is-zeros old l same none =
    ext_get_or 0 l (zeros old) (same ∙ sym (length-replicate (length old) 0))
    (λ i b. none i b ∙ sym (get_or-replicate (length old) i 0 0 (omega arith)))
