-- The pose that agrees best, from `correlate` of ring.rs: the score is count / positions in f32, and the first greatest is answered, in the
-- order of the eight counts. Definitions only. Assumes nothing.
use Rattle.std.specs.Prelude.{Bool, cond, List, ℕ, zero, suc, ◌+◌, ◌-◌, ◌%◌, ltb, pos, Float, get_or}
use Rattle.std.specs.Float.{binary32}
use Rattle.std.specs.Float.Ieee.{div, lt, of_int, of_bits}
use Rattle.lcr_core.specs.Version.{positions_of}

-- The place after place `at`, of n in a ring; backward where reversed.
abbrev pub step_from : ℕ → ℕ → Bool → ℕ
step_from at n reversed = cond reversed ((at + (n - 1)) % n) ((at + 1) % n)

-- The score of an agreement count: count / positions in f32.
unfoldable pub score : ℕ → ℕ → Float
score v count = div binary32 (of_int binary32 (pos count)) (of_int binary32 (pos (positions_of v)))

-- The first place, up to k, of the greatest of some counts.
unfoldable pub best_to : List ℕ → ℕ → ℕ
best_to counts zero = 0
best_to counts (suc k) = cond (ltb (get_or counts (best_to counts k) 0) (get_or counts (suc k) 0)) (suc k) (best_to counts k)

-- The first greatest of the eight.
abbrev pub best_pose : List ℕ → ℕ
best_pose counts = best_to counts 7

-- A score with its place among the eight.
pub record Scored : Type 0 where
  pub value : Float
  pub place : ℕ

abbrev pub scored : Float → ℕ → Scored
scored x k = record { value = x; place = k }

-- The Rust's search: from a score of 0 at place 0, each of the first k counts whose score is greater takes over.
unfoldable pub by_scores : ℕ → List ℕ → ℕ → Scored
by_scores v counts zero = scored (of_bits binary32 0) 0
by_scores v counts (suc k) =
    cond (lt (by_scores v counts k).value (score v (get_or counts k 0))) (scored (score v (get_or counts k 0)) k) (by_scores v counts k)
