-- The luma of each ring position, as ring.rs has it in `ring_lumas`: the mean over a position's cells, its inner one only where the ring is
-- two deep there and the cell is the position's own. Definitions only. Assumes nothing.
use Rattle.std.specs.Prelude.{ℕ, zero, suc, Bool, false, cond, ◌&&◌, List, [], ◌∷◌, ◌++◌, ◌==◌, Float, Option, Some, None}
use Rattle.ieee.specs.Constants.{0f}
use Rattle.transform.specs.declared.Transform.{Transform}
use Rattle.lcr_core.specs.Version.{positions_of}
use Rattle.lcr_core.specs.Border.{position_at, outer_cell, inner_cell, is_two_deep}
use Rattle.search.specs.declared.samples.Sum.{Sum}
use Rattle.search.specs.Samples.{sample_cell, mean_luma}

-- A place is position p.
unfoldable pub is_at : Option ℕ → ℕ → Bool
is_at (Some k) p = k == p
is_at None p = false

-- The ring of version v is two deep at position p, and the inner cell maps back to p.
unfoldable pub has_inner : ℕ → ℕ → Bool
has_inner v p = is_two_deep p && is_at (position_at v (inner_cell v p).x (inner_cell v p).y) p

-- Nothing summed.
abbrev pub no_sum : Sum
no_sum = record { sum = 0f; n = 0f }

-- The samples of the outer cell of p.
unfoldable pub outer_sum : List ℕ → ℕ → ℕ → Transform → ℕ → ℕ → Sum
outer_sum gray w h t v p = sample_cell gray w h t (outer_cell v p) no_sum

-- The luma of position p.
unfoldable pub luma_at : List ℕ → ℕ → ℕ → Transform → ℕ → ℕ → Float
luma_at gray w h t v p =
    mean_luma
    (cond (has_inner v p) (sample_cell gray w h t (inner_cell v p) (outer_sum gray w h t v p)) (outer_sum gray w h t v p))

-- The numbers that f gives at the places below n, in order.
unfoldable pub lumas_listed : ℕ → (ℕ → Float) → List Float
lumas_listed zero f = []
lumas_listed (suc n) f = lumas_listed n f ++ (f n ∷ [])

-- The lumas of all positions.
unfoldable pub lumas_of : List ℕ → ℕ → ℕ → Transform → ℕ → List Float
lumas_of gray w h t v = lumas_listed (positions_of v) (luma_at gray w h t v)
