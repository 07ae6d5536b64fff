-- Which cells are near, linked groups of cells, and labels, by rules 9 to 13. Definitions only. Assumes nothing.
use Rattle.std.specs.Prelude.{◌≡◌, Bool, true, ◌&&◌, ◌||◌, cond, ℕ, zero, suc, ◌+◌, ◌<◌, ◌/◌, ◌%◌, eqb, leb}
use Rattle.laws.specs.Count.{least, count}

-- Two cells are linked where ink cells lead from one to the other, each near the one before.
pub data Linked (ink : ℕ → Bool) (near : ℕ → ℕ → Bool) : ℕ → ℕ → Type 0 where
  here : {a : ℕ} → ink a ≡ true → Linked ink near a a
  step : {a b c : ℕ} → Linked ink near a b → near b c ≡ true → ink c ≡ true → Linked ink near a c

-- Whether a way leads from `a` to `b` whose cells in between are all below `k` (Warshall).
unfoldable pub reach : (ℕ → Bool) → (ℕ → ℕ → Bool) → ℕ → ℕ → ℕ → Bool
reach ink near zero a b = ink a && (ink b && near a b)
reach ink near (suc k) a b = reach ink near k a b || (reach ink near k a k && reach ink near k k b)

-- The first cell in row order that is linked to `c`.
unfoldable pub leader : (ℕ → Bool) → (ℕ → ℕ → Bool) → ℕ → ℕ → ℕ
leader ink near n c = least (λ d. reach ink near n d c) c

-- An ink cell to which no cell before it is linked.
unfoldable pub first? : (ℕ → Bool) → (ℕ → ℕ → Bool) → ℕ → ℕ → Bool
first? ink near n c = ink c && eqb (leader ink near n c) c

-- The label: 0 without ink, else the place from 1 of the group's first cell among all first cells.
unfoldable pub label : (ℕ → Bool) → (ℕ → ℕ → Bool) → ℕ → ℕ → ℕ
label ink near n c = cond (ink c) (suc (count (first? ink near n) (leader ink near n c))) zero

-- What the laws ask of a grid.
pub record NearGrid (ink : ℕ → Bool) (near : ℕ → ℕ → Bool) (n : ℕ) : Type 0 where
  pub self : (a : ℕ) → near a a ≡ true
  pub back : (a b : ℕ) → near a b ≡ true → near b a ≡ true
  pub within : (a : ℕ) → ink a ≡ true → a < n

-- At most 3 apart.
unfoldable pub close : ℕ → ℕ → Bool
close x y = leb x (y + 3) && leb y (x + 3)

-- At most 3 columns and at most 3 rows apart: the Chebyshev distance is at most 3.
unfoldable pub near : ℕ → ℕ → ℕ → Bool
near w a b = close (a % w) (b % w) && close (a / w) (b / w)
