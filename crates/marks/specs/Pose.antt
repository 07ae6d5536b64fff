-- Poses, agreement counts and moves of marks, by rules 32 and 40. A pose is a
-- corner r from 0 to 3, forward or reversed. Definitions only. Assumes nothing.
use Rattle.std.specs.Prelude.{◌≡◌, Bool, true, false, not, List, [], ◌∷◌, ℕ, ◌+◌, ◌*◌, ◌-◌, ◌%◌, ◌<◌, length, get_or}
use Rattle.std.specs.Bool.{beq}
use Rattle.laws.specs.Count.{count}
use Rattle.lcr_core.specs.Version.{quarter_of, positions_of}
use Rattle.lcr_core.specs.Mark.{mark}

-- The map of a pose: p to r × q + p, or reversed to r × q − p, modulo the positions; p is below the positions.
unfoldable pub pose_at : ℕ → ℕ → Bool → ℕ → ℕ
pose_at v r false p = (r * quarter_of v + p) % positions_of v
pose_at v r true p = (r * quarter_of v + (positions_of v - p)) % positions_of v

-- Whether the sequence's mark p equals the handed mark at the map's value.
unfoldable pub agree_at : ℕ → List Bool → ℕ → Bool → ℕ → Bool
agree_at v s r reversed p = beq (mark v p) (get_or s (pose_at v r reversed p) false)

-- The agreement count of a pose: the number of positions p where they are equal.
unfoldable pub agreement : ℕ → List Bool → ℕ → Bool → ℕ
agreement v s r reversed = count (agree_at v s r reversed) (positions_of v)

-- The eight counts, in the Rust's order: corners 0 to 3 forward, then reversed.
abbrev pub counts_of : ℕ → List Bool → List ℕ
counts_of v s =
    agreement v s 0 false ∷ agreement v s 1 false ∷ agreement v s 2 false ∷ agreement v s 3 false
    ∷ agreement v s 0 true ∷ agreement v s 1 true ∷ agreement v s 2 true ∷ agreement v s 3 true ∷ []

-- The moves of marks: a shift by k quarters, the reversal about position 0, and one move followed by another.
pub data MarkMove : Type 0 where
  shift : ℕ → MarkMove
  reversal : MarkMove
  followed : MarkMove → MarkMove → MarkMove

-- Where a move puts the mark of p: a shift at p + k × q, the reversal at −p, modulo the positions.
unfoldable pub mark_to : ℕ → MarkMove → ℕ → ℕ
mark_to v (shift k) p = (p + k * quarter_of v) % positions_of v
mark_to v reversal p = (positions_of v - p) % positions_of v
mark_to v (followed g h) p = mark_to v h (mark_to v g p)

-- The marks `new` are the marks `old`, moved so: as many, each where the move puts it.
pub record MarksMoved (v : ℕ) (g : MarkMove) (old new : List Bool) : Type 0 where
  pub many : length new ≡ length old
  pub each : (p : ℕ) → p < positions_of v → get_or new (mark_to v g p) false ≡ get_or old p false

-- The corner of the pose so moved.
unfoldable pub corner_to : MarkMove → ℕ → ℕ
corner_to (shift k) r = (r + k) % 4
corner_to reversal r = (4 - r) % 4
corner_to (followed g h) r = corner_to h (corner_to g r)

-- Whether the pose so moved is reversed.
unfoldable pub reversed_to : MarkMove → Bool → Bool
reversed_to (shift k) reversed = reversed
reversed_to reversal reversed = not reversed
reversed_to (followed g h) reversed = reversed_to h (reversed_to g reversed)
