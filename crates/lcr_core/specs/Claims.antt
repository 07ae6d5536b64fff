-- Statements about the ring's cells and its table, for every version. Statements only. Assumes nothing.
use Rattle.std.specs.Prelude.{◌≡◌, true, ◌||◌, ℕ, ◌+◌, ◌*◌, ◌≤◌, ◌<◌, eqb, length, Some, None}
use Rattle.lcr_core.specs.Version.{IsVersion, quarter_of, positions_of, version_after}
use Rattle.lcr_core.specs.Ring.{ring_bytes}
use Rattle.lcr_core.specs.Mark.{row_start, row_length}
use Rattle.lcr_core.specs.Border.{position_at, outer_cell, inner_cell, inner_owner, cell_at}
use Rattle.lcr_core.specs.declared.border.Cell.{Cell}

-- "The sequence table is 4,864 bytes in 64 rows, row v with 2v + 11": the rows lie one after the other, the last ends with the table, and
-- each has as many bits as its version has positions
pub record RowOf (v : ℕ) : Type 0 where
  pub within : row_start v + row_length v ≤ length ring_bytes
  pub bits : 8 * row_length v ≡ positions_of v

pub record TableRows : Type 0 where
  pub bytes : length ring_bytes ≡ 4864
  pub first : row_start 1 ≡ 0
  pub last : row_start 64 + row_length 64 ≡ 4864
  pub row : (v : ℕ) → IsVersion v → RowOf v

-- A cell of the outer square's border, by its places: at most q across and down, and at an end of one
pub record OnSquare (v : ℕ) (cell : Cell) : Type 0 where
  pub across : ℕ
  pub down : ℕ
  pub is : cell ≡ cell_at across down
  pub wide : across ≤ quarter_of v
  pub high : down ≤ quarter_of v
  pub edge : ((eqb across 0 || eqb across (quarter_of v)) || (eqb down 0 || eqb down (quarter_of v))) ≡ true

-- The cells round the ring of version v: a position is the position of its outer cell; outer cells are the border of the outer square, all
-- of it, each once; and the inner cell of p belongs to `inner_owner p`, which is p but at the corners and beside them
pub record RoundOf (v : ℕ) : Type 0 where
  pub back : (p : ℕ) → p < positions_of v → position_at v (outer_cell v p).x (outer_cell v p).y ≡ Some p
  pub border : (p : ℕ) → p < positions_of v → OnSquare v (outer_cell v p)
  pub all : (cell : Cell) → OnSquare v cell → (p : ℕ) × (p < positions_of v) × (outer_cell v p ≡ cell)
  pub once : (p r : ℕ) → p < positions_of v → r < positions_of v → outer_cell v p ≡ outer_cell v r → p ≡ r
  pub inner : (p : ℕ) → p < positions_of v → position_at v (inner_cell v p).x (inner_cell v p).y ≡ Some (inner_owner (quarter_of v) p)

unfoldable pub CellsRound : Type 0
CellsRound = (v : ℕ) → IsVersion v → RoundOf v

-- The list of all versions: it begins with 1, what follows a version is the next number, and it ends with 64
pub record EveryVersion : Type 0 where
  pub next : (v : ℕ) → v < 64 → version_after v ≡ Some (v + 1)
  pub end : version_after 64 ≡ None
