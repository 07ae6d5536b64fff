-- What the C functions of border cells answer, and what they leave in their out-parameters, by what the doors' answers say. Definitions
-- only. Assumes nothing.
use Rattle.std.specs.Prelude.{ℕ, ℤ}
use Rattle.laws.specs.Said.{Said, left_by}
use Rattle.lcr_core.specs.Version.{side_of, positions_of}
use Rattle.lcr_core.specs.declared.border.Cell.{Cell}

-- ---- a version's side and positions
abbrev pub side_after : Said ℕ → ℕ → ℕ
side_after a old = left_by (λ v. side_of v) a old

abbrev pub positions_after : Said ℕ → ℕ → ℕ
positions_after a old = left_by (λ v. positions_of v) a old

-- ---- a cell's edge, and its coordinate along it
abbrev pub edge_after : Said (ℕ × ℤ) → ℕ → ℕ
edge_after a old = left_by (λ q. q.0) a old

abbrev pub offset_after : Said (ℕ × ℤ) → ℤ → ℤ
offset_after a old = left_by (λ q. q.1) a old

-- ---- a position's cell: its x, and its y
abbrev pub x_after : Said Cell → ℤ → ℤ
x_after a old = left_by (λ c. c.x) a old

abbrev pub y_after : Said Cell → ℤ → ℤ
y_after a old = left_by (λ c. c.y) a old
