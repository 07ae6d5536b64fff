-- The labelling at work, by rule 12, in a grid of h rows of w cells: group after group, each from its first cell over the cells near those
-- that it has. Definitions only. Assumes nothing.
use Rattle.std.specs.Prelude.{Bool, cond, List, [], ◌∷◌, ◌≡◌, ℕ, zero, suc, ◌+◌, ◌-◌, ◌*◌, ◌/◌, ◌%◌, ◌<◌, min, eqb, get_or, set}
use Rattle.laws.specs.Fold.{joined, tab}
use Rattle.laws.specs.Lists.{range}
use Rattle.laws.specs.Plane.{Plane}
use Rattle.labels.specs.Cells.{cells8, cells_of, ink_cell}

-- What stands for an ink cell that has no label yet.
abbrev pub MARK : ℕ
MARK = 4294967295

-- How many labels are given; what each cell has, 0 without ink, else `MARK` or its label; the cells on the stack and all cells pushed so
-- far, the last pushed first.
pub record State : Type 0 where
  pub given : ℕ
  pub held : List ℕ
  pub stack : List ℕ
  pub pushed : List ℕ

-- Cell j is an ink cell without a label.
abbrev pub is_open : State → ℕ → Bool
is_open σ j = eqb (get_or σ.held j 0) MARK

-- "Only an ink cell without a label is pushed on the stack, and it gets its label as it is pushed."
abbrev pub push : ℕ → State → State
push j σ = record { given = σ.given; held = set σ.held j σ.given; stack = j ∷ σ.stack; pushed = j ∷ σ.pushed }

unfoldable pub after_visit : ℕ → State → State
after_visit j σ = cond (is_open σ j) (push j σ) σ

-- Cells visited one after the other.
unfoldable pub after_visits : List ℕ → State → State
after_visits [] σ = σ
after_visits (j ∷ js) σ = after_visits js (after_visit j σ)

-- The cells at most 3 columns and 3 rows from cell c, row by row.
unfoldable pub window : ℕ → ℕ → ℕ → List ℕ
window w h c =
    joined (min (c / w + 4) h - (c / w - 3)) (λ g. range ((c / w - 3 + g) * w + (c % w - 3)) (min (c % w + 4) w - (c % w - 3)))

-- The stack without its first.
abbrev pub popped : List ℕ → State → State
popped rest σ = record { given = σ.given; held = σ.held; stack = rest; pushed = σ.pushed }

-- The last pushed is taken from the stack and the cells near it are visited; and so on, t times or until the stack is empty.
unfoldable pub after_top : (ℕ → List ℕ) → List ℕ → State → State
after_top near [] σ = σ
after_top near (c ∷ rest) σ = after_visits (near c) (popped rest σ)

unfoldable pub emptied : (ℕ → List ℕ) → ℕ → State → State
emptied near zero σ = σ
emptied near (suc t) σ = emptied near t (after_top near σ.stack σ)

-- One label more.
abbrev pub next : State → State
next σ = record { given = σ.given + 1; held = σ.held; stack = σ.stack; pushed = σ.pushed }

-- The group of cell s, where s is an ink cell without a label; of the first s cells, in row order.
unfoldable pub after_group : (ℕ → List ℕ) → ℕ → ℕ → State → State
after_group near t s σ = cond (is_open σ s) (emptied near t (after_visit s (next σ))) σ

unfoldable pub after_groups : (ℕ → List ℕ) → ℕ → ℕ → State → State
after_groups near t zero σ = σ
after_groups near t (suc s) σ = after_group near t s (after_groups near t s σ)

-- Before the labelling, with what each cell has; and after it.
abbrev pub start : List ℕ → State
start l = record { given = 0; held = l; stack = []; pushed = [] }

unfoldable pub labelling : ℕ → ℕ → List ℕ → State
labelling w h l = after_groups (window w h) (h * w) (h * w) (start l)

-- The cells of a picture before the labelling, and its labelling.
unfoldable pub marked_cells : Plane → ℕ → ℕ → List ℕ
marked_cells p w h = tab (cells_of w h) (λ c. cond (ink_cell p w h c) MARK 0)

abbrev pub picture_labelling : Plane → ℕ → ℕ → State
picture_labelling p w h = labelling (cells8 w) (cells8 h) (marked_cells p w h)

-- The states on the way of any labelling, in whatever order cells are visited and taken from the stack, with labels below `MARK`.
pub data Reached (l : List ℕ) : State → Type 0 where
  begun : Reached l (start l)
  labelled : {σ : State} → Reached l σ → σ.given + 1 < MARK → Reached l (next σ)
  visited : {σ : State} (j : ℕ) → Reached l σ → Reached l (after_visit j σ)
  taken : {σ : State} {c : ℕ} {rest : List ℕ} → Reached l σ → σ.stack ≡ c ∷ rest → Reached l (popped rest σ)
