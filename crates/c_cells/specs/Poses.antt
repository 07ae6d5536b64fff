-- What the C functions of ring marks answer, and what they leave in their out-parameters, by what the doors' answers say. Definitions only.
-- Assumes nothing.
use Rattle.std.specs.Prelude.{ℕ, Bool, List, Float}
use Rattle.laws.specs.Said.{Said, left_by}
use Rattle.marks.specs.declared.correlate.Correlated.{Correlated}
use Rattle.marks.specs.declared.split.Settled.{Settled}

-- ---- one window: its split, and the round
abbrev pub split_after_call : Said Settled → Float → Float
split_after_call a old = left_by (λ s. s.split) a old

abbrev pub round_after : Said Settled → ℕ → ℕ
round_after a old = left_by (λ s. s.round) a old

-- ---- the best pose: the score, the corner, and whether the ring runs backwards
abbrev pub score_after : Said Correlated → Float → Float
score_after a old = left_by (λ c. c.best.score) a old

abbrev pub corner_after : Said Correlated → ℕ → ℕ
corner_after a old = left_by (λ c. c.best.corner) a old

abbrev pub reversed_after : Said Correlated → Bool → Bool
reversed_after a old = left_by (λ c. c.best.reversed) a old

-- The eight counts.
abbrev pub agreements_after : Said Correlated → List ℕ → List ℕ
agreements_after a old = left_by (λ c. c.counts) a old
