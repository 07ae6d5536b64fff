-- What the C functions of PGM files answer and leave in their out-parameters, by what the reader's and the writer's answers say.
-- Definitions only. Assumes nothing.
use Rattle.std.specs.Prelude.{ℕ}
use Rattle.laws.specs.Said.{Said, left_by}
use Rattle.pgm.specs.declared.Image.{Image}

abbrev pub width_after : Said Image → ℕ → ℕ
width_after a old = left_by (λ p. p.width) a old

abbrev pub height_after : Said Image → ℕ → ℕ
height_after a old = left_by (λ p. p.height) a old

-- The place of the pixels.
abbrev pub at_after : Said Image → ℕ → ℕ
at_after a old = left_by (λ p. p.at) a old
