-- Words in bytes. Definitions only. Assumes nothing.
use Rattle.std.specs.Prelude.{List, ℕ, ◌+◌, ◌*◌, get_or}

-- The word of the four bytes from place k on, the lowest first. A byte past the end counts as 0.
unfoldable pub word_at : List ℕ → ℕ → ℕ
word_at s k = get_or s k 0 + get_or s (k + 1) 0 * 256 + get_or s (k + 2) 0 * 65536 + get_or s (k + 3) 0 * 16777216
