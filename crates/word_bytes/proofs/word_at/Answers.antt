-- `word_bytes::word_at` meets its contract: each byte is at most 255, so that the sum is a word. Assumes nothing.
use Rattle.word_bytes.specs.Words.{word_at}
use Rattle.word_bytes.proofs.word_at.Goals as goal

pub returns : goal.returns
unfolding word_at
returns c =
    rw (
      c.byte_at.ensures.0,
      c.byte_at-2.ensures.0,
      c.byte_at-3.ensures.0,
      c.byte_at-4.ensures.0,
    )
