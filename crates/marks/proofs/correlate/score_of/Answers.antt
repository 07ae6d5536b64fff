-- `score_of` divides in f32; both numbers are whole and small. Assumes nothing.
use mathlib.Core.Path.{ap}
use Prim.Native.Nat.{ℕ}
use lib.Ieee.{binary32, div, of_int}
use lib.IntN.{pos}
use Rattle.marks.specs.Correlate.{score}
use Rattle.marks.proofs.correlate.score_of.Goals as goal

pub returns : goal.returns
unfolding score
returns c =
    ap (λ (n : ℕ). div binary32 (of_int binary32 (pos c.args.count))
    (of_int binary32 (pos n))) c.positions-n.ensures.answer
