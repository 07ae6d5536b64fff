-- `read_marks` goes through the positions. Invariant: the first p marks are read. Assumes nothing.
use mathlib.Core.Path.{◌≡◌}
use lib.ListN.{length, take}
use Rattle.marks.specs.Classify.{marks_of}
use Rattle.proof_ring.specs.Reading.{light_read}
use Rattle.proof_ring.proofs.read.read_marks.Given as goal

abbrev pub invariant-loop-p : goal.invariant-loop-p
invariant-loop-p l =
    (length l.marks ≡ length l.initial.marks) ×
    (take l.p l.marks ≡ marks_of l.p (light_read l.version l.pitch l.pixels l.w))
