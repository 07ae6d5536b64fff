-- `input::read_header` meets its contract. The loop's invariant: the bytes up to the header's place, which is the loop's, lead to it. Assumes
-- nothing.
use mathlib.Core.Path.{◌≡◌}
use Rattle.input.proofs.Reading.{HeaderRead}
use Rattle.input.proofs.read_header.Given as goal

abbrev pub invariant-loop-at : goal.invariant-loop-at
invariant-loop-at l = HeaderRead l.initial.bytes l.bytes l.h × (l.h.at ≡ l.at)
