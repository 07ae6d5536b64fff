-- `search::lumas::ring_lumas` writes one luma after the other. Invariant: the lumas of the positions below p stand at the beginning.
-- Assumes nothing.
use Rattle.std.proofs.Common.{◌≡◌, ◌≤◌, length, take}
use Rattle.search.specs.Lumas.{luma_at, lumas_listed}
use Rattle.search.proofs.lumas.ring_lumas.Given as goal

abbrev pub invariant-loop-p : goal.invariant-loop-p
invariant-loop-p l = (l.p ≤ l.n) × (length l.out ≡ l.n) × (take l.p l.out ≡ lumas_listed l.p (luma_at l.gray l.w l.h l.t l.v))
