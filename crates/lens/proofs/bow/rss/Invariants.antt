-- `lens::bow::rss` meets its contract. The invariant: the sum of what is left, from that so far, is the sum of all. Assumes nothing.
use Rattle.std.proofs.Common.{◌≡◌, ◌-◌, ◌/◌, length}
use Rattle.lens.specs.Bow.{rss_on, rss_of}
use Rattle.lens.proofs.bow.rss.Given as goal

abbrev pub invariant-loop-k : goal.invariant-loop-k
invariant-loop-k l = rss_on l.s l.all l.f0 l.f1 l.f2 (length l.s / 2 - l.k) l.k l.sum ≡ rss_of l.s l.all l.f0 l.f1 l.f2
