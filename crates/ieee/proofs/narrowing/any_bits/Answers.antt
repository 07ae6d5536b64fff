-- `ieee::narrowing::any_bits` meets its contract: digits, place and what is kept, put together by `assembled`. Assumes nothing.
use Rattle.std.proofs.Common.{◌≡◌, ◌^◌, ◌≤◌, arith}
use lib.Ieee.Nearest.{closest}
use Rattle.ieee.specs.Inner.{mant64, dropped, cut64}
use Rattle.ieee.proofs.NarrowSteps.{assembled}
use Rattle.ieee.proofs.narrowing.any_bits.Goals as goal

facts : (c : goal.After-kept-q)
    → (c.above-k.result ≡ dropped c.args.b)
    × (c.kept-q.result ≡ closest (mant64 c.args.b)
    (2 ^ cut64 c.args.b)) × (c.kept-q.result ≤ 16777216)
facts c = assembled _ _ _ _ _ c.place64-e.ensures c.above-k.ensures
    c.digits64.ensures c.kept-q.ensures

pub overflow_add-p : goal.overflow_add-p
overflow_add-p c = let z = facts c in omega arith

pub returns-then-p-lt2139095040 : goal.returns-then-p-lt2139095040
returns-then-p-lt2139095040 c = let z = facts c.before in omega arith

pub returns-else-p-lt2139095040 : goal.returns-else-p-lt2139095040
returns-else-p-lt2139095040 c = let z = facts c.before in omega arith
