-- `hull::convex_hull` meets its contract: refusal 3 touches nothing, and the walk stores the vertices. Assumes nothing.
use mathlib.Core.Path.{◌≡◌, refl, ap}
use mathlib.Core.Bool.{true, false}
use lib.Dec.{leb}
use lib.ListN.{length}
use borrow.Author.Rules.{rules}
use borrow.Author.Tests.{le-leb, lt-leb}
use Rattle.laws.specs.Said.{give}
use Rattle.hull.proofs.convex_hull.Goals as goal

pub returns-then-out-p : goal.returns-then-out-p
returns-then-out-p c =
    let a = c.args in
    let short : leb (length a.p.now) (length a.out.now) ≡ false
    = lt-leb (length a.p.now) (length a.out.now) (search rules) in
    rw short (record { answer = refl; out = refl })

pub returns : goal.returns
returns c =
    let a = c.args in
    let room : leb (length a.p.now) (length a.out.now) ≡ true
    = le-leb (length a.p.now) (length a.out.now) (search rules) in
    let walked = c.convex_hull.ensures in
    rw room (record { answer = ap give walked.answer; out = walked.out })
