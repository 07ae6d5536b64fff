-- `traylist_text::lines::put_numbers` meets its contract. The loop's invariant: the numbers so far are stored, a space before
-- each. Assumes nothing.
use mathlib.Core.List.{List}
use Rattle.traylist_text.proofs.Numbers.{decimal-short, spaced-none, spaced-more, spaced-room}
use Rattle.laws.proofs.Stores.{stored-none, stored-append, stored-ext, stored-length}
use lib.ListN.{get_or}
use lib.Seq.{take_all}
use Prim.Native.Nat.{ℕ}
use native.Mathlib.Omega.{arith}
use mathlib.Core.Path.{subst}
use Rattle.laws.specs.Lent.{Stored}
use Rattle.text.specs.Text.{spaced}
use Rattle.traylist_text.proofs.lines.put_numbers.Goals as goal

pub loop-n-init : goal.loop-n-init
loop-n-init c =
    let a = c.args in
    stored-ext _ _ (spaced-none a.ns.now) (stored-none a.at a.out.now)

pub put_spaced-to-requires : goal.put_spaced-to-requires
put_spaced-to-requires c =
    let a = c.args in
    let q = c.loop-n in
    let p = c.requires in
    let r = spaced-room a.ns.now p.short q.n-index (omega arith) in
    let d = decimal-short (get_or a.ns.now q.n-index 0) (p.short q.n-index (omega arith)) in
    omega (arith, r, d, q.invariant.next, stored-length q.invariant, p.ns_in_bounds)

pub loop-n-preserved : goal.loop-n-preserved
loop-n-preserved c =
    let a = c.args in
    let q = c.loop-n in
    stored-ext _ _ (spaced-more a.ns.now q.n-index (omega arith)) (stored-append q.invariant c.put_spaced-to.ensures)

pub shape_of-out : goal.shape_of-out
shape_of-out c = stored-length c.loop-n.invariant

pub returns : goal.returns
returns c =
    let a = c.args in
    let q = c.loop-n in
    subst (λ (l : List ℕ). Stored a.at (spaced l) a.out.now q.out q.to) (take_all q.n-index a.ns.now (omega arith)) q.invariant
