-- `calls_outline::made` meets its contract. Assumes nothing.
use lib.Seq.{length-take-le}
use native.Mathlib.Omega.{arith}
use mathlib.Core.Path.{sym}
use Rattle.calls_outline.proofs.made.Goals as goal

pub slice_bounds-lent-end : goal.slice_bounds-lent-end
slice_bounds-lent-end c =
    sym (length-take-le 11
    c.args.args.now
    (omega arith))

pub slice_bounds-lent-end-2 : goal.slice_bounds-lent-end-2
slice_bounds-lent-end-2 c =
    let r = c.picture_room-s.ensures in
    let u = c.unpack in
    let a = c.args in
    sym (length-take-le a.n u.new.bytes (omega (arith, u.auto.bytes)))

pub slice_bounds-lent-end-3 : goal.slice_bounds-lent-end-3
slice_bounds-lent-end-3 c =
    let r = c.level_room-levels.ensures in
    let u = c.unpack-2 in
    let a = c.args in
    sym (length-take-le a.g u.new.bytes (omega (arith, u.auto.bytes)))

pub slice_bounds-lent-end-5 : goal.slice_bounds-lent-end-5
slice_bounds-lent-end-5 c =
    let r = c.room-list in
    let a = c.args in
    sym (length-take-le a.m r.result (omega (arith, r.ensures)))

pub lent-requires : goal.lent-requires
lent-requires c =
    let a = c.args in
    let r = c.room-list in
    let p = length-take-le 11 a.args.now (omega arith) in
    let q = length-take-le a.m r.result (omega (arith, r.ensures)) in
    record {
      in_bounds = omega arith;
      list_len_bound = omega arith;
    }
