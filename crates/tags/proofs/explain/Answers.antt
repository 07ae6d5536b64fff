-- `tags::explain` meets its contract. Assumes nothing.
use native.Mathlib.Omega.{arith}
use lib.Seq.{length-take-le}
use mathlib.Core.Path.{sym}
use Rattle.tags.proofs.explain.Goals as goal

pub slice_bounds-write_all-end : goal.slice_bounds-write_all-end
slice_bounds-write_all-end c =
    let p = c.put_refusal-len in
    sym (length-take-le p.result p.new.out (omega (arith, p.ensures, p.auto.out)))
