-- `calls_fit::straight` meets its contract: the straightened points stand at the beginning of the working list. Assumes nothing.
use Prim.Native.Nat.{◌≤◌}
use borrow.Author.Rules.{rules}
use lib.ListN.{length}
use mathlib.Core.Path.{sym}
use native.Mathlib.Omega.{arith}
use Rattle.fit.proofs.Selects.{kept-long}
use Rattle.calls_fit.proofs.straight.Goals as goal

pub slice_bounds-put-end-2 : goal.slice_bounds-put-end-2
slice_bounds-put-end-2 c =
    let room : length c.args.s.now ≤
    length c.args.x.now =
    search rules in
    sym (kept-long c.undistort-m.ensures room)

pub put-requires : goal.put-requires
put-requires c =
    let room : length c.args.s.now ≤
    length c.args.x.now =
    search rules in
    let few = c.undistort-m.ensures.few in
    let long = kept-long c.undistort-m.ensures room in
    record {
      from_bound = search rules;
      le_from = search rules;
      x_len_bound = omega arith;
    }
