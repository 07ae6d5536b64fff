-- `whole_hull::laying::put_half` meets its contract. Assumes nothing.
use mathlib.Core.Path.{sym, subst}
use Prim.Native.Nat.{ℕ, ◌+◌, ◌≤◌}
use lib.ListN.{length}
use Rattle.laws.proofs.Stores.{stored-length}
use Rattle.whole_hull.specs.Inner.{vertex}
use Rattle.whole_hull.proofs.Halves.{half-run, half-corner, half_is, run-place}
use Rattle.whole_hull.proofs.laying.put_half.Goals as goal

pub put_run-m-requires : goal.put_run-m-requires
put_run-m-requires c =
    record {
      chain_places = c.requires.chain_places;
      k_in_bounds = half-run c.args.back c.args.a.now c.args.s.now c.args.k c.args.straight c.args.at
          (length c.args.out.now) c.requires.straight_in_bounds;
    }

pub put_corner-requires : goal.put_corner-requires
put_corner-requires c =
    let r = c.put_run-m in
    record {
      chain_places = c.requires.chain_places;
      at_in_bounds = λ e. subst (λ (n : ℕ). r.result + 2 ≤ n) (sym (stored-length r.ensures))
          (half-corner c.args.back c.args.a.now c.args.s.now c.args.k c.args.straight c.args.at
          (length c.args.out.now) r.result c.requires.straight_in_bounds
          (run-place (vertex c.args.back c.args.a.now c.args.s.now) c.args.k c.args.at r.ensures) e);
    }

pub returns : goal.returns
returns c =
    let g = c.args in
    half_is g.back g.a.now g.s.now g.k g.straight g.at c.put_run-m.ensures
    c.put_corner.ensures
