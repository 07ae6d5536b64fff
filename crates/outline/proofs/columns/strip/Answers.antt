-- `outline::columns::strip` meets its contract. Assumes nothing.
use mathlib.Core.Bool.{true, false}
use native.Mathlib.Omega.{arith}
use Rattle.boundary.specs.Boundary.{member_at, columns_from}
use Rattle.outline.proofs.Sweeps.{swept-begin, swept-most, columns-are, columns-none}
use Rattle.outline.proofs.Writes.{wrote_none, wrote-ext}
use Rattle.outline.proofs.columns.strip.Goals as goal

pub scan_columns-requires : goal.scan_columns-requires
scan_columns-requires c =
    let a = c.args in
    let p = member_at a.want a.w a.s.now a.levels.now a.labels.now in
    record {
      grids = c.requires.grids;
      columns = (c.requires.columns, c.requires.n_nonzero.0, c.requires.n_nonzero.1, c.requires.run_nonzero.0);
      swept = swept-begin a.run p a.y0 a.m a.x a.n false c.requires.n_nonzero.1;
    }

pub none_found-requires : goal.none_found-requires
none_found-requires c = c.requires.n_nonzero.1

pub returns-then-none_found : goal.returns-then-none_found
returns-then-none_found c =
    let a = c.args in
    let p = member_at a.want a.w a.s.now a.levels.now a.labels.now in
    wrote-ext _ (columns_from a.run p a.y0 a.m a.x a.n)
    (columns-none a.run c.requires.run_nonzero.0 p a.y0 a.m a.x a.n _ c.scan_columns.ensures
    (c.none_found.ensures c.if-none_found.true)) (wrote_none a.at a.out.now)

pub scan_columns-requires-2 : goal.scan_columns-requires-2
scan_columns-requires-2 c =
    let a = c.args in
    let p = member_at a.want a.w a.s.now a.levels.now a.labels.now in
    record {
      grids = c.requires.grids;
      columns = (c.requires.columns, c.requires.n_nonzero.0, c.requires.n_nonzero.1, c.requires.run_nonzero.0);
      swept = swept-begin a.run p a.y0 a.m a.x a.n true c.requires.n_nonzero.1;
    }

pub put_columns-requires : goal.put_columns-requires
put_columns-requires c =
    let a = c.args in
    let p = member_at a.want a.w a.s.now a.levels.now a.labels.now in
    record {
      n_bound = (omega (arith, c.requires.grids, c.requires), c.requires.n_nonzero.1, omega (arith, c.requires.grids, c.requires), c.requires.n_nonzero.2);
      at_most = (
        swept-most a.run c.requires.run_nonzero.0 p a.y0 a.m a.x a.n false a.m _
            c.scan_columns.ensures,
        swept-most a.run c.requires.run_nonzero.0 p a.y0 a.m a.x a.n true a.m _
            c.scan_columns-2.ensures,
      );
      run_bound = c.requires.run_nonzero.1;
    }

pub returns : goal.returns
returns c =
    let a = c.args in
    let p = member_at a.want a.w a.s.now a.levels.now a.labels.now in
    wrote-ext _ (columns_from a.run p a.y0 a.m a.x a.n)
    (columns-are a.run c.requires.run_nonzero.0 p a.y0 a.m a.x a.n _ _
    c.scan_columns.ensures
    c.scan_columns-2.ensures) c.put_columns.ensures
