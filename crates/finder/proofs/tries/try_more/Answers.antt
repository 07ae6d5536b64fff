-- `finder::tries::try_more` meets its contract: a fix stays, else the better of both; an attempt has at most 64 scores. Assumes nothing.
use mathlib.Core.Path.{sym, subst}
use Rattle.ring.proofs.Few.{Few, attempt-few}
use Rattle.finder.proofs.Regions.{worked-none}
use Rattle.finder.proofs.Standing.{first-stays, first_goes}
use Rattle.finder.proofs.tries.try_more.Goals as goal

pub returns-then-is_fixed : goal.returns-then-is_fixed
returns-then-is_fixed c =
    let a = c.args in
    record {
      answer = first-stays a.best _ _ c.is_fixed.ensures c.if-is_fixed.true;
      points = worked-none _ _ _ _ _;
    }

pub try_one-t-requires : goal.try_one-t-requires
try_one-t-requires c =
    let p = c.requires in
    record {
      photo = p.photo;
      gridded = p.gridded;
      boxed = p.boxed;
      most_bound = p.most_bound;
      roomy = p.roomy;
    }

pub better-requires : goal.better-requires
better-requires c =
    let p = c.requires in
    let a = c.args in
    let t = c.try_one-t in
    record {
      many_bound = p.many_bound;
      many_bound_2 = subst Few (sym t.ensures.answer) (attempt-few a.gray.now a.w a.h a.most p.most_bound _);
    }

pub returns : goal.returns
returns c =
    let a = c.args in
    let t = c.try_one-t in
    record {
      answer = first_goes a.best _ _ c.is_fixed.ensures _ _ c.if-is_fixed.false t.ensures.answer c.better.ensures;
      points = t.ensures.points;
    }
