-- `tag_list::sweep::sweep_next` meets its contract: one try, its trace and its tag taken in. Assumes nothing.
use mathlib.Core.Path.{sym, subst}
use Rattle.laws.specs.Plane.{plane}
use Rattle.ring.proofs.Few.{Few, attempt-few}
use Rattle.finder.proofs.Regions.{kept-four, region-boxed, region-tried}
use Rattle.finder.proofs.Standing.{try-is, tries-few}
use Rattle.tag_list.proofs.Swept.{after-few, after_next}
use Rattle.tag_list.proofs.sweep.sweep_next.Goals as goal

pub region_of-r-requires : goal.region_of-r-requires
region_of-r-requires c =
    let p = c.requires in
    let a = c.args in
    (kept-four (plane a.w a.gray.now) a.w a.h a.k p.k_value, (p.photo.wide.1, p.photo.high.1))

pub try_one-t-requires : goal.try_one-t-requires
try_one-t-requires c =
    let p = c.requires in
    let a = c.args in
    let r = c.region_of-r in
    record {
      photo = p.photo;
      gridded = p.gridded;
      boxed = region-boxed (plane a.w a.gray.now) a.w a.h a.k p.k_value a.i r.result r.ensures
          p.photo.wide.0 p.photo.high.0;
      most_bound = p.most_bound;
      roomy = p.roomy;
    }

pub standing-requires : goal.standing-requires
standing-requires c =
    let p = c.requires in
    let a = c.args in
    let t = c.try_one-t in
    record {
      many_bound = tries-few a.gray.now a.w a.h a.most p.most_bound a.i a.s.best p.after.best;
      many_bound_2 = subst Few (sym t.ensures.answer) (attempt-few a.gray.now a.w a.h a.most p.most_bound _);
    }

pub with_fix-requires : goal.with_fix-requires
with_fix-requires c =
    let p = c.requires in
    let a = c.args in
    after-few a.gray.now a.w a.h a.most a.i a.s p.after p.i_bound

pub returns : goal.returns
returns c =
    let p = c.requires in
    let a = c.args in
    let r = c.region_of-r in
    let t = c.try_one-t in
    record {
      answer = after_next a.gray.now a.w a.h a.most a.i a.s p.after p.i_bound t.result _ _
          (try-is a.gray.now a.w a.h a.most a.i _ _
          (region-tried (plane a.w a.gray.now) a.w a.h a.k p.k_value a.i r.result r.ensures) t.ensures.answer)
          c.standing.ensures c.with_fix.ensures;
      points = t.ensures.points;
    }
