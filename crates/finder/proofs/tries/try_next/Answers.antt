-- `finder::tries::try_next` meets its contract: the first try, or one more. Assumes nothing.
use mathlib.Core.Path.{refl}
use Rattle.laws.specs.Plane.{plane}
use Rattle.finder.proofs.Regions.{kept-four, region-boxed, region-tried}
use Rattle.finder.proofs.Standing.{best-first, best-more, try-is, tries-few}
use Rattle.finder.specs.Find.{try_of}
use Rattle.finder.proofs.tries.try_next.Goals as goal

pub region_of-r-requires : goal.region_of-r-requires
region_of-r-requires c =
    let p = c.requires in
    let a = c.args in
    (kept-four (plane a.w a.gray.now) a.w a.h a.k p.k_value, (p.photo.wide.1, p.photo.high.1))

pub try_one-requires : goal.try_one-requires
try_one-requires c =
    let p = c.requires in
    let a = c.args in
    let r = c.region_of-r in
    record {
      photo = p.photo;
      gridded = p.gridded;
      boxed = region-boxed (plane a.w a.gray.now) a.w a.h a.k p.k_value a.i r.result r.ensures
          p.photo.wide.0 p.photo.high.0;
      most_bound = p.most_bound;
      roomy = p.roomy;
    }

pub returns-then-i-eq0 : goal.returns-then-i-eq0
returns-then-i-eq0 c =
    let p = c.requires in
    let a = c.args in
    let r = c.region_of-r in
    let t = c.try_one in
    record {
      answer = best-first (try_of a.gray.now a.w a.h a.most) a.i _ c.if-i-eq0.true
          (try-is a.gray.now a.w a.h a.most a.i _ _
          (region-tried (plane a.w a.gray.now) a.w a.h a.k p.k_value a.i r.result r.ensures) t.ensures.answer);
      points = t.ensures.points;
    }

pub try_more-requires : goal.try_more-requires
try_more-requires c =
    let p = c.requires in
    let a = c.args in
    let r = c.region_of-r in
    record {
      photo = p.photo;
      gridded = p.gridded;
      boxed = region-boxed (plane a.w a.gray.now) a.w a.h a.k p.k_value a.i r.result r.ensures
          p.photo.wide.0 p.photo.high.0;
      most_bound = p.most_bound;
      many_bound = tries-few a.gray.now a.w a.h a.most p.most_bound a.i a.best p.best_value;
      roomy = p.roomy;
    }

pub returns : goal.returns
returns c =
    let p = c.requires in
    let a = c.args in
    let r = c.region_of-r in
    let t = c.try_more in
    record {
      answer = best-more (try_of a.gray.now a.w a.h a.most) a.i a.best _ _ c.if-i-eq0.false p.best_value
          (try-is a.gray.now a.w a.h a.most a.i _ _
          (region-tried (plane a.w a.gray.now) a.w a.h a.k p.k_value a.i r.result r.ensures) refl)
          t.ensures.answer;
      points = t.ensures.points;
    }
