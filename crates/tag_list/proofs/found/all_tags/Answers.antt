-- `tag_list::found::all_tags` meets its contract: the regions' own tags, or what the finder finds. Assumes nothing.
use native.Mathlib.Omega.{arith}
use Rattle.laws.specs.Plane.{plane}
use Rattle.finder.proofs.Regions.{kept-is, worked_then, roomy-then}
use Rattle.tag_list.proofs.Listed.{own-stand, found-stand}
use Rattle.tag_list.proofs.found.all_tags.Goals as goal

pub returns-then-own-gt0 : goal.returns-then-own-gt0
returns-then-own-gt0 c =
    let a = c.args in
    let p = c.requires in
    let s = c.sweep-s in
    record {
      answer = own-stand a.gray.now a.w a.h a.most a.k.kept
          (kept-is (plane a.w a.gray.now) a.w a.h a.k p.k_value) s.result.tags s.ensures.answer.tags
          c.if-own-gt0.true;
      points = s.ensures.points;
    }

pub found_tag-requires : goal.found_tag-requires
found_tag-requires c =
    let p = c.requires in
    let s = c.sweep-s in
    record {
      photo = p.photo;
      gridded = p.gridded;
      k_value = p.k_value;
      most_bound = p.most_bound;
      best_value = s.ensures.answer.best;
      roomy = roomy-then p.roomy s.ensures.points;
    }

pub returns : goal.returns
returns c =
    let a = c.args in
    let p = c.requires in
    let s = c.sweep-s in
    let t = c.found_tag in
    record {
      answer = found-stand a.gray.now a.w a.h a.most a.k.kept
          (kept-is (plane a.w a.gray.now) a.w a.h a.k p.k_value) s.result.tags s.ensures.answer.tags _
          (omega (
            arith,
            c.if-own-gt0.false,
          )) t.ensures.answer;
      points = worked_then s.ensures.points t.ensures.points;
    }
