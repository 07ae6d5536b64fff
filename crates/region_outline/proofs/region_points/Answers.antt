-- `region_outline::region_points` meets its contract. The outline door does not refuse a region of the picture. Assumes nothing.
use mathlib.Core.Path.{refl}
use lib.ListN.{length}
use Rattle.region_outline.proofs.Points.{never-refused, points-room, points-part, points-past}
use Rattle.region_outline.proofs.region_points.Goals as goal

pub unwrap-requires : goal.unwrap-requires
unwrap-requires c =
    let a = c.args in
    let o = c.outline in
    never-refused a.s.now a.w a.h c.requires.sides a.r c.requires.boxed a.levels.now a.labels.now
    c.requires.gridded (length a.list.now) c.requires.h_in_bounds o.result o.ensures.answer

pub returns : goal.returns
returns c =
    let a = c.args in
    let o = c.outline in
    let u = c.unwrap in
    let last = o.new.out in
    record {
      bounds = points-room a.s.now a.w a.h c.requires.sides a.r c.requires.boxed a.levels.now a.labels.now
          c.requires.gridded (length a.list.now) c.requires.h_in_bounds o.result o.ensures.answer u.result u.ensures;
      list = points-part a.s.now a.w a.h c.requires.sides a.r c.requires.boxed a.levels.now a.labels.now
          c.requires.gridded (length a.list.now) c.requires.h_in_bounds o.result o.ensures.answer a.list.now last o.ensures.out
          u.result u.ensures;
      list_past = points-past a.s.now a.w a.h c.requires.sides a.r c.requires.boxed a.levels.now a.labels.now
          c.requires.gridded (length a.list.now) c.requires.h_in_bounds o.result o.ensures.answer a.list.now last o.ensures.out
          refl;
    }
