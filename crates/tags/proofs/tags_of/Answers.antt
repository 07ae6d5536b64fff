-- `tags::tags_of` meets its contract. Assumes nothing.
use Rattle.tags.proofs.Checks.{answer-taken}
use Rattle.tags.proofs.tags_of.Goals as goal

pub returns : goal.returns
returns c =
    let a = c.args in
    answer-taken a.gray.now a.w a.h c.requires _
    c.level_room-levels.ensures c.cell_room-labels.ensures c.cell_room-stack.ensures c.point_room-points.ensures
    c.point_room-straight.ensures c.point_room-cand.ensures c.point_room-buf.ensures c.tags.ensures.answer
