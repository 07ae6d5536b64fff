-- `lcr_ring::finds::lcr_tags` meets its contract. Assumes nothing.
use Rattle.std.proofs.Common.{ap, ◌∙◌}
use Rattle.c_rings.specs.Tags.{list_numbers}
use Rattle.finder.specs.Find.{needed_of}
use Rattle.lcr_ring.proofs.Founds.{past-refused, tags-given}
use Rattle.lcr_ring.proofs.finds.lcr_tags.Goals as goal

pub returns-in-Ok-clause-points : goal.returns-in-Ok-clause-points
unfolding needed_of
returns-in-Ok-clause-points c = c.in-Ok.ensures.points

pub returns-in-Ok-clause-straight : goal.returns-in-Ok-clause-straight
unfolding needed_of
returns-in-Ok-clause-straight c = c.in-Ok.ensures.straight

pub returns-in-Ok-clause-cand : goal.returns-in-Ok-clause-cand
unfolding needed_of
returns-in-Ok-clause-cand c = c.in-Ok.ensures.cand

pub returns-in-Ok-clause-buf : goal.returns-in-Ok-clause-buf
unfolding needed_of
returns-in-Ok-clause-buf c = c.in-Ok.ensures.buf

pub returns-in-Ok-clause-many : goal.returns-in-Ok-clause-many
returns-in-Ok-clause-many c = (tags-given _ _ _ _ _ c.in-Ok.t c.in-Ok.ensures.answer).0

pub returns-in-Ok-clause-tags : goal.returns-in-Ok-clause-tags
returns-in-Ok-clause-tags c = c.numbers.ensures ∙ ap list_numbers (tags-given _ _ _ _ _ c.in-Ok.t c.in-Ok.ensures.answer).1

pub returns-in-Err-clause-points : goal.returns-in-Err-clause-points
unfolding needed_of
returns-in-Err-clause-points c = past-refused c.number.result _ c.in-Err.ensures.points

pub returns-in-Err-clause-straight : goal.returns-in-Err-clause-straight
unfolding needed_of
returns-in-Err-clause-straight c = past-refused c.number.result _ c.in-Err.ensures.straight

pub returns-in-Err-clause-cand : goal.returns-in-Err-clause-cand
unfolding needed_of
returns-in-Err-clause-cand c = past-refused c.number.result _ c.in-Err.ensures.cand

pub returns-in-Err-clause-buf : goal.returns-in-Err-clause-buf
unfolding needed_of
returns-in-Err-clause-buf c = past-refused c.number.result _ c.in-Err.ensures.buf
