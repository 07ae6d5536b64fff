-- `lcr_ring::finds::lcr_find` meets its contract. Assumes nothing.
use Rattle.std.proofs.Common.{ap, ◌∙◌}
use Rattle.c_rings.specs.Rings.{score_rows, ring_of, found_numbers, is_found}
use Rattle.finder.specs.Find.{needed_of}
use Rattle.ring.specs.declared.quads.Trace.{Trace}
use Rattle.lcr_ring.proofs.Founds.{past-refused, find-given}
use Rattle.lcr_ring.proofs.finds.lcr_find.Goals as goal

pub returns-in-Ok-clause-points : goal.returns-in-Ok-clause-points
unfolding needed_of
returns-in-Ok-clause-points c = c.in-Ok.ensures.points

pub returns-in-Ok-clause-straight : goal.returns-in-Ok-clause-straight
unfolding needed_of
returns-in-Ok-clause-straight c = c.in-Ok.ensures.straight

pub returns-in-Ok-clause-cand : goal.returns-in-Ok-clause-cand
unfolding needed_of
returns-in-Ok-clause-cand c = c.in-Ok.ensures.cand

pub returns-in-Ok-clause-buf : goal.returns-in-Ok-clause-buf
unfolding needed_of
returns-in-Ok-clause-buf c = c.in-Ok.ensures.buf

pub returns-in-Ok-clause-regions : goal.returns-in-Ok-clause-regions
returns-in-Ok-clause-regions c = (find-given _ _ _ _ _ c.in-Ok.answer c.in-Ok.ensures.answer).0

pub returns-in-Ok-clause-hull : goal.returns-in-Ok-clause-hull
returns-in-Ok-clause-hull c =
    c.put_trace.ensures.hull ∙ ap (λ (t : Trace). t.hull) (find-given _ _ _ _ _ c.in-Ok.answer c.in-Ok.ensures.answer).1

pub returns-in-Ok-clause-found : goal.returns-in-Ok-clause-found
returns-in-Ok-clause-found c =
    c.put_trace.ensures.found ∙ ap (λ (t : Trace). is_found t.quad) (find-given _ _ _ _ _ c.in-Ok.answer c.in-Ok.ensures.answer).1

pub returns-in-Ok-clause-quad : goal.returns-in-Ok-clause-quad
returns-in-Ok-clause-quad c =
    c.put_trace.ensures.quad ∙ ap (λ (t : Trace). found_numbers t.quad) (find-given _ _ _ _ _ c.in-Ok.answer c.in-Ok.ensures.answer).1

pub returns-in-Ok-clause-tried : goal.returns-in-Ok-clause-tried
returns-in-Ok-clause-tried c =
    c.put_trace.ensures.tried ∙ ap (λ (t : Trace). t.scores.many) (find-given _ _ _ _ _ c.in-Ok.answer c.in-Ok.ensures.answer).1

pub returns-in-Ok-clause-scores : goal.returns-in-Ok-clause-scores
returns-in-Ok-clause-scores c =
    c.put_trace.ensures.scores ∙ ap (λ (t : Trace). score_rows t.scores.list) (find-given _ _ _ _ _ c.in-Ok.answer c.in-Ok.ensures.answer).1

pub returns-in-Ok-clause-fix : goal.returns-in-Ok-clause-fix
returns-in-Ok-clause-fix c =
    c.put_trace.ensures.fix ∙ ap (λ (t : Trace). ring_of t.fix) (find-given _ _ _ _ _ c.in-Ok.answer c.in-Ok.ensures.answer).1

pub returns-in-Ok-clause-fallback : goal.returns-in-Ok-clause-fallback
returns-in-Ok-clause-fallback c =
    c.put_trace.ensures.fallback ∙ ap (λ (t : Trace). ring_of t.fallback) (find-given _ _ _ _ _ c.in-Ok.answer c.in-Ok.ensures.answer).1

pub returns-in-Err-clause-points : goal.returns-in-Err-clause-points
unfolding needed_of
returns-in-Err-clause-points c = past-refused c.number.result _ c.in-Err.ensures.points

pub returns-in-Err-clause-straight : goal.returns-in-Err-clause-straight
unfolding needed_of
returns-in-Err-clause-straight c = past-refused c.number.result _ c.in-Err.ensures.straight

pub returns-in-Err-clause-cand : goal.returns-in-Err-clause-cand
unfolding needed_of
returns-in-Err-clause-cand c = past-refused c.number.result _ c.in-Err.ensures.cand

pub returns-in-Err-clause-buf : goal.returns-in-Err-clause-buf
unfolding needed_of
returns-in-Err-clause-buf c = past-refused c.number.result _ c.in-Err.ensures.buf
