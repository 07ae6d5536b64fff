-- `lcr_ring::rings::lcr_attempt` meets its contract. Assumes nothing.
use Rattle.std.proofs.Common.{ap, ◌∙◌}
use Rattle.c_rings.specs.Rings.{score_rows, ring_of, found_numbers, is_found}
use Rattle.ring.specs.Door.{answer_of, needed_of}
use Rattle.ring.specs.declared.quads.Trace.{Trace}
use Rattle.lcr_ring.proofs.Attempts.{attempt-given}
use Rattle.lcr_ring.proofs.Founds.{past-refused}
use Rattle.lcr_ring.proofs.rings.lcr_attempt.Goals as goal

pub returns-in-Ok-clause-straight : goal.returns-in-Ok-clause-straight
unfolding needed_of
returns-in-Ok-clause-straight c = c.in-Ok.ensures.straight_past

pub returns-in-Ok-clause-cand : goal.returns-in-Ok-clause-cand
unfolding needed_of
returns-in-Ok-clause-cand c = c.in-Ok.ensures.cand_past

pub returns-in-Ok-clause-buf : goal.returns-in-Ok-clause-buf
unfolding needed_of
returns-in-Ok-clause-buf c = c.in-Ok.ensures.buf_past

pub returns-in-Ok-clause-hull : goal.returns-in-Ok-clause-hull
unfolding answer_of
returns-in-Ok-clause-hull c =
    c.put_trace.ensures.hull ∙ ap (λ (t : Trace). t.hull) (attempt-given _ _ _ _ _ _ c.in-Ok.t c.in-Ok.ensures.answer)

pub returns-in-Ok-clause-found : goal.returns-in-Ok-clause-found
unfolding answer_of
returns-in-Ok-clause-found c =
    c.put_trace.ensures.found ∙ ap (λ (t : Trace). is_found t.quad) (attempt-given _ _ _ _ _ _ c.in-Ok.t c.in-Ok.ensures.answer)

pub returns-in-Ok-clause-quad : goal.returns-in-Ok-clause-quad
unfolding answer_of
returns-in-Ok-clause-quad c =
    c.put_trace.ensures.quad ∙ ap (λ (t : Trace). found_numbers t.quad) (attempt-given _ _ _ _ _ _ c.in-Ok.t c.in-Ok.ensures.answer)

pub returns-in-Ok-clause-tried : goal.returns-in-Ok-clause-tried
unfolding answer_of
returns-in-Ok-clause-tried c =
    c.put_trace.ensures.tried ∙ ap (λ (t : Trace). t.scores.many) (attempt-given _ _ _ _ _ _ c.in-Ok.t c.in-Ok.ensures.answer)

pub returns-in-Ok-clause-scores : goal.returns-in-Ok-clause-scores
unfolding answer_of
returns-in-Ok-clause-scores c =
    c.put_trace.ensures.scores ∙ ap (λ (t : Trace). score_rows t.scores.list) (attempt-given _ _ _ _ _ _ c.in-Ok.t c.in-Ok.ensures.answer)

pub returns-in-Ok-clause-fix : goal.returns-in-Ok-clause-fix
unfolding answer_of
returns-in-Ok-clause-fix c =
    c.put_trace.ensures.fix ∙ ap (λ (t : Trace). ring_of t.fix) (attempt-given _ _ _ _ _ _ c.in-Ok.t c.in-Ok.ensures.answer)

pub returns-in-Ok-clause-fallback : goal.returns-in-Ok-clause-fallback
unfolding answer_of
returns-in-Ok-clause-fallback c =
    c.put_trace.ensures.fallback ∙ ap (λ (t : Trace). ring_of t.fallback) (attempt-given _ _ _ _ _ _ c.in-Ok.t c.in-Ok.ensures.answer)

pub returns-in-Err-clause-straight : goal.returns-in-Err-clause-straight
unfolding needed_of
returns-in-Err-clause-straight c = past-refused c.number.result _ c.in-Err.ensures.straight_past

pub returns-in-Err-clause-cand : goal.returns-in-Err-clause-cand
unfolding needed_of
returns-in-Err-clause-cand c = past-refused c.number.result _ c.in-Err.ensures.cand_past

pub returns-in-Err-clause-buf : goal.returns-in-Err-clause-buf
unfolding needed_of
returns-in-Err-clause-buf c = past-refused c.number.result _ c.in-Err.ensures.buf_past
