-- `attempt_text::answered` meets its contract. What the door answers has at most 64 scores. Assumes nothing.
use Rattle.attempt_text.proofs.Wholes.{answer-said}
use Rattle.attempt_text.proofs.Few.{answer-few}
use Rattle.attempt_text.specs.Traced.{answer_text}
use Rattle.laws.proofs.Stores.{stored-ext}
use Rattle.ring.specs.declared.quads.Trace.{Trace}
use Rattle.laws.specs.Said.{Said}
use Rattle.refusal.specs.Numbers.{said}
use lib.ListN.{length}
use mathlib.Core.Path.{◌∙◌, ap}
use Rattle.attempt_text.proofs.answered.Goals as goal

pub answered-requires : goal.answered-requires
answered-requires c =
    let a = c.args in
    let z = c.attempt-r in
    record {
      many_bound = answer-few a.gray.now c.many-w.result
          c.many-h.result a.points.now c.word_at-most.result (length c.list_room-x.result) (length c.list_room-y.result) (length c.list_room-z.result) z.result
          z.ensures.answer;
      in_bounds = c.requires;
    }

pub returns : goal.returns
returns c =
    let a = c.args in
    let z = c.attempt-r in
    let w = c.many-w.ensures.0 ∙ c.word_at.ensures in
    let h = c.many-h.ensures.0 ∙ c.word_at-2.ensures in
    let e = answer-said a.input.now a.gray.now a.points.now (said z.result) _ _ _ _ _ _ w h c.word_at-most.ensures c.list_room-x.ensures c.list_room-y.ensures c.list_room-z.ensures z.ensures.answer in
    let t = c.answered.ensures in
    record {
      out = stored-ext _ _ (ap (λ (y : Said Trace). answer_text y) e) t.out;
      most = t.most;
    }
