-- `ring::quads::try_quads` meets its contract: no edge quad, one that is the same, one with a fix, or both. Assumes nothing.
use Rattle.ring.proofs.Traces.{tried-one, tried_same, tried-first, tried-both}
use Rattle.ring.proofs.quads.try_quads.Goals as goal

pub returns-in_default : goal.returns-in_default
returns-in_default c =
    let a = c.args in
    tried-one _ a.w a.h a.edges a.refined a.l a.hull a.most _ c.in_default.is
    c.correlate_quad.ensures.answer

pub returns-then-same_quad : goal.returns-then-same_quad
returns-then-same_quad c =
    let a = c.args in
    tried_same _ a.w a.h a.edges a.refined a.l a.hull a.most c.in-Some.is _ c.same_quad.ensures _
    c.if-same_quad.true c.correlate_quad-then-same_quad.ensures.answer

pub returns-then-is_fixed : goal.returns-then-is_fixed
returns-then-is_fixed c =
    let a = c.args in
    tried-first _ a.w a.h a.edges a.refined a.l a.hull a.most c.in-Some.is _ c.same_quad.ensures
    c.if-same_quad.false _ c.correlate_quad-t.ensures.answer _ c.is_fixed.ensures c.if-is_fixed.true

pub returns : goal.returns
returns c =
    let a = c.args in
    tried-both _ a.w a.h a.edges a.refined a.l a.hull a.most c.in-Some.is _ c.same_quad.ensures
    c.if-same_quad.false _ c.correlate_quad-t.ensures.answer _
    c.is_fixed.ensures _ _ c.if-is_fixed.false
    c.correlate_quad-u.ensures.answer c.better.ensures
