-- `fit::consensus::consensus` meets its contract: no trial line, too few points that agree, or the line refitted. Assumes nothing.
use native.Mathlib.Omega.{arith}
use Rattle.fit.proofs.Bands.{small_float}
use Rattle.fit.proofs.EdgeLines.{no-trial, no-support, supported}
use Rattle.laws.proofs.Past.{past-none}
use Rattle.fit.proofs.consensus.consensus.Goals as goal

pub returns-then-best-eq0 : goal.returns-then-best-eq0
returns-then-best-eq0 c =
    record {
      answer = no-trial _ _ _ c.trials-best.ensures.0 c.if-best-eq0.true;
      buf_past = past-none _ _;
    }

pub int_to_float-count : goal.int_to_float-count
int_to_float-count c = let z = c.trials-best.ensures.1 in small_float _ (omega arith)

pub returns-then-count-e : goal.returns-then-count-e
returns-then-count-e c =
    record {
      answer = no-support _ _ _ c.trials-best.ensures.0 c.if-best-eq0.false
          c.if-count-e.true;
      buf_past = past-none _ _;
    }

pub returns : goal.returns
returns c =
    record {
      answer = supported _ _ _ c.trials-best.ensures.0
          c.if-best-eq0.false _ c.if-count-e.false
          c.refit_middle.ensures.answer;
      buf_past = c.refit_middle.ensures.buf_past;
    }
