-- `fit::consensus::try_pair` meets its contract: a trial under the cut, too short, better, or not better. Assumes nothing.
use mathlib.Core.Path.{sym, ◌∙◌}
use borrow.Author.Rules.{rules}
use Rattle.fit.proofs.Trials.{short, more, no_more, trial-by, cut-trial}
use Rattle.fit.proofs.consensus.try_pair.Goals as goal

pub returns-then-under_cut : goal.returns-then-under_cut
returns-then-under_cut c = (
  cut-trial _ _ _ _ _ _ c.requires.short_under (sym c.under_cut.ensures ∙ c.if-under_cut.true),
  search rules,
)

pub returns-then-l-len : goal.returns-then-l-len
returns-then-l-len c = (trial-by _ _ _ _ _ _ _ c.root-l.ensures (short _ _ _ _ _ _ _ _ c.if-l-len.true), search rules)

pub returns-then-best-count : goal.returns-then-best-count
returns-then-best-count c = (
  trial-by _ _ _ _ _ _ _ c.root-l.ensures
      (more _ _ _ _ _ _ _ _ _ c.if-l-len.false c.agree-count.ensures.0 c.if-best-count.true),
  search rules,
)

pub returns : goal.returns
returns c = (
  trial-by _ _ _ _ _ _ _ c.root-l.ensures
      (no_more _ _ _ _ _ _ _ _ _ c.if-l-len.false c.agree-count.ensures.0 c.if-best-count.false),
  search rules,
)
