-- By the law. Assumes nothing.
use Rattle.tag_list.proofs.Listed.{at-most-four}
use Rattle.tag_list.proofs.claims.at_most_four.Goals as goal

pub returns : goal.returns
returns c = at-most-four
