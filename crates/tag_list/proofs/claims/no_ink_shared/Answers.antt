-- By the law. Assumes nothing.
use Rattle.tag_list.proofs.Shared.{no-ink-shared}
use Rattle.tag_list.proofs.claims.no_ink_shared.Goals as goal

pub returns : goal.returns
returns c = no-ink-shared
