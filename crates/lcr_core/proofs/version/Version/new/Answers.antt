-- `lcr_core::version::Version::new` meets its contract. Assumes nothing.
use native.Mathlib.Omega.{arith}
use borrow.Author.Tests.{le-leb, lt-leb}
use Rattle.lcr_core.proofs.version.Version.new.Goals as goal

pub returns-then-v-lt1 : goal.returns-then-v-lt1
returns-then-v-lt1 c = simp (lt-leb 1 c.args.v (omega arith))

pub returns-then-v : goal.returns-then-v
returns-then-v c = simp (le-leb 1 c.args.v (omega arith), lt-leb c.args.v 64 (omega arith))

pub returns : goal.returns
returns c = simp (le-leb 1 c.args.v (omega arith), le-leb c.args.v 64 (omega arith))
