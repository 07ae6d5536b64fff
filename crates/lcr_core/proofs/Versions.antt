-- Laws of the list of all versions: `after_next`, `after-end`; the test of one: `version-passes`. Assumes nothing.
use mathlib.Core.Path.{◌≡◌}
use mathlib.Core.Bool.{true}
use Prim.Native.Nat.{ℕ, ◌+◌, ◌<◌, ◌≤◌}
use lib.Dec.{leb}
use borrow.Author.Tests.{lt-ltb, le-ltb, le-leb}
use Rattle.laws.proofs.Bools.{both}
use Rattle.lcr_core.specs.Version.{version_after, IsVersion, is_version}
use Rattle.std.specs.Prelude.{Some, None}

pub after_next : (v : ℕ) → v < 64 → Some (v + 1) ≡ version_after v
unfolding version_after
after_next v h = rw (lt-ltb v 64 h)

pub after-end : (v : ℕ) → 64 ≤ v → None ≡ version_after v
unfolding version_after
after-end v h = rw (le-ltb v 64 h)

-- the test of a version
pub version-passes : (v : ℕ) → IsVersion v → is_version v ≡ true
version-passes v i = both (leb 1 v) (leb v 64) (le-leb 1 v i.least) (le-leb v 64 i.greatest)
