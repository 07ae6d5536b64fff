-- `lcr_core::version::Version::after` meets its contract: the version's number is the one that clauses see. Assumes nothing.
use Rattle.std.proofs.Common.{◌≡◌, ◌+◌, Some, None, subst}
use Rattle.lcr_core.specs.Version.{version_after}
use Rattle.lcr_core.proofs.Versions.{after_next, after-end}
use Rattle.lcr_core.proofs.version.Version.after.Goals as goal

pub returns-then-self-lt-MAX : goal.returns-then-self-lt-MAX
returns-then-self-lt-MAX c =
    let n = c.self.inside.0 in subst (λ v. Some (n + 1) ≡ version_after v) c.self.view_is (after_next n c.if-self-lt-MAX.true)

pub returns : goal.returns
returns c = subst (λ v. None ≡ version_after v) c.self.view_is (after-end c.self.inside.0 c.if-self-lt-MAX.false)
