-- `lcr_core::claims::every_version`: the claim holds. Assumes nothing.
use Rattle.lcr_core.proofs.Versions.{after_next, after-end}
use native.Mathlib.Omega.{arith}
use mathlib.Core.Path.{sym}
use Rattle.lcr_core.proofs.claims.every_version.Goals as goal

pub returns : goal.returns
returns c = record { next = λ v h. sym (after_next v h); end = sym (after-end 64 (omega arith)) }
