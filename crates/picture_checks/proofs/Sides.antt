-- A side from 1 to 4,096 passes its check: side-is. Assumes nothing.
use mathlib.Core.Path.{◌≡◌}
use mathlib.Core.Bool.{true}
use Prim.Native.Nat.{ℕ, ◌≤◌}
use lib.Dec.{leb}
use borrow.Author.Tests.{le-leb}
use Rattle.laws.proofs.Bools.{both}
use Rattle.picture_checks.specs.Picture.{is_side}

pub side-is : (n : ℕ) → 1 ≤ n → n ≤ 4096 → is_side n ≡ true
side-is n low high = both (leb 1 n) (leb n 4096) (le-leb 1 n low) (le-leb n 4096 high)
