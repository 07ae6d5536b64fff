-- Signed arguments.
--     at-cell   a callee is handed the number that the machine reads back from an argument's bits, which is the argument
-- Assumes nothing.
use mathlib.Core.Path.{◌≡◌}
use lib.IntN.{ℤ}
use mir.Syntax.{w32}
use mir.Val.{SFits, to_z, of_z}
use mir.ValLaws.{to_z-of_z}

pub at-cell : {A : Type 0} (f : ℤ → ℤ → A) (x y : ℤ) → SFits w32 x → SFits w32 y → f (to_z w32 (of_z w32 x)) (to_z w32 (of_z w32 y)) ≡ f x y
at-cell f x y fx fy = rw (to_z-of_z w32 x fx, to_z-of_z w32 y fy)
