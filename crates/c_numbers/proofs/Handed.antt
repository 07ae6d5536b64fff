-- Laws of what is handed on.
--     two-stored                 two numbers stored one after the other
--     pixels-laid                the pixels of all places, stored from the beginning of a list on
-- Assumes nothing.
use mathlib.Core.Path.{◌≡◌, refl, ap}
use mathlib.Core.List.{List, [], ◌∷◌}
use Prim.Native.Nat.{ℕ, suc, ◌+◌, ◌*◌, ◌≤◌}
use native.Mathlib.Omega.{arith}
use lib.ListN.{length, set}
use lib.Ieee.{Float}
use Rattle.laws.specs.Lent.{Stored, laid}
use Rattle.laws.proofs.Stores.{stored-laid}
use Rattle.hull.specs.Points.{many}
use Rattle.transform.specs.declared.Transform.{Transform}
use Rattle.c_numbers.specs.Maps.{mapped_pixels}

pub two-stored : (at : ℕ) (x y a b : Float) (l : List Float) → x ≡ a → y ≡ b
    → Stored at (a ∷ b ∷ []) l (set (set l at x) (at + 1) y) (at + 2)
two-stored at x y a b l ex ey =
    let z : at + 1 ≡ suc at = omega arith in
    record { list = rw (ex, ey) (ap (λ k. set (set l at a) k b) z); next = refl }

pub pixels-laid : (t : Transform) (uv old new : List Float) → length uv ≤ length old → Stored 0 (mapped_pixels t uv) old new (2 * many uv)
    → new ≡ laid (mapped_pixels t uv) old
pixels-laid t uv old new fit a =
    let room : length (mapped_pixels t uv) ≤ length old = omega (arith, a.next) in
    stored-laid a room
