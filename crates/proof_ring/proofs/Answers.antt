-- What the checks of a door tell of the room: rows_of, room_of. Assumes nothing.
use mathlib.Core.Path.{◌≡◌, sym, ◌∙◌, subst}
use mathlib.Core.List.{List}
use Prim.Native.Nat.{ℕ, ◌*◌, ◌≤◌}
use native.Mathlib.Nat.{mul_comm, mul-le-mul_right}
use lib.ListN.{length}
use Rattle.picture_checks.specs.Picture.{Sides}
use Rattle.lcr_core.specs.Version.{IsVersion}
use Rattle.proof_ring.specs.Doors.{Planned, least_side}
use Rattle.proof_ring.specs.Inner.{Room}
use Rattle.proof_ring.specs.declared.paint.Plan.{Plan}

pub rows_of : (v pitch w h bytes : ℕ) → least_side v pitch ≤ h → bytes ≡ w * h → least_side v pitch * w ≤ bytes
rows_of v pitch w h bytes high many =
    subst (λ (n : ℕ). least_side v pitch * w ≤ n) (mul_comm h w ∙ sym many) (mul-le-mul_right w high)

pub room_of : (plan : Plan) (h : ℕ) (s : List ℕ) → IsVersion plan.version → Sides plan.width h (length s)
    → Planned plan.version plan.pitch plan.corner plan.width h → Room plan s
room_of plan h s is sides p = record {
  version = is;
  pitch-low = p.pitch-low;
  pitch-high = p.pitch-high;
  corner = p.corner;
  wide = p.wide;
  width = sides.w-high;
  rows = rows_of plan.version plan.pitch plan.width h (length s) p.high sides.count;
}
