-- Poses as moves of marks from the pose of corner 0, forwards.
--     pose-own, pose-next                        the map of corner 0, forwards; one corner further
--     move_to, move-maps, move-corner, move-reversed   the move that takes corner 0, forwards, to a pose
--     Source, source                             the pose that it takes to a given one
-- Assumes nothing.
use mathlib.Core.Path.{◌≡◌, refl, sym, ap, ◌∙◌}
use mathlib.Core.Bool.{Bool, true, false, not}
use Prim.Native.Nat.{ℕ, suc, ◌+◌, ◌*◌, ◌-◌, ◌%◌, ◌<◌}
use native.Mathlib.Nat.{mod-add-mod, mod-eq_of_lt, mod-lt}
use native.Mathlib.Omega.{arith}
use Rattle.lcr_core.specs.Version.{positions_of, quarter_of}
use Rattle.marks.specs.Pose.{MarkMove, corner_to, followed, mark_to, pose_at, reversal, reversed_to, shift}

-- the pose of corner 0, forwards, moves nothing
pub pose-own : (v p : ℕ) → p < positions_of v → pose_at v 0 false p ≡ p
unfolding pose_at
pose-own v p h = let e : 0 * quarter_of v + p ≡ p = omega arith in ap (λ (k : ℕ). k % positions_of v) e ∙ mod-eq_of_lt h

-- the pose's map, one corner further
pub pose-next : (v r : ℕ) (reversed : Bool) (p : ℕ) → pose_at v (suc r) reversed p ≡ (pose_at v r reversed p + quarter_of v) % positions_of v
unfolding pose_at
pose-next v r false p =
    let e : suc r * quarter_of v + p ≡ r * quarter_of v + p + quarter_of v = omega arith in
    ap (λ (k : ℕ). k % positions_of v) e ∙ sym (mod-add-mod (r * quarter_of v + p) (positions_of v) (quarter_of v))
pose-next v r true p =
    let e : suc r * quarter_of v + (positions_of v - p) ≡ r * quarter_of v + (positions_of v - p) + quarter_of v = omega arith in
    ap (λ (k : ℕ). k % positions_of v) e ∙ sym (mod-add-mod (r * quarter_of v + (positions_of v - p)) (positions_of v) (quarter_of v))

-- ---- moves

unfoldable pub move_to : ℕ → Bool → MarkMove
move_to r false = shift r
move_to r true = followed reversal (shift r)

pub move-maps : (v r : ℕ) (reversed : Bool) (p : ℕ) → mark_to v (move_to r reversed) p ≡ pose_at v r reversed p
unfolding move_to mark_to pose_at
move-maps v r false p =
    let e : p + r * quarter_of v ≡ r * quarter_of v + p = omega arith in ap (λ (k : ℕ). k % positions_of v) e
move-maps v r true p =
    let e : positions_of v - p + r * quarter_of v ≡ r * quarter_of v + (positions_of v - p) = omega arith in
    mod-add-mod (positions_of v - p) (positions_of v) (r * quarter_of v) ∙ ap (λ (k : ℕ). k % positions_of v) e

pub move-corner : (r : ℕ) (reversed : Bool) → r < 4 → corner_to (move_to r reversed) 0 ≡ r
unfolding move_to corner_to
move-corner r false few = let e : 0 + r ≡ r = omega arith in ap (λ (k : ℕ). k % 4) e ∙ mod-eq_of_lt few
move-corner r true few = let e : 0 + r ≡ r = omega arith in ap (λ (k : ℕ). k % 4) e ∙ mod-eq_of_lt few

pub move-reversed : (r : ℕ) (reversed : Bool) → reversed_to (move_to r reversed) false ≡ reversed
unfolding move_to reversed_to
move-reversed r false = refl
move-reversed r true = refl

-- the pose that the move takes to corner s, forwards or reversed as b
pub record Source (r : ℕ) (reversed : Bool) (s : ℕ) (b : Bool) : Type 0 where
  pub from : ℕ
  pub flipped : Bool
  pub few : from < 4
  pub corner : corner_to (move_to r reversed) from ≡ s
  pub turned : reversed_to (move_to r reversed) flipped ≡ b

pub source : (r : ℕ) (reversed : Bool) (s : ℕ) (b : Bool) → r < 4 → s < 4 → Source r reversed s b
unfolding move_to corner_to reversed_to
source r false s b hr hs = record {
  from = (s + (4 - r)) % 4;
  flipped = b;
  few = mod-lt (s + (4 - r)) (omega arith);
  corner = mod-add-mod (s + (4 - r)) 4 r ∙ (let e : (s + (4 - r) + r) % 4 ≡ s = omega arith in e);
  turned = refl;
}
source r true s b hr hs = record {
  from = (r + (4 - s)) % 4;
  flipped = not b;
  few = mod-lt (r + (4 - s)) (omega arith);
  corner = back r s hr hs;
  turned = twice b;
}
  where
    twice : (b : Bool) → not (not b) ≡ b
    twice true = refl
    twice false = refl

    back : (r s : ℕ) → r < 4 → s < 4 → ((4 - (r + (4 - s)) % 4) % 4 + r) % 4 ≡ s
    back r s hr hs = omega arith
