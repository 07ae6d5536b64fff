-- Laws of poses: the moved pose's map is the pose's followed by the move, so moved marks agree there as often.
--     mod_same      numbers that differ by multiples of n agree modulo n
--     four          the positions are four quarters
--     pose-within   a map's value is a position;  corner-lt  a moved pose is a pose
--     pose-maps     the moved pose's map
--     counts-moved  the agreement counts of moved marks at moved poses
-- Assumes nothing.
use mathlib.Core.Path.{◌≡◌, sym, ap, ◌∙◌, subst}
use mathlib.Core.Bool.{Bool, true, false, beq}
use mathlib.Core.List.{List}
use Prim.Native.Nat.{ℕ, ◌+◌, ◌*◌, ◌-◌, ◌/◌, ◌%◌, ◌<◌, ◌≤◌}
use native.Mathlib.Omega.{arith}
use native.Mathlib.Nat.{mod-lt, mod-add-mod, mod-add-div', add-mul-mod_self_right}
use lib.ListN.{get_or}
use Rattle.laws.proofs.Counts.{count-ext}
use Rattle.lcr_core.specs.Version.{quarter_of, positions_of}
use Rattle.lcr_core.specs.Mark.{mark}
use Rattle.marks.specs.Pose.{pose_at, agree_at, agreement, MarkMove, shift, reversal, followed, mark_to, MarksMoved, corner_to, reversed_to}

pub mod_same : (n a b i j : ℕ) → a + i * n ≡ b + j * n → a % n ≡ b % n
mod_same n a b i j e = sym (add-mul-mod_self_right a i n) ∙ ap (λ (m : ℕ). m % n) e ∙ add-mul-mod_self_right b j n

pub four : (v : ℕ) → positions_of v ≡ 4 * quarter_of v
four v = omega arith

-- ---- maps

-- a shift after a map
shift-sum : (q r k p t d : ℕ) → t + d * 4 ≡ r + k → t * q + p + d * (4 * q) ≡ (r * q + p + k * q) + 0 * (4 * q)
shift-sum q r k p t d e = let f : (t + d * 4) * q ≡ (r + k) * q = ap (λ (m : ℕ). m * q) e in omega arith

shift-map : (q r k p : ℕ) → ((r + k) % 4 * q + p) % (4 * q) ≡ ((r * q + p) % (4 * q) + k * q) % (4 * q)
shift-map q r k p =
    mod_same (4 * q) ((r + k) % 4 * q + p) (r * q + p + k * q) ((r + k) / 4) 0
    (shift-sum q r k p ((r + k) % 4) ((r + k) / 4) (mod-add-div' (r + k) 4))
    ∙ sym (mod-add-mod (r * q + p) (4 * q) (k * q))

-- the reversal after a map; b is −p
turn-sum : (q r p b t d m e : ℕ) → r ≤ 4 → t + d * 4 ≡ 4 - r → b + p ≡ 4 * q → m + e * (4 * q) ≡ r * q + p → m ≤ 4 * q
    → t * q + b + (d + e) * (4 * q) ≡ (4 * q - m) + 1 * (4 * q)
turn-sum q r p b t d m e few corner minus value below =
    let f : (t + d * 4 + r) * q ≡ 4 * q = ap (λ (x : ℕ). x * q) (back t d r few corner) in
    omega arith
  where
    back : (t d r : ℕ) → r ≤ 4 → t + d * 4 ≡ 4 - r → t + d * 4 + r ≡ 4
    back t d r a c = omega arith

turn-map : (q r p b : ℕ) → 0 < q → r < 4 → b + p ≡ 4 * q → ((4 - r) % 4 * q + b) % (4 * q) ≡ (4 * q - (r * q + p) % (4 * q)) % (4 * q)
turn-map q r p b some few minus =
    let l : (r * q + p) % (4 * q) < 4 * q = mod-lt (r * q + p) (omega arith) in
    mod_same (4 * q) ((4 - r) % 4 * q + b) (4 * q - (r * q + p) % (4 * q)) ((4 - r) / 4 + (r * q + p) / (4 * q)) 1
    (turn-sum q r p b ((4 - r) % 4) ((4 - r) / 4) ((r * q + p) % (4 * q)) ((r * q + p) / (4 * q)) (omega arith)
    (mod-add-div' (4 - r) 4) minus (mod-add-div' (r * q + p) (4 * q)) (omega arith))

pub pose-within : (v r : ℕ) (reversed : Bool) (p : ℕ) → pose_at v r reversed p < positions_of v
unfolding pose_at
pose-within v r true p = mod-lt (r * quarter_of v + (positions_of v - p)) (omega arith)
pose-within v r false p = mod-lt (r * quarter_of v + p) (omega arith)

pub corner-lt : (g : MarkMove) (r : ℕ) → r < 4 → corner_to g r < 4
unfolding corner_to
corner-lt (shift k) r few = mod-lt _ (omega arith)
corner-lt reversal r few = mod-lt _ (omega arith)
corner-lt (followed g h) r few = corner-lt h (corner_to g r) (corner-lt g r few)

pub pose-maps : (v : ℕ) (g : MarkMove) (r : ℕ) (reversed : Bool) → r < 4 → (p : ℕ) → p < positions_of v
    → pose_at v (corner_to g r) (reversed_to g reversed) p ≡ mark_to v g (pose_at v r reversed p)
unfolding pose_at corner_to reversed_to mark_to
pose-maps v (shift k) r false few p below =
    subst (λ (z : ℕ). ((r + k) % 4 * quarter_of v + p) % z ≡ ((r * quarter_of v + p) % z + k * quarter_of v) % z)
    (sym (four v)) (shift-map (quarter_of v) r k p)
pose-maps v (shift k) r true few p below =
    subst
    (λ (z : ℕ). ((r + k) % 4 * quarter_of v + (positions_of v - p)) % z ≡ ((r * quarter_of v + (positions_of v - p)) % z + k * quarter_of v) % z)
    (sym (four v)) (shift-map (quarter_of v) r k (positions_of v - p))
pose-maps v reversal r false few p below =
    subst (λ (z : ℕ). ((4 - r) % 4 * quarter_of v + (positions_of v - p)) % z ≡ (z - (r * quarter_of v + p) % z) % z)
    (sym (four v)) (turn-map (quarter_of v) r p (positions_of v - p) (omega arith) few (omega arith))
pose-maps v reversal r true few p below =
    subst (λ (z : ℕ). ((4 - r) % 4 * quarter_of v + p) % z ≡ (z - (r * quarter_of v + (positions_of v - p)) % z) % z)
    (sym (four v)) (turn-map (quarter_of v) r (positions_of v - p) p (omega arith) few (omega arith))
pose-maps v (followed g h) r reversed few p below =
    pose-maps v h (corner_to g r) (reversed_to g reversed) (corner-lt g r few) p below
    ∙ ap (mark_to v h) (pose-maps v g r reversed few p below)

-- ---- counts

pub counts-moved : (v : ℕ) (g : MarkMove) (old new : List Bool) → MarksMoved v g old new → (r : ℕ) (reversed : Bool) → r < 4
    → agreement v new (corner_to g r) (reversed_to g reversed) ≡ agreement v old r reversed
unfolding agreement
counts-moved v g old new m r reversed few =
    count-ext (agree_at v old r reversed) (agree_at v new (corner_to g r) (reversed_to g reversed)) (positions_of v) same
  where
    same : (p : ℕ) → p < positions_of v → agree_at v old r reversed p ≡ agree_at v new (corner_to g r) (reversed_to g reversed) p
    same p below =
        unfold agree_at in
        ap (beq (mark v p))
        (sym (ap (λ (x : ℕ). get_or new x false) (pose-maps v g r reversed few p below)
        ∙ m.each (pose_at v r reversed p) (pose-within v r reversed p)))
