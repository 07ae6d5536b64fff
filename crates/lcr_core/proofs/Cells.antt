-- Laws of places, edges and cells.
--     outer-x-.., outer-y-.., inward-..   the pieces of each rule
--     level-.., edge-..                   which edge, and the coordinate along it
--     place-.., ..-given                  what the code's calls give
-- Assumes nothing.
use mathlib.Core.Path.{◌≡◌, refl, sym, ap, ◌∙◌, subst}
use mathlib.Core.Bool.{Bool, true, false, not, ◌&&◌, cond}
use Prim.Native.Nat.{ℕ, ◌+◌, ◌*◌, ◌-◌, ◌%◌, ◌<◌, ◌≤◌, min}
use native.Mathlib.Omega.{arith}
use native.Mathlib.Nat.{mod-lt}
use lib.Dec.{leb, ltb}
use borrow.Author.Tests.{le-leb, lt-leb, eq-eqb, ne_eqb}
use lib.IntN.{ℤ}
use lib.Signed.{non_neg}
use mir.Syntax.{w32}
use mir.Val.{to_z, of_z}
use Rattle.lcr_core.specs.Version.{side_of, quarter_of, positions_of}
use Rattle.lcr_core.specs.Border.{InRange, depth_of, shell_of, coordinate, along_of, is_level, edge_of, offset_of, on_edge, position_at, outer_x, outer_y, inward, outer_cell, inner_cell}
use Rattle.std.specs.Prelude.{Some, None}
use Rattle.lcr_core.specs.declared.border.Cell.{Cell}
use Rattle.lcr_core.proofs.Signed.{read, low-range}

pub outer-x-1 : (q p : ℕ) → p ≤ q → p ≡ outer_x q p
unfolding outer_x
outer-x-1 q p h = simp (le-leb p q h)

pub outer-x-2 : (q p : ℕ) → q < p → p ≤ 2 * q → q ≡ outer_x q p
unfolding outer_x
outer-x-2 q p h k = simp (lt-leb p q h, le-leb p (2 * q) k)

pub outer-x-3 : (q p : ℕ) → 2 * q < p → p ≤ 3 * q → 3 * q - p ≡ outer_x q p
unfolding outer_x
outer-x-3 q p h k = simp (lt-leb p q (omega arith), lt-leb p (2 * q) h, le-leb p (3 * q) k)

pub outer-x-4 : (q p : ℕ) → 3 * q < p → 0 ≡ outer_x q p
unfolding outer_x
outer-x-4 q p h = simp (lt-leb p q (omega arith), lt-leb p (2 * q) (omega arith), lt-leb p (3 * q) h)

pub outer-y-1 : (q p : ℕ) → p ≤ q → 0 ≡ outer_y q p
unfolding outer_y
outer-y-1 q p h = simp (le-leb p q h)

pub outer-y-2 : (q p : ℕ) → q < p → p ≤ 2 * q → p - q ≡ outer_y q p
unfolding outer_y
outer-y-2 q p h k = simp (lt-leb p q h, le-leb p (2 * q) k)

pub outer-y-3 : (q p : ℕ) → 2 * q < p → p ≤ 3 * q → q ≡ outer_y q p
unfolding outer_y
outer-y-3 q p h k = simp (lt-leb p q (omega arith), lt-leb p (2 * q) h, le-leb p (3 * q) k)

pub outer-y-4 : (q p : ℕ) → 3 * q < p → 4 * q - p ≡ outer_y q p
unfolding outer_y
outer-y-4 q p h = simp (lt-leb p q (omega arith), lt-leb p (2 * q) (omega arith), lt-leb p (3 * q) h)

pub inward-1 : (q k : ℕ) → k ≡ 0 → 1 ≡ inward q k
inward-1 q k e = simp (eq-eqb k 0 e)

pub inward-2 : (q k : ℕ) → (k ≡ 0 → ⊥) → k ≡ q → q - 1 ≡ inward q k
inward-2 q k n e = simp (ne_eqb k 0 n, eq-eqb k q e)

pub inward-3 : (q k : ℕ) → (k ≡ 0 → ⊥) → (k ≡ q → ⊥) → k ≡ inward q k
inward-3 q k n m = simp (ne_eqb k 0 n, ne_eqb k q m)

pub on-edge-0 : (q e u : ℕ) → e ≡ 0 → u ≡ on_edge q e u
unfolding on_edge
on-edge-0 q e u h = simp (eq-eqb e 0 h)

pub on-edge-1 : (q e u : ℕ) → (e ≡ 0 → ⊥) → e ≡ 1 → q + u ≡ on_edge q e u
unfolding on_edge
on-edge-1 q e u n h = simp (ne_eqb e 0 n, eq-eqb e 1 h)

pub on-edge-2 : (q e u : ℕ) → (e ≡ 0 → ⊥) → (e ≡ 1 → ⊥) → e ≡ 2 → 3 * q - u ≡ on_edge q e u
unfolding on_edge
on-edge-2 q e u n m h = simp (ne_eqb e 0 n, ne_eqb e 1 m, eq-eqb e 2 h)

pub on-edge-3 : (q e u : ℕ) → (e ≡ 0 → ⊥) → (e ≡ 1 → ⊥) → (e ≡ 2 → ⊥) → 4 * q - u ≡ on_edge q e u
unfolding on_edge
on-edge-3 q e u n m l = simp (ne_eqb e 0 n, ne_eqb e 1 m, ne_eqb e 2 l)

-- ---- edges

pub edge-top : (s : ℕ) (x y : ℤ) → is_level s x y ≡ true → non_neg y ≡ false → (0 ≡ edge_of s x y) × (x ≡ offset_of s x y)
unfolding edge_of offset_of
edge-top s x y e n = (rw (e, n), rw e)

pub edge-bottom : (s : ℕ) (x y : ℤ) → is_level s x y ≡ true → non_neg y ≡ true → (2 ≡ edge_of s x y) × (x ≡ offset_of s x y)
unfolding edge_of offset_of
edge-bottom s x y e n = (rw (e, n), rw e)

pub edge-left : (s : ℕ) (x y : ℤ) → is_level s x y ≡ false → non_neg x ≡ false → (3 ≡ edge_of s x y) × (y ≡ offset_of s x y)
unfolding edge_of offset_of
edge-left s x y e n = (rw (e, n), rw e)

pub edge-right : (s : ℕ) (x y : ℤ) → is_level s x y ≡ false → non_neg x ≡ true → (1 ≡ edge_of s x y) × (y ≡ offset_of s x y)
unfolding edge_of offset_of
edge-right s x y e n = (rw (e, n), rw e)

-- ---- what the tests of the code say

pub level-is : (s : ℕ) (x y : ℤ) (dx dy : ℕ) (r b : Bool) → dx ≡ depth_of s x → dy ≡ depth_of s y
    → r ≡ (ltb 0 dy && leb dx dy) → r ≡ b → is_level s x y ≡ b
level-is s x y dx dy r b ex ey er e =
    sym (ap (λ (n : ℕ). ltb 0 n && leb (depth_of s x) n) ey) ∙ sym (ap (λ (n : ℕ). ltb 0 dy && leb n dy) ex) ∙ sym er ∙ e

pub sign-is : (z : ℤ) (r b : Bool) → r ≡ not (non_neg z) → r ≡ b → non_neg z ≡ not b
sign-is z r b er e = sym (twice (non_neg z)) ∙ ap not (sym er ∙ e)
  where
    twice : (a : Bool) → not (not a) ≡ a
    twice true = refl
    twice false = refl

-- ---- shell and position

pub place-near : (v : ℕ) (x y : ℤ) → shell_of (side_of v) x y < 2 → None ≡ position_at v x y
unfolding position_at
place-near v x y h = rw (lt-leb 2 (shell_of (side_of v) x y) h)

pub place-far : (v : ℕ) (x y : ℤ) → 2 ≤ shell_of (side_of v) x y → 3 < shell_of (side_of v) x y → None ≡ position_at v x y
unfolding position_at
place-far v x y h k = rw (le-leb 2 (shell_of (side_of v) x y) h, lt-leb (shell_of (side_of v) x y) 3 k)

-- the position of a cell of the ring
unfoldable pub position_of : ℕ → ℤ → ℤ → ℕ
position_of v x y = on_edge (quarter_of v) (edge_of (side_of v) x y) (min (along_of (offset_of (side_of v) x y)) (quarter_of v)) % positions_of v

pub place_in : (v : ℕ) (x y : ℤ) → 2 ≤ shell_of (side_of v) x y → shell_of (side_of v) x y ≤ 3 → Some (position_of v x y) ≡ position_at v x y
unfolding position_at position_of
place_in v x y h k = rw (le-leb 2 (shell_of (side_of v) x y) h, le-leb (shell_of (side_of v) x y) 3 k)

pub offset-depth : (s : ℕ) (x y : ℤ) → shell_of s x y ≤ 3 → depth_of s (offset_of s x y) ≤ 3
unfolding offset_of
offset-depth s x y h = go (is_level s x y)
  where
    go : (b : Bool) → depth_of s (cond b x y) ≤ 3
    go true = omega arith
    go false = omega arith

pub offset-range : (s : ℕ) (x y : ℤ) → InRange x → InRange y → InRange (offset_of s x y)
unfolding offset_of
offset-range s x y h k = go (is_level s x y)
  where
    go : (b : Bool) → InRange (cond b x y)
    go true = h
    go false = k

-- what `along` asks, of the coordinate as the machine reads it back
pub along-asks : (s : ℕ) (x y o : ℤ) (side : ℕ) → side ≡ s → o ≡ offset_of s x y → InRange x → InRange y → shell_of s x y ≤ 3
    → InRange (to_z w32 (of_z w32 o)) × (depth_of side (to_z w32 (of_z w32 o)) ≤ 3)
along-asks s x y o side es eo hx hy h =
    let r : InRange o = subst InRange (sym eo) (offset-range s x y hx hy) in
    let d : depth_of side o ≤ 3 =
    subst (λ (z : ℤ). depth_of side z ≤ 3) (sym eo)
    (subst (λ (n : ℕ). depth_of n (offset_of s x y) ≤ 3) (sym es) (offset-depth s x y h)) in
    subst (λ (z : ℤ). InRange z × (depth_of side z ≤ 3)) (sym (read o r)) (r, d)

pub position-is : (v : ℕ) (x y o : ℤ) (r n q e u a : ℕ) → InRange x → InRange y → 2 ≤ shell_of (side_of v) x y → shell_of (side_of v) x y ≤ 3
    → n ≡ positions_of v → q ≡ quarter_of v → e ≡ edge_of (side_of v) x y → o ≡ offset_of (side_of v) x y
    → a ≡ along_of (to_z w32 (of_z w32 o)) → u ≡ min a q → r ≡ on_edge q e u → Some (r % n) ≡ position_at v x y
unfolding position_of
position-is v x y o r n q e u a hx hy h k en eq ee eo ea eu er =
    let s = side_of v in
    let ro : InRange o = subst InRange (sym eo) (offset-range s x y hx hy) in
    let ea2 : a ≡ along_of (offset_of s x y) = ea ∙ ap along_of (read o ro ∙ eo) in
    let eu2 : u ≡ min (along_of (offset_of s x y)) (quarter_of v) =
    eu ∙ ap (λ (m : ℕ). min m q) ea2 ∙ ap (λ (m : ℕ). min (along_of (offset_of s x y)) m) eq in
    let er2 : r ≡ on_edge (quarter_of v) (edge_of s x y) (min (along_of (offset_of s x y)) (quarter_of v)) =
    er ∙ ap (λ (m : ℕ). on_edge m e u) eq ∙ ap (λ (m : ℕ). on_edge (quarter_of v) m u) ee
    ∙ ap (λ (m : ℕ). on_edge (quarter_of v) (edge_of s x y) m) eu2 in
    ap (λ (m : ℕ). Some (m % n)) er2
    ∙ ap (λ (m : ℕ). Some (on_edge (quarter_of v) (edge_of s x y) (min (along_of (offset_of s x y)) (quarter_of v)) % m)) en
    ∙ place_in v x y h k

-- what a call of `depth` gives, as the machine reads its argument back
pub depth-given : (s side d : ℕ) (z : ℤ) → InRange z → side ≡ s → d ≡ depth_of side (to_z w32 (of_z w32 z)) → d ≡ depth_of s z
depth-given s side d z h es e = e ∙ ap (λ (y : ℤ). depth_of side y) (read z h) ∙ ap (λ (n : ℕ). depth_of n z) es

pub sign-given : (z : ℤ) (r b : Bool) → InRange z → r ≡ not (non_neg (to_z w32 (of_z w32 z))) → r ≡ b → non_neg z ≡ not b
sign-given z r b h er e = sign-is z r b (er ∙ ap (λ (y : ℤ). not (non_neg y)) (read z h)) e

-- the answer of an edge, its coordinate as the machine reads it back
pub edge-given : (e e' : ℕ) (x o : ℤ) → InRange x → (e ≡ e') × (x ≡ o) → (e ≡ e') × (to_z w32 (of_z w32 x) ≡ o)
edge-given e e' x o h p = (p.0, read x h ∙ p.1)

pub places : (v p n q : ℕ) → n ≡ positions_of v → q ≡ quarter_of v → v < 256 → (q < 4096) × (p % n < 4 * q)
places v p n q en eq h = let m : p % n < n = mod-lt p (omega arith) in (omega arith, omega arith)

pair : (a b : ℤ) (c d : ℤ) → a ≡ c → b ≡ d → ◌≡◌ {A = Cell} (record { x = a; y = b }) (record { x = c; y = d })
pair a b c d e f = ap (λ (z : ℤ). record { x = z; y = b }) e ∙ ap (λ (z : ℤ). record { x = c; y = z }) f

low_reads : (k z : ℕ) (r : ℤ) → k < 4096 → r ≡ coordinate k → k ≡ z → to_z w32 (of_z w32 r) ≡ coordinate z
low_reads k z r h e ek = ap (λ (y : ℤ). to_z w32 (of_z w32 y)) e ∙ read (coordinate k) (low-range k h) ∙ ap coordinate ek

pub outer-is : (v p n q ox oy : ℕ) (rx ry : ℤ) → n ≡ positions_of v → q ≡ quarter_of v → v < 256 → ox ≤ q → oy ≤ q
    → ox ≡ outer_x q (p % n) → oy ≡ outer_y q (p % n) → rx ≡ coordinate ox → ry ≡ coordinate oy
    → ◌≡◌ {A = Cell} (record { x = to_z w32 (of_z w32 rx); y = to_z w32 (of_z w32 ry) }) (outer_cell v p)
unfolding outer_cell
outer-is v p n q ox oy rx ry en eq hv hx hy ex ey erx ery =
    let k = p % positions_of v in
    let x1 : ox ≡ outer_x (quarter_of v) k = ex ∙ ap (λ (m : ℕ). outer_x m (p % n)) eq ∙ ap (λ (m : ℕ). outer_x (quarter_of v) (p % m)) en in
    let y1 : oy ≡ outer_y (quarter_of v) k = ey ∙ ap (λ (m : ℕ). outer_y m (p % n)) eq ∙ ap (λ (m : ℕ). outer_y (quarter_of v) (p % m)) en in
    pair _ _ _ _ (low_reads ox (outer_x (quarter_of v) k) rx (omega arith) erx x1)
    (low_reads oy (outer_y (quarter_of v) k) ry (omega arith) ery y1)

pub inner-is : (v p n q ox oy sx sy : ℕ) (rx ry : ℤ) → n ≡ positions_of v → q ≡ quarter_of v → v < 256 → sx ≤ q → sy ≤ q
    → ox ≡ outer_x q (p % n) → oy ≡ outer_y q (p % n) → sx ≡ inward q ox → sy ≡ inward q oy → rx ≡ coordinate sx → ry ≡ coordinate sy
    → ◌≡◌ {A = Cell} (record { x = to_z w32 (of_z w32 rx); y = to_z w32 (of_z w32 ry) }) (inner_cell v p)
unfolding inner_cell
inner-is v p n q ox oy sx sy rx ry en eq hv hx hy ex ey esx esy erx ery =
    let k = p % positions_of v in
    let x1 : ox ≡ outer_x (quarter_of v) k = ex ∙ ap (λ (m : ℕ). outer_x m (p % n)) eq ∙ ap (λ (m : ℕ). outer_x (quarter_of v) (p % m)) en in
    let y1 : oy ≡ outer_y (quarter_of v) k = ey ∙ ap (λ (m : ℕ). outer_y m (p % n)) eq ∙ ap (λ (m : ℕ). outer_y (quarter_of v) (p % m)) en in
    let x2 : sx ≡ inward (quarter_of v) (outer_x (quarter_of v) k) =
    esx ∙ ap (λ (m : ℕ). inward m ox) eq ∙ ap (λ (m : ℕ). inward (quarter_of v) m) x1 in
    let y2 : sy ≡ inward (quarter_of v) (outer_y (quarter_of v) k) =
    esy ∙ ap (λ (m : ℕ). inward m oy) eq ∙ ap (λ (m : ℕ). inward (quarter_of v) m) y1 in
    pair _ _ _ _ (low_reads sx (inward (quarter_of v) (outer_x (quarter_of v) k)) rx (omega arith) erx x2)
    (low_reads sy (inward (quarter_of v) (outer_y (quarter_of v) k)) ry (omega arith) ery y2)

-- what calls give, as the machine reads their arguments back
pub shell-given : (s d : ℕ) (x y : ℤ) → InRange x → InRange y → d ≡ shell_of s (to_z w32 (of_z w32 x)) (to_z w32 (of_z w32 y))
    → d ≡ shell_of s x y
shell-given s d x y hx hy e = e ∙ ap (λ (z : ℤ). shell_of s z (to_z w32 (of_z w32 y))) (read x hx) ∙ ap (λ (z : ℤ). shell_of s x z) (read y hy)

pub edge-read : (s e : ℕ) (x y : ℤ) → InRange x → InRange y → e ≡ edge_of s (to_z w32 (of_z w32 x)) (to_z w32 (of_z w32 y)) → e ≡ edge_of s x y
edge-read s e x y hx hy p = p ∙ ap (λ (z : ℤ). edge_of s z (to_z w32 (of_z w32 y))) (read x hx) ∙ ap (λ (z : ℤ). edge_of s x z) (read y hy)

pub offset_read : (s : ℕ) (o x y : ℤ) → InRange x → InRange y → o ≡ offset_of s (to_z w32 (of_z w32 x)) (to_z w32 (of_z w32 y))
    → o ≡ offset_of s x y
offset_read s o x y hx hy p =
    p ∙ ap (λ (z : ℤ). offset_of s z (to_z w32 (of_z w32 y))) (read x hx) ∙ ap (λ (z : ℤ). offset_of s x z) (read y hy)
