-- Laws of moves of marks: a move is a bijection of the positions, so every list of marks can be moved, in one way only.
--     mark-within           where a move puts a mark is a position
--     back-mark, mark-back  back_to undoes a move, and a move back_to
--     marks-moved           the list so moved;  marks-only  there is no other
--     marks-steps           one move after another
-- Assumes nothing.
use mathlib.Core.Path.{◌≡◌, sym, ap, ◌∙◌, subst}
use mathlib.Core.Bool.{Bool, false}
use mathlib.Core.List.{List}
use Prim.Native.Nat.{ℕ, zero, suc, ◌+◌, ◌*◌, ◌-◌, ◌/◌, ◌%◌, ◌<◌, ◌≤◌}
use native.Mathlib.Omega.{arith}
use native.Mathlib.Nat.{mod-lt, mod_self, mod-eq_of_lt, mod-add-mod, mod-add-div'}
use lib.ListN.{length, get_or}
use lib.Seq.{ext_get_or}
use Rattle.lcr_core.specs.Version.{quarter_of, positions_of}
use Rattle.marks.specs.Pose.{MarkMove, shift, reversal, followed, mark_to, MarksMoved}
use Rattle.marks.specs.Classify.{marks_of}
use Rattle.marks.proofs.MarkLists.{marks-length, marks-at}
use Rattle.marks.proofs.Poses.{mod_same, four}

-- the position whose mark a move puts at j
unfoldable pub back_to : ℕ → MarkMove → ℕ → ℕ
back_to v (shift k) j = (j + (4 - k % 4) * quarter_of v) % positions_of v
back_to v reversal j = (positions_of v - j) % positions_of v
back_to v (followed g h) j = back_to v g (back_to v h j)

pub mark-within : (v : ℕ) (g : MarkMove) (p : ℕ) → mark_to v g p < positions_of v
unfolding mark_to
mark-within v (shift k) p = mod-lt (p + k * quarter_of v) (omega arith)
mark-within v reversal p = mod-lt (positions_of v - p) (omega arith)
mark-within v (followed g h) p = mark-within v h (mark_to v g p)

back-within : (v : ℕ) (g : MarkMove) (j : ℕ) → back_to v g j < positions_of v
unfolding back_to
back-within v (shift k) j = mod-lt (j + (4 - k % 4) * quarter_of v) (omega arith)
back-within v reversal j = mod-lt (positions_of v - j) (omega arith)
back-within v (followed g h) j = back-within v g (back_to v h j)

-- two shifts that make whole rounds together
round-sum : (q k x : ℕ) → x + (4 - k % 4) * q + k * q ≡ x + (1 + k / 4) * (4 * q)
round-sum q k x = sum q k (k % 4) (k / 4) x (mod-add-div' k 4) (let l : k % 4 < 4 = mod-lt k (omega arith) in omega arith)
  where
    sum : (q k m d x : ℕ) → m + d * 4 ≡ k → m ≤ 4 → x + (4 - m) * q + k * q ≡ x + (1 + d) * (4 * q)
    sum q k m d x e l =
        let f : (m + d * 4) * q ≡ k * q = ap (λ (y : ℕ). y * q) e in
        let g : (4 - m + m) * q ≡ 4 * q = ap (λ (y : ℕ). y * q) (let z : 4 - m + m ≡ 4 = omega arith in z) in
        omega arith

whole-rounds : (v k x : ℕ) → x < positions_of v → (x + (4 - k % 4) * quarter_of v + k * quarter_of v) % positions_of v ≡ x
whole-rounds v k x below =
    subst (λ (n : ℕ). (x + (4 - k % 4) * quarter_of v + k * quarter_of v) % n ≡ x % n) (sym (four v))
    (mod_same (4 * quarter_of v) (x + (4 - k % 4) * quarter_of v + k * quarter_of v) x 0 (1 + k / 4) (only (round-sum (quarter_of v) k x)))
    ∙ mod-eq_of_lt below
  where
    only : x + (4 - k % 4) * quarter_of v + k * quarter_of v ≡ x + (1 + k / 4) * (4 * quarter_of v)
        → x + (4 - k % 4) * quarter_of v + k * quarter_of v + 0 * (4 * quarter_of v) ≡ x + (1 + k / 4) * (4 * quarter_of v)
    only e = omega arith

-- the reversal twice
twice : (n x : ℕ) → x < n → (n - (n - x) % n) % n ≡ x
twice n zero below =
    let z : n - 0 ≡ n = omega arith in
    ap (λ (y : ℕ). (n - y) % n) (ap (λ (y : ℕ). y % n) z ∙ mod_self n) ∙ ap (λ (y : ℕ). y % n) z ∙ mod_self n
twice n (suc x) below =
    let l : n - suc x < n = omega arith in
    let e : n - (n - suc x) ≡ suc x = omega arith in
    ap (λ (y : ℕ). (n - y) % n) (mod-eq_of_lt l) ∙ ap (λ (y : ℕ). y % n) e ∙ mod-eq_of_lt below

pub mark-back : (v : ℕ) (g : MarkMove) (j : ℕ) → j < positions_of v → mark_to v g (back_to v g j) ≡ j
unfolding mark_to back_to
mark-back v (shift k) j below =
    mod-add-mod (j + (4 - k % 4) * quarter_of v) (positions_of v) (k * quarter_of v) ∙ whole-rounds v k j below
mark-back v reversal j below = twice (positions_of v) j below
mark-back v (followed g h) j below =
    ap (mark_to v h) (mark-back v g (back_to v h j) (back-within v h j)) ∙ mark-back v h j below

pub back-mark : (v : ℕ) (g : MarkMove) (p : ℕ) → p < positions_of v → back_to v g (mark_to v g p) ≡ p
unfolding mark_to back_to
back-mark v (shift k) p below =
    let e : p + k * quarter_of v + (4 - k % 4) * quarter_of v ≡ p + (4 - k % 4) * quarter_of v + k * quarter_of v = omega arith in
    mod-add-mod (p + k * quarter_of v) (positions_of v) ((4 - k % 4) * quarter_of v) ∙ ap (λ (x : ℕ). x % positions_of v) e
    ∙ whole-rounds v k p below
back-mark v reversal p below = twice (positions_of v) p below
back-mark v (followed g h) p below =
    ap (back_to v g) (back-mark v h (mark_to v g p) (mark-within v g p)) ∙ back-mark v g p below

-- ---- lists

pub marks-moved : (v : ℕ) (g : MarkMove) (old : List Bool) → length old ≡ positions_of v → (new : List Bool) × MarksMoved v g old new
marks-moved v g old many = (
  marks_of (positions_of v) from,
  record {
    many = marks-length (positions_of v) from ∙ sym many;
    each = λ p below. marks-at (positions_of v) from (mark_to v g p) false (mark-within v g p)
        ∙ ap (λ (x : ℕ). get_or old x false) (back-mark v g p below);
  },
)
  where
    from : ℕ → Bool
    from j = get_or old (back_to v g j) false

pub marks-only : (v : ℕ) (g : MarkMove) (old new other : List Bool) → length old ≡ positions_of v
    → MarksMoved v g old new → MarksMoved v g old other → new ≡ other
marks-only v g old new other many m o =
    ext_get_or false new other (m.many ∙ sym o.many)
    (λ j below. at j (let e = m.many in omega arith))
  where
    at : (j : ℕ) → j < positions_of v → get_or new j false ≡ get_or other j false
    at j below =
        ap (λ (x : ℕ). get_or new x false) (sym (mark-back v g j below)) ∙ m.each (back_to v g j) (back-within v g j)
        ∙ sym (ap (λ (x : ℕ). get_or other x false) (sym (mark-back v g j below)) ∙ o.each (back_to v g j) (back-within v g j))

pub marks-steps : (v : ℕ) (g h : MarkMove) (old mid new : List Bool) → MarksMoved v g old mid → MarksMoved v h mid new
    → MarksMoved v (followed g h) old new
unfolding mark_to
marks-steps v g h old mid new first second =
    record {
      many = second.many ∙ first.many;
      each = λ p below. second.each (mark_to v g p) (mark-within v g p) ∙ first.each p below;
    }
