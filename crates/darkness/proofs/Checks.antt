-- The checks of boxes, and the lists where one refuses.
--     good-box                          the corners of a box that is not bad
--     some-bad, none-bad, bad-is        the count of bad boxes; box i by its numbers
--     table-refused, counts-refused     a refusal leaves the lists as they were
-- Assumes nothing.
use mathlib.Core.Bool.{Bool, false, true, ◌||◌}
use mathlib.Core.List.{List}
use mathlib.Core.Path.{◌≡◌, refl, sym}
use Prim.Native.Nat.{◌<◌, ◌≤◌, suc, zero, ℕ}
use native.Mathlib.Omega.{arith}
use lib.Dec.{eqb, ltb}
use borrow.Author.Tests.{eq-eqb, ltb-false, ne_eqb}
use Rattle.laws.proofs.Bools.{neither}
use Rattle.laws.proofs.Counts.{count_none, count-step}
use Rattle.laws.specs.Count.{count}
use Rattle.darkness.specs.Darkness.{box_number}
use Rattle.darkness.specs.Door.{is_bad_box, bad_box, counts_after, table_after}

-- ---- boxes
pub good-box : (w h x0 y0 x1 y1 : ℕ) → bad_box w h x0 y0 x1 y1 ≡ false → (x0 ≤ x1) × (y0 ≤ y1) × (x1 ≤ w) × (y1 ≤ h)
good-box w h x0 y0 x1 y1 e =
    let a = neither (ltb x1 x0) (ltb y1 y0 || (ltb w x1 || ltb h y1)) e in
    let b = neither (ltb y1 y0) (ltb w x1 || ltb h y1) a.1 in
    let c = neither (ltb w x1) (ltb h y1) b.1 in
    (ltb-false x1 x0 a.0, ltb-false y1 y0 b.0, ltb-false w x1 c.0, ltb-false h y1 c.1)

-- ---- the count of bad boxes
pub some-bad : (p : ℕ → Bool) (i n : ℕ) → i < n → p i ≡ true → false ≡ eqb (count p n) 0
some-bad p i n l e =
    let more : 0 < count p n = omega (arith, count-step p i n l e) in
    let z = ne_eqb (count p n) 0 (λ q. omega arith) in
    cc

pub none-bad : (p : ℕ → Bool) (n : ℕ) → ((i : ℕ) → i < n → p i ≡ false) → true ≡ eqb (count p n) 0
none-bad p n all = let z = eq-eqb (count p n) 0 (count_none p n all) in cc

-- box i by its numbers as they were read
pub bad-is : (w h : ℕ) (boxes : List ℕ) (i : ℕ) {x0 y0 x1 y1 : ℕ} {r : Bool} → (x0 ≡ box_number boxes i 0) × (y0 ≡ box_number boxes i 1)
    × (x1 ≡ box_number boxes i 2) × (y1 ≡ box_number boxes i 3) → r ≡ bad_box w h x0 y0 x1 y1 → is_bad_box w h boxes i ≡ r
unfolding is_bad_box
bad-is w h boxes i e is = rw (← e.0, ← e.1, ← e.2, ← e.3) (sym is)

-- ---- a refusal leaves the lists as they were
pub table-refused : (n : ℕ) (s levels : List ℕ) (w h : ℕ) (old : List ℕ) → (n ≡ 0 → ⊥) → old ≡ table_after n s levels w h old
unfolding table_after
table-refused zero s levels w h old some = absurd (some refl)
table-refused (suc n) s levels w h old some = refl

pub counts-refused : (n : ℕ) (s levels : List ℕ) (w : ℕ) (boxes old : List ℕ) → (n ≡ 0 → ⊥) → old ≡ counts_after n s levels w boxes old
unfolding counts_after
counts-refused zero s levels w boxes old some = absurd (some refl)
counts-refused (suc n) s levels w boxes old some = refl
