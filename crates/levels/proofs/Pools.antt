-- The pool in two steps is the pool: least and greatest within 3 cells, and thresholds from pooled lists. Assumes nothing.
use mathlib.Core.Bool.{Bool, false, true}
use mathlib.Core.List.{List}
use mathlib.Core.Path.{◌∙◌, ◌≡◌, refl}
use Prim.Native.Nat.{◌%◌, ◌*◌, ◌+◌, ◌-◌, ◌/◌, ◌≤◌, ℕ}
use native.Mathlib.Omega.{arith}
use lib.ListN.{drop, get_or, length, length-drop, length-take, take}
use Rattle.laws.proofs.Folds.{fold-ext, fold-suc, get_or-written}
use Rattle.laws.proofs.Planes.{box_row-part, drawn-ext, part, plane-drawn}
use Rattle.laws.proofs.Writes.{written-ext}
use Rattle.laws.specs.Fold.{fold, written}
use Rattle.laws.specs.Plane.{Alike, Plane, value_at, box, drawn, plane, rowwise}
use Rattle.levels.specs.Level.{from3, least_near, many3, most_near, sharp}
use Rattle.levels.specs.Inner.{pooled_across, column_extreme, pooled_down, pool_step, pairwise, pooled, unit}

pub column-none : (most : Bool) (g : Plane) (x y0 : ℕ) → column_extreme most g x y0 0 ≡ unit most
unfolding column_extreme fold
column-none most g x y0 = refl

pub column-more : (most : Bool) (g : Plane) (x y0 j : ℕ) → column_extreme most g x y0 (j + 1) ≡ pool_step most (column_extreme most g x y0 j) (g x (y0 + j))
unfolding column_extreme
column-more most g x y0 j = rw fold-suc

-- the part of row y within 3 of x
pub across-part : (most : Bool) (s : List ℕ) (w x y a e : ℕ) → a ≡ y * w + from3 x → e ≡ a + many3 w x → e ≤ length s
    → fold (pool_step most) (unit most) (length (part a e s)) (value_at (part a e s)) ≡ pooled_across most w (plane w s) x y
unfolding pooled_across
across-part most s w x y a e ea ee l =
    let n : e - a ≡ many3 w x = omega arith in
    let m : length (take (many3 w x) (drop a s)) ≡ many3 w x = simp (length-take, length-drop) (omega arith) in
    rw (n, m, ea) (box_row-part (pool_step most) (unit most) s w (from3 x) y (many3 w x))

pub two-least : (w h : ℕ) (g : Plane) (x y : ℕ) → pooled_down false h (pooled_across false w g) x y ≡ least_near w h g x y
unfolding pooled_down column_extreme pooled_across least_near box
two-least w h g x y = refl

pub two-most : (w h : ℕ) (g : Plane) (x y : ℕ) → pooled_down true h (pooled_across true w g) x y ≡ most_near w h g x y
unfolding pooled_down column_extreme pooled_across most_near box
two-most w h g x y = refl

pub down-ext : (most : Bool) (w h : ℕ) (f g : Plane) → Alike w h f g → Alike w h (pooled_down most h f) (pooled_down most h g)
unfolding pooled_down column_extreme
down-ext most w h f g same x y lx ly =
    fold-ext (pool_step most) (unit most) (many3 h y) (λ j. f x (from3 y + j)) (λ j. g x (from3 y + j))
    (λ j l. same x (from3 y + j) lx (omega arith))

-- a list pooled across into mid, and down into itself
pub pooled-drawn : (most : Bool) (w h : ℕ) (s old mid last : List ℕ) → mid ≡ drawn w h (pooled_across most w (plane w s)) old
    → last ≡ drawn w h (pooled_down most h (plane w mid)) s → last ≡ drawn w h (pooled most w h (plane w s)) s
unfolding pooled
pooled-drawn most w h s old mid last em el =
    el ∙ drawn-ext w h (pooled_down most h (plane w mid)) (pooled_down most h (pooled_across most w (plane w s))) s
    (down-ext most w h (plane w mid) (pooled_across most w (plane w s))
    (λ x y lx ly. rw em (plane-drawn w h (pooled_across most w (plane w s)) old x y lx ly)))

-- thresholds of pooled lists, place by place
pub pairwise-drawn : (w h : ℕ) (d l d₀ l₀ ds ls old : List ℕ)
    → ds ≡ drawn w h (pooled false w h (plane w d)) d₀ → ls ≡ drawn w h (pooled true w h (plane w l)) l₀
    → written (w * h) (pairwise ds ls) old ≡ drawn w h (sharp w h (plane w d) (plane w l)) old
unfolding sharp pooled
pairwise-drawn w h d l d₀ l₀ ds ls old ed el =
    written-ext (w * h) (pairwise ds ls) (rowwise w (sharp w h (plane w d) (plane w l))) old
    (λ k lk.
    let x = k % w in
    let y = k / w in
    let p : get_or ds k 0 ≡ least_near w h (plane w d) x y =
    rw ed (get_or-written (w * h) (rowwise w (pooled false w h (plane w d))) d₀ k 0 lk) ∙ two-least w h (plane w d) x y in
    let q : get_or ls k 0 ≡ most_near w h (plane w l) x y =
    rw el (get_or-written (w * h) (rowwise w (pooled true w h (plane w l))) l₀ k 0 lk) ∙ two-most w h (plane w l) x y in
    rw (p, q))
