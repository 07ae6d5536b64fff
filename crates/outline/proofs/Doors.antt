-- Laws of the outline door: part_in, fit-in; what an accepted call knows, Passed with passed; points-le; done-answer,
-- done-list, refused-answer, refused-list. Assumes nothing.
use mathlib.Core.Path.{◌≡◌, refl, ap}
use mathlib.Core.Bool.{Bool, true}
use mathlib.Core.List.{List}
use Prim.Native.Nat.{ℕ, zero, suc, ◌+◌, ◌-◌, ◌*◌, ◌/◌, ◌≤◌, ◌<◌}
use native.Mathlib.Omega.{arith}
use lib.Dec.{leb, ltb, eqb}
use lib.ListN.{length, length-append}
use lib.Ieee.{Float}
use borrow.Author.Tests.{ltb-true, leb-true, eqb-true}
use Rattle.laws.specs.Move.{Box}
use Rattle.laws.proofs.Bools.{and_left, and_right}
use Rattle.picture_checks.specs.Picture.{is_side}
use Rattle.picture_checks.proofs.Checked.{check-step, side-in}
use Rattle.levels.specs.Level.{cells}
use Rattle.labels.specs.Cells.{cells8}
use Rattle.boundary.specs.Boundary.{rows_from, columns_from, boundary}
use Rattle.outline.specs.Door.{is_part, grids_fit, check_outline, list_after}
use Rattle.outline.specs.Inner.{Grids, Wrote}
use Rattle.laws.specs.Said.{refuse, give}
use Rattle.refusal.specs.declared.Refusal.{Refusal}
use Rattle.refusal.specs.Numbers.{number_of, answered}
use Rattle.refusal.proofs.Numbers.{number-none}
use Rattle.outline.proofs.Writes.{rows-le, columns-le, wrote-next, wrote-laid}

pub part_in : (a e n : ℕ) → is_part a e n ≡ true → (a < e) × (e ≤ n)
part_in a e n t = (ltb-true a e (and_left (ltb a e) (leb e n) t), leb-true e n (and_right (ltb a e) (leb e n) t))

pub fit-in : (w h levels labels : ℕ) → grids_fit w h levels labels ≡ true → (cells w * cells h ≤ levels) × (cells8 w * cells8 h ≤ labels)
fit-in w h levels labels t = (
  leb-true (cells w * cells h) levels (and_left (leb (cells w * cells h) levels) (leb (cells8 w * cells8 h) labels) t),
  leb-true (cells8 w * cells8 h) labels (and_right (leb (cells w * cells h) levels) (leb (cells8 w * cells8 h) labels) t),
)

-- what an accepted call knows
pub record Passed (w h bytes : ℕ) (b : Box) (levels labels room : ℕ) : Type 0 where
  pub wide : w ≤ 4096
  pub high : h ≤ 4096
  pub whole : bytes ≡ w * h
  pub across : b.x0 < b.x1
  pub right : b.x1 ≤ w
  pub down : b.y0 < b.y1
  pub bottom : b.y1 ≤ h
  pub level_room : cells w * cells h ≤ levels
  pub region_room : cells8 w * cells8 h ≤ labels
  pub list_room : 4 * (b.x1 - b.x0 + (b.y1 - b.y0)) ≤ room

pub passed : (w h bytes : ℕ) (b : Box) (levels labels room : ℕ) → check_outline w h bytes b levels labels room ≡ 0
    → Passed w h bytes b levels labels room
passed w h bytes b levels labels room e =
    let tall = check-step (is_side w) 1 _ (lib.Dec.lit< tt) e in
    let lent = check-step (is_side h) 1 _ (lib.Dec.lit< tt) tall.1 in
    let part = check-step (eqb bytes (w * h)) 2 _ (lib.Dec.lit< tt) lent.1 in
    let columns = check-step (is_part b.x0 b.x1 w) 5 _ (lib.Dec.lit< tt) part.1 in
    let rows = check-step (is_part b.y0 b.y1 h) 5 _ (lib.Dec.lit< tt) columns.1 in
    let grids = check-step (grids_fit w h levels labels) 3 _ (lib.Dec.lit< tt) rows.1 in
    let list = check-step (leb (4 * (b.x1 - b.x0 + (b.y1 - b.y0))) room) 3 _ (lib.Dec.lit< tt) grids.1 in
    record {
      wide = (side-in w tall.0).1;
      high = (side-in h lent.0).1;
      whole = eqb-true bytes (w * h) part.0;
      across = (part_in b.x0 b.x1 w columns.0).0;
      right = (part_in b.x0 b.x1 w columns.0).1;
      down = (part_in b.y0 b.y1 h rows.0).0;
      bottom = (part_in b.y0 b.y1 h rows.0).1;
      level_room = (fit-in w h levels labels grids.0).0;
      region_room = (fit-in w h levels labels grids.0).1;
      list_room = leb-true _ room list.0;
    }

pub passed-grids : {w h bytes room : ℕ} {b : Box} (levels labels : List ℕ)
    → Passed w h bytes b (length levels) (length labels) room → Grids levels labels w h
passed-grids levels labels p = record { wide = p.wide; high = p.high; level_room = p.level_room; region_room = p.region_room }

-- two points a line
pub points-le : (k : ℕ) (t : ℕ → ℕ → Bool) (b : Box) → length (boundary k t b) ≤ 2 * (b.x1 - b.x0 + (b.y1 - b.y0))
unfolding boundary
points-le k t b =
    rw (length-append (rows_from k t b.x0 (b.x1 - b.x0) b.y0 (b.y1 - b.y0))
    (columns_from k t b.y0 (b.y1 - b.y0) b.x0 (b.x1 - b.x0)))
    (sum (b.x1 - b.x0) (b.y1 - b.y0) (rows-le k t b.x0 (b.x1 - b.x0) b.y0 (b.y1 - b.y0))
    (columns-le k t b.y0 (b.y1 - b.y0) b.x0 (b.x1 - b.x0)))
  where
    sum : {a c : ℕ} (n m : ℕ) → a ≤ 2 * m → c ≤ 2 * n → a + c ≤ 2 * (n + m)
    sum n m h k = omega arith

-- ---- the answer and the list
module _ {ps : List (ℕ × ℕ)} {l l' : List Float} {r : ℕ} (n : ℕ) (z : n ≡ 0) (w : Wrote 0 ps l l' r) where
  pub done-answer : give (r / 2) ≡ answered n (length ps)
  unfolding answered
  done-answer = let e : r / 2 ≡ length ps = omega (arith, wrote-next w) in rw (z, e)

  pub done-list : 2 * length ps ≤ length l → l' ≡ list_after n ps l
  unfolding list_after
  done-list fit = rw z (wrote-laid w fit)

module _ (r : Refusal) (n : ℕ) (e : number_of r ≡ n) where
  pub refused-answer : (p : ℕ) → refuse (number_of r) ≡ answered n p
  unfolding answered
  refused-answer p = go n e
    where
      go : (m : ℕ) → number_of r ≡ m → refuse (number_of r) ≡ answered m p
      go zero z = absurd (number-none r z)
      go (suc m) z = ap refuse z

  pub refused-list : (ps : List (ℕ × ℕ)) (l : List Float) → l ≡ list_after n ps l
  unfolding list_after
  refused-list ps l = go n e
    where
      go : (m : ℕ) → number_of r ≡ m → l ≡ list_after m ps l
      go zero z = absurd (number-none r z)
      go (suc m) z = refl
