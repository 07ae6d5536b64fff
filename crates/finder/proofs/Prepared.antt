-- The picture made ready: prepared-refused, prepared-given of the answer; ready of what an accepted call knows; ready-roomy of its lists.
-- Assumes nothing.
use mathlib.Core.Path.{◌≡◌, sym, ap, ◌∙◌}
use mathlib.Core.List.{List}
use Prim.Native.Nat.{ℕ, zero, suc, ◌*◌, ◌≤◌}
use native.Mathlib.Omega.{arith}
use lib.ListN.{length}
use lib.Ieee.{Float}
use Rattle.std.proofs.Common.{Result, Ok}
use Rattle.laws.specs.Said.{Said, refuse}
use Rattle.refusal.specs.Numbers.{number_in, said}
use Rattle.refusal.specs.declared.Refusal.{Refusal}
use Rattle.levels.specs.Level.{cells}
use Rattle.labels.specs.Cells.{cells_of}
use Rattle.picture.specs.Door.{picture_answer, levels_after, labels_after}
use Rattle.picture.specs.Door as door
use Rattle.regions.specs.declared.answer.Kept.{Kept}
use Rattle.region_outline.specs.Region.{need_of}
use Rattle.finder.specs.declared.refusals.Rooms.{Rooms}
use Rattle.finder.specs.Find.{check_find}
use Rattle.finder.specs.Inner.{Roomy, FinderReady}
use Rattle.finder.proofs.Passing.{passed, picture-taken}
use Rattle.region_outline.proofs.Points.{gridded}

-- ---- the answer
pub prepared-refused : (n m : ℕ) (k : Kept) → n ≡ m → (n ≡ 0 → ⊥) → refuse n ≡ door.answer_by m k
prepared-refused n zero k e some = absurd (some e)
prepared-refused n (suc m) k e some = ap refuse e

pub prepared-given : (n m : ℕ) (k : Kept) (r : Said Kept) → r ≡ door.answer_by n k → n ≡ 0 → m ≡ 0 → r ≡ door.answer_by m k
prepared-given n m k r e zn zm =
    e ∙ ap (λ (n : ℕ). door.answer_by n k) zn ∙ sym (ap (λ (m : ℕ). door.answer_by m k) zm)

-- ---- what an accepted call knows
module _ (s old₁ old₂ levels labels : List ℕ) (w h stack most : ℕ) (l : Rooms)
    (r : Result Kept Refusal) (e : said r ≡ picture_answer s w h (length old₁) (length old₂) stack)
    (z : check_find w h (length s) (length old₁) (length old₂) stack l.points l.straight l.cand l.buf most ≡ 0)
    (a : length levels ≡ length old₁) (b : length labels ≡ length old₂) (el : levels ≡ levels_after (number_in r) s w h old₁)
    (em : labels ≡ labels_after (number_in r) s w h old₂) where
  pub ready : (k : Kept) → r ≡ Ok k → FinderReady s w h most levels labels k l
  ready k is =
      let p = passed w h (length s) (length old₁) (length old₂) stack l.points l.straight l.cand l.buf most z in
      let x : cells w * cells h ≤ length levels = omega (arith, a, p.level_room) in
      let y : cells_of w h ≤ length labels = omega (arith, b, p.label_room) in
      record {
        photo = record { wide = p.wide; high = p.high; bytes = p.whole };
        grids = gridded s w h (number_in r) old₁ old₂ levels labels (ap (λ (r : Result Kept Refusal). number_in r) is) x y el em;
        kept = picture-taken s w h (length old₁) (length old₂) stack k (ap (λ (r : Result Kept Refusal). said r) (sym is) ∙ e);
        version = p.version;
        room = p.room;
      }

pub ready-roomy : (s levels labels : List ℕ) (w h most : ℕ) (k : Kept) (l : Rooms) (a b c d : List Float)
    → FinderReady s w h most levels labels k l → l.points ≡ length a → l.straight ≡ length b → l.cand ≡ length c → l.buf ≡ length d
    → Roomy (need_of w h) a b c d
ready-roomy s levels labels w h most k l a b c d q ea eb ec ed = record {
  first = omega (arith, q.room.0, ea);
  second = omega (arith, q.room.1, eb);
  third = omega (arith, q.room.2, ec);
  fourth = omega (arith, q.room.3, ed);
}
