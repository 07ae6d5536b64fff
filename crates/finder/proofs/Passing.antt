-- The finder's checks and its answer: then-first, then_next, of a check that follows others; Passed, passed, what an accepted call knows;
-- picture-accepted, picture-taken, the picture door's answer in it; given_is, refused-is.
--     a check that follows others: then-first, then_next, refuse-not, refuse-on, find-grids, find-short, find-version, find_none
--     what an accepted call knows: Passed, passed, picture-accepted, picture-taken
--     the answer: given-none, given_is, refused-is
--     the lent lists: refused-levels, refused-labels, refused-stack, given-past
-- Assumes nothing.
use mathlib.Core.Path.{◌≡◌, refl, sym, ap, ◌∙◌}
use mathlib.Core.Bool.{Bool, true, false}
use mathlib.Core.List.{List}
use Prim.Native.Nat.{ℕ, zero, suc, ◌*◌, ◌≤◌}
use native.Mathlib.Omega.{arith}
use lib.Dec.{leb, eqb}
use lib.ListN.{length}
use lib.Ieee.{Float}
use borrow.Author.Tests.{leb-true, eqb-true, ne_eqb}
use Rattle.std.specs.Prelude.{Result, Ok, Err}
use Rattle.laws.specs.Check.{or_refuse}
use Rattle.laws.specs.Plane.{plane}
use Rattle.laws.specs.Lent.{UntouchedPast}
use Rattle.laws.specs.Said.{Said, refuse, give}
use Rattle.refusal.specs.Numbers.{said}
use Rattle.refusal.specs.declared.Refusal.{Refusal}
use Rattle.laws.proofs.Bools.{and_left, and_right}
use Rattle.picture_checks.specs.Picture.{is_side}
use Rattle.picture_checks.proofs.Checked.{check-step, side-in}
use Rattle.lcr_core.specs.Version.{is_version}
use Rattle.levels.specs.Level.{cells}
use Rattle.labels.specs.Cells.{cells_of, groups_of}
use Rattle.picture.specs.Door.{check_grids, picture_answer, levels_after, labels_after, StackAfter}
use Rattle.regions.specs.Regions.{kept_regions}
use Rattle.picture.specs.Door as door
use Rattle.regions.specs.declared.answer.Kept.{Kept}
use Rattle.ring.specs.Checks.{has_room}
use Rattle.ring.proofs.Passing.{room_in, version-in}
use Rattle.ring.specs.declared.quads.Trace.{Trace}
use Rattle.region_outline.specs.Region.{need_of}
use Rattle.finder.specs.declared.Found.{Found}
use Rattle.finder.specs.Find.{has_rooms, then_check, check_find, answer_by, trace_of, needed_of}

-- ---- a check that follows others
pub then-first : (n m rest : ℕ) → n ≡ m → (n ≡ 0 → ⊥) → n ≡ then_check m rest
then-first n zero rest e z = absurd (z e)
then-first n (suc m) rest e z = e

pub then_next : (n m rest r : ℕ) → n ≡ m → n ≡ 0 → r ≡ rest → r ≡ then_check m rest
then_next n m rest r e z er = er ∙ ap (λ (k : ℕ). then_check k rest) (sym z ∙ e)

then-zero : (m rest : ℕ) → then_check m rest ≡ 0 → (m ≡ 0) × (rest ≡ 0)
then-zero zero rest e = (refl, e)
then-zero (suc m) rest e = absurd (omega arith)

pub refuse-not : (b : Bool) (n rest : ℕ) → b ≡ false → n ≡ or_refuse b n rest
refuse-not b n rest e = sym (ap (λ (b : Bool). or_refuse b n rest) e)

pub refuse-on : (b : Bool) (n rest r : ℕ) → b ≡ true → r ≡ rest → r ≡ or_refuse b n rest
refuse-on b n rest r e er = er ∙ sym (ap (λ (b : Bool). or_refuse b n rest) e)

module _ (w h bytes levels labels stack a b c d most : ℕ) (n : ℕ) (e : n ≡ check_grids w h bytes levels labels stack) where
  pub find-grids : (n ≡ 0 → ⊥) → n ≡ check_find w h bytes levels labels stack a b c d most
  find-grids z = then-first n (check_grids w h bytes levels labels stack) _ e z

  module _ (z : n ≡ 0) (r : Bool) (er : r ≡ has_rooms (need_of w h) a b c d) where
    pub find-short : r ≡ false → 3 ≡ check_find w h bytes levels labels stack a b c d most
    find-short t =
        then_next n (check_grids w h bytes levels labels stack) _ 3 e z
        (refuse-not (has_rooms (need_of w h) a b c d) 3 (or_refuse (is_version most) 8 0) (sym er ∙ t))

    module _ (t : r ≡ true) (v : Bool) (ev : v ≡ is_version most) where
      find-rest : (m : ℕ) → m ≡ or_refuse (is_version most) 8 0 → m ≡ check_find w h bytes levels labels stack a b c d most
      find-rest m em =
          then_next n (check_grids w h bytes levels labels stack) _ m e z
          (refuse-on (has_rooms (need_of w h) a b c d) 3 (or_refuse (is_version most) 8 0) m (sym er ∙ t) em)

      pub find-version : v ≡ false → 8 ≡ check_find w h bytes levels labels stack a b c d most
      find-version x = find-rest 8 (refuse-not (is_version most) 8 0 (sym ev ∙ x))

      pub find_none : v ≡ true → 0 ≡ check_find w h bytes levels labels stack a b c d most
      find_none x = find-rest 0 (refuse-on (is_version most) 8 0 0 (sym ev ∙ x) refl)

-- ---- what an accepted call knows
pub record Passed (w h bytes levels labels stack a b c d most : ℕ) : Type 0 where
  pub wide : (1 ≤ w) × (w ≤ 4096)
  pub high : (1 ≤ h) × (h ≤ 4096)
  pub whole : bytes ≡ w * h
  pub grids : check_grids w h bytes levels labels stack ≡ 0
  pub level_room : cells w * cells h ≤ levels
  pub label_room : cells_of w h ≤ labels
  pub room : (need_of w h ≤ a) × (need_of w h ≤ b) × (need_of w h ≤ c) × (need_of w h ≤ d)
  pub version : most ≤ 64

pub passed : (w h bytes levels labels stack a b c d most : ℕ) → check_find w h bytes levels labels stack a b c d most ≡ 0
    → Passed w h bytes levels labels stack a b c d most
passed w h bytes levels labels stack a b c d most e =
    let z = then-zero (check_grids w h bytes levels labels stack) _ e in
    let p = check-step (is_side w) 1 _ (lib.Dec.lit< tt) z.0 in
    let q = check-step (is_side h) 1 _ (lib.Dec.lit< tt) p.1 in
    let r = check-step (eqb bytes (w * h)) 2 _ (lib.Dec.lit< tt) q.1 in
    let x = check-step (leb (cells w * cells h) levels) 3 _ (lib.Dec.lit< tt) r.1 in
    let y = check-step (leb (cells_of w h) labels) 3 _ (lib.Dec.lit< tt) x.1 in
    let t = check-step (has_rooms (need_of w h) a b c d) 3 _ (lib.Dec.lit< tt) z.1 in
    let u = check-step (is_version most) 8 _ (lib.Dec.lit< tt) t.1 in
    let n = room_in (need_of w h) b c d (and_right (leb (need_of w h) a) (has_room (need_of w h) b c d) t.0) in
    record {
      wide = side-in w p.0;
      high = side-in h q.0;
      whole = eqb-true bytes (w * h) r.0;
      grids = z.0;
      level_room = leb-true (cells w * cells h) levels x.0;
      label_room = leb-true (cells_of w h) labels y.0;
      room = (leb-true (need_of w h) a (and_left (leb (need_of w h) a) (has_room (need_of w h) b c d) t.0), n.0, n.1, n.2);
      version = version-in most u.0;
    }

-- the picture door's answer in an accepted call
accepted : (n : ℕ) (k : Kept) (r : Result Kept Refusal) → said r ≡ door.answer_by n k → n ≡ 0 → r ≡ Ok k
accepted zero k (Ok a) e z = cc
accepted zero k (Err x) e z = cc
accepted (suc n) k r e z = cc

pub picture-accepted : (s : List ℕ) (w h levels labels stack : ℕ) (r : Result Kept Refusal)
    → said r ≡ picture_answer s w h levels labels stack → check_grids w h (length s) levels labels stack ≡ 0
    → r ≡ Ok (kept_regions (plane w s) w h)
picture-accepted s w h levels labels stack r e z =
    accepted (check_grids w h (length s) levels labels stack) (kept_regions (plane w s) w h) r e z

-- the regions that it gives
taken : (k : Kept) (n : ℕ) (r : Kept) → give k ≡ door.answer_by n r → k ≡ r
taken k zero r e = cc
taken k (suc n) r e = cc

pub picture-taken : (s : List ℕ) (w h levels labels stack : ℕ) (k : Kept) → give k ≡ picture_answer s w h levels labels stack
    → k ≡ kept_regions (plane w s) w h
picture-taken s w h levels labels stack k e =
    taken k (check_grids w h (length s) levels labels stack) (kept_regions (plane w s) w h) e

-- ---- the answer
-- where the picture is made ready, no check refuses
pub given-none : (n : ℕ) (k r : Kept) → give k ≡ door.answer_by n r → n ≡ 0
given-none zero k r e = refl
given-none (suc n) k r e = cc

abbrev pub found : ℕ → Trace → Said Found
found m t = give (record { regions = m; trace = t })

module _ (gray : List ℕ) (w h most : ℕ) where
  pub given_is : (n m : ℕ) (t : Trace) → n ≡ 0 → m ≡ groups_of (plane w gray) w h → t ≡ trace_of gray w h most
      → found m t ≡ answer_by n gray w h most
  unfolding answer_by
  given_is n m t z em e =
      ap (λ (m : ℕ). found m t) em
      ∙ ap (λ (t : Trace). found (groups_of (plane w gray) w h) t) e
      ∙ sym (ap (λ (n : ℕ). answer_by n gray w h most) z)

  pub refused-is : (n m : ℕ) (k : Kept) → refuse n ≡ door.answer_by m k → refuse n ≡ answer_by m gray w h most
  unfolding answer_by
  refused-is n zero k e = cc
  refused-is n (suc m) k e = cc

-- ---- the lent lists
module _ (s old : List ℕ) (w h n : ℕ) (some : n ≡ 0 → ⊥) where
  pub refused-levels : old ≡ levels_after n s w h old
  refused-levels = rw (ne_eqb n 0 some)

  pub refused-labels : old ≡ labels_after n s w h old
  refused-labels = rw (ne_eqb n 0 some)

  pub refused-stack : StackAfter n w h old old
  refused-stack = rw (ne_eqb n 0 some)

pub given-past : {A : Type 0} (a : A) (n : ℕ) {old new : List Float} → UntouchedPast n old new
    → UntouchedPast (needed_of (give a) n) old new
unfolding needed_of
given-past a n p = p
