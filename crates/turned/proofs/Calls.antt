-- What an accepted call of the picture door and of the outline door leaves and answers, by the contracts' definitions.
--     none-refused                  regions were answered only where no check refuses
--     regions-is, grid-at, label-at the regions answered, and the thresholds and labels left
--     grid-room, label-room         the lists left have a place for each cell
--     region-is                     the i-th region answered
--     points-is, listed-is          the points of the outline door for that region, and the numbers listed
-- Assumes nothing.
use mathlib.Core.Path.{◌≡◌, refl, sym, ap, ap₂, ◌∙◌, subst}
use mathlib.Core.List.{List}
use Prim.Native.Nat.{ℕ, zero, suc, ◌*◌, ◌<◌, ◌≤◌}
use native.Mathlib.Omega.{arith}
use native.Mathlib.Nat.{mul_comm}
use lib.Dec.{leb, eqb, lit<}
use borrow.Author.Tests.{lt-ltb, leb-true}
use lib.Ieee.{Float}
use lib.ListN.{length, get_or, drop}
use lib.Seq.{take_at}
use Rattle.hull.proofs.Floats.{length-floats}
use Rattle.laws.specs.Plane.{Plane, plane, drawn, rowwise, Alike}
use Rattle.laws.proofs.Folds.{length-written}
use Rattle.laws.proofs.Planes.{plane-drawn}
use Rattle.levels.specs.Level.{cells, level}
use Rattle.labels.specs.Cells.{cells8, cells_of, label_at}
use Rattle.regions.specs.Kept.{kept_of, kept_count, kept_label}
use Rattle.regions.specs.Boxes.{region_box}
use Rattle.picture_checks.specs.Picture.{is_side}
use Rattle.picture_checks.proofs.Checked.{check-step}
use Rattle.regions.specs.Regions.{no_region, region, region_at, kept_regions}
use Rattle.picture.specs.Door.{check_grids, answer_by, levels_after, labels_after}
use Rattle.regions.specs.declared.answer.Kept.{Kept}
use Rattle.std.proofs.Common.{Result, Ok}
use Rattle.laws.specs.Said.{give}
use Rattle.refusal.specs.declared.Refusal.{Refusal}
use Rattle.refusal.specs.Numbers.{number_in, said, answered}
use Rattle.refusal.proofs.Numbers.{said-give}
use Rattle.regions.specs.declared.answer.Region.{Region}
use Rattle.laws.specs.Lent.{laid}
use Rattle.hull.specs.Points.{floats_of}
use Rattle.boundary.specs.Boundary.{member_of, is_member, member_at, outline_of}
use Rattle.boundary.proofs.Boundary.{Within, boundary-same}
use Rattle.boundary.proofs.Members.{member-lists}
use Rattle.outline.specs.Door.{door_points, list_after}
use Rattle.turned.specs.Calls.{Pictured, region_of, points_for, Outlined, numbers_listed}

-- ---- the picture door

none-refused : (n : ℕ) (k l : Kept) → answer_by n k ≡ give l → (n ≡ 0) × (k ≡ l)
none-refused zero k l e = (refl, cc)
none-refused (suc n) k l e = cc

-- what the checks say of the lent lists where none refuses
fits : (w h bytes grid labels stack : ℕ) → check_grids w h bytes grid labels stack ≡ 0 → (cells w * cells h ≤ grid) × (cells_of w h ≤ labels)
fits w h bytes grid labels stack e =
    let tall = check-step (is_side w) 1 _ (lit< tt) e in
    let whole = check-step (is_side h) 1 _ (lit< tt) tall.1 in
    let lists = check-step (eqb bytes (w * h)) 2 _ (lit< tt) whole.1 in
    let a = check-step (leb (cells w * cells h) grid) 3 _ (lit< tt) lists.1 in
    let b = check-step (leb (cells_of w h) labels) 3 _ (lit< tt) a.1 in
    (leb-true (cells w * cells h) grid a.0, leb-true (cells_of w h) labels b.0)

module _ (s : List ℕ) (w h : ℕ) (c : Pictured s w h) where
  abbrev number : ℕ
  number = check_grids w h (length s) (length c.lent-grid) (length c.lent-labels) (length c.lent-stack)

  given : answer_by number (kept_regions (plane w s) w h) ≡ give c.regions
  given = sym c.answer-is ∙ ap said c.accepted

  accepted : number_in c.answer ≡ 0
  accepted = ap number_in c.accepted

  pub regions-is : c.regions ≡ kept_regions (plane w s) w h
  regions-is = sym (none-refused number (kept_regions (plane w s) w h) c.regions given).1

  grid-is : c.grid ≡ drawn (cells w) (cells h) (level (plane w s) w h) c.lent-grid
  grid-is = c.grid-is ∙ ap (λ (n : ℕ). levels_after n s w h c.lent-grid) accepted

  labels-is : c.labels ≡ drawn (cells8 w) (cells8 h) (label_at (plane w s) w h) c.lent-labels
  labels-is = c.labels-is ∙ ap (λ (n : ℕ). labels_after n s w h c.lent-labels) accepted

  room : (cells w * cells h ≤ length c.lent-grid) × (cells_of w h ≤ length c.lent-labels)
  room =
      fits w h (length s) (length c.lent-grid) (length c.lent-labels) (length c.lent-stack)
      (none-refused number (kept_regions (plane w s) w h) c.regions given).0

  -- the lists left have a place for each cell
  pub grid-room : cells w * cells h ≤ length c.grid
  grid-room =
      let e = ap length grid-is ∙ length-written (cells w * cells h) (rowwise (cells w) (level (plane w s) w h)) c.lent-grid room.0 in
      let r = room.0 in
      omega arith

  pub label-room : cells8 w * cells8 h ≤ length c.labels
  label-room =
      let m : cells8 h * cells8 w ≡ cells8 w * cells8 h = mul_comm (cells8 h) (cells8 w) in
      let r : cells8 w * cells8 h ≤ length c.lent-labels = subst (λ (n : ℕ). n ≤ length c.lent-labels) m room.1 in
      let e = ap length labels-is
      ∙ length-written (cells8 w * cells8 h) (rowwise (cells8 w) (label_at (plane w s) w h)) c.lent-labels r in
      omega arith

  pub grid-at : Alike (cells w) (cells h) (plane (cells w) c.grid) (level (plane w s) w h)
  grid-at x y lx ly =
      ap (λ (l : List ℕ). plane (cells w) l x y) grid-is
      ∙ plane-drawn (cells w) (cells h) (level (plane w s) w h) c.lent-grid x y lx ly

  pub label-at : Alike (cells8 w) (cells8 h) (plane (cells8 w) c.labels) (label_at (plane w s) w h)
  label-at x y lx ly =
      ap (λ (l : List ℕ). plane (cells8 w) l x y) labels-is
      ∙ plane-drawn (cells8 w) (cells8 h) (label_at (plane w s) w h) c.lent-labels x y lx ly

-- ---- the regions answered

kept-few : (p : Plane) (w h : ℕ) → kept_count p w h ≤ 4
unfolding kept_count kept_of
kept-few p w h = omega arith

region-there : (p : Plane) (w h i : ℕ) → i < kept_count p w h → region_at p w h i ≡ region p w h i
unfolding region_at
region-there p w h i l = rw (lt-ltb i (kept_count p w h) l)

region-listed : (p : Plane) (w h i : ℕ) → i < kept_count p w h → get_or (kept_regions p w h).list i no_region ≡ region p w h i
unfolding kept_regions
region-listed p w h zero l = region-there p w h 0 l
region-listed p w h (suc zero) l = region-there p w h 1 l
region-listed p w h (suc (suc zero)) l = region-there p w h 2 l
region-listed p w h (suc (suc (suc zero))) l = region-there p w h 3 l
region-listed p w h (suc (suc (suc (suc i)))) l = absurd (let f = kept-few p w h in omega arith)

pub region-is : (s : List ℕ) (w h : ℕ) (c : Pictured s w h) (i : ℕ) → i < kept_count (plane w s) w h
    → region_of s w h c i ≡ region (plane w s) w h i
region-is s w h c i l =
    ap (λ (k : Kept). get_or k.list i no_region) (regions-is s w h c) ∙ region-listed (plane w s) w h i l

-- ---- the outline door

pub points-is : (s : List ℕ) (w h : ℕ) (c : Pictured s w h) (i : ℕ) → i < kept_count (plane w s) w h
    → Within (region_box (plane w s) w h (kept_label (plane w s) w h i)) w h
    → points_for s w h c (region_of s w h c i) ≡ outline_of 4 (plane w s) w h (kept_label (plane w s) w h i)
points-is s w h c i l within =
    ap (points_for s w h c) (region-is s w h c i l)
    ∙ unfold door_points member_at outline_of region in
    boundary-same 4 w h (is_member (plane w s) w h (kept_label (plane w s) w h i))
    (member_of (kept_label (plane w s) w h i) (plane w s) (plane (cells w) c.grid) (plane (cells8 w) c.labels)) (region_box (plane w s) w h (kept_label (plane w s) w h i)) within
    (member-lists (plane w s) w h (kept_label (plane w s) w h i) (plane (cells w) c.grid) (plane (cells8 w) c.labels)
    (grid-at s w h c) (label-at s w h c))

module _ (s : List ℕ) (w h : ℕ) (c : Pictured s w h) (r : Region) (o : Outlined s w h c r) where
  abbrev P : List (ℕ × ℕ)
  P = points_for s w h c r

  answer-is : o.answer ≡ Ok (length P)
  unfolding answered
  answer-is = said-give o.answer (length P) (o.answer-is ∙ ap (λ (n : ℕ). answered n (length P)) o.accepted)

  list-is : o.list ≡ laid (floats_of P) o.lent
  unfolding list_after
  list-is = o.list-is ∙ ap (λ (n : ℕ). list_after n P o.lent) o.accepted

  pub listed-is : numbers_listed o.answer o.list ≡ floats_of P
  listed-is =
      ap₂ (λ (a : Result ℕ Refusal) (l : List Float). numbers_listed a l) answer-is list-is
      ∙ take_at (floats_of P) (drop (length (floats_of P)) o.lent) (2 * length P) (length-floats P)
