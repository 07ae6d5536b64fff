-- The labelling pushes each cell no more than once.
--     a state on the way: Pushing, pushing, each-once
--     the labelling is a way: groups-reached
--     a picture: picture-grid, marked-inked, picture-pushes
-- Assumes nothing.
use mathlib.Core.Bool.{cond}
use mathlib.Core.List.{List, [], ◌∷◌, Memᴰ}
use mathlib.Core.Path.{◌∙◌, ◌≡◌, ap, refl, sym}
use Prim.Native.Nat.{◌+◌, ◌<◌, ◌≤◌, suc, zero, ℕ}
use native.Mathlib.Omega.{arith}
use lib.ListN.{get_or, length}
use lib.Seq.{get_or-set_same}
use Rattle.laws.specs.Lists.{NoDup}
use Rattle.laws.proofs.Folds.{length-tab}
use Rattle.laws.specs.Plane.{Plane}
use Rattle.labels.specs.Cells.{cells8, cells_of, ink_cell, cell_label, groups_of}
use Rattle.labels.specs.Labelling.{MARK, State, push, after_visit, after_visits, after_top, emptied, next, after_group, after_groups, start, labelling, window, marked_cells, Reached, begun, labelled, visited, taken}
use Rattle.labels.specs.Inner.{marks, Inked, CellGrid}
use Rattle.labels.specs.Claims.{EachOnce, Pushes}
use Rattle.labels.proofs.States.{Kept, marks-le, marks-set, marked-in, visit-open, visit-by, group-by, visit-kept, emptied-kept}
use Rattle.labels.proofs.InkCells.{cells-few, tab-all}
use Rattle.labels.proofs.Labellings.{labels-are, labels-many}
use Rattle.labels.proofs.Pictures.{ink-outside}

-- What a state on the way keeps: a pushed cell is no mark any more; with the marks that are left, as many were pushed as there were marks.
pub record Pushing (l : List ℕ) (σ : State) : Type 0 where
  pub small : σ.given < MARK
  pub size : length σ.held ≡ length l
  pub shut : (c : ℕ) → Memᴰ c σ.pushed → get_or σ.held c 0 ≡ MARK → ⊥
  pub once : NoDup σ.pushed
  pub sum : length σ.pushed + marks σ.held ≡ marks l
  pub stack : length σ.stack ≤ length σ.pushed

push-pushing : {l : List ℕ} {σ : State} (j : ℕ) → Pushing l σ → get_or σ.held j 0 ≡ MARK → Pushing l (push j σ)
push-pushing {l} {σ} j s e = record {
  small = s.small;
  size = k.size ∙ s.size;
  shut = λ c t m. shut c t (k.back c m) m;
  once = ((λ t. s.shut j t e), s.once);
  sum = omega (arith, s.sum, marks-set σ.held j σ.given e f);
  stack = omega (arith, s.stack);
}
  where
    f : σ.given ≡ MARK → ⊥
    f z = omega (arith, s.small)

    k : Kept σ (push j σ)
    k = rw (visit-open j σ e) at (visit-kept σ f j)

    shut : (c : ℕ) → Memᴰ c (j ∷ σ.pushed) → get_or σ.held c 0 ≡ MARK → get_or (push j σ).held c 0 ≡ MARK → ⊥
    shut c (Memᴰ.head z) m m' =
        f (sym (get_or-set_same σ.held j σ.given 0 (marked-in σ.held j e)) ∙ (rw z at m'))
    shut c (Memᴰ.tail t) m m' = s.shut c t m

pub pushing : {l : List ℕ} {σ : State} → Reached l σ → Pushing l σ
pushing {l} begun =
    record { small = omega arith; size = refl; shut = λ c t. elim t [ ]; once = tt; sum = omega arith; stack = omega arith }
pushing (labelled r b) =
    let s = pushing r in
    record { small = b; size = s.size; shut = s.shut; once = s.once; sum = s.sum; stack = s.stack }
pushing {l} (visited {σ = σ} j r) = let s = pushing r in visit-by (Pushing l) j σ (push-pushing j s) (λ e. s)
pushing (taken {σ = σ} {c = c} {rest = rest} r e) =
    let s = pushing r in
    let z : length σ.stack ≡ suc (length rest) = ap length e in
    record { small = s.small; size = s.size; shut = s.shut; once = s.once; sum = s.sum; stack = omega (arith, s.stack) }

pub each-once : {n : ℕ} {l : List ℕ} {σ : State} → length l ≡ n → Reached l σ → EachOnce n σ
each-once {l = l} e r =
    let s = pushing r in
    record { once = s.once; few = omega (arith, s.sum, marks-le l); depth = omega (arith, s.sum, s.stack, marks-le l) }

-- ---- the labelling is such a way
visits-reached : {l : List ℕ} (js : List ℕ) (σ : State) → Reached l σ → Reached l (after_visits js σ)
unfolding after_visits
visits-reached [] σ r = r
visits-reached (j ∷ js) σ r = visits-reached js (after_visit j σ) (visited j r)

module _ {l : List ℕ} (round : ℕ → List ℕ) where
  top_reached : (st : List ℕ) (σ : State) → σ.stack ≡ st → Reached l σ → Reached l (after_top round st σ)
  unfolding after_top
  top_reached [] σ e r = r
  top_reached (c ∷ rest) σ e r = visits-reached (round c) _ (taken r e)

  emptied-reached : (t : ℕ) (σ : State) → Reached l σ → Reached l (emptied round t σ)
  unfolding emptied
  emptied-reached zero σ r = r
  emptied-reached (suc t) σ r = emptied-reached t (after_top round σ.stack σ) (top_reached σ.stack σ refl r)

  group-reached : (t s : ℕ) (σ : State) → σ.given + 1 < MARK → Reached l σ
      → Reached l (after_group round t s σ) × ((after_group round t s σ).given ≤ σ.given + 1)
  group-reached t s σ b r =
      let f : (next σ).given ≡ MARK → ⊥ = λ z. omega arith in
      let k = visit-kept (next σ) f s in
      let g = emptied-kept round t (after_visit s (next σ)) (λ z. f (sym k.given ∙ z)) in
      group-by (λ τ. Reached l τ × (τ.given ≤ σ.given + 1)) round t s σ
      (λ e. (emptied-reached t (after_visit s (next σ)) (visited s (labelled r b)), omega (arith, k.given, g.given)))
      (λ e. (r, omega arith))

  groups-reached : (t s : ℕ) → s + 1 < MARK → Reached l (after_groups round t s (start l)) × ((after_groups round t s (start l)).given ≤ s)
  unfolding after_groups
  groups-reached t zero b = (begun, omega arith)
  groups-reached t (suc s) b =
      let q = groups-reached t s (omega arith) in
      let r = group-reached t s (after_groups round t s (start l)) (omega (arith, q.1)) q.0 in
      (r.0, omega (arith, r.1, q.1))

-- ---- a picture
pub picture-grid : (p : Plane) (w h : ℕ) → 1 ≤ w → w ≤ 4096 → h ≤ 4096 → CellGrid (marked_cells p w h) (cells8 w) (cells8 h)
unfolding marked_cells
picture-grid p w h low wide high = record {
  size = length-tab (cells_of w h) (λ c. cond (ink_cell p w h c) MARK 0);
  few = cells-few wide high;
  some = omega arith;
}

pub marked-inked : (p : Plane) (w h : ℕ) → Inked (ink_cell p w h) (marked_cells p w h)
unfolding Inked marked_cells
marked-inked p w h = tab-all (cells_of w h) (λ c. cond (ink_cell p w h c) MARK 0) (λ c b. rw (ink-outside p w h c b))

pub picture-pushes : (p : Plane) (w h : ℕ) → 1 ≤ w → w ≤ 4096 → h ≤ 4096 → Pushes p w h
unfolding cell_label groups_of labelling
picture-pushes p w h low wide high = record {
  size = (pushing way).size ∙ q.size;
  labels = labels-are (cells8 w) (cells8 h) (marked_cells p w h) q (ink_cell p w h) (marked-inked p w h);
  all = labels-many (cells8 w) (cells8 h) (marked_cells p w h) q (ink_cell p w h) (marked-inked p w h);
  way = way;
  each = λ σ r. each-once q.size r;
}
  where
    q : CellGrid (marked_cells p w h) (cells8 w) (cells8 h)
    q = picture-grid p w h low wide high

    way : Reached (marked_cells p w h) (labelling (cells8 w) (cells8 h) (marked_cells p w h))
    way = (groups-reached (window (cells8 w) (cells8 h)) (cells_of w h) (cells_of w h) (omega (arith, q.few))).0
