-- What the labelling's loops keep: the state that their lists show.
--     parts of the grid one after the other: Parts, parts-begin, parts-turn, parts-end; one_by_one
--     the rows of a window: Rows, rows-begin, rows-within, rows-turn, rows_end
--     the cells on the stack: Flow, flow-begin, flow-safe, flow-inside, flow-less, flow-turn, flow-end
--     the cells of a grid: Cells, cells-begin, cells-turn, cells-end; group-skip, group-fill
-- Assumes nothing.
use mathlib.Core.List.{List, [], ◌∷◌, ◌++◌, Memᴰ}
use mathlib.Core.Path.{◌∙◌, ◌≡◌, ap, refl, subst, sym}
use Prim.Native.Nat.{◌+◌, ◌-◌, ◌*◌, ◌/◌, ◌%◌, ◌<◌, ◌≤◌, min, suc, zero, ℕ}
use native.Mathlib.Nat.{div-lt_iff_lt-mul, mod-lt}
use native.Mathlib.Numerals.{add-one}
use native.Mathlib.Omega.{arith}
use lib.ListN.{get_or, length}
use borrow.Author.Tests.{eq-eqb, ne_eqb}
use Rattle.laws.specs.Fold.{joined}
use Rattle.laws.specs.Lists.{range, stack_of}
use Rattle.laws.proofs.Joined.{joined-ext, joined-more}
use Rattle.laws.proofs.Lists.{range-more, stack-length}
use Rattle.labels.specs.Labelling.{MARK, State, after_visit, after_visits, window, popped, after_top, emptied, next, after_group, after_groups, start, labelling}
use Rattle.labels.specs.Inner.{marks, Shows, Safe, CellGrid}
use Rattle.labels.proofs.Window.{row_within}
use Rattle.labels.proofs.States.{Kept, marks-le, visit-kept, visits-kept, visits-add, emptied-none, shown, shown-shows, safe-begin, safe-on}

-- ---- parts of the grid visited one after the other
-- Of the parts from a up to b those before j are visited, from lists that show a state to lists that show it after these visits.
pub record Parts (part : ℕ → List ℕ) (a b v : ℕ) (l₀ st₀ : List ℕ) (k₀ : ℕ) (l st : List ℕ) (k j : ℕ) : Type 0 where
  pub from : a ≤ j
  pub upto : j ≤ b
  pub safe : Safe l st k
  pub size : length l ≡ length l₀
  pub same : length st ≡ length st₀
  pub shows : (σ : State) → Shows l₀ st₀ k₀ v σ → Shows l st k v (after_visits (joined (j - a) (λ i. part (a + i))) σ)

pub parts-begin : {part : ℕ → List ℕ} {b v k : ℕ} {l st : List ℕ} (a : ℕ) → a ≤ b → Safe l st k → Parts part a b v l st k l st k a
unfolding after_visits joined
parts-begin a h s =
    let z : a - a ≡ 0 = omega arith in
    record { from = omega arith; upto = h; safe = s; size = refl; same = refl; shows = λ σ q. rw z q }

pub parts-turn : {part : ℕ → List ℕ} {a b v k₀ k j k' : ℕ} {l₀ st₀ l st l' st' : List ℕ} → v < MARK
    → Parts part a b v l₀ st₀ k₀ l st k j → j < b → ((σ : State) → Shows l st k v σ → Shows l' st' k' v (after_visits (part j) σ))
    → length l' ≡ length l → length st' ≡ length st → Parts part a b v l₀ st₀ k₀ l' st' k' (j + 1)
parts-turn {part} {a} {v = v} {k = k} {j} {l = l} {st} f r h step size same =
    let parts : ℕ → List ℕ = λ i. part (a + i) in
    let at : a + (j - a) ≡ j = omega (arith, r.from) in
    let kept = visits-kept (part j) (shown l st k v) (λ e. omega arith) in
    let next : j + 1 - a ≡ j - a + 1 = omega (arith, r.from) in
    record {
      from = omega (arith, r.from);
      upto = omega arith;
      safe = safe-on kept (step (shown l st k v) (shown-shows l st k v)) same r.safe;
      size = size ∙ r.size;
      same = same ∙ r.same;
      shows = λ σ q.
          rw (next, joined-more (j - a) parts, at, visits-add (joined (j - a) parts) (part j) σ)
          (step (after_visits (joined (j - a) parts) σ) (r.shows σ q));
    }

pub parts-end : {part : ℕ → List ℕ} {a b v k₀ k j : ℕ} {l₀ st₀ l st : List ℕ} {js : List ℕ} → b ≤ j → Parts part a b v l₀ st₀ k₀ l st k j
    → joined (b - a) (λ i. part (a + i)) ≡ js → (σ : State) → Shows l₀ st₀ k₀ v σ → Shows l st k v (after_visits js σ)
parts-end {b = b} {j = j} h r e σ q =
    let z : b ≡ j = omega (arith, r.upto) in
    rw (← e, z) (r.shows σ q)

-- the cells of a row, one by one
pub one_by_one : (a n : ℕ) → joined n (λ i. (a + i) ∷ []) ≡ range a n
unfolding joined
one_by_one a zero = refl
one_by_one a (suc n) = ap (λ (js : List ℕ). js ++ (a + n) ∷ []) (one_by_one a n) ∙ sym (rw add-one at (range-more a n))

-- ---- the rows of a window
pub record Rows (w h i v x₀ x₁ y₀ y₁ : ℕ) (l₀ st₀ : List ℕ) (k₀ : ℕ) (l st : List ℕ) (k g : ℕ) : Type 0 where
  pub left : x₀ ≡ i % w - 3
  pub right : x₁ ≡ min (i % w + 4) w
  pub top : y₀ ≡ i / w - 3
  pub bottom : y₁ ≡ min (i / w + 4) h
  pub done : Parts (λ r. range (r * w + x₀) (r * w + x₁ - (r * w + x₀))) y₀ y₁ v l₀ st₀ k₀ l st k g

pub rows-begin : {w h i v x₀ x₁ y₀ y₁ k : ℕ} {l st : List ℕ} → x₀ ≡ i % w - 3 → x₁ ≡ min (i % w + 4) w → y₀ ≡ i / w - 3
    → y₁ ≡ min (i / w + 4) h → 0 < w → i < h * w → Safe l st k → Rows w h i v x₀ x₁ y₀ y₁ l st k l st k y₀
rows-begin {y₀ = y₀} left right top bottom pos inside s = record {
  left = left;
  right = right;
  top = top;
  bottom = bottom;
  done = parts-begin y₀ (omega (arith, (div-lt_iff_lt-mul pos).1 inside)) s;
}

-- a row of the window lies within the grid
pub rows-within : {w h i v x₀ x₁ y₀ y₁ k₀ k g : ℕ} {l₀ st₀ l st : List ℕ} → 0 < w → Rows w h i v x₀ x₁ y₀ y₁ l₀ st₀ k₀ l st k g → g < y₁
    → (x₀ ≤ x₁) × (g * w + x₁ ≤ h * w)
rows-within {w} {h} {i} {x₁ = x₁} {g = g} pos r b =
    (omega (arith, r.left, r.right, mod-lt i pos), row_within g h w x₁ (omega (arith, r.bottom)) (omega (arith, r.right)))

pub rows-turn : {w h i v x₀ x₁ y₀ y₁ k₀ k g k' : ℕ} {l₀ st₀ l st l' st' : List ℕ} → v < MARK → Rows w h i v x₀ x₁ y₀ y₁ l₀ st₀ k₀ l st k g
    → g < y₁ → ((σ : State) → Shows l st k v σ → Shows l' st' k' v (after_visits (range (g * w + x₀) (g * w + x₁ - (g * w + x₀))) σ))
    → length l' ≡ length l → length st' ≡ length st → Rows w h i v x₀ x₁ y₀ y₁ l₀ st₀ k₀ l' st' k' (g + 1)
rows-turn f r b step size same = record {
  left = r.left;
  right = r.right;
  top = r.top;
  bottom = r.bottom;
  done = parts-turn f r.done b step size same;
}

pub rows_end : {w h i v x₀ x₁ y₀ y₁ k₀ k g : ℕ} {l₀ st₀ l st : List ℕ} → y₁ ≤ g → Rows w h i v x₀ x₁ y₀ y₁ l₀ st₀ k₀ l st k g
    → (σ : State) → Shows l₀ st₀ k₀ v σ → Shows l st k v (after_visits (window w h i) σ)
unfolding window
rows_end {w} {x₀ = x₀} {x₁} {y₀} {y₁} b r =
    let wide : (a : ℕ) → a + x₁ - (a + x₀) ≡ x₁ - x₀ = λ a. omega arith in
    parts-end b r.done
    (joined-ext (y₁ - y₀) _ _ (λ g l. ap (range ((y₀ + g) * w + x₀)) (wide ((y₀ + g) * w))) ∙ rw (r.left, r.right, r.top, r.bottom))

-- ---- the cells on the stack
pub record Flow (w h v : ℕ) (l₀ st₀ : List ℕ) (k₀ : ℕ) (l st : List ℕ) (k : ℕ) : Type 0 where
  pub left : ℕ
  pub few : k + marks l ≤ left
  pub safe : Safe l st k
  pub size : length l ≡ h * w
  pub same : length st ≡ length st₀
  pub shows : (σ : State) → Shows l₀ st₀ k₀ v σ
      → (τ : State) × Shows l st k v τ × (emptied (window w h) (h * w) σ ≡ emptied (window w h) left τ)

pub flow-begin : {w h v k : ℕ} {l st l' st' : List ℕ} (s : ℕ) → v < MARK → CellGrid l w h → length l ≤ length st
    → ((σ : State) → Shows l st 0 v σ → Shows l' st' k v (after_visit s σ)) → length l' ≡ length l → length st' ≡ length st
    → Flow w h v l' st' k l' st' k
flow-begin {w} {h} {v} {k} {l} {st} {l'} {st'} s f g room step size same =
    let q = visit-kept (shown l st 0 v) (λ e. omega arith) s in
    let z = step (shown l st 0 v) (shown-shows l st 0 v) in
    let x : length (after_visit s (shown l st 0 v)).stack ≡ k = ap length z.stack ∙ stack-length st' k in
    let y : marks (after_visit s (shown l st 0 v)).held ≡ marks l' = ap marks z.held in
    record {
      left = h * w;
      few = omega (arith, q.fewer, stack-length st 0, marks-le l, g.size);
      safe = safe-on q z same (safe-begin l st room);
      size = size ∙ g.size;
      same = refl;
      shows = λ σ r. (σ, r, refl);
    }

-- the cell on top, and the stack below it
top_of : (st : List ℕ) (k : ℕ) → 0 < k → stack_of st k ≡ get_or st (k - 1) 0 ∷ stack_of st (k - 1)
unfolding stack_of
top_of st k h = let z : k ≡ suc (k - 1) = omega arith in ap (stack_of st) z

-- without the cell on top the code is safe
pub flow-safe : {w h v k₀ k : ℕ} {l₀ st₀ l st : List ℕ} → Flow w h v l₀ st₀ k₀ l st k → 0 < k → Safe l st (k - 1)
flow-safe {k = k} {l = l} {st} r b = record {
  room = omega (arith, r.safe.room);
  inside = λ c t. r.safe.inside c (subst (Memᴰ c) (sym (top_of st k b)) (Memᴰ.tail t));
}

-- the cell on top is a cell
pub flow-inside : {w h v k₀ k : ℕ} {l₀ st₀ l st : List ℕ} → Flow w h v l₀ st₀ k₀ l st k → 0 < k → get_or st (k - 1) 0 < length l
flow-inside {k = k} {st = st} r b =
    r.safe.inside (get_or st (k - 1) 0) (subst (Memᴰ (get_or st (k - 1) 0)) (sym (top_of st k b)) (Memᴰ.head refl))

module _ {w h v k₀ k k' : ℕ} {l₀ st₀ l st l' st' : List ℕ} (f : v < MARK) (r : Flow w h v l₀ st₀ k₀ l st k) (b : 0 < k)
    (step : (σ : State) → Shows l st (k - 1) v σ → Shows l' st' k' v (after_visits (window w h (get_or st (k - 1) 0)) σ)) where
  abbrev σ₀ : State
  σ₀ = shown l st (k - 1) v

  kept : Kept σ₀ (after_visits (window w h (get_or st (k - 1) 0)) σ₀)
  kept = visits-kept (window w h (get_or st (k - 1) 0)) σ₀ (λ e. omega arith)

  -- each turn leaves less: places on the stack and marks
  pub flow-less : k' + marks l' < k + marks l
  flow-less =
      let s = step σ₀ (shown-shows l st (k - 1) v) in
      let x : length (after_visits (window w h (get_or st (k - 1) 0)) σ₀).stack ≡ k' = ap length s.stack ∙ stack-length st' k' in
      let y : marks (after_visits (window w h (get_or st (k - 1) 0)) σ₀).held ≡ marks l' = ap marks s.held in
      omega (arith, kept.fewer, stack-length st (k - 1))

  pub flow-turn : length st' ≡ length st → Flow w h v l₀ st₀ k₀ l' st' k'
  unfolding emptied after_top
  flow-turn same = record {
    left = r.left - 1;
    few = omega (arith, flow-less, r.few);
    safe = safe-on kept (step σ₀ (shown-shows l st (k - 1) v)) same (flow-safe r b);
    size = ap length (sym (step σ₀ (shown-shows l st (k - 1) v)).held) ∙ kept.size ∙ r.size;
    same = same ∙ r.same;
    shows = λ σ q. on (r.shows σ q);
  }
    where
      on : {ρ : State} → (τ : State) × Shows l st k v τ × (ρ ≡ emptied (window w h) r.left τ)
          → (τ : State) × Shows l' st' k' v τ × (ρ ≡ emptied (window w h) (r.left - 1) τ)
      on (τ, s, e) =
          let top : τ.stack ≡ get_or st (k - 1) 0 ∷ stack_of st (k - 1) = s.stack ∙ top_of st k b in
          let z : r.left ≡ suc (r.left - 1) = omega (arith, r.few) in (
            after_visits (window w h (get_or st (k - 1) 0)) (popped (stack_of st (k - 1)) τ),
            step (popped (stack_of st (k - 1)) τ) (record { given = s.given; held = s.held; stack = refl }),
            e
                ∙ ap (λ (t : ℕ). emptied (window w h) t τ) z
                ∙ ap (λ (x : List ℕ). emptied (window w h) (r.left - 1) (after_top (window w h) x τ)) top,
          )

pub flow-end : {w h v k₀ k : ℕ} {l₀ st₀ l st : List ℕ} → k ≡ 0 → Flow w h v l₀ st₀ k₀ l st k
    → (σ : State) → Shows l₀ st₀ k₀ v σ → Shows l st 0 v (emptied (window w h) (h * w) σ)
unfolding stack_of
flow-end {w} {h} {v} {k = k} {l = l} {st} e r σ q = on (r.shows σ q)
  where
    on : (τ : State) × Shows l st k v τ × (emptied (window w h) (h * w) σ ≡ emptied (window w h) r.left τ)
        → Shows l st 0 v (emptied (window w h) (h * w) σ)
    on (τ, s, z) =
        let none : τ.stack ≡ [] = s.stack ∙ ap (stack_of st) e in
        rw (z ∙ emptied-none (window w h) r.left τ none) (record { given = s.given; held = s.held; stack = none })

-- ---- the cells of a grid
pub group-skip : (w h s : ℕ) {v : ℕ} {l st : List ℕ} → (get_or l s 0 ≡ MARK → ⊥) → (σ : State) → Shows l st 0 v σ
    → Shows l st 0 v (after_group (window w h) (h * w) s σ)
unfolding after_group
group-skip w h s m σ q = rw (ne_eqb (get_or σ.held s 0) MARK (λ e. m (sym (ap (λ (x : List ℕ). get_or x s 0) q.held) ∙ e))) q

pub group-fill : (w h s : ℕ) {v : ℕ} {l st l' st' : List ℕ} → get_or l s 0 ≡ MARK
    → ((σ : State) → Shows l st 0 (v + 1) σ → Shows l' st' 0 (v + 1) (emptied (window w h) (h * w) (after_visit s σ)))
    → (σ : State) → Shows l st 0 v σ → Shows l' st' 0 (v + 1) (after_group (window w h) (h * w) s σ)
unfolding after_group
group-fill w h s m flood σ q =
    rw (eq-eqb (get_or σ.held s 0) MARK (ap (λ (x : List ℕ). get_or x s 0) q.held ∙ m))
    (flood (next σ) (record { given = ap (λ (x : ℕ). x + 1) q.given; held = q.held; stack = q.stack }))

pub record Cells (w h : ℕ) (l₀ st₀ : List ℕ) (v s : ℕ) (l st : List ℕ) : Type 0 where
  pub small : v ≤ s
  pub upto : s ≤ h * w
  pub grid : CellGrid l w h
  pub same : length st ≡ length st₀
  pub shows : Shows l st 0 v (after_groups (window w h) (h * w) s (start l₀))

pub cells-begin : {w h : ℕ} {l st : List ℕ} → CellGrid l w h → Cells w h l st 0 0 l st
unfolding after_groups stack_of
cells-begin g =
    record { small = omega arith; upto = omega arith; grid = g; same = refl; shows = record { given = refl; held = refl; stack = refl } }

pub cells-turn : {w h v s v' : ℕ} {l₀ st₀ l st l' st' : List ℕ} → Cells w h l₀ st₀ v s l st → s < length l → v' ≤ v + 1
    → ((σ : State) → Shows l st 0 v σ → Shows l' st' 0 v' (after_group (window w h) (h * w) s σ))
    → length l' ≡ length l → length st' ≡ length st → Cells w h l₀ st₀ v' (s + 1) l' st'
unfolding after_groups
cells-turn {w} {h} {s = s} {l₀ = l₀} r b few step size same = record {
  small = omega (arith, r.small);
  upto = omega (arith, r.grid.size);
  grid = record { size = size ∙ r.grid.size; few = r.grid.few; some = r.grid.some };
  same = same ∙ r.same;
  shows = rw add-one (step (after_groups (window w h) (h * w) s (start l₀)) r.shows);
}

pub cells-end : {w h v s : ℕ} {l₀ st₀ l st : List ℕ} → h * w ≤ s → Cells w h l₀ st₀ v s l st → Shows l st 0 v (labelling w h l₀)
unfolding labelling
cells-end {w} {h} {v} {s} {l₀ = l₀} {l = l} {st} b r =
    let z : s ≡ h * w = omega (arith, r.upto) in
    subst (λ (x : ℕ). Shows l st 0 v (after_groups (window w h) (h * w) x (start l₀))) z r.shows
