-- The loop that lists the kept regions (Listing), and the answer by a list of labels as the answer of a picture.
--     Listing, listing-turn, listing-end
--     the labels of a picture in a list: regions-listed
-- Assumes nothing.
use mathlib.Core.Bool.{Bool}
use mathlib.Core.List.{List, [], ◌∷◌}
use mathlib.Core.Path.{◌∙◌, ◌≡◌, ap, refl, sym}
use Prim.Native.Nat.{◌+◌, ◌<◌, ◌≤◌, suc, zero, ℕ}
use native.Mathlib.Decide.{dec_lt, ℕ_discrete}
use native.Mathlib.Omega.{arith}
use lib.Dec.{eqb}
use lib.ListN.{get_or, length, length-set, set}
use lib.Seq.{ext_get_or, get_or-set_other, get_or-set_same}
use borrow.Author.Tests.{le-ltb, lt-ltb}
use borrow.Fn.PlainCycle.{is}
use Rattle.laws.proofs.Counts.{count-ext}
use Rattle.laws.proofs.Folds.{get_or-tab, length-tab}
use Rattle.laws.specs.Fold.{tab}
use Rattle.laws.specs.Plane.{Plane}
use Rattle.regions.proofs.Kept.{kept-at-ext, kept-of-ext}
use Rattle.regions.specs.Boxes.{cell_box, highest, lowest, region_box}
use Rattle.labels.specs.Cells.{cell_label, cells8, cells_of, group_size, groups_of}
use Rattle.regions.specs.Regions.{kept_regions, no_region, region, region_at}
use Rattle.regions.specs.Kept.{kept_at, kept_cells, kept_count, kept_label, kept_of}
use Rattle.regions.specs.Inner.{cell_column, has, kept_in, place_in, region_in, cell_row, size_in}
use Rattle.regions.specs.declared.answer.Kept.{Kept}
use Rattle.regions.specs.declared.answer.Region.{Region}

-- The first i regions are listed, and the places past them hold none.
pub record Listing (labels : List ℕ) (m cw ch w h i : ℕ) (list : List Region) : Type 0 where
  pub many : length list ≡ 4
  pub done : (j : ℕ) → j < i → get_or list j no_region ≡ region_in labels cw ch w h (kept_at (size_in labels) m j)
  pub rest : (j : ℕ) → i ≤ j → get_or list j no_region ≡ no_region

pub listing-turn : {labels : List ℕ} {m cw ch w h i : ℕ} {list : List Region} {r : Region} → Listing labels m cw ch w h i list → i < 4
    → r ≡ region_in labels cw ch w h (kept_at (size_in labels) m i) → Listing labels m cw ch w h (i + 1) (set list i r)
listing-turn {labels} {m} {cw} {ch} {w} {h} {i} {list} {r} q few is = record {
  many = length-set list i r ∙ q.many;
  done = λ j b. go j (ℕ_discrete j i) b;
  rest = λ j b. get_or-set_other list i j r no_region (omega arith) ∙ q.rest j (omega arith);
}
  where
    go : (j : ℕ) → Dec (j ≡ i) → j < i + 1 → get_or (set list i r) j no_region ≡ region_in labels cw ch w h (kept_at (size_in labels) m j)
    go j (yes e) b = rw e (get_or-set_same list i r no_region (omega (arith, q.many)) ∙ is)
    go j (no e) b = get_or-set_other list i j r no_region e ∙ q.done j (omega arith)

-- a list of four by its places
four : (l : List Region) → length l ≡ 4 → l ≡ get_or l 0 no_region ∷ get_or l 1 no_region ∷ get_or l 2 no_region ∷ get_or l 3 no_region ∷ []
four l e = ext_get_or no_region l (get_or l 0 no_region ∷ get_or l 1 no_region ∷ get_or l 2 no_region ∷ get_or l 3 no_region ∷ []) e
    (λ i b. at i (omega arith))
  where
    at : (i : ℕ) → i < 4
        → get_or l i no_region ≡ get_or (get_or l 0 no_region ∷ get_or l 1 no_region ∷ get_or l 2 no_region ∷ get_or l 3 no_region ∷ []) i no_region
    at zero b = refl
    at (suc zero) b = refl
    at (suc (suc zero)) b = refl
    at (suc (suc (suc zero))) b = refl
    at (suc (suc (suc (suc i)))) b = absurd (omega arith)

pub listing-end : {labels : List ℕ} {m cw ch w h kept : ℕ} {list : List Region} → Listing labels m cw ch w h kept list
    → kept ≡ kept_of (size_in labels) m
    → ◌≡◌ {A = Kept} (record { all = m; kept = kept; list = list }) (kept_in labels m cw ch w h)
unfolding kept_in place_in
listing-end {labels} {m} {cw} {ch} {w} {h} {kept} {list} q e =
    rw (four list q.many, place 0 (dec_lt 0 kept), place 1 (dec_lt 1 kept), place 2 (dec_lt 2 kept), place 3 (dec_lt 3 kept), e)
  where
    place : (j : ℕ) → Dec (j < kept) → get_or list j no_region ≡ place_in labels m cw ch w h j
    place j (yes b) = q.done j b ∙ sym (rw (lt-ltb j (kept_of (size_in labels) m) (rw (← e) b)))
    place j (no b) = q.rest j (omega arith) ∙ sym (rw (le-ltb j (kept_of (size_in labels) m) (rw (← e) (omega arith))))

-- ---- the labels of a picture in a list
lowest-ext : (p q : ℕ → Bool) (f : ℕ → ℕ) (d k : ℕ) → ((c : ℕ) → c < k → p c ≡ q c) → lowest p f d k ≡ lowest q f d k
unfolding lowest
lowest-ext p q f d zero same = refl
lowest-ext p q f d (suc k) same = rw (same k (omega arith), lowest-ext p q f d k (λ c b. same c (omega arith)))

highest-ext : (p q : ℕ → Bool) (f : ℕ → ℕ) (k : ℕ) → ((c : ℕ) → c < k → p c ≡ q c) → highest p f k ≡ highest q f k
unfolding highest
highest-ext p q f zero same = refl
highest-ext p q f (suc k) same = rw (same k (omega arith), highest-ext p q f k (λ c b. same c (omega arith)))

module _ (p : Plane) (w h : ℕ) (labels : List ℕ) (is : labels ≡ tab (cells_of w h) (cell_label p w h)) where
  many : length labels ≡ cells_of w h
  many = ap length is ∙ length-tab (cells_of w h) (cell_label p w h)

  same : (l c : ℕ) → c < cells_of w h → eqb (get_or labels c 0) l ≡ eqb (cell_label p w h c) l
  same l c b = ap (λ (x : ℕ). eqb x l) (ap (λ (t : List ℕ). get_or t c 0) is ∙ get_or-tab (cells_of w h) (cell_label p w h) c 0 b)

  size-listed : (i : ℕ) → size_in labels i ≡ group_size p w h i
  unfolding size_in group_size
  size-listed i =
      rw many (count-ext (λ c. eqb (cell_label p w h c) (suc i)) (λ c. eqb (get_or labels c 0) (suc i)) (cells_of w h)
      (λ c b. sym (same (suc i) c b)))

  low-listed : (l d : ℕ) (f : ℕ → ℕ) → lowest (has labels l) f d (length labels) ≡ lowest (λ c. eqb (cell_label p w h c) l) f d (cells_of w h)
  unfolding has
  low-listed l d f = rw many (lowest-ext (λ c. eqb (get_or labels c 0) l) (λ c. eqb (cell_label p w h c) l) f d (cells_of w h) (same l))

  high-listed : (l : ℕ) (f : ℕ → ℕ) → highest (has labels l) f (length labels) ≡ highest (λ c. eqb (cell_label p w h c) l) f (cells_of w h)
  unfolding has
  high-listed l f = rw many (highest-ext (λ c. eqb (get_or labels c 0) l) (λ c. eqb (cell_label p w h c) l) f (cells_of w h) (same l))

  region-listed : (i : ℕ) → region_in labels (cells8 w) (cells8 h) w h (kept_at (size_in labels) (groups_of p w h) i) ≡ region p w h i
  unfolding region_in region kept_label kept_cells region_box cell_box cell_column cell_row
  region-listed i =
      let a = kept_at (group_size p w h) (groups_of p w h) i in
      rw (kept-at-ext (size_in labels) (group_size p w h) (groups_of p w h) (λ j b. size-listed j) i)
      (rw (
        size-listed a,
        low-listed (suc a) (cells8 w) (cell_column (cells8 w)),
        low-listed (suc a) (cells8 h) (cell_row (cells8 w)),
        high-listed (suc a) (cell_column (cells8 w)),
        high-listed (suc a) (cell_row (cells8 w)),
      ))

  kept-listed : kept_of (size_in labels) (groups_of p w h) ≡ kept_count p w h
  unfolding kept_count
  kept-listed = kept-of-ext (size_in labels) (group_size p w h) (groups_of p w h) (λ j b. size-listed j)

  place-listed : (i : ℕ) → place_in labels (groups_of p w h) (cells8 w) (cells8 h) w h i ≡ region_at p w h i
  unfolding place_in region_at
  place-listed i = rw (kept-listed, region-listed i)

  -- The answer by the list of labels is the answer of the picture.
  pub regions-listed : {m : ℕ} → m ≡ groups_of p w h → kept_in labels m (cells8 w) (cells8 h) w h ≡ kept_regions p w h
  unfolding kept_in kept_regions
  regions-listed e = rw (e, kept-listed, place-listed 0, place-listed 1, place-listed 2, place-listed 3)
