-- Sizes, boxes and kept regions by a list of labels, as the code reads them: `labels` holds the labels of a grid of `ch` rows of `cw`
-- cells, w and h are the picture's sides. Definitions only. Assumes nothing.
use Rattle.std.specs.Prelude.{Bool, cond, false, true, List, [], ◌∷◌, ◌≡◌, ◌%◌, ◌*◌, ◌+◌, ◌/◌, ◌<◌, ◌≤◌, max, min, suc, ℕ, eqb, ltb, get_or, length}
use Rattle.laws.specs.Count.{count}
use Rattle.laws.specs.Plane.{value_at}
use Rattle.regions.specs.Boxes.{highest, lowest}
use Rattle.regions.specs.Regions.{no_region}
use Rattle.regions.specs.Kept.{ahead, kept_at, kept_of, want}
use Rattle.regions.specs.declared.answer.Kept.{Kept}
use Rattle.regions.specs.declared.answer.Region.{Region}

-- How many places of the list hold the label i + 1.
unfoldable pub size_in : List ℕ → ℕ → ℕ
size_in labels i = count (λ c. eqb (get_or labels c 0) (suc i)) (length labels)

-- The cells with the label l, and the column and row of a cell.
unfoldable pub has : List ℕ → ℕ → ℕ → Bool
has labels l c = eqb (get_or labels c 0) l

unfoldable pub cell_column : ℕ → ℕ → ℕ
cell_column cw c = c % cw

unfoldable pub cell_row : ℕ → ℕ → ℕ
cell_row cw c = c / cw

-- The region of the label i + 1.
unfoldable pub region_in : List ℕ → ℕ → ℕ → ℕ → ℕ → ℕ → Region
region_in labels cw ch w h i = record {
  label = suc i;
  cells = size_in labels i;
  x0 = 8 * lowest (has labels (suc i)) (cell_column cw) cw (length labels);
  y0 = 8 * lowest (has labels (suc i)) (cell_row cw) ch (length labels);
  x1 = min (8 * highest (has labels (suc i)) (cell_column cw) (length labels)) w;
  y1 = min (8 * highest (has labels (suc i)) (cell_row cw) (length labels)) h;
}

-- Place i of the list of kept regions, of m groups, and the whole answer.
unfoldable pub place_in : List ℕ → ℕ → ℕ → ℕ → ℕ → ℕ → ℕ → Region
place_in labels m cw ch w h i = cond (ltb i (kept_of (size_in labels) m)) (region_in labels cw ch w h (kept_at (size_in labels) m i)) no_region

unfoldable pub kept_in : List ℕ → ℕ → ℕ → ℕ → ℕ → ℕ → Kept
kept_in labels m cw ch w h = record {
  all = m;
  kept = kept_of (size_in labels) m;
  list = place_in labels m cw ch w h 0 ∷ place_in labels m cw ch w h 1 ∷ place_in labels m cw ch w h 2 ∷ place_in labels m cw ch w h 3 ∷ [];
}

-- ---- what the inner functions keep

-- A grid of labels: sides, and a place a cell.
pub record Cells (labels : List ℕ) (cw ch : ℕ) : Type 0 where
  pub some : 0 < cw
  pub wide : cw ≤ 512
  pub high : ch ≤ 512
  pub few : ch * cw ≤ 262144
  pub many : length labels ≡ ch * cw

-- The counters after one more cell with the label x: that of the label is one more.
pub record Bumped (x : ℕ) (l l' : List ℕ) : Type 0 where
  pub yes : (i : ℕ) → i < length l → x ≡ suc i → get_or l' i 0 ≡ suc (get_or l i 0)
  pub no : (i : ℕ) → i < length l → (x ≡ suc i → ⊥) → get_or l' i 0 ≡ get_or l i 0

-- Behind p, where p is one of the sizes; and ahead of a, where a is one.
unfoldable pub behind : List ℕ → ℕ → ℕ → Bool
behind s p b = cond (ltb p (length s)) (ahead (value_at s) p b) true

unfoldable pub beats : List ℕ → ℕ → ℕ → Bool
beats s a b = cond (ltb a (length s)) (ahead (value_at s) b a) true

-- One turn of the search: b is taken where it is wanted, behind p and ahead of what was found before.
pub data Turn (s : List ℕ) (p a b : ℕ) : ℕ → Type 0 where
  took : want (value_at s) b ≡ true → behind s p b ≡ true → beats s a b ≡ true → Turn s p a b b
  left : (want (value_at s) b ≡ true → behind s p b ≡ true → beats s a b ≡ false) → Turn s p a b a

-- a is the first wanted one behind p, or the number of sizes where there is none.
pub record FoundBehind (s : List ℕ) (p a : ℕ) : Type 0 where
  pub most : a ≤ length s
  pub real : a < length s → (want (value_at s) a ≡ true) × (behind s p a ≡ true)
  pub all : (c : ℕ) → c < length s → want (value_at s) c ≡ true → behind s p c ≡ true → (a < length s) × (ahead (value_at s) c a ≡ false)

-- How many are kept, and which.
pub record Picked (s : List ℕ) (kept : ℕ) (at : List ℕ) : Type 0 where
  pub many : kept ≡ kept_of (value_at s) (length s)
  pub which : (i : ℕ) → i < kept → get_or at i 0 ≡ kept_at (value_at s) (length s) i
  pub few : kept ≤ 4
  pub inside : (i : ℕ) → i < kept → get_or at i 0 < length s

-- The box of the cells with the label l among the first k, in cells; and its bounds.
pub record LabelBoxed (labels : List ℕ) (l cw ch k x₀ y₀ x₁ y₁ : ℕ) : Type 0 where
  pub left : x₀ ≡ lowest (has labels l) (cell_column cw) cw k
  pub top : y₀ ≡ lowest (has labels l) (cell_row cw) ch k
  pub right : x₁ ≡ highest (has labels l) (cell_column cw) k
  pub bottom : y₁ ≡ highest (has labels l) (cell_row cw) k

pub record BoxSmall (cw ch x₀ y₀ x₁ y₁ : ℕ) : Type 0 where
  pub left : x₀ ≤ cw
  pub top : y₀ ≤ ch
  pub right : x₁ ≤ cw
  pub bottom : y₁ ≤ ch

-- A box that takes in the cell at column x and row y, where `is` says so.
pub record Grown (is : Bool) (x y x₀ y₀ x₁ y₁ x₀' y₀' x₁' y₁' : ℕ) : Type 0 where
  pub yes : is ≡ true → (x₀' ≡ min x₀ x) × (y₀' ≡ min y₀ y) × (x₁' ≡ max x₁ (x + 1)) × (y₁' ≡ max y₁ (y + 1))
  pub no : is ≡ false → (x₀' ≡ x₀) × (y₀' ≡ y₀) × (x₁' ≡ x₁) × (y₁' ≡ y₁)
