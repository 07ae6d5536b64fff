-- Turning and mirroring a grid moves its groups: two cells share a label where the moved cells do. Assumes nothing.
use mathlib.Core.Path.{◌≡◌, sym, subst₂}
use mathlib.Core.Logic.{◌↔◌}
use mathlib.Core.Bool.{Bool, true}
use Prim.Native.Nat.{ℕ, ◌*◌, ◌-◌, ◌/◌, ◌%◌, ◌<◌}
use native.Mathlib.Omega.{arith}
use native.Mathlib.Nat.{div-add-mod', mod-lt, div-lt_iff_lt-mul}
use lib.Arith.{digits_div, digits_mod, digits_lt}
use Rattle.labels.specs.Labels.{Linked, here, step, near, close, NearGrid, label}
use Rattle.labels.specs.Cells.{cell}
use Rattle.labels.proofs.Near.{near_of, close_of, close-both}
use Rattle.labels.proofs.Graph.{linked-right, label_same, label-linked}

-- ---- any map of cells that keeps ink and nearness

pub linked-map : (ink : ℕ → Bool) (near : ℕ → ℕ → Bool) (ink' : ℕ → Bool) (near' : ℕ → ℕ → Bool) (f : ℕ → ℕ)
    → ((a : ℕ) → ink a ≡ true → ink' (f a) ≡ true)
    → ((a b : ℕ) → ink a ≡ true → ink b ≡ true → near a b ≡ true → near' (f a) (f b) ≡ true)
    → {a b : ℕ} → Linked ink near a b → Linked ink' near' (f a) (f b)
linked-map ink near ink' near' f i n (here {a = a} p) = here (i a p)
linked-map ink near ink' near' f i n (step {b = b} {c = c} r h p) =
    step (linked-map ink near ink' near' f i n r) (n b c (linked-right ink near r) p h) (i c p)

-- A move of one grid onto another: a map with its way back, both of which keep ink and nearness.
pub record Carry (ink : ℕ → Bool) (near : ℕ → ℕ → Bool) (ink' : ℕ → Bool) (near' : ℕ → ℕ → Bool) (f : ℕ → ℕ) : Type 0 where
  pub back : ℕ → ℕ
  pub again : (a : ℕ) → ink a ≡ true → back (f a) ≡ a
  pub there : (a : ℕ) → ink' a ≡ true → f (back a) ≡ a
  pub ink-to : (a : ℕ) → ink a ≡ true → ink' (f a) ≡ true
  pub ink-back : (a : ℕ) → ink' a ≡ true → ink (back a) ≡ true
  pub near-to : (a b : ℕ) → ink a ≡ true → ink b ≡ true → near a b ≡ true → near' (f a) (f b) ≡ true
  pub near-back : (a b : ℕ) → ink' a ≡ true → ink' b ≡ true → near' a b ≡ true → near (back a) (back b) ≡ true

-- The way back is a move too.
unfoldable pub undo : {ink : ℕ → Bool} {near : ℕ → ℕ → Bool} {ink' : ℕ → Bool} {near' : ℕ → ℕ → Bool} {f : ℕ → ℕ}
    → (m : Carry ink near ink' near' f) → Carry ink' near' ink near m.back
undo {f = f} m = record {
  back = f;
  again = m.there;
  there = m.again;
  ink-to = m.ink-back;
  ink-back = m.ink-to;
  near-to = m.near-back;
  near-back = m.near-to;
}

-- The groups are the moved groups.
pub moved-groups : {ink : ℕ → Bool} {near : ℕ → ℕ → Bool} {ink' : ℕ → Bool} {near' : ℕ → ℕ → Bool} {f : ℕ → ℕ} (n n' : ℕ)
    → NearGrid ink near n → NearGrid ink' near' n' → Carry ink near ink' near' f
    → (a b : ℕ) → ink a ≡ true → ink b ≡ true
    → (label ink near n a ≡ label ink near n b) ↔ (label ink' near' n' (f a) ≡ label ink' near' n' (f b))
moved-groups {ink} {near} {ink'} {near'} {f} n n' g g' m a b i j = (to, from)
  where
    to : label ink near n a ≡ label ink near n b → label ink' near' n' (f a) ≡ label ink' near' n' (f b)
    to e = label_same ink' near' n' g' (linked-map ink near ink' near' f m.ink-to m.near-to (label-linked ink near n g a b i j e))

    from : label ink' near' n' (f a) ≡ label ink' near' n' (f b) → label ink near n a ≡ label ink near n b
    from e =
        let r = linked-map ink' near' ink near m.back m.ink-back m.near-back
        (label-linked ink' near' n' g' (f a) (f b) (m.ink-to a i) (m.ink-to b j) e) in
        label_same ink near n g (subst₂ (λ (x y : ℕ). Linked ink near x y) (m.again a i) (m.again b j) r)

-- ---- the quarter turn and the mirror
pub cell-column : (w x y : ℕ) → x < w → cell w x y % w ≡ x
unfolding cell
cell-column w x y h = digits_mod y h

pub cell_row : (w x y : ℕ) → x < w → cell w x y / w ≡ y
unfolding cell
cell_row w x y h = digits_div y h

pub cell-of : (w a : ℕ) → cell w (a % w) (a / w) ≡ a
unfolding cell
cell-of w a = div-add-mod' a w

pub cell-lt : (w h x y : ℕ) → x < w → y < h → cell w x y < h * w
unfolding cell
cell-lt w h x y p q = digits_lt q p

-- a grid whose columns and rows are those of another, changed each by a map that keeps distances
pub flip-close : (h y z : ℕ) → y < h → z < h → close y z ≡ true → close (h - 1 - y) (h - 1 - z) ≡ true
flip-close h y z p q e = let c = close-both y z e in close_of _ _ (omega (arith, c)) (omega (arith, c))

module _ (w h a : ℕ) (b : a < h * w) where
  pub column-lt : 0 < w → a % w < w
  column-lt p = mod-lt a p

  pub row_lt : 0 < w → a / w < h
  row_lt p = (div-lt_iff_lt-mul p).1 b

pub near-cells : (w x y u v : ℕ) → x < w → u < w → close x u ≡ true → close y v ≡ true → near w (cell w x y) (cell w u v) ≡ true
near-cells w x y u v p q c d =
    near_of w (cell w x y) (cell w u v)
    (subst₂ (λ (i j : ℕ). close i j ≡ true) (sym (cell-column w x y p)) (sym (cell-column w u v q)) c)
    (subst₂ (λ (i j : ℕ). close i j ≡ true) (sym (cell_row w x y p)) (sym (cell_row w u v q)) d)
