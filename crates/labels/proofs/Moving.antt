-- A move takes the ink cells of one picture onto those of the other and keeps which are near. Assumes nothing.
use mathlib.Core.Path.{◌≡◌, sym, ap, ◌∙◌}
use mathlib.Core.Bool.{Bool, true}
use Prim.Native.Nat.{ℕ, ◌-◌, ◌*◌, ◌/◌, ◌%◌, ◌<◌}
use native.Mathlib.Omega.{arith}
use Rattle.laws.specs.Move.{Move, still, flipped, turned, sides_of, wide_of, high_of, place_of}
use Rattle.laws.proofs.Moves.{place-within, back_of, back-within, back-place, place-back}
use Rattle.labels.specs.Labels.{near, close}
use Rattle.labels.specs.Cells.{cell}
use Rattle.labels.proofs.Near.{near-both}
use Rattle.labels.proofs.MovedGroups.{Carry, cell-column, cell_row, cell-of, cell-lt, column-lt, row_lt, flip-close, near-cells}

-- ---- nearness
pub place-close : (m : Move) (w h x y u v : ℕ) → x < w → y < h → u < w → v < h → close x u ≡ true → close y v ≡ true
    → (close (place_of m w h x y).0 (place_of m w h u v).0 ≡ true) × (close (place_of m w h x y).1 (place_of m w h u v).1 ≡ true)
unfolding place_of
place-close still w h x y u v lx ly lu lv c d = (c, d)
place-close flipped w h x y u v lx ly lu lv c d = (flip-close w x u lx lu c, d)
place-close (turned m) w h x y u v lx ly lu lv c d =
    let ih = place-close m w h x y u v lx ly lu lv c d in (
      flip-close (high_of m w h) (place_of m w h x y).1 (place_of m w h u v).1 (place-within m w h x y lx ly).1
          (place-within m w h u v lu lv).1 ih.1,
      ih.0,
    )

pub back-close : (m : Move) (w h x y u v : ℕ) → x < wide_of m w h → y < high_of m w h → u < wide_of m w h → v < high_of m w h
    → close x u ≡ true → close y v ≡ true
    → (close (back_of m w h x y).0 (back_of m w h u v).0 ≡ true) × (close (back_of m w h x y).1 (back_of m w h u v).1 ≡ true)
unfolding back_of sides_of
back-close still w h x y u v lx ly lu lv c d = (c, d)
back-close flipped w h x y u v lx ly lu lv c d = (flip-close w x u lx lu c, d)
back-close (turned m) w h x y u v lx ly lu lv c d =
    back-close m w h y (high_of m w h - 1 - x) v (high_of m w h - 1 - u) ly (omega arith) lv (omega arith) d
    (flip-close (high_of m w h) x u lx lu c)

-- ---- cells by number
-- where cell c of a by b goes, in rows of a'
unfoldable pub cell_to : Move → ℕ → ℕ → ℕ → ℕ → ℕ
cell_to m a b a' c = cell a' (place_of m a b (c % a) (c / a)).0 (place_of m a b (c % a) (c / a)).1

pub cell-to : (m : Move) (a b a' x y : ℕ) → x < a → cell_to m a b a' (cell a x y) ≡ cell a' (place_of m a b x y).0 (place_of m a b x y).1
unfolding cell_to
cell-to m a b a' x y l = rw (cell-column a x y l, cell_row a x y l)

module _ (m : Move) (a b a' b' : ℕ) (ea : a' ≡ wide_of m a b) (eb : b' ≡ high_of m a b) (pos : 0 < a) (pos' : 0 < a') (ink ink' : ℕ → Bool)
    (inside : (c : ℕ) → ink c ≡ true → c < b * a) (inside' : (c : ℕ) → ink' c ≡ true → c < b' * a')
    (same : (x y : ℕ) → x < a → y < b → ink' (cell a' (place_of m a b x y).0 (place_of m a b x y).1) ≡ ink (cell a x y)) where
  cell_back : ℕ → ℕ
  cell_back c = cell a (back_of m a b (c % a') (c / a')).0 (back_of m a b (c % a') (c / a')).1

  col' : (c : ℕ) → c < b' * a' → c % a' < wide_of m a b
  col' c l = rw (← ea) (column-lt a' b' c l pos')

  row' : (c : ℕ) → c < b' * a' → c / a' < high_of m a b
  row' c l = rw (← eb) (row_lt a' b' c l pos')

  within' : (x y : ℕ) → x < a → y < b → (place_of m a b x y).0 < a'
  within' x y lx ly = rw ea (place-within m a b x y lx ly).0

  again' : (c : ℕ) → c < b * a → cell_back (cell_to m a b a' c) ≡ c
  unfolding cell_back cell_to
  again' c l =
      let lx = column-lt a b c l pos in
      let ly = row_lt a b c l pos in
      let w = within' (c % a) (c / a) lx ly in
      rw (
        cell-column a' (place_of m a b (c % a) (c / a)).0 (place_of m a b (c % a) (c / a)).1 w,
        cell_row a' (place_of m a b (c % a) (c / a)).0 (place_of m a b (c % a) (c / a)).1 w,
      )
      (ap (λ (q : ℕ × ℕ). cell a q.0 q.1) (back-place m a b (c % a) (c / a) lx ly) ∙ cell-of a c)

  there' : (c : ℕ) → c < b' * a' → cell_to m a b a' (cell_back c) ≡ c
  unfolding cell_back
  there' c l =
      let x = col' c l in
      let y = row' c l in
      cell-to m a b a' (back_of m a b (c % a') (c / a')).0 (back_of m a b (c % a') (c / a')).1 (back-within m a b (c % a') (c / a') x y).0
      ∙ ap (λ (q : ℕ × ℕ). cell a' q.0 q.1) (place-back m a b (c % a') (c / a') x y) ∙ cell-of a' c

  ink-at : (c : ℕ) → c < b * a → ink' (cell_to m a b a' c) ≡ ink c
  unfolding cell_to
  ink-at c l = same (c % a) (c / a) (column-lt a b c l pos) (row_lt a b c l pos) ∙ ap ink (cell-of a c)

  back-lt : (c : ℕ) → c < b' * a' → cell_back c < b * a
  unfolding cell_back
  back-lt c l = let w = back-within m a b (c % a') (c / a') (col' c l) (row' c l) in cell-lt a b _ _ w.0 w.1

  pub place-carry : Carry ink (near a) ink' (near a') (cell_to m a b a')
  unfolding cell_to cell_back
  place-carry = record {
    back = cell_back;
    again = λ c i. again' c (inside c i);
    there = λ c i. there' c (inside' c i);
    ink-to = λ c i. ink-at c (inside c i) ∙ i;
    ink-back = λ c i. sym (ink-at (cell_back c) (back-lt c (inside' c i))) ∙ (ap ink' (there' c (inside' c i)) ∙ i);
    near-to = λ c d i j n.
        let lx = column-lt a b c (inside c i) pos in
        let ly = row_lt a b c (inside c i) pos in
        let lu = column-lt a b d (inside d j) pos in
        let lv = row_lt a b d (inside d j) pos in
        let q = near-both a c d n in
        let k = place-close m a b (c % a) (c / a) (d % a) (d / a) lx ly lu lv q.0 q.1 in
        near-cells a' _ _ _ _ (within' _ _ lx ly) (within' _ _ lu lv) k.0 k.1;
    near-back = λ c d i j n.
        let lx = col' c (inside' c i) in
        let ly = row' c (inside' c i) in
        let lu = col' d (inside' d j) in
        let lv = row' d (inside' d j) in
        let q = near-both a' c d n in
        let k = back-close m a b (c % a') (c / a') (d % a') (d / a') lx ly lu lv q.0 q.1 in
        near-cells a _ _ _ _ (back-within m a b (c % a') (c / a') lx ly).0 (back-within m a b (d % a') (d / a') lu lv).0 k.0 k.1;
  }
