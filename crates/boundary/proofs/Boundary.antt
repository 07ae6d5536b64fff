-- The boundary points of a moved region: each point as often as the one that goes there.
--     how often: often-append, often-joined
--     the mirror: Within
--     every move: boundary-same, box-within, boundary-move
-- Assumes nothing.
use mathlib.Core.Path.{◌≡◌, refl, sym, ap, ap₂, ◌∙◌}
use mathlib.Core.Bool.{Bool, true, false, cond}
use mathlib.Core.List.{List, [], ◌∷◌, ◌++◌, map}
use Prim.Native.Nat.{ℕ, zero, suc, ◌+◌, ◌-◌, ◌*◌, ◌≤◌, ◌<◌}
use native.Mathlib.Omega.{arith}
use native.Mathlib.Nat.{add_comm, add_assoc, zero-add}
use lib.Dec.{ltb}
use lib.IntN.{ℤ, pos}
use Rattle.laws.specs.Fold.{fold, sum_to, bit, joined}
use Rattle.laws.specs.Move.{Move, still, flipped, turned, sides_of, wide_of, high_of, place_of, Box, box_of}
use Rattle.laws.proofs.Bools.{bool-ext}
use Rattle.laws.proofs.Folds.{fold-ext, fold-reverse}
use Rattle.whole.specs.Points.{Pt}
use Rattle.whole.specs.Hull.{same_pt}
use Rattle.whole.specs.Moves.{quarter, mirror}
use Rattle.whole.proofs.Sums.{sub-nat}
use Rattle.whole.proofs.Run.{same_true, same_refl}
use Rattle.whole.proofs.Moved.{flips-mirror, inj}
use Rattle.boundary.specs.Runs.{run_start, run_end, edges}
use Rattle.boundary.specs.Boundary.{on_row, on_column, row_points, column_points, rows_from, columns_from, boundary}
use Rattle.hull.specs.Points.{pt_of, pts_of}
use Rattle.whole.specs.Moves.{often, moved_point}
use Rattle.laws.proofs.Joined.{joined-ext}
use Rattle.boundary.proofs.Runs.{start-mirror, end-mirror, both_ends, start-le, run-end-le, edges-ext}

-- ---- how often
pub often-append : (q : Pt) (l k : List Pt) → often q (l ++ k) ≡ often q l + often q k
unfolding often
often-append q [] k = sym (zero-add (often q k))
often-append q (p ∷ l) k =
    ap (λ (n : ℕ). bit (same_pt q p) + n) (often-append q l k) ∙ sym (add_assoc (bit (same_pt q p)) (often q l) (often q k))

pts-append : (l k : List (ℕ × ℕ)) → pts_of (l ++ k) ≡ pts_of l ++ pts_of k
pts-append [] k = refl
pts-append (p ∷ l) k = ap (λ t. pt_of p ∷ t) (pts-append l k)

pub often-joined : (q : Pt) (n : ℕ) (f : ℕ → List (ℕ × ℕ)) → often q (pts_of (joined n f)) ≡ sum_to n (λ i. often q (pts_of (f i)))
unfolding joined fold often
often-joined q zero f = refl
often-joined q (suc n) f =
    ap (often q) (pts-append (joined n f) (f n)) ∙ often-append q (pts_of (joined n f)) (pts_of (f n))
    ∙ ap (λ (k : ℕ). k + often q (pts_of (f n))) (often-joined q n f)

-- as a sum over rows and one over columns
often-boundary : (q : Pt) (k : ℕ) (t : ℕ → ℕ → Bool) (b : Box)
    → often q (pts_of (boundary k t b))
    ≡ sum_to (b.y1 - b.y0) (λ j. often q (pts_of (row_points k t b.x0 (b.x1 - b.x0) (b.y0 + j)))) + sum_to (b.x1 - b.x0)
    (λ i. often q (pts_of (column_points k t b.y0 (b.y1 - b.y0) (b.x0 + i))))
unfolding boundary rows_from columns_from
often-boundary q k t b =
    let R = joined (b.y1 - b.y0) (λ j. row_points k t b.x0 (b.x1 - b.x0) (b.y0 + j)) in
    let C = joined (b.x1 - b.x0) (λ i. column_points k t b.y0 (b.y1 - b.y0) (b.x0 + i)) in
    ap (often q) (pts-append R C) ∙ often-append q (pts_of R) (pts_of C)
    ∙ ap₂ (λ (x y : ℕ). x + y) (often-joined q (b.y1 - b.y0) (λ j. row_points k t b.x0 (b.x1 - b.x0) (b.y0 + j)))
    (often-joined q (b.x1 - b.x0) (λ i. column_points k t b.y0 (b.y1 - b.y0) (b.x0 + i)))

-- a map that takes no two points to one
same-inj : (m : Pt → Pt) → ((a b : Pt) → m a ≡ m b → a ≡ b) → (a b : Pt) → same_pt (m a) (m b) ≡ same_pt a b
same-inj m one a b =
    bool-ext (same_pt (m a) (m b)) (same_pt a b)
    (λ e. ap (same_pt a) (sym (one a b (same_true (m a) (m b) e))) ∙ same_refl a)
    (λ e. ap (same_pt (m a)) (ap m (sym (same_true a b e))) ∙ same_refl (m a))

same-mirror : (w : ℤ) (a b : Pt) → same_pt (mirror w a) (mirror w b) ≡ same_pt a b
same-mirror w = same-inj (mirror w) (inj (mirror w) (flips-mirror w).far)

swap : Pt → Pt
swap q = record { x = q.y; y = q.x }

same-swap : (a b : Pt) → same_pt (swap a) (swap b) ≡ same_pt a b
unfolding swap
same-swap = same-inj swap (λ a b e. λ i. record { x = (e i).y; y = (e i).x })

mirror-pt : (W a y : ℕ) → a ≤ W → pt_of (W - a, y) ≡ mirror (pos W) (pt_of (a, y))
unfolding pt_of mirror
mirror-pt W a y l = ap (λ (z : ℤ). record { x = z; y = pos y }) (sub-nat W a l)

-- ---- rows and columns exchanged
transposed : (ℕ → ℕ → Bool) → ℕ → ℕ → Bool
transposed t x y = t y x

box_t : Box → Box
box_t b = record { x0 = b.y0; y0 = b.x0; x1 = b.y1; y1 = b.x1 }

often-turn : (q : Pt) (c : ℕ) (E : List ℕ) → often (swap q) (pts_of (map (on_row c) E)) ≡ often q (pts_of (map (on_column c) E))
unfolding often swap pt_of
often-turn q c [] = refl
often-turn q c (e ∷ E) = ap₂ (λ (x y : ℕ). x + y) (ap bit (same-swap q (pt_of (c, e)))) (often-turn q c E)

often-turn' : (q : Pt) (c : ℕ) (E : List ℕ) → often (swap q) (pts_of (map (on_column c) E)) ≡ often q (pts_of (map (on_row c) E))
unfolding often swap pt_of
often-turn' q c [] = refl
often-turn' q c (e ∷ E) = ap₂ (λ (x y : ℕ). x + y) (ap bit (same-swap q (pt_of (e, c)))) (often-turn' q c E)

boundary-transpose : (q : Pt) (k : ℕ) (t : ℕ → ℕ → Bool) (b : Box)
    → often (swap q) (pts_of (boundary k (transposed t) (box_t b))) ≡ often q (pts_of (boundary k t b))
unfolding transposed box_t row_points column_points
boundary-transpose q k t b =
    often-boundary (swap q) k (transposed t) (box_t b)
    ∙ ap₂ (λ (x y : ℕ). x + y)
    (fold-ext ◌+◌ 0 (b.x1 - b.x0) _ (λ i. often q (pts_of (column_points k t b.y0 (b.y1 - b.y0) (b.x0 + i))))
    (λ i l. often-turn q (2 * (b.x0 + i) + 1) (edges k (b.y1 - b.y0) (λ j. t (b.x0 + i) (b.y0 + j)) b.y0)))
    (fold-ext ◌+◌ 0 (b.y1 - b.y0) _ (λ j. often q (pts_of (row_points k t b.x0 (b.x1 - b.x0) (b.y0 + j))))
    (λ j l. often-turn' q (2 * (b.y0 + j) + 1) (edges k (b.x1 - b.x0) (λ i. t (b.x0 + i) (b.y0 + j)) b.x0)))
    ∙ add_comm (sum_to (b.x1 - b.x0) (λ i. often q (pts_of (column_points k t b.y0 (b.y1 - b.y0) (b.x0 + i)))))
    (sum_to (b.y1 - b.y0) (λ j. often q (pts_of (row_points k t b.x0 (b.x1 - b.x0) (b.y0 + j)))))
    ∙ sym (often-boundary q k t b)

-- ---- the mirror
-- a row read backwards has its two points exchanged
row-mirror : (q : Pt) (c k n w s s' : ℕ) (t u : ℕ → Bool) → s + n ≤ w → s' ≡ w - (s + n) → ((i : ℕ) → i < n → u i ≡ t (n - 1 - i))
    → often (mirror (pos (2 * w)) q) (pts_of (map (on_row c) (edges k n u s'))) ≡ often q (pts_of (map (on_row c) (edges k n t s)))
unfolding edges
row-mirror q c k n w s s' t u room at same =
    rw (start-mirror k n t u same, end-mirror k n t u same, both_ends k n t) (go (ltb (run_start k n t) n))
  where
    here : (a b : ℕ) → b ≤ 2 * w → a ≡ 2 * w - b → bit (same_pt (mirror (pos (2 * w)) q) (pt_of (a, c))) ≡ bit (same_pt q (pt_of (b, c)))
    here a b l e = ap (λ (x : ℕ). bit (same_pt (mirror (pos (2 * w)) q) (pt_of (x, c)))) e
        ∙ ap (λ (p : Pt). bit (same_pt (mirror (pos (2 * w)) q) p)) (mirror-pt (2 * w) b c l)
        ∙ ap bit (same-mirror (pos (2 * w)) q (pt_of (b, c)))

    fits : (w s n s' E : ℕ) → s + n ≤ w → s' ≡ w - (s + n) → E ≤ n → 2 * (s' + (n - E)) ≡ 2 * w - 2 * (s + E)
    fits w s n s' E a b l = omega arith

    go : (z : Bool) → often (mirror (pos (2 * w)) q)
        (pts_of (map (on_row c) (cond z (2 * (s' + (n - run_end k n t)) ∷ 2 * (s' + (n - run_start k n t)) ∷ []) [])))
        ≡ often q (pts_of (map (on_row c) (cond z (2 * (s + run_start k n t) ∷ 2 * (s + run_end k n t) ∷ []) [])))
    go false = unfold often in refl
    go true =
        let e = run-end-le k n t in
        let f = start-le k n t in
        let a = here (2 * (s' + (n - run_end k n t))) (2 * (s + run_end k n t)) (omega arith) (fits w s n s' (run_end k n t) room at e) in
        let b = here (2 * (s' + (n - run_start k n t))) (2 * (s + run_start k n t)) (omega arith)
        (fits w s n s' (run_start k n t) room at f) in
        unfold often in omega (arith, a, b)

column-mirror : (q : Pt) (w c : ℕ) (E : List ℕ) → c < w
    → often (mirror (pos (2 * w)) q) (pts_of (map (on_column (2 * (w - 1 - c) + 1)) E)) ≡ often q (pts_of (map (on_column (2 * c + 1)) E))
unfolding often
column-mirror q w c [] l = refl
column-mirror q w c (e ∷ E) l =
    let x : 2 * (w - 1 - c) + 1 ≡ 2 * w - (2 * c + 1) = omega arith in
    ap₂ (λ (x y : ℕ). x + y)
    (ap (λ (z : ℕ). bit (same_pt (mirror (pos (2 * w)) q) (pt_of (z, e)))) x
    ∙ ap (λ (p : Pt). bit (same_pt (mirror (pos (2 * w)) q) p)) (mirror-pt (2 * w) (2 * c + 1) e (omega arith))
    ∙ ap bit (same-mirror (pos (2 * w)) q (pt_of (2 * c + 1, e))))
    (column-mirror q w c E l)

-- a box within w by h
pub record Within (b : Box) (w h : ℕ) : Type 0 where
  pub across' : b.x0 ≤ b.x1
  pub down' : b.y0 ≤ b.y1
  pub wide : b.x1 ≤ w
  pub high : b.y1 ≤ h

box_m : ℕ → Box → Box
box_m w b = record { x0 = w - b.x1; y0 = b.y0; x1 = w - b.x0; y1 = b.y1 }

module _ (q : Pt) (k w h : ℕ) (t u : ℕ → ℕ → Bool) (b : Box) (in' : Within b w h)
    (same : (x y : ℕ) → x < w → y < h → u x y ≡ t (w - 1 - x) y) where
  side : b.x1 - b.x0 ≡ w - b.x0 - (w - b.x1)
  side = omega (arith, in'.across', in'.wide)

  boundary-mirror : often (mirror (pos (2 * w)) q) (pts_of (boundary k u (box_m w b))) ≡ often q (pts_of (boundary k t b))
  unfolding box_m row_points column_points
  boundary-mirror =
      often-boundary (mirror (pos (2 * w)) q) k u (box_m w b)
      ∙ ap₂ (λ (x y : ℕ). x + y)
      (fold-ext ◌+◌ 0 (b.y1 - b.y0) _ (λ j. often q (pts_of (row_points k t b.x0 (b.x1 - b.x0) (b.y0 + j)))) rows)
      (ap (λ (n : ℕ). sum_to n
      (λ i. often (mirror (pos (2 * w)) q) (pts_of (column_points k u (box_m w b).y0 ((box_m w b).y1 - (box_m w b).y0) (w - b.x1 + i)))))
      (sym side)
      ∙ fold-ext ◌+◌ 0 (b.x1 - b.x0) _
      (λ i. often q (pts_of (column_points k t b.y0 (b.y1 - b.y0) (b.x0 + (b.x1 - b.x0 - 1 - i))))) columns
      ∙ fold-reverse ◌+◌ 0 add_comm add_assoc (b.x1 - b.x0) (λ i. often q (pts_of (column_points k t b.y0 (b.y1 - b.y0) (b.x0 + i)))))
      ∙ sym (often-boundary q k t b)
    where
      rows : (j : ℕ) → j < b.y1 - b.y0
          → often (mirror (pos (2 * w)) q) (pts_of (row_points k u (box_m w b).x0 ((box_m w b).x1 - (box_m w b).x0) (b.y0 + j)))
          ≡ often q (pts_of (row_points k t b.x0 (b.x1 - b.x0) (b.y0 + j)))
      rows j l =
          ap (λ (n : ℕ). often (mirror (pos (2 * w)) q)
          (pts_of (map (on_row (2 * (b.y0 + j) + 1)) (edges k n (λ i. u (w - b.x1 + i) (b.y0 + j)) (w - b.x1))))) (sym side)
          ∙ row-mirror q (2 * (b.y0 + j) + 1) k (b.x1 - b.x0) w b.x0 (w - b.x1) (λ i. t (b.x0 + i) (b.y0 + j))
          (λ i. u (w - b.x1 + i) (b.y0 + j))
          (room b.x0 b.x1 w in'.across' in'.wide) (start b.x0 b.x1 w in'.across')
          (λ i li. same (w - b.x1 + i) (b.y0 + j) (in-w b.x0 b.x1 w i in'.wide li) (in-h b.y0 b.y1 h j in'.high l)
          ∙ ap (λ (x : ℕ). t x (b.y0 + j)) (back b.x0 b.x1 w i in'.wide li))
        where
          room : (x0 x1 w : ℕ) → x0 ≤ x1 → x1 ≤ w → x0 + (x1 - x0) ≤ w
          room x0 x1 w a c = omega arith

          start : (x0 x1 w : ℕ) → x0 ≤ x1 → w - x1 ≡ w - (x0 + (x1 - x0))
          start x0 x1 w a = omega arith

          in-w : (x0 x1 w i : ℕ) → x1 ≤ w → i < x1 - x0 → w - x1 + i < w
          in-w x0 x1 w i a c = omega arith

          in-h : (y0 y1 h j : ℕ) → y1 ≤ h → j < y1 - y0 → y0 + j < h
          in-h y0 y1 h j a c = omega arith

          back : (x0 x1 w i : ℕ) → x1 ≤ w → i < x1 - x0 → w - 1 - (w - x1 + i) ≡ x0 + (x1 - x0 - 1 - i)
          back x0 x1 w i a c = omega arith

      columns : (i : ℕ) → i < b.x1 - b.x0
          → often (mirror (pos (2 * w)) q) (pts_of (column_points k u (box_m w b).y0 ((box_m w b).y1 - (box_m w b).y0) (w - b.x1 + i)))
          ≡ often q (pts_of (column_points k t b.y0 (b.y1 - b.y0) (b.x0 + (b.x1 - b.x0 - 1 - i))))
      columns i l =
          let X = b.x0 + (b.x1 - b.x0 - 1 - i) in
          let e : w - b.x1 + i ≡ w - 1 - X = at b.x0 b.x1 w i in'.wide l in
          let lt : X < w = less b.x0 b.x1 w i in'.wide l in
          ap (λ (x : ℕ). often (mirror (pos (2 * w)) q)
          (pts_of (map (on_column (2 * x + 1)) (edges k (b.y1 - b.y0) (λ j. u x (b.y0 + j)) b.y0)))) e
          ∙ ap (λ (E : List ℕ). often (mirror (pos (2 * w)) q) (pts_of (map (on_column (2 * (w - 1 - X) + 1)) E)))
          (edges-ext k (b.y1 - b.y0) (λ j. u (w - 1 - X) (b.y0 + j)) (λ j. t X (b.y0 + j)) b.y0
          (λ j lj. same (w - 1 - X) (b.y0 + j) (omega arith) (in-h b.y0 b.y1 h j in'.high lj)
          ∙ ap (λ (x : ℕ). t x (b.y0 + j)) (twice w X lt)))
          ∙ column-mirror q w X (edges k (b.y1 - b.y0) (λ j. t X (b.y0 + j)) b.y0) lt
        where
          at : (x0 x1 w i : ℕ) → x1 ≤ w → i < x1 - x0 → w - x1 + i ≡ w - 1 - (x0 + (x1 - x0 - 1 - i))
          at x0 x1 w i a c = omega arith

          less : (x0 x1 w i : ℕ) → x1 ≤ w → i < x1 - x0 → x0 + (x1 - x0 - 1 - i) < w
          less x0 x1 w i a c = omega arith

          in-h : (y0 y1 h j : ℕ) → y1 ≤ h → j < y1 - y0 → y0 + j < h
          in-h y0 y1 h j a c = omega arith

          twice : (w X : ℕ) → X < w → w - 1 - (w - 1 - X) ≡ X
          twice w X l = omega arith

-- ---- every move
-- tests that agree within the picture give the same points
pub boundary-same : (k w h : ℕ) (t u : ℕ → ℕ → Bool) (b : Box) → Within b w h → ((x y : ℕ) → x < w → y < h → u x y ≡ t x y)
    → boundary k u b ≡ boundary k t b
unfolding boundary rows_from columns_from row_points column_points
boundary-same k w h t u b in' same =
    ap₂ (λ (l m : List (ℕ × ℕ)). l ++ m)
    (joined-ext (b.y1 - b.y0) (λ j. row_points k u b.x0 (b.x1 - b.x0) (b.y0 + j))
    (λ j. row_points k t b.x0 (b.x1 - b.x0) (b.y0 + j))
    (λ j lj. ap (map (on_row (2 * (b.y0 + j) + 1)))
    (edges-ext k (b.x1 - b.x0) (λ i. u (b.x0 + i) (b.y0 + j)) (λ i. t (b.x0 + i) (b.y0 + j)) b.x0
    (λ i li. same (b.x0 + i) (b.y0 + j) (in-s b.x0 b.x1 w i in'.wide li) (in-s b.y0 b.y1 h j in'.high lj)))))
    (joined-ext (b.x1 - b.x0) (λ i. column_points k u b.y0 (b.y1 - b.y0) (b.x0 + i))
    (λ i. column_points k t b.y0 (b.y1 - b.y0) (b.x0 + i))
    (λ i li. ap (map (on_column (2 * (b.x0 + i) + 1)))
    (edges-ext k (b.y1 - b.y0) (λ j. u (b.x0 + i) (b.y0 + j)) (λ j. t (b.x0 + i) (b.y0 + j)) b.y0
    (λ j lj. same (b.x0 + i) (b.y0 + j) (in-s b.x0 b.x1 w i in'.wide li) (in-s b.y0 b.y1 h j in'.high lj)))))
  where
    in-s : (y0 y1 h j : ℕ) → y1 ≤ h → j < y1 - y0 → y0 + j < h
    in-s y0 y1 h j a c = omega arith

pub box-within : (m : Move) (w h : ℕ) (b : Box) → Within b w h → Within (box_of m w h b) (wide_of m w h) (high_of m w h)
unfolding box_of sides_of
box-within still w h b i = i
box-within flipped w h b i = record { across' = omega (arith, i.across'); down' = i.down'; wide = omega arith; high = i.high }
box-within (turned m) w h b i =
    let r = box-within m w h b i in
    record { across' = omega (arith, r.down'); down' = r.across'; wide = omega arith; high = r.wide }

pub boundary-move : (m : Move) (w h : ℕ) (q : Pt) (k : ℕ) (t u : ℕ → ℕ → Bool) (b : Box) → Within b w h
    → ((x y : ℕ) → x < w → y < h → u (place_of m w h x y).0 (place_of m w h x y).1 ≡ t x y)
    → often (moved_point m w h q) (pts_of (boundary k u (box_of m w h b))) ≡ often q (pts_of (boundary k t b))
unfolding box_of place_of moved_point box_m box_t quarter mirror swap transposed
boundary-move still w h q k t u b i same = ap (λ (l : List (ℕ × ℕ)). often q (pts_of l)) (boundary-same k w h t u b i same)
boundary-move flipped w h q k t u b i same =
    boundary-mirror q k w h t u b i (λ x y lx ly. ap (λ (z : ℕ). u z y) (sym (twice w x lx)) ∙ same (w - 1 - x) y (omega arith) ly)
  where
    twice : (w x : ℕ) → x < w → w - 1 - (w - 1 - x) ≡ x
    twice w x l = omega arith
boundary-move (turned m) w h q k t u b i same =
    boundary-mirror (swap (moved_point m w h q)) k (high_of m w h) (wide_of m w h) (transposed u₁) u (box_t (box_of m w h b)) turned-in
    (λ x y lx ly. ap (λ (z : ℕ). u z y) (sym (twice (high_of m w h) x lx)))
    ∙ boundary-transpose (moved_point m w h q) k u₁ (box_of m w h b)
    ∙ boundary-move m w h q k t u₁ b i same
  where
    u₁ : ℕ → ℕ → Bool
    u₁ x y = u (high_of m w h - 1 - y) x

    turned-in : Within (box_t (box_of m w h b)) (high_of m w h) (wide_of m w h)
    turned-in = let r = box-within m w h b i in record { across' = r.down'; down' = r.across'; wide = r.high; high = r.wide }

    twice : (w x : ℕ) → x < w → w - 1 - (w - 1 - x) ≡ x
    twice w x l = omega arith
