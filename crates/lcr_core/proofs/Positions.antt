-- Where the ring's cells stand round it: the outer layer is 0 cells in from the outer square, the inner layer 1.
--     depth-at, along-at            a place's depth, and its coordinate read back
--     out-..                        how far out a place lies, by where it stands
--     top, bottom, right, left      the position of a cell of an edge, i cells in
--     position-outer                the position of the outer cell of p is p
--     inner-owner                   the position of the inner cell of p
-- Assumes nothing.
use mathlib.Core.Path.{◌≡◌, refl, sym, ap, ◌∙◌, subst}
use mathlib.Core.Bool.{Bool, true, false, ◌&&◌, cond}
use Prim.Native.Nat.{ℕ, suc, ◌+◌, ◌*◌, ◌-◌, ◌%◌, ◌<◌, ◌≤◌, min, max}
use native.Mathlib.Omega.{arith}
use native.Mathlib.Nat.{mod-eq_of_lt}
use lib.Dec.{leb, ltb}
use borrow.Author.Tests.{ltb-true, ltb-false, leb-true, leb-false, lt-ltb, le-ltb, le-leb, lt-leb}
use lib.IntN.{pos, negsuc}
use lib.Signed.{non_neg}
use Rattle.lcr_core.specs.Version.{side_of, quarter_of, positions_of}
use Rattle.lcr_core.specs.Border.{depth_of, shell_of, coordinate, along_of, is_level, edge_of, offset_of, on_edge, position_at, outer_x, outer_y, inward, outer_cell}
use Rattle.std.specs.Prelude.{Option, Some}
use Rattle.lcr_core.proofs.Cells.{position_of, place_in, edge-top, edge-bottom, edge-left, edge-right, outer-x-1, outer-x-2, outer-x-3, outer-x-4, outer-y-1, outer-y-2, outer-y-3, outer-y-4}

-- ---- depths

-- how far out of the symbol place k lies
unfoldable out : ℕ → ℕ → ℕ
out v k = max (3 - k) (k - (side_of v + 2))

depth-at : (v k : ℕ) → depth_of (side_of v) (coordinate k) ≡ out v k
unfolding out
depth-at v k = go (ltb k 3) refl
  where
    go : (b : Bool) → ltb k 3 ≡ b → depth_of (side_of v) (cond b (negsuc (3 - suc k)) (pos (k - 3))) ≡ out v k
    go true e = let l : k < 3 = ltb-true k 3 e in omega arith
    go false e = let l : 3 ≤ k = ltb-false k 3 e in omega arith

pub along-at : (k : ℕ) → along_of (coordinate k) ≡ k
along-at k = go (ltb k 3) refl
  where
    go : (b : Bool) → ltb k 3 ≡ b → along_of (cond b (negsuc (3 - suc k)) (pos (k - 3))) ≡ k
    go true e = let l : k < 3 = ltb-true k 3 e in omega arith
    go false e = let l : 3 ≤ k = ltb-false k 3 e in omega arith

sign_low : (k : ℕ) → k < 3 → non_neg (coordinate k) ≡ false
sign_low k h = rw (lt-ltb k 3 h)

sign_high : (k : ℕ) → 3 ≤ k → non_neg (coordinate k) ≡ true
sign_high k h = rw (le-ltb k 3 h)

out-low : (v i : ℕ) → i ≤ 1 → out v i ≡ 3 - i
unfolding out
out-low v i h = omega arith

out-high : (v i : ℕ) → i ≤ 1 → out v (quarter_of v - i) ≡ 3 - i
unfolding out
out-high v i h = omega arith

out_within : (v i k : ℕ) → i ≤ 1 → i ≤ k → k ≤ quarter_of v - i → out v k ≤ 3 - i
unfolding out
out_within v i k h l m = omega arith

out-inside : (v i k : ℕ) → i ≤ 1 → i < k → k < quarter_of v - i → out v k < 3 - i
unfolding out
out-inside v i k h l m = omega arith

-- ---- edges

level-yes : (v x y : ℕ) → 0 < out v y → out v x ≤ out v y → is_level (side_of v) (coordinate x) (coordinate y) ≡ true
level-yes v x y h k =
    let dx = depth-at v x in
    let dy = depth-at v y in
    rw (lt-ltb 0 (depth_of (side_of v) (coordinate y)) (omega arith))
    (le-leb (depth_of (side_of v) (coordinate x)) (depth_of (side_of v) (coordinate y)) (omega arith))

level-no : (v x y : ℕ) → out v y < out v x → is_level (side_of v) (coordinate x) (coordinate y) ≡ false
level-no v x y k =
    let dx = depth-at v x in
    let dy = depth-at v y in
    both-no (ltb 0 (depth_of (side_of v) (coordinate y))) _
    (lt-leb (depth_of (side_of v) (coordinate x)) (depth_of (side_of v) (coordinate y)) (omega arith))
  where
    both-no : (a b : Bool) → b ≡ false → a && b ≡ false
    both-no true b e = e
    both-no false b e = refl

least-is : (a q t : ℕ) → a ≡ t → t ≤ q → min a q ≡ t
least-is a q t e h = omega arith

shell-of : (d e x y m : ℕ) → d ≡ x → e ≡ y → max x y ≡ m → max d e ≡ m
shell-of d e x y m p q h = ap (λ (k : ℕ). max k e) p ∙ ap (λ (k : ℕ). max x k) q ∙ h

-- a cell of the ring, m cells out, by its edge and its place there
place-on : (v x y e t m : ℕ) → 2 ≤ m → m ≤ 3 → max (out v x) (out v y) ≡ m
    → e ≡ edge_of (side_of v) (coordinate x) (coordinate y) → coordinate t ≡ offset_of (side_of v) (coordinate x) (coordinate y)
    → t ≤ quarter_of v → position_at v (coordinate x) (coordinate y) ≡ Some (on_edge (quarter_of v) e t % positions_of v)
unfolding position_of
place-on v x y e t m low high d ee eo ht =
    let a : along_of (offset_of (side_of v) (coordinate x) (coordinate y)) ≡ t = sym (ap along_of eo) ∙ along-at t in
    let u : min (along_of (offset_of (side_of v) (coordinate x) (coordinate y))) (quarter_of v) ≡ t = least-is _ _ t a ht in
    let z : shell_of (side_of v) (coordinate x) (coordinate y) ≡ m = shell-of _ _ _ _ m (depth-at v x) (depth-at v y) d in
    sym (place_in v (coordinate x) (coordinate y) (subst (λ (k : ℕ). 2 ≤ k) (sym z) low) (subst (λ (k : ℕ). k ≤ 3) (sym z) high))
    ∙ ap (λ (k : ℕ). Some (on_edge (quarter_of v) k
    (min (along_of (offset_of (side_of v) (coordinate x) (coordinate y))) (quarter_of v)) % positions_of v)) (sym ee)
    ∙ ap (λ (k : ℕ). Some (on_edge (quarter_of v) e k % positions_of v)) u

left-most : (a b m : ℕ) → a ≡ m → b ≤ m → max a b ≡ m
left-most a b m e h = omega arith

right-most : (a b m : ℕ) → a ≤ m → b ≡ m → max a b ≡ m
right-most a b m h e = omega arith

at : (v k p : ℕ) → k ≡ p → p < positions_of v → Some (k % positions_of v) ≡ Some p
at v k p e h = ap (λ (m : ℕ). Some (m % positions_of v)) e ∙ ap Some (mod-eq_of_lt h)

module _ (v i : ℕ) (layer : i ≤ 1) where
  pub top : (x : ℕ) → i ≤ x → x ≤ quarter_of v - i → position_at v (coordinate x) (coordinate i) ≡ Some x
  unfolding on_edge
  top x l h =
      let o = out-low v i layer in
      let w = out_within v i x layer l h in
      let e = edge-top (side_of v) (coordinate x) (coordinate i) (level-yes v x i (omega arith) (omega arith)) (sign_low i (omega arith)) in
      place-on v x i 0 x (3 - i) (omega arith) (omega arith) (right-most _ _ _ w o) e.0 e.1 (omega arith)
      ∙ at v x x refl (omega arith)

  pub bottom : (x : ℕ) → i ≤ x → x ≤ quarter_of v - i
      → position_at v (coordinate x) (coordinate (quarter_of v - i)) ≡ Some (3 * quarter_of v - x)
  unfolding on_edge
  bottom x l h =
      let o = out-high v i layer in
      let w = out_within v i x layer l h in
      let e = edge-bottom (side_of v) (coordinate x) (coordinate (quarter_of v - i))
      (level-yes v x (quarter_of v - i) (omega arith) (omega arith))
      (sign_high (quarter_of v - i) (omega arith)) in
      place-on v x (quarter_of v - i) 2 x (3 - i) (omega arith) (omega arith) (right-most _ _ _ w o) e.0 e.1 (omega arith)
      ∙ at v (3 * quarter_of v - x) _ refl (omega arith)

  pub right : (y : ℕ) → i < y → y < quarter_of v - i → position_at v (coordinate (quarter_of v - i)) (coordinate y) ≡ Some (quarter_of v + y)
  unfolding on_edge
  right y l h =
      let o = out-high v i layer in
      let w = out-inside v i y layer l h in
      let e = edge-right (side_of v) (coordinate (quarter_of v - i)) (coordinate y) (level-no v (quarter_of v - i) y (omega arith))
      (sign_high (quarter_of v - i) (omega arith)) in
      place-on v (quarter_of v - i) y 1 y (3 - i) (omega arith) (omega arith) (left-most _ _ _ o (omega arith)) e.0 e.1 (omega arith)
      ∙ at v (quarter_of v + y) _ refl (omega arith)

  pub left : (y : ℕ) → i < y → y < quarter_of v - i → position_at v (coordinate i) (coordinate y) ≡ Some (4 * quarter_of v - y)
  unfolding on_edge
  left y l h =
      let o = out-low v i layer in
      let w = out-inside v i y layer l h in
      let e = edge-left (side_of v) (coordinate i) (coordinate y) (level-no v i y (omega arith)) (sign_low i (omega arith)) in
      place-on v i y 3 y (3 - i) (omega arith) (omega arith) (left-most _ _ _ o (omega arith)) e.0 e.1 (omega arith)
      ∙ at v (4 * quarter_of v - y) _ refl (omega arith)

-- ---- outer cells

at_places : (v x y x' y' : ℕ) (a : Option ℕ) → x ≡ x' → y ≡ y' → position_at v (coordinate x) (coordinate y) ≡ a
    → position_at v (coordinate x') (coordinate y') ≡ a
at_places v x y x' y' a ex ey e =
    sym (ap (λ (k : ℕ). position_at v (coordinate x) (coordinate k)) ey ∙ ap (λ (k : ℕ). position_at v (coordinate k) (coordinate y')) ex) ∙ e

-- an answer at a number that is p
pub be : (k p : ℕ) (a : Option ℕ) → a ≡ Some k → k ≡ p → a ≡ Some p
be k p a h e = h ∙ ap Some e

module _ (v p : ℕ) (h : p < positions_of v) where
  abbrev q : ℕ
  q = quarter_of v

  outer-at : position_at v (coordinate (outer_x (quarter_of v) p)) (coordinate (outer_y (quarter_of v) p)) ≡ Some p
  outer-at = go (leb p q) refl (ltb p (2 * q)) refl (leb p (3 * q)) refl
    where
      go : (a : Bool) → leb p q ≡ a → (b : Bool) → ltb p (2 * q) ≡ b → (c : Bool) → leb p (3 * q) ≡ c
          → position_at v (coordinate (outer_x q p)) (coordinate (outer_y q p)) ≡ Some p
      go true ea b eb c ec =
          let l : p ≤ q = leb-true p q ea in
          at_places v p 0 _ _ _ (outer-x-1 q p l) (outer-y-1 q p l) (top v 0 (omega arith) p (omega arith) (omega arith))
      go false ea true eb c ec =
          let g : q < p = leb-false p q ea in
          let l : p < 2 * q = ltb-true p (2 * q) eb in
          let k : q - 0 ≡ q = omega arith in
          at_places v (q - 0) (p - q) _ _ _ (k ∙ outer-x-2 q p g (omega arith)) (outer-y-2 q p g (omega arith))
          (be _ p _ (right v 0 (omega arith) (p - q) (omega arith) (omega arith)) (omega arith))
      go false ea false eb true ec =
          let g : 2 * q ≤ p = ltb-false p (2 * q) eb in
          let l : p ≤ 3 * q = leb-true p (3 * q) ec in
          at_places v (3 * q - p) (q - 0) _ _ _ (low g l) (high g l)
          (be _ p _ (bottom v 0 (omega arith) (3 * q - p) (omega arith) (omega arith)) (omega arith))
        where
          low : 2 * q ≤ p → p ≤ 3 * q → 3 * q - p ≡ outer_x q p
          low g l = by (ltb (2 * q) p) refl
            where
              by : (b : Bool) → ltb (2 * q) p ≡ b → 3 * q - p ≡ outer_x q p
              by true e = outer-x-3 q p (ltb-true (2 * q) p e) l
              by false e =
                  let m : p ≤ 2 * q = ltb-false (2 * q) p e in
                  let z : 3 * q - p ≡ q = omega arith in
                  z ∙ outer-x-2 q p (omega arith) m

          high : 2 * q ≤ p → p ≤ 3 * q → q - 0 ≡ outer_y q p
          high g l = by (ltb (2 * q) p) refl
            where
              by : (b : Bool) → ltb (2 * q) p ≡ b → q - 0 ≡ outer_y q p
              by true e = let z : q - 0 ≡ q = omega arith in z ∙ outer-y-3 q p (ltb-true (2 * q) p e) l
              by false e =
                  let m : p ≤ 2 * q = ltb-false (2 * q) p e in
                  let z : q - 0 ≡ p - q = omega arith in
                  z ∙ outer-y-2 q p (omega arith) m
      go false ea false eb false ec =
          let g : 3 * q < p = leb-false p (3 * q) ec in
          at_places v 0 (4 * q - p) _ _ _ (outer-x-4 q p g) (outer-y-4 q p g)
          (be _ p _ (left v 0 (omega arith) (4 * q - p) (omega arith) (omega arith)) (omega arith))

pub position-outer : (v p : ℕ) → p < positions_of v → position_at v (outer_cell v p).x (outer_cell v p).y ≡ Some p
unfolding outer_cell
position-outer v p h = rw (mod-eq_of_lt h) (outer-at v p h)

-- ---- inner cells

module _ (v p : ℕ) (h : p < positions_of v) where
  abbrev r : ℕ
  r = quarter_of v

  -- the inner cell's position from its places
  pub inner-by : (x y ox oy k : ℕ) → ox ≡ outer_x r p → oy ≡ outer_y r p → x ≡ inward r ox → y ≡ inward r oy
      → position_at v (coordinate x) (coordinate y) ≡ Some k
      → position_at v (coordinate (inward r (outer_x r p))) (coordinate (inward r (outer_y r p))) ≡ Some k
  inner-by x y ox oy k ex ey ix iy e =
      at_places v x y _ _ _ (ix ∙ ap (λ (m : ℕ). inward r m) ex) (iy ∙ ap (λ (m : ℕ). inward r m) ey) e

  -- on the top edge, with the right edge's first
  pub inner-top : (k : ℕ) → 1 ≤ k → k ≤ r - 1 → (ox oy : ℕ) → ox ≡ outer_x r p → oy ≡ outer_y r p → k ≡ inward r ox → 1 ≡ inward r oy
      → position_at v (coordinate (inward r (outer_x r p))) (coordinate (inward r (outer_y r p))) ≡ Some k
  inner-top k l m ox oy ex ey ix iy = inner-by k 1 ox oy k ex ey ix iy (top v 1 (omega arith) k l m)

  pub inner-bottom : (x k : ℕ) → 1 ≤ x → x ≤ r - 1 → k ≡ 3 * r - x → (ox oy : ℕ) → ox ≡ outer_x r p → oy ≡ outer_y r p
      → x ≡ inward r ox → r - 1 ≡ inward r oy
      → position_at v (coordinate (inward r (outer_x r p))) (coordinate (inward r (outer_y r p))) ≡ Some k
  inner-bottom x k l m e ox oy ex ey ix iy =
      inner-by x (r - 1) ox oy k ex ey ix iy (be _ k _ (bottom v 1 (omega arith) x l m) (sym e))
