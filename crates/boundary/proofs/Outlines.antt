-- How far out boundary points lie: boundary-within. Assumes nothing.
use mathlib.Core.Path.{◌≡◌, refl, ap}
use mathlib.Core.Logic.{◌⊎◌, inl, inr}
use mathlib.Core.Bool.{Bool, true, false, cond}
use mathlib.Core.List.Memᴰ
use mathlib.Core.List.{List, [], ◌∷◌, map, Memᴰ}
use Prim.Native.Nat.{ℕ, ◌+◌, ◌-◌, ◌*◌, ◌≤◌, ◌<◌}
use native.Mathlib.Omega.{arith}
use lib.Dec.{ltb}
use Rattle.laws.specs.Move.{Box}
use Rattle.boundary.specs.Runs.{run_start, run_end, edges}
use Rattle.boundary.specs.Boundary.{on_row, on_column, row_points, column_points, rows_from, columns_from, boundary}
use Rattle.laws.specs.Fold.{joined}
use Rattle.laws.proofs.Joined.{joined-mem}
use Rattle.boundary.proofs.Runs.{start-le, run-end-le}
use Rattle.boundary.proofs.Boundary.{Within}

mapped : {A B : Type 0} (f : A → B) (l : List A) (q : B) → Memᴰ q (map f l) → (a : A) × Memᴰ a l × (q ≡ f a)
mapped f [] q t = elim t [ ]
mapped f (a ∷ l) q (Memᴰ.head e) = (a, Memᴰ.head refl, e)
mapped f (a ∷ l) q (Memᴰ.tail t) = let r = mapped f l q t in (r.0, Memᴰ.tail r.1, r.2)

edge-le : (k n : ℕ) (t : ℕ → Bool) (s e : ℕ) → Memᴰ e (edges k n t s) → e ≤ 2 * (s + n)
unfolding edges
edge-le k n t s e m = go (ltb (run_start k n t) n) m
  where
    go : (z : Bool) → Memᴰ e (cond z (2 * (s + run_start k n t) ∷ 2 * (s + run_end k n t) ∷ []) []) → e ≤ 2 * (s + n)
    go false u = elim u [ ]
    go true (Memᴰ.head d) = omega (arith, d, start-le k n t)
    go true (Memᴰ.tail (Memᴰ.head d)) = omega (arith, d, run-end-le k n t)
    go true (Memᴰ.tail (Memᴰ.tail u)) = elim u [ ]

pub boundary-within : (k w h : ℕ) (t : ℕ → ℕ → Bool) (b : Box) → Within b w h → (q : ℕ × ℕ) → Memᴰ q (boundary k t b)
    → (q.0 ≤ 2 * w) × (q.1 ≤ 2 * h)
unfolding boundary rows_from columns_from row_points column_points
boundary-within k w h t b in' q m =
    go (Memᴰ.append_cases (joined (b.y1 - b.y0) (λ j. row_points k t b.x0 (b.x1 - b.x0) (b.y0 + j))) m)
  where
    far : (x0 x1 w e : ℕ) → x0 ≤ x1 → x1 ≤ w → e ≤ 2 * (x0 + (x1 - x0)) → e ≤ 2 * w
    far x0 x1 w e a c d = omega arith

    mid : (y0 y1 h j e : ℕ) → y1 ≤ h → j < y1 - y0 → e ≡ 2 * (y0 + j) + 1 → e ≤ 2 * h
    mid y0 y1 h j e a c d = omega arith

    go : Memᴰ q (joined (b.y1 - b.y0) (λ j. row_points k t b.x0 (b.x1 - b.x0) (b.y0 + j)))
        ⊎ Memᴰ q (joined (b.x1 - b.x0) (λ i. column_points k t b.y0 (b.y1 - b.y0) (b.x0 + i))) → (q.0 ≤ 2 * w) × (q.1 ≤ 2 * h)
    go (inl u) =
        let r = joined-mem (b.y1 - b.y0) (λ j. row_points k t b.x0 (b.x1 - b.x0) (b.y0 + j)) q u in
        let s = mapped (on_row (2 * (b.y0 + r.0) + 1)) (edges k (b.x1 - b.x0) (λ i. t (b.x0 + i) (b.y0 + r.0)) b.x0) q r.2 in (
          far b.x0 b.x1 w q.0 in'.across' in'.wide
              (omega (
                arith,
                ap (λ (z : ℕ × ℕ). z.0) s.2,
                edge-le k (b.x1 - b.x0) (λ i. t (b.x0 + i) (b.y0 + r.0)) b.x0 s.0 s.1,
              )),
          mid b.y0 b.y1 h r.0 q.1 in'.high r.1 (ap (λ (z : ℕ × ℕ). z.1) s.2),
        )
    go (inr u) =
        let r = joined-mem (b.x1 - b.x0) (λ i. column_points k t b.y0 (b.y1 - b.y0) (b.x0 + i)) q u in
        let s = mapped (on_column (2 * (b.x0 + r.0) + 1)) (edges k (b.y1 - b.y0) (λ j. t (b.x0 + r.0) (b.y0 + j)) b.y0) q r.2 in (
          mid b.x0 b.x1 w r.0 q.0 in'.wide r.1 (ap (λ (z : ℕ × ℕ). z.0) s.2),
          far b.y0 b.y1 h q.1 in'.down' in'.high
              (omega (
                arith,
                ap (λ (z : ℕ × ℕ). z.1) s.2,
                edge-le k (b.y1 - b.y0) (λ j. t (b.x0 + r.0) (b.y0 + j)) b.y0 s.0 s.1,
              )),
        )
