-- How long the lines of an outline are: quad-four, a quad has at most four corners; Below, points whose coordinates are below 1,000,
-- below-small,
-- below-picked; quad-line-short, outline-short. Assumes nothing.
use mathlib.Core.Path.{◌≡◌, refl, ap}
use mathlib.Core.Bool.{Bool, true, false, ◌&&◌}
use mathlib.Core.List.{List, [], ◌∷◌, map, Memᴰ}
use Prim.Native.Nat.{ℕ, zero, suc, ◌≤◌, ◌<◌}
use native.Mathlib.Omega.{arith}
use lib.Dec.{ltb}
use lib.ListN.{length, get_or, length-append, length-map}
use lib.Ieee.{Float}
use Rattle.laws.specs.Lists.{range}
use Rattle.hull.proofs.Floats.{length-numbers}
use Rattle.whole.specs.Walk.{Ops, keep, farthest_with, ends, quad_with}
use Rattle.hull.specs.Points.{numbers_of, floats_of, Small}
use Rattle.hull.specs.Hull.{hull_of, hull_points}
use Rattle.hull.specs.Quad.{quad_ops, quad_of, quad_points}
use Rattle.text.specs.Text.{line_of, quad_word, none_word}
use Rattle.traylist_text.specs.Listing.{outline_word, quad_line, outline_lines}
use Rattle.traylist_text.specs.Inner.{Short}
use Rattle.traylist_text.proofs.Numbers.{line-short}
use Rattle.traylist_text.proofs.Outlines.{hull-few}
use Rattle.traylist_text.proofs.Pieces.{two-short}

-- ---- at most four corners
pick-four : (p q : Bool) (u v : List ℕ) → length u ≤ 4 → length v ≤ 4
    → length {A = ℕ} (elim p as (λ _. List ℕ) [ false ↦ [] | true ↦ elim q as (λ _. List ℕ) [ false ↦ u | true ↦ v ] ]) ≤ 4
pick-four false q u v a b = omega arith
pick-four true false u v a b = a
pick-four true true u v a b = b

ends-four : {E : Type 0} (o : Ops E) (n a b : ℕ) → length (ends o n a b) ≤ 4
unfolding ends
ends-four o n a b =
    let c = keep o.less (o.side a b) a o.nil (range 0 n) in
    let e = keep (λ u s. o.less s u) (o.side a b) a o.nil (range 0 n) in
    pick-four (o.less o.nil c.1 && o.less e.1 o.nil) (o.back (o.quad_area a c.0 b e.0))
    (a ∷ c.0 ∷ b ∷ e.0 ∷ []) (a ∷ e.0 ∷ b ∷ c.0 ∷ []) (omega arith) (omega arith)

quad-four : (l : List Float) (n : ℕ) → length (quad_of l n) ≤ 4
unfolding quad_of quad_with
quad-four l n = go (ltb n 4)
  where
    go : (b : Bool)
        → length {A = ℕ} (elim b as (λ _. List ℕ) [
          | true ↦ []
          | false ↦ ends (quad_ops l) n (farthest_with (quad_ops l) n).0 (farthest_with (quad_ops l) n
              ).1
        ]) ≤ 4
    go true = omega arith
    go false = ends-four (quad_ops l) n (farthest_with (quad_ops l) n).0 (farthest_with (quad_ops l) n).1

-- ---- points whose coordinates are below 1,000
abbrev pub Below : List (ℕ × ℕ) → Type 0
Below L = (q : ℕ × ℕ) → Memᴰ q L → (q.0 < 1000) × (q.1 < 1000)

pub below-small : (L : List (ℕ × ℕ)) → Below L → Small L
below-small L s q m = let b = s q m in (omega (arith, b.0), omega (arith, b.1))

below_at : (L : List (ℕ × ℕ)) → Below L → (i : ℕ) → ((get_or L i (0, 0)).0 < 1000) × ((get_or L i (0, 0)).1 < 1000)
below_at [] s i = (omega arith, omega arith)
below_at (q ∷ L) s zero = s q (Memᴰ.head refl)
below_at (q ∷ L) s (suc i) = below_at L (λ r m. s r (Memᴰ.tail m)) i

below-picked : (L : List (ℕ × ℕ)) → Below L → (is : List ℕ) → Below (map (λ i. get_or L i (0, 0)) is)
below-picked L s [] q m = elim m [ ]
below-picked L s (i ∷ is) q (Memᴰ.head e) =
    let z = below_at L s i in
    (omega (arith, z.0, ap (λ (u : ℕ × ℕ). u.0) e), omega (arith, z.1, ap (λ (u : ℕ × ℕ). u.1) e))
below-picked L s (i ∷ is) q (Memᴰ.tail m) = below-picked L s is q m

-- ---- their lines
numbers-short : (L : List (ℕ × ℕ)) → Below L → Short (numbers_of L)
unfolding numbers_of
numbers-short [] s i l = absurd (omega arith)
numbers-short (q ∷ L) s zero l = let b = (s q (Memᴰ.head refl)).0 in omega (arith, b)
numbers-short (q ∷ L) s (suc zero) l = let b = (s q (Memᴰ.head refl)).1 in omega (arith, b)
numbers-short (q ∷ L) s (suc (suc i)) l = numbers-short L (λ r m. s r (Memᴰ.tail m)) i (omega arith)

quad-line-short : (Q : List (ℕ × ℕ)) → Below Q → length Q ≤ 4 → length (quad_line Q) ≤ 53
quad-line-short [] s l = unfold quad_line in omega (arith, line-short none_word [] (λ i b. absurd (omega arith)))
quad-line-short (q ∷ Q) s l =
    unfold quad_line in
    omega (arith, line-short quad_word (numbers_of (q ∷ Q)) (numbers-short (q ∷ Q) s), length-numbers (q ∷ Q))

pub outline-short : (L : List (ℕ × ℕ)) → Below L → length L ≤ 640 → length (outline_lines L) ≤ 73
unfolding outline_lines
outline-short L s l =
    omega (
      arith,
      length-append (line_of outline_word (length L ∷ length (hull_points L) ∷ [])) (quad_line (quad_points (hull_points L))),
      line-short outline_word (length L ∷ length (hull_points L) ∷ [])
          (two-short (length L) (length (hull_points L)) (omega (arith, l)) (omega (
            arith,
            l,
            hull-length,
            hull-few (floats_of L) (length
                L),
          ))),
      quad-line-short (quad_points (hull_points L)) quad-below
          (omega (arith, quad-length (hull_points L), quad-four (floats_of (hull_points L)) (length (hull_points L)))),
    )
  where
    hull-length : length (hull_points L) ≡ length (hull_of (floats_of L) (length L))
    hull-length = unfold hull_points in length-map (hull_of (floats_of L) (length L)) (λ i. get_or L i (0, 0))

    hull-below : Below (hull_points L)
    hull-below = unfold hull_points in below-picked L s (hull_of (floats_of L) (length L))

    quad-below : Below (quad_points (hull_points L))
    quad-below = unfold quad_points in below-picked (hull_points L) hull-below (quad_of (floats_of (hull_points L)) (length (hull_points L)))

    quad-length : (H : List (ℕ × ℕ)) → length (quad_points H) ≡ length (quad_of (floats_of H) (length H))
    quad-length H = unfold quad_points in length-map (quad_of (floats_of H) (length H)) (λ i. get_or H i (0, 0))
