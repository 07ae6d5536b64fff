-- Points in doubled coordinates and as f32 numbers in the listing's lines. points-floats, hull-floats, quad-floats: numbers of vertices and
-- corners; doubled-are:
-- the doubled numbers; near-floats, near-points, near-quad; lines_are; hull-few, lines-short. Assumes nothing.
use mathlib.Core.Path.{◌≡◌, refl, sym, ap, ap₂, ◌∙◌, subst}
use mathlib.Core.List.{List, [], ◌∷◌, ◌++◌, map, Memᴰ}
use Prim.Native.Nat.{ℕ, zero, suc, ◌+◌, ◌*◌, ◌≤◌, ◌<◌}
use native.Mathlib.Omega.{arith}
use lib.ListN.{length, get_or, length-map}
use lib.Ieee.{Float, of_bits, round}
use Rattle.ieee.specs.Constants.{0f}
use Rattle.hull.proofs.Floats.{many-floats, hull-floats, quad-floats}
use Rattle.hull.proofs.Walks.{walk-few}
use Rattle.ieee.proofs.Wholes.{doubled-cast}
use Rattle.whole.specs.Walk.{hull_with}
use Rattle.hull.specs.Points.{points_at, half_of, numbers_of, floats_of, Small}
use Rattle.hull.specs.Hull.{hull_tests, hull_of, hull_points}
use Rattle.hull.specs.Quad.{quad_of, quad_floats, quad_points}
use Rattle.hull.proofs.Exact.{half-val, small_at}
use Rattle.text.specs.Text.{line_of, quad_word}
use Rattle.traylist_text.specs.Listing.{outline_word, quad_line, outline_lines}
use Rattle.traylist_text.specs.Inner.{Short, cut_double, corners_line, NearPoints, lines_by}

-- ---- numbers of points, past the list's end too
half-zero : half_of 0 ≡ 0f
unfolding half_of round of_bits
half-zero = refl

-- ---- doubled again
doubled-half : (n : ℕ) → n ≤ 2048 → cut_double (half_of n) ≡ n
unfolding cut_double
doubled-half n l = doubled-cast (half_of n) n (omega arith) (half-val n (omega arith))

pub doubled-are : (L : List (ℕ × ℕ)) → Small L → map cut_double (floats_of L) ≡ numbers_of L
unfolding floats_of numbers_of
doubled-are [] s = refl
doubled-are (q ∷ L) s =
    let b = s q (Memᴰ.head refl) in
    ap₂ (λ (x : ℕ) (l : List ℕ). x ∷ l) (doubled-half q.0 b.0)
    (ap₂ (λ (y : ℕ) (l : List ℕ). y ∷ l) (doubled-half q.1 b.1) (doubled-are L (λ r m. s r (Memᴰ.tail m))))

pub quad-line : (Q : List (ℕ × ℕ)) → Small Q → corners_line (floats_of Q) ≡ quad_line Q
unfolding corners_line quad_line floats_of numbers_of
quad-line [] s = refl
quad-line (q ∷ Q) s = ap (line_of quad_word) (doubled-are (q ∷ Q) s)

-- ---- points of points
picked : (L : List (ℕ × ℕ)) → Small L → (is : List ℕ) → Small (map (λ i. get_or L i (0, 0)) is)
picked L s [] q m = elim m [ ]
picked L s (i ∷ is) q (Memᴰ.head e) =
    let z = small_at L s i in
    (omega (arith, z.0, ap (λ (u : ℕ × ℕ). u.0) e), omega (arith, z.1, ap (λ (u : ℕ × ℕ). u.1) e))
picked L s (i ∷ is) q (Memᴰ.tail m) = picked L s is q m

pub lines_are : (L : List (ℕ × ℕ)) → Small L → lines_by (floats_of L) ≡ outline_lines L
unfolding lines_by outline_lines
lines_are L s =
    ap₂ (λ (a b : List ℕ). a ++ b)
    (ap₂ (λ (n m : ℕ). line_of outline_word (n ∷ m ∷ [])) (many-floats L)
    (ap (λ (n : ℕ). length (hull_of (floats_of L) n)) (many-floats L)
    ∙ sym (length-map (hull_of (floats_of L) (length L)) (λ i. get_or L i (0, 0)))
    ∙ unfold hull_points in refl))
    (ap (λ (p : List Float). corners_line (quad_floats p)) (hull-floats L)
    ∙ ap corners_line (quad-floats (hull_points L))
    ∙ quad-line (quad_points (hull_points L)) (unfold quad_points in picked (hull_points L) (unfold hull_points in picked L s (hull_of
    (floats_of L) (length L))) (quad_of (floats_of (hull_points L)) (length (hull_points L)))))

-- ---- numbers below 1,000
zero-near : cut_double 0f < 1000
zero-near = subst (λ (x : Float). cut_double x < 1000) half-zero (rw (doubled-half 0 (omega arith)) (omega arith))

pub near-points : (p : List Float) → NearPoints p → (is : List ℕ) → NearPoints (points_at p is)
unfolding points_at
near-points p n [] i = zero-near
near-points p n (j ∷ is) zero = n (2 * j)
near-points p n (j ∷ is) (suc zero) = n (2 * j + 1)
near-points p n (j ∷ is) (suc (suc i)) = near-points p n is i

pub near-floats : (L : List (ℕ × ℕ)) → ((q : ℕ × ℕ) → Memᴰ q L → (q.0 < 1000) × (q.1 < 1000)) → NearPoints (floats_of L)
unfolding floats_of numbers_of
near-floats [] s i = zero-near
near-floats (q ∷ L) s zero =
    let b = s q (Memᴰ.head refl) in rw (doubled-half q.0 (omega (arith, b.0))) b.0
near-floats (q ∷ L) s (suc zero) =
    let b = s q (Memᴰ.head refl) in rw (doubled-half q.1 (omega (arith, b.1))) b.1
near-floats (q ∷ L) s (suc (suc i)) = near-floats L (λ r m. s r (Memᴰ.tail m)) i

pub near-doubled : (l : List Float) → NearPoints l → Short (map cut_double l)
near-doubled [] n i b = absurd (omega arith)
near-doubled (x ∷ l) n zero b = let k = n 0 in omega (arith, k)
near-doubled (x ∷ l) n (suc i) b = near-doubled l (λ j. n (suc j)) i (omega arith)

-- ---- how many vertices
pub hull-few : (p : List Float) (n : ℕ) → length (hull_of p n) ≤ n
unfolding hull_of hull_with
hull-few p n = walk-few (hull_tests p) n _ n _
