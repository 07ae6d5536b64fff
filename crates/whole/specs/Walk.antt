-- The walk of the hull and the search of the quad over points by their numbers, with tests and values as parameters: one rule for f32 and
-- whole numbers. Definitions only. Assumes nothing.
use Rattle.std.specs.Prelude.{Bool, true, false, ◌&&◌, List, [], ◌∷◌, map, ◌++◌, ℕ, zero, suc, ◌+◌, ◌%◌, ltb, ℤ}
use Rattle.laws.specs.Lists.{range}
use Rattle.whole.specs.Points.{Pt, pt_at, cross, d2}
use Rattle.whole.specs.Hull.{better, same_pt, lower, is_neg}
use Rattle.whole.specs.Numbers.{◌⊕◌, neg, 𝟘, 𝟙}
use Rattle.whole.specs.Quad.{area}

-- The tests of the walk: is i better than n seen from c; is i lower than n; have i and j the same coordinates.
pub record Tests : Type 0 where
  pub better : ℕ → ℕ → ℕ → Bool
  pub low : ℕ → ℕ → Bool
  pub eq : ℕ → ℕ → Bool

-- The best of n and the numbers of a list, seen from c.
unfoldable pub best_with : Tests → ℕ → ℕ → List ℕ → ℕ
best_with t c n [] = n
best_with t c n (i ∷ is) = best_with t c (elim (t.better c n i) [ true ↦ i | false ↦ n ]) is

-- The lowest of n and the numbers of a list.
unfoldable pub lowest_with : Tests → ℕ → List ℕ → ℕ
lowest_with t n [] = n
lowest_with t n (i ∷ is) = lowest_with t (elim (t.low i n) [ true ↦ i | false ↦ n ]) is

-- Of n points the one after c: the best seen from it.
unfoldable pub next_with : Tests → ℕ → ℕ → ℕ
next_with t n c = best_with t c ((c + 1) % n) (range 0 n)

-- From c on, at most so many points, until one has the coordinates of s.
unfoldable pub walk_with : Tests → ℕ → ℕ → ℕ → ℕ → List ℕ
walk_with t n s zero c = []
walk_with t n s (suc k) c = c ∷ elim (t.eq (next_with t n c) s) [ true ↦ [] | false ↦ walk_with t n s k (next_with t n c) ]

-- The hull of n points: the walk from the lowest.
unfoldable pub hull_with : Tests → ℕ → List ℕ
hull_with t n = walk_with t n (lowest_with t 0 (range 0 n)) n (lowest_with t 0 (range 0 n))

-- The tests of points in whole numbers.
unfoldable pub whole_tests : List Pt → Tests
whole_tests P = record {
  better = λ c n i. better (pt_at P c) (pt_at P n) (pt_at P i);
  low = λ i n. lower (pt_at P i) (pt_at P n);
  eq = λ i j. same_pt
      (pt_at P i) (pt_at P j);
}

-- A fold that keeps the last candidate that passed the test `t kept new`.
unfoldable pub keep : {T E : Type 0} → (E → E → Bool) → (T → E) → T → E → List T → T × E
keep t g x u [] = (x, u)
keep t g x u (y ∷ ys) = elim (t u (g y)) [ true ↦ keep t g y (g y) ys | false ↦ keep t g x u ys ]

-- The pairs i < j of i, .. , i + k − 1.
abbrev pub index_pairs : ℕ → ℕ → List (ℕ × ℕ)
index_pairs i zero = []
index_pairs i (suc k) = map (λ j. (i, j)) (range (suc i) k) ++ index_pairs (suc i) k

-- What the quad's rule reads: a value below every distance, the side of a point on the way itself, when one is less, squared distances, sides, an
-- area, and whether this is that of corners the other way round.
pub record Ops (E : Type 0) : Type 0 where
  pub low : E
  pub nil : E
  pub less : E → E → Bool
  pub d : ℕ → ℕ → E
  pub side : ℕ → ℕ → ℕ → E
  pub quad_area : ℕ → ℕ → ℕ → ℕ → E
  pub back : E → Bool

module _ {E : Type 0} (o : Ops E) where
  -- The pair farthest apart, the first of those.
  unfoldable pub farthest_with : ℕ → ℕ × ℕ
  farthest_with n = (keep o.less (λ q. o.d q.0 q.1) (0, 0) o.low (index_pairs 0 n)).0

  -- The quad of the pair a, b: with the points farthest out on either side, clockwise.
  unfoldable pub ends : ℕ → ℕ → ℕ → List ℕ
  ends n a b =
      let c = keep o.less (o.side a b) a o.nil (range 0 n) in
      let e = keep (λ u s. o.less s u) (o.side a b) a o.nil (range 0 n) in
      elim (o.less o.nil c.1 && o.less e.1 o.nil) [
        | false ↦ []
        | true ↦ elim
            (o.back (o.quad_area a c.0 b e.0)) [ false ↦ a ∷ c.0 ∷ b ∷ e.0 ∷ [] | true ↦ a ∷ e.0 ∷ b ∷ c.0 ∷ [] ]
      ]

  -- The quad of n points; none of fewer than 4.
  unfoldable pub quad_with : ℕ → List ℕ
  quad_with n = elim (ltb n 4) [ true ↦ [] | false ↦ ends n (farthest_with n).0 (farthest_with n).1 ]

-- The values of points in whole numbers.
unfoldable pub whole_ops : List Pt → Ops ℤ
whole_ops P = record {
  low = neg 𝟙;
  nil = 𝟘;
  less = λ u s. is_neg (u ⊕ neg s);
  d = λ i j. d2 (pt_at P i) (pt_at P j);
  side = λ a b i. cross (pt_at P a) (pt_at P b) (pt_at P i);
  quad_area = λ a b c d. area (pt_at P a) (pt_at P b) (pt_at P c) (pt_at P d);
  back = is_neg;
}

-- Less, of whole numbers.
abbrev pub less_z : ℤ → ℤ → Bool
less_z u s = is_neg (u ⊕ neg s)

-- A pair.
abbrev pub with-i : ℕ → ℕ → ℕ × ℕ
with-i i j = (i, j)
