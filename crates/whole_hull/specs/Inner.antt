-- The hull of points by their places on the x axis: of the points (x, A x), one for each place x from 0 to 8,192 where A x is at most
-- 8,192, the vertices from the least x to the greatest that no point lies above (y is down); and what one step of a loop leaves. Definitions
-- only. Assumes nothing.
use Rattle.std.specs.Prelude.{◌≡◌, Bool, true, false, cond, List, [], ◌∷◌, ◌++◌, ℕ, zero, suc, ◌+◌, ◌-◌, ◌*◌, ◌≤◌, ◌<◌, ltb, length, get_or, set}
use Rattle.laws.specs.Plane.{value_at}
use Rattle.whole.specs.Numbers.{𝟘, NN, PP}
use Rattle.whole.specs.Points.{Pt, cross}
use Rattle.hull.specs.Points.{pt_of}
use Rattle.doubled.specs.Points.{x_at, y_at}

-- There is a point at x.
abbrev pub Full : (ℕ → ℕ) → ℕ → Type 0
Full A x = (x < 8193) × (A x ≤ 8192)

-- The point at x.
abbrev pub pt : (ℕ → ℕ) → ℕ → Pt
pt A x = pt_of (x, A x)

-- The turn from the point at u over that at c to that at w is the first of these less the second.
unfoldable pub sum_l : (ℕ → ℕ) → ℕ → ℕ → ℕ → ℕ
sum_l A u c w = c * A w + w * A u + u * A c

unfoldable pub sum_r : (ℕ → ℕ) → ℕ → ℕ → ℕ → ℕ
sum_r A u c w = A c * w + A w * u + A u * c

-- The point at w lies on the right of the way from that at u to that at v, or on it and between them.
abbrev pub Right : (ℕ → ℕ) → ℕ → ℕ → ℕ → Type 0
Right A u v w = NN (cross (pt A u) (pt A v) (pt A w)) × (cross (pt A u) (pt A v) (pt A w) ≡ 𝟘 → (u ≤ w) × (w ≤ v))

-- Places, the last first: the first has none before it, and every point at a place below e lies on the right of each edge.
abbrev pub Links : (ℕ → ℕ) → ℕ → List ℕ → Type 0
Links A e [] = (w : ℕ) → w < e → Full A w → ⊥
Links A e (x ∷ []) = Full A x × (x < e) × ((w : ℕ) → w < e → Full A w → x ≤ w)
Links A e (x ∷ u ∷ l) = Full A x × (x < e) × (u < x) × ((w : ℕ) → w < e → Full A w → Right A u x w) × Links A e (u ∷ l)

-- The last has none after it.
abbrev pub Last : (ℕ → ℕ) → ℕ → List ℕ → Type 0
Last A e [] = Unit {0}
Last A e (x ∷ l) = (w : ℕ) → w < e → Full A w → w ≤ x

-- The vertices of the points at places below e, the last first.
pub record Chain (A : ℕ → ℕ) (e : ℕ) (l : List ℕ) : Type 0 where
  pub links : Links A e l
  pub last : Last A e l

-- What lies from the last vertex on lies on the right of the way from it to the point at e.
abbrev pub ChainReady : (ℕ → ℕ) → ℕ → List ℕ → Type 0
ChainReady A e [] = Links A e []
ChainReady A e (x ∷ l) = Links A e (x ∷ l) × ((w : ℕ) → w < e → Full A w → x ≤ w → NN (cross (pt A x) (pt A e) (pt A w)))

-- The point at e lies on the right of the last edge.
abbrev pub Steep : (ℕ → ℕ) → ℕ → List ℕ → Type 0
Steep A e [] = Unit {0}
Steep A e (x ∷ []) = Unit {0}
Steep A e (x ∷ u ∷ l) = PP (cross (pt A u) (pt A x) (pt A e))

-- A coordinate as it is, or counted from the other end.
abbrev pub seen : Bool → ℕ → ℕ
seen turned n = cond turned (8192 - n) n

-- There are points from left to right only.
pub record PlacesWithin (A : ℕ → ℕ) (left right : ℕ) : Type 0 where
  pub order : left ≤ right
  pub wide : right ≤ 8192
  pub places : (w : ℕ) → Full A w → (left ≤ w) × (w ≤ right)

-- The x of the first k points of a list are from left to right.
pub record Spans (p : List ℕ) (k left right : ℕ) : Type 0 where
  pub order : left ≤ right
  pub wide : right ≤ 8192
  pub places : (i : ℕ) → i < k → (left ≤ x_at p i) × (x_at p i ≤ right)

-- At each place of a list the least y of the first k points there, x and y seen from either end; 65,535 where there is none.
pub record Tops (turned : Bool) (p : List ℕ) (k : ℕ) (a : List ℕ) : Type 0 where
  pub size : length a ≡ 8193
  pub above : (i : ℕ) → i < k → value_at a (seen turned (x_at p i)) ≤ seen turned (y_at p i)
  pub is : (x : ℕ) → Full (value_at a) x → (i : ℕ) × (i < k) × (seen turned (x_at p i) ≡ x) × (seen turned (y_at p i) ≡ value_at a x)

-- ---- the way round

-- f 0, f 1, .. , f (n − 1).
unfoldable pub list_up_to : {B : Type 0} → (ℕ → B) → ℕ → List B
list_up_to f zero = []
list_up_to f (suc n) = list_up_to f n ++ (f n ∷ [])

-- The i-th vertex: by the i-th place of a list s, with the least y there, seen from either end.
abbrev pub vertex : Bool → List ℕ → List ℕ → ℕ → ℕ × ℕ
vertex back a s i = (seen back (get_or s i 0), seen back (value_at a (get_or s i 0)))

-- Above, and below.
abbrev pub over_vertex : List ℕ → List ℕ → ℕ → ℕ × ℕ
over_vertex a s i = vertex false a s i

abbrev pub under_vertex : List ℕ → List ℕ → ℕ → ℕ × ℕ
under_vertex b t i = vertex true b t i

-- A vertex, where the next one lies below it.
abbrev pub corner_if : ℕ × ℕ → Bool → List (ℕ × ℕ)
corner_if q true = q ∷ []
corner_if q false = []

-- The vertices above, or below, the k-th of them only where the way goes straight on from it.
unfoldable pub half_round : Bool → List ℕ → List ℕ → ℕ → Bool → List (ℕ × ℕ)
half_round back a s k straight = list_up_to (vertex back a s) k ++ corner_if (vertex back a s k) straight

-- All the way round: above from the first to the last, the last where the way goes straight down from it, below from the last to the
-- first, and this where the way goes straight up.
unfoldable pub round_of : List ℕ → List ℕ → ℕ → List ℕ → List ℕ → ℕ → List (ℕ × ℕ)
round_of a s k b t j =
    list_up_to (over_vertex a s) k ++ (corner_if (over_vertex a s k) (ltb (over_vertex a s k).1 (under_vertex b t 0).1)
    ++ (list_up_to (under_vertex b t) j ++ corner_if (under_vertex b t j) (ltb (over_vertex a s 0).1 (under_vertex b t j).1)))

-- One point alone is its own way round.
abbrev pub or_one : ℕ × ℕ → List (ℕ × ℕ) → List (ℕ × ℕ)
or_one q [] = q ∷ []
or_one q (r ∷ l) = r ∷ l

-- A list of places with a point, the last of them the k-th.
pub record ChainPlaces (a s : List ℕ) (k : ℕ) : Type 0 where
  pub size : length a ≡ 8193
  pub room : k < length s
  pub points : (i : ℕ) → i ≤ k → Full (value_at a) (get_or s i 0)

-- A list with y at place x where that is less than what is there.
unfoldable pub lowered : List ℕ → ℕ → ℕ → List ℕ
lowered a x y = cond (ltb y (value_at a x)) (set a x y) a
