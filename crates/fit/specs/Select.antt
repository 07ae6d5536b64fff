-- Points that a test keeps, in order, and what a working list holds of them, for contracts of working lists. Definitions only. Assumes nothing.
use Rattle.std.specs.Prelude.{ℕ, zero, suc, ◌+◌, ◌*◌, ◌≤◌, Bool, cond, ◌&&◌, List, [], ◌∷◌, ◌++◌, ◌≡◌, length, set, drop, Float}
use Rattle.std.specs.Float.Ieee.{le}
use Rattle.ieee.specs.Ops.{abs}
use Rattle.hull.specs.Points.{many}
use Rattle.fit.specs.F32.{◌⊕◌, ◌⊖◌, ◌⊗◌, ◌⊘◌, x_of, y_of}
use Rattle.fit.specs.declared.line.Edge.{Edge}

-- What a selection does with a point: whether it is kept, and as which two numbers.
pub record Rule : Type 0 where
  pub keep : Float → Float → Bool
  pub first : Float → Float → Float
  pub second : Float → Float → Float

-- What is kept of d points from k on, alternating.
unfoldable pub kept_on : Rule → List Float → ℕ → ℕ → List Float
kept_on r s zero k = []
kept_on r s (suc d) k =
    cond (r.keep (x_of s k) (y_of s k))
    (r.first (x_of s k) (y_of s k) ∷ r.second (x_of s k) (y_of s k) ∷ kept_on r s d (k + 1))
    (kept_on r s d (k + 1))

-- What is kept of a list of points.
abbrev pub points_by : Rule → List Float → List Float
points_by r s = kept_on r s (many s) 0

-- The rule that keeps the points that pass a test, as they are.
abbrev pub passing : (Float → Float → Bool) → Rule
passing test = record { keep = test; first = λ x y. x; second = λ x y. y }

-- How far a point is along an edge, as a fraction of its length.
abbrev pub along_edge : Edge → Float → Float → Float
along_edge e x y = ((x ⊖ e.ax) ⊗ e.ux ⊕ (y ⊖ e.ay) ⊗ e.uy) ⊘ e.len

-- lo ≤ t ≤ hi.
abbrev pub within : Float → Float → Float → Bool
within lo hi t = le lo t && le t hi

-- How far a point is off the line through ox, oy along fx, fy.
abbrev pub off_of : Float → Float → Float → Float → Float → Float → Float
off_of ox oy fx fy x y = abs ((x ⊖ ox) ⊗ fy ⊖ (y ⊖ oy) ⊗ fx)

-- ---- working lists
-- A list and how many points it holds, from its beginning on.
pub record HeldPoints : Type 0 where
  pub list : List Float
  pub held : ℕ

-- The same with one more point, where it is kept.
abbrev pub put_of : Bool → Float → Float → HeldPoints → HeldPoints
put_of keep x y h = cond keep record { list = set (set h.list (2 * h.held) x) (2 * h.held + 1) y; held = h.held + 1 } h

-- After a selection from n numbers the kept points stand at the beginning, r of them, and the rest is as before.
pub record KeptIn (n : ℕ) (kept before after : List Float) (r : ℕ) : Type 0 where
  pub few : 2 * r ≤ n
  pub list : after ≡ kept ++ drop (2 * r) before
  pub count : length kept ≡ 2 * r
