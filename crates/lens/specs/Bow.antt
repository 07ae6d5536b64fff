-- The bow c0 + c1·t + a·t·(1 − t) that fits samples t, o best, as ring.rs has it in `bow_fit` for rules 21 to 25.
-- Definitions only. Assumes nothing.
use Rattle.std.specs.Prelude.{ℕ, zero, suc, ◌+◌, ◌-◌, Bool, true, false, cond, not, List, [], ◌∷◌, from_bits, nat_lt, Float, Option, Some, None}
use Rattle.std.specs.Float.{binary32, binary64}
use Rattle.std.specs.Float.Ieee.{add, mul, lt, le}
use Rattle.ieee.specs.Constants.{0f, 1d, 1f, 2f}
use Rattle.ieee.specs.Root.{sqrt}
use Rattle.ieee.specs.Narrow.{narrow}
use Rattle.ieee.specs.Ops.{abs}
use Rattle.math.specs.Lists.{number_at}
use Rattle.math.specs.Elimination.{System, sys, Outcome, forward_on, back_on}
use Rattle.hull.specs.Points.{many}
use Rattle.fit.specs.F32.{◌⊕◌, ◌⊖◌, ◌⊗◌, ◌⊘◌, whole_float, x_of, y_of}
use Rattle.lens.specs.declared.bow.Bow.{Bow}
use Rattle.lens.specs.declared.bow.Normal.{Normal}

-- 0 and 1 as f64; f32 numbers are f64 numbers as they are.
abbrev pub 0d : Float
0d = from_bits binary64 0

-- ---- the normal equations
-- A sample counts where it is not more than 2 off the bow before; without one all count. Here a·(t·(1 − t)) has t·(1 − t) = g rounded
-- first, other than `rest_of`.
unfoldable pub inlier_of : Option Bow → Float → Float → Float → Bool
inlier_of (Some b) t o g = not (lt 2f (abs (o ⊖ b.c0 ⊖ b.c1 ⊗ t ⊖ b.a ⊗ g)))
inlier_of None t o g = true

-- Sums in f64, each rounded.
abbrev pub plus : Float → Float → Float
plus x y = add binary64 x y

abbrev pub times : Float → Float → Float
times x y = mul binary64 x y

-- The sums with one more row 1, t, g and its right side o.
unfoldable pub row_added : Normal → Float → Float → Float → Normal
row_added a t g o = record {
  n = a.n + 1;
  one = plus a.one 1d;
  t = plus a.t t;
  g = plus a.g g;
  tt = plus a.tt (times t t);
  tg = plus a.tg (times t g);
  gg = plus a.gg (times g g);
  o = plus a.o o;
  to = plus a.to (times t o);
  go = plus a.go (times g o);
}

-- The sums with a sample, where it counts.
unfoldable pub sample_of : Option Bow → Float → Float → Normal → Normal
sample_of prev t o a = cond (inlier_of prev t o (t ⊗ (1f ⊖ t))) (row_added a t (t ⊗ (1f ⊖ t)) o) a

-- The sums with d samples from k on.
unfoldable pub normal_on : List Float → Option Bow → ℕ → ℕ → Normal → Normal
normal_on s prev zero k a = a
normal_on s prev (suc d) k a = normal_on s prev d (k + 1) (sample_of prev (x_of s k) (y_of s k) a)

-- The sums of no samples.
abbrev pub no_normal : Normal
no_normal = record { n = 0; one = 0d; t = 0d; g = 0d; tt = 0d; tg = 0d; gg = 0d; o = 0d; to = 0d; go = 0d }

-- The normal equations of a list of samples.
abbrev pub normal_of : List Float → Option Bow → Normal
normal_of s prev = normal_on s prev (many s) 0 no_normal

-- Three equations by their matrix, which is symmetric, and a right side.
abbrev pub system_of : Normal → Float → Float → Float → System
system_of a v0 v1 v2 =
    sys (a.one ∷ a.t ∷ a.g ∷ a.t ∷ a.tt ∷ a.tg ∷ a.g ∷ a.tg ∷ a.gg ∷ []) (v0 ∷ v1 ∷ v2 ∷ [])

-- The three unknowns, or none, of what elimination leaves.
abbrev pub unknowns : Outcome → Option (List Float)
unknowns r = cond r.ok (Some (back_on r.left 3 3 (0d ∷ 0d ∷ 0d ∷ []))) None

-- The unknowns of three equations, by `solve`.
unfoldable pub solved_of : Normal → Float → Float → Float → Option (List Float)
solved_of a v0 v1 v2 = unknowns (forward_on 3 3 0 (system_of a v0 v1 v2))

-- ---- the fit
-- How far a sample is off a bow. Here (a·t)·(1 − t) has a·t rounded first, other than `inlier_of`.
abbrev pub rest_of : Float → Float → Float → Float → Float → Float
rest_of f0 f1 f2 t o = o ⊖ f0 ⊖ f1 ⊗ t ⊖ f2 ⊗ t ⊗ (1f ⊖ t)

-- A sum with the square of r, where all count or r is at most 2 in magnitude.
unfoldable pub square_in : Bool → Float → Float → Float
square_in all sum r = cond all (sum ⊕ r ⊗ r) (cond (le (abs r) 2f) (sum ⊕ r ⊗ r) sum)

-- The same with d samples from k on.
unfoldable pub rss_on : List Float → Bool → Float → Float → Float → ℕ → ℕ → Float → Float
rss_on s all f0 f1 f2 zero k z = z
rss_on s all f0 f1 f2 (suc d) k z = rss_on s all f0 f1 f2 d (k + 1) (square_in all z (rest_of f0 f1 f2 (x_of s k) (y_of s k)))

-- The sum of squares off a bow: of all samples, or of those within 2 of it.
abbrev pub rss_of : List Float → Bool → Float → Float → Float → Float
rss_of s all f0 f1 f2 = rss_on s all f0 f1 f2 (many s) 0 0f

-- The greater of x and 0; a NaN counts as 0.
abbrev pub positive_of : Float → Float
positive_of x = cond (lt 0d x) x 0d

-- There is no bow before.
unfoldable pub first_fit : Option Bow → Bool
first_fit (Some b) = false
first_fit None = true

-- The bow f0, f1, f2 of n samples that count by the bow before, with its standard error from the sum of squares off the new bow and the
-- last entry i of the inverse.
abbrev pub bow_at : List Float → Option Bow → ℕ → Float → Float → Float → Float → Bow
bow_at s prev n f0 f1 f2 i = record {
  c0 = f0;
  c1 = f1;
  a = f2;
  error = sqrt binary32 (rss_of s (first_fit prev) f0 f1 f2 ⊘ whole_float (n - 3) ⊗ narrow (positive_of i));
}

-- The bow by the unknowns and by the inverse's last column, each rounded to f32; none where one is none.
unfoldable pub bow_by : List Float → Option Bow → ℕ → Option (List Float) → Option (List Float) → Option Bow
bow_by s prev n (Some x) (Some i) =
    Some (bow_at s prev n (narrow (number_at x 0)) (narrow (number_at x 1)) (narrow (number_at x 2)) (number_at i 2))
bow_by s prev n (Some x) None = None
bow_by s prev n None i = None

-- None with fewer than 8 samples that count, or where `solve` has none.
unfoldable pub bow_of : List Float → Option Bow → Option Bow
bow_of s prev =
    let a = normal_of s prev in
    cond (nat_lt a.n 8) None (bow_by s prev a.n (solved_of a a.o a.to a.go) (solved_of a 0d 0d 1d))

-- All samples first, then those near the bow so found.
unfoldable pub two_fits : List Float → Option Bow
two_fits s = let first = bow_of s None in cond (first_fit first) None (bow_of s first)
