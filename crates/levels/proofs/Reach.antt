-- How far the steps of the level grid reach: each goes by the cells near its own.
--     least-local, most-local, sharp-local   the cells within 3
--     fill-local, passes-local               the cells within 1, and within k for k passes
--     near-near                              what is near what is near
--     sharp-ext, fill-ext, passes-ext        so planes that agree in the whole grid give the same
-- Assumes nothing.
use mathlib.Core.Bool.{Bool, cond, false, true}
use mathlib.Core.Path.{◌≡◌, refl}
use Prim.Native.Nat.{◌+◌, ◌-◌, ◌<◌, ◌≤◌, max, min, suc, zero, ℕ}
use native.Mathlib.Omega.{arith}
use lib.Dec.{eqb, ltb}
use borrow.Author.Tests.{ltb-true}
use Rattle.laws.proofs.Planes.{box-ext}
use Rattle.laws.specs.Plane.{Alike, Plane}
use Rattle.levels.specs.Level.{east, fill_at, from3, least_near, many3, most_near, north, passes, sharp, south, west}
use Rattle.levels.specs.Reach.{WithinCells}

-- ---- a cell of the window of 3
near3 : (n c i : ℕ) → c < n → i < many3 n c → (from3 c + i < n) × (from3 c + i ≤ c + 3) × (c ≤ from3 c + i + 3)
near3 n c i l m = (omega arith, omega arith, omega arith)

-- ---- the steps, of planes that agree in the cells of w by h within r of (x, y)
abbrev pub Agree : ℕ → ℕ → ℕ → ℕ → ℕ → Plane → Plane → Type 0
Agree w h r x y f g = (i j : ℕ) → i < w → j < h → WithinCells r x y i j → f i j ≡ g i j

module _ (w h x y : ℕ) (lx : x < w) (ly : y < h) where
  pub least-local : (f g : Plane) → Agree w h 3 x y f g → least_near w h f x y ≡ least_near w h g x y
  unfolding least_near
  least-local f g same =
      box-ext min 255 f g (from3 x) (from3 y) (many3 w x) (many3 h y)
      (λ i j li lj.
      let a = near3 w x i lx li in
      let b = near3 h y j ly lj in
      same (from3 x + i) (from3 y + j) a.0 b.0 record { right = a.1; left = a.2; below = b.1; above = b.2 })

  pub most-local : (f g : Plane) → Agree w h 3 x y f g → most_near w h f x y ≡ most_near w h g x y
  unfolding most_near
  most-local f g same =
      box-ext max 0 f g (from3 x) (from3 y) (many3 w x) (many3 h y)
      (λ i j li lj.
      let a = near3 w x i lx li in
      let b = near3 h y j ly lj in
      same (from3 x + i) (from3 y + j) a.0 b.0 record { right = a.1; left = a.2; below = b.1; above = b.2 })

  pub sharp-local : (d d' l l' : Plane) → Agree w h 3 x y d d' → Agree w h 3 x y l l' → sharp w h d l x y ≡ sharp w h d' l' x y
  unfolding sharp
  sharp-local d d' l l' sd sl = rw (least-local d d' sd, most-local l l' sl)

  module _ (f g : Plane) (same : Agree w h 1 x y f g) where
    west-local : west f x y ≡ west g x y
    unfolding west
    west-local = go (eqb x 0) refl
      where
        go : (t : Bool) → eqb x 0 ≡ t → cond t 0 (f (x - 1) y) ≡ cond t 0 (g (x - 1) y)
        go true e = refl
        go false e = same (x - 1) y (omega arith) ly
            record { right = omega arith; left = omega arith; below = omega arith; above = omega arith }

    north-local : north f x y ≡ north g x y
    unfolding north
    north-local = go (eqb y 0) refl
      where
        go : (t : Bool) → eqb y 0 ≡ t → cond t 0 (f x (y - 1)) ≡ cond t 0 (g x (y - 1))
        go true e = refl
        go false e = same x (y - 1) lx (omega arith)
            record { right = omega arith; left = omega arith; below = omega arith; above = omega arith }

    east-local : east w f x y ≡ east w g x y
    unfolding east
    east-local = go (ltb (x + 1) w) refl
      where
        go : (t : Bool) → ltb (x + 1) w ≡ t → cond t (f (x + 1) y) 0 ≡ cond t (g (x + 1) y) 0
        go true e = same (x + 1) y (ltb-true (x + 1) w e) ly
            record { right = omega arith; left = omega arith; below = omega arith; above = omega arith }
        go false e = refl

    south-local : south h f x y ≡ south h g x y
    unfolding south
    south-local = go (ltb (y + 1) h) refl
      where
        go : (t : Bool) → ltb (y + 1) h ≡ t → cond t (f x (y + 1)) 0 ≡ cond t (g x (y + 1)) 0
        go true e = same x (y + 1) lx (ltb-true (y + 1) h e)
            record { right = omega arith; left = omega arith; below = omega arith; above = omega arith }
        go false e = refl

    here-local : f x y ≡ g x y
    here-local = same x y lx ly record { right = omega arith; left = omega arith; below = omega arith; above = omega arith }

    pub fill-local : fill_at w h f x y ≡ fill_at w h g x y
    unfolding fill_at
    fill-local = rw (west-local, east-local, north-local, south-local, here-local)

-- what is near what is near
pub near-near : {r k x y i j a b : ℕ} → WithinCells r x y i j → WithinCells k i j a b → WithinCells (k + r) x y a b
near-near m n = record { right = omega arith; left = omega arith; below = omega arith; above = omega arith }

pub passes-local : (w h k : ℕ) (f g : Plane) (x y : ℕ) → x < w → y < h → Agree w h k x y f g → passes w h k f x y ≡ passes w h k g x y
unfolding passes
passes-local w h zero f g x y lx ly same =
    same x y lx ly record { right = omega arith; left = omega arith; below = omega arith; above = omega arith }
passes-local w h (suc k) f g x y lx ly same =
    fill-local w h x y lx ly (passes w h k f) (passes w h k g)
    (λ i j li lj m. passes-local w h k f g i j li lj (λ a b la lb n. same a b la lb (near-one n m)))
  where
    near-one : {i j a b : ℕ} → WithinCells k i j a b → WithinCells 1 x y i j → WithinCells (suc k) x y a b
    near-one n m = record { right = omega arith; left = omega arith; below = omega arith; above = omega arith }

-- ---- planes that agree in the whole grid
pub sharp-ext : (w h : ℕ) (d d' l l' : Plane) → Alike w h d d' → Alike w h l l' → Alike w h (sharp w h d l) (sharp w h d' l')
sharp-ext w h d d' l l' sd sl x y lx ly =
    sharp-local w h x y lx ly d d' l l' (λ i j li lj n. sd i j li lj) (λ i j li lj n. sl i j li lj)

pub fill-ext : (w h : ℕ) (f g : Plane) → Alike w h f g → Alike w h (fill_at w h f) (fill_at w h g)
fill-ext w h f g same x y lx ly = fill-local w h x y lx ly f g (λ i j li lj n. same i j li lj)

pub passes-ext : (w h k : ℕ) (f g : Plane) → Alike w h f g → Alike w h (passes w h k f) (passes w h k g)
passes-ext w h k f g same x y lx ly = passes-local w h k f g x y lx ly (λ i j li lj n. same i j li lj)
