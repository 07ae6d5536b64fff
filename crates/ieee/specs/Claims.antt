-- Statements of theorems about the definitions, and nothing else; `claims.rt` has each as a promise. Assumes nothing.
use Rattle.std.specs.Prelude.{◌≡◌, ℕ, ◌+◌, ◌*◌, ◌^◌, ◌<◌, ◌≤◌, false, T, Float}
use Rattle.std.specs.Float.{binary32, binary64}
use Rattle.std.specs.Float.Ieee.{round, fits}
use Rattle.std.specs.Float.Ieee.Exact.{HasValue}
use Rattle.ieee.specs.Root.{sqrt}
use Rattle.ieee.specs.Constants.{0·02, 0·05, 0·08, 0·1, 0·15, 0·2, 0·3, 0·35, 0·7, 0·85, 0·9, 1·05, 1·4826, 1e-3, 1e-6, 0·004, 1e-9}
use Rattle.ieee.specs.Constants.{1e-12}

-- With N the square of the exact root, in smallest values: the exact root lies on Y's side of the middle between Y and Z.
abbrev pub Nearest : ℕ → ℕ → ℕ → Type 0
Nearest N Y Z = (Y < Z → 4 * N ≤ (Y + Z) * (Y + Z)) × (Z < Y → (Y + Z) * (Y + Z) ≤ 4 * N)

-- The root of an x above 0 is a value of the format, and no other one, z, is nearer to the exact root.
-- X, Y and Z are x, its root and z in smallest values, 2 ^ -149, so X * 2 ^ 149 is the square of the exact root.
unfoldable pub RootNearest : Type 0
RootNearest =
    (x : Float) (X : ℕ) → T (fits binary32 x) → HasValue x false X (2 ^ 149) → 0 < X
    → (Y : ℕ) × HasValue (sqrt binary32 x) false Y (2 ^ 149) × T (fits binary32 (sqrt binary32 x))
    × ((z : Float) (Z : ℕ) → T (fits binary32 z) → HasValue z false Z (2 ^ 149) → Nearest (X * 2 ^ 149) Y Z)

-- Each constant is the value of its format nearest to its decimal, which is how Rust reads a literal.
unfoldable pub Decimals : Type 0
Decimals =
    (0·02 ≡ round binary32 false 2 100)
    × (0·05 ≡ round binary32 false 5 100)
    × (0·08 ≡ round binary32 false 8 100)
    × (0·1 ≡ round binary32 false 1 10)
    × (0·15 ≡ round binary32 false 15 100)
    × (0·2 ≡ round binary32 false 2 10)
    × (0·3 ≡ round binary32 false 3 10)
    × (0·35 ≡ round binary32 false 35 100)
    × (0·7 ≡ round binary32 false 7 10)
    × (0·85 ≡ round binary32 false 85 100)
    × (0·9 ≡ round binary32 false 9 10)
    × (1·05 ≡ round binary32 false 105 100)
    × (1·4826 ≡ round binary32 false 14826 10000)
    × (1e-3 ≡ round binary32 false 1 1000)
    × (1e-6 ≡ round binary32 false 1 (10 ^ 6))
    × (0·004 ≡ round binary32 false 4 1000)
    × (1e-9 ≡ round binary64 false 1 (10 ^ 9))
    × (1e-12 ≡ round binary64 false 1 (10 ^ 12))
