-- Rust's `abs`, `max`, `total_cmp` and `is_finite` on floats, as the scope has them. Definitions only.
use Rattle.std.specs.Prelude.{zero, suc, Bool, true, false, cond, not, ◌&&◌, Float}
use Rattle.std.specs.Float.{nan, inf, fin}
use Rattle.std.specs.Float.Ieee.{lt, is_nan}
use Rattle.std.specs.Float.Ieee.Scale as library

unfoldable pub abs : Float → Float
abs nan = nan
abs (inf s) = inf false
abs (fin s m e) = fin false m e

-- the sign, which a NaN has not
unfoldable pub sign : Float → Bool
sign nan = false
sign (inf s) = s
sign (fin s m e) = s

-- neither a NaN nor an infinity
unfoldable pub finite : Float → Bool
finite x = library.finite x

-- the larger; of a NaN and a number the number; of the two zeros +0
unfoldable pub max : Float → Float → Float
unfolding is_nan lt sign
max x y = cond (is_nan x) y (cond (is_nan y) x (cond (lt x y) y (cond (lt y x) x (cond (sign x) y x))))

-- x comes before y: every NaN last, all equal, and -0 before +0
unfoldable pub before : Float → Float → Bool
unfolding is_nan lt sign
before x y = cond (is_nan x) false (cond (is_nan y) true (cond (lt x y) true (cond (lt y x) false (sign x && not (sign y)))))

-- x is neither a NaN nor -0
abbrev pub plain : Float → Bool
plain nan = false
plain (inf s) = true
plain (fin false m e) = true
plain (fin true zero e) = false
plain (fin true (suc m) e) = true
