-- Laws of places of lists of floats.
--     swap-swapped               what a list's method `swap` gives is `swapped`
-- Assumes nothing.
use Rattle.std.proofs.Common.{◌≡◌, List, [], ◌∷◌, ℕ, ◌<◌, length, refl}
use Rattle.std.proofs.lemmas.List.{get_or_default}
use Rattle.std.specs.List.{swap}
use Rattle.std.specs.Float.{nan}
use Rattle.std.specs.Prelude.{Float}
use Rattle.math.specs.Lists.{swapped}

pub swap-swapped : (s : List Float) (i j : ℕ) → i < length s → j < length s → swap s i j ≡ swapped s i j
swap-swapped [] i j h k = refl
swap-swapped (x ∷ s) i j h k = rw (get_or_default (x ∷ s) i x nan h, get_or_default (x ∷ s) j x nan k)
