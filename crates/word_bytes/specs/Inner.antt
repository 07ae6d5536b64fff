-- How long a list is. Definitions only. Assumes nothing.
use Rattle.std.specs.Prelude.{◌≡◌, List, ℕ, length}

-- A list has n places. Nothing unfolds it by itself, so the places of a very long list are never counted.
unfoldable pub HasPlaces : {A : Type 0} → ℕ → List A → Type 0
HasPlaces n r = n ≡ length r
