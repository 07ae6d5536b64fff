-- Numbers in a row, the places of a list as a stack, and lists without repeats. Definitions only. Assumes nothing.
use mathlib.Core.List.{List, [], ◌∷◌, Memᴰ}
use Rattle.std.specs.Prelude.{ℕ, zero, suc, get_or}

-- n, n + 1, .. , n + k − 1
abbrev pub range : ℕ → ℕ → List ℕ
range n zero = []
range n (suc k) = n ∷ range (suc n) k

-- The first n numbers of a list, the last first.
unfoldable pub stack_of : List ℕ → ℕ → List ℕ
stack_of s zero = []
stack_of s (suc n) = get_or s n 0 ∷ stack_of s n

-- Nothing twice.
abbrev pub NoDup : {A : Type 0} → List A → Type 0
NoDup [] = Unit {0}
NoDup (a ∷ l) = (¬ Memᴰ a l) × NoDup l
