-- Words of the doors' contracts: what a call leaves in a lent list.
-- Definitions only. Assumes nothing.
use Rattle.std.specs.Prelude.{List, ◌++◌, ◌≡◌, ℕ, ◌+◌, length, drop, replicate}
use Rattle.std.proofs.lemmas.List.Edits.{sets}

-- A list of which n places are needed keeps its length and the places past them.
pub record UntouchedPast {A : Type 0} (n : ℕ) (old new : List A) : Type 0 where
  pub same : length new ≡ length old
  pub past : drop n new ≡ drop n old

-- A lent list with the elements us in its first places, and the rest untouched.
abbrev pub laid : {A : Type 0} → List A → List A → List A
laid us old = us ++ drop (length us) old

-- A list with 0 in each of its places.
abbrev pub zeros : List ℕ → List ℕ
zeros old = replicate (length old) 0

-- From old to new the elements us were stored from place at on, and r is the place after them.
pub record Stored {A : Type 0} (at : ℕ) (us old new : List A) (r : ℕ) : Type 0 where
  pub list : new ≡ sets old at us
  pub next : r ≡ at + length us
