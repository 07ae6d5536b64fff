-- The answers of the finder and the tag list, by the number of their refusal.
--     find-given, tags-given     what is given, where no check fails
--     past-refused               how many places of a list of numbers a refused call may write
-- Assumes nothing.
use mathlib.Core.Path.{◌≡◌, ap}
use mathlib.Core.List.{List}
use Prim.Native.Nat.{ℕ, zero, suc}
use native.Mathlib.Omega.{arith}
use lib.ListN.{length}
use lib.Ieee.{Float}
use Rattle.laws.specs.Lent.{UntouchedPast}
use Rattle.laws.specs.Plane.{plane}
use Rattle.laws.specs.Said.{give}
use Rattle.laws.proofs.Past.{past_more}
use Rattle.labels.specs.Cells.{groups_of}
use Rattle.finder.specs.Find.{trace_of, answer_by}
use Rattle.finder.specs.declared.Found.{Found}
use Rattle.tag_list.specs.Tags.{tags_of, padded, four_tags, tags_by}
use Rattle.tag_list.specs.declared.tag.Tags.{Tags}
use Rattle.c_pictures.specs.Answers.{after_by}

pub past-refused : (k n : ℕ) {old new : List Float} → UntouchedPast 0 old new → UntouchedPast (after_by k n 0) old new
past-refused zero n p = past_more n (omega arith) p
past-refused (suc k) n p = p

module _ (gray : List ℕ) (w h most : ℕ) where
  pub find-given : (n : ℕ) (f : Found) → give f ≡ answer_by n gray w h most
      → (f.regions ≡ groups_of (plane w gray) w h) × (f.trace ≡ trace_of gray w h most)
  unfolding answer_by
  find-given zero f e =
      let q : f ≡ record { regions = groups_of (plane w gray) w h; trace = trace_of gray w h most } = cc in
      (ap (λ (r : Found). r.regions) q, ap (λ (r : Found). r.trace) q)
  find-given (suc n) f e = absurd (let z : ⊥ = cc in z)

  pub tags-given : (n : ℕ) (t : Tags) → give t ≡ tags_by n gray w h most
      → (t.many ≡ length (tags_of gray w h most)) × (t.list ≡ padded 4 (tags_of gray w h most))
  unfolding tags_by four_tags
  tags-given zero t e =
      let q : t ≡ four_tags (tags_of gray w h most) = cc in (ap (λ (r : Tags). r.many) q, ap (λ (r : Tags). r.list) q)
  tags-given (suc n) t e = absurd (let z : ⊥ = cc in z)
