-- The answer by its number: given_is, refused-is. Assumes nothing.
use mathlib.Core.Path.{◌≡◌, sym, ap, ◌∙◌}
use mathlib.Core.List.{List}
use Prim.Native.Nat.{ℕ, zero, suc}
use Rattle.laws.specs.Said.{refuse, give}
use Rattle.picture.specs.Door.{answer_by}
use Rattle.regions.specs.declared.answer.Kept.{Kept}
use Rattle.tag_list.specs.declared.tag.Tags.{Tags}
use Rattle.tag_list.specs.Tags.{tags_of, four_tags, tags_by}

module _ (gray : List ℕ) (w h most : ℕ) where
  pub given_is : (n : ℕ) (t : Tags) → n ≡ 0 → t ≡ four_tags (tags_of gray w h most) → give t ≡ tags_by n gray w h most
  unfolding tags_by
  given_is n t z e = ap give e ∙ sym (ap (λ (n : ℕ). tags_by n gray w h most) z)

  pub refused-is : (n m : ℕ) (k : Kept) → refuse n ≡ answer_by m k → refuse n ≡ tags_by m gray w h most
  unfolding tags_by
  refused-is n zero k e = cc
  refused-is n (suc m) k e = cc
