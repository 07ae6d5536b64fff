-- Whole numbers with shut operations, and their signs. Definitions only. Assumes nothing.
use Rattle.std.specs.Prelude.{ℕ, suc, ℤ, pos, neg_ℤ, ◌+ℤ◌, ◌*ℤ◌}

-- shut names for the operations, so that nothing unfolds by the signs
infixl 6 ◌⊕◌
infixl 7 ◌⊗◌
unfoldable pub ◌⊕◌ : ℤ → ℤ → ℤ
a ⊕ b = a +ℤ b

unfoldable pub ◌⊗◌ : ℤ → ℤ → ℤ
a ⊗ b = a *ℤ b

unfoldable pub neg : ℤ → ℤ
neg a = neg_ℤ a

unfoldable pub 𝟘 : ℤ
𝟘 = pos 0

unfoldable pub 𝟙 : ℤ
𝟙 = pos 1

pub data NN : ℤ → Type 0 where
  nn : (n : ℕ) → NN (pos n)

pub data PP : ℤ → Type 0 where
  pp : (n : ℕ) → PP (pos (suc n))
