-- The laws of ℤ that lib.IntN lacks, over the shut operations: ⊕-.., ⊗-.., neg-.., the product associates and distributes over the sum;
-- `cancel`, `sub-nat`.
--     ⊕-assoc, ⊕-comm, ⊕-lcomm, 𝟘-⊕, ⊕-𝟘, ⊕-neg, ⊗-comm, 𝟘-⊗, ⊗-𝟘, 𝟙-⊗, ⊗-distr, ⊗-distl, cancel, neg-⊗, ⊗-assoc, ⊗-lcomm, neg-⊕,
--     neg-neg, sub-nat
-- Assumes nothing.
use mathlib.Core.Path.{refl, ◌≡◌, sym, ◌∙◌, ap, subst}
use Prim.Native.Nat.{ℕ, ◌+◌, ◌-◌, ◌≤◌}
use native.Mathlib.Omega.{arith}
use lib.IntN.{
  ℤ,
  pos,
  suc_ℤ,
  pred_ℤ,
  neg_ℤ,
  ◌+ℤ◌,
  ℤ_ind,
  +ℤ_one,
  -ℤ_one,
  +ℤ_assoc,
  +ℤ_comm,
  +ℤ_idl,
  +ℤ_idr,
  +ℤ_invr,
  suc_ℤ-+ℤ,
  pred_ℤ-+ℤ,
  suc_ℤ-*ℤ,
  pred_ℤ-*ℤ,
  zero-*ℤ,
  *ℤ-zero,
  *ℤ_comm,
  neg_ℤ-+ℤ,
  neg_ℤ-neg_ℤ,
}
use Rattle.whole.specs.Numbers.{◌⊕◌, ◌⊗◌, neg, 𝟘, 𝟙}

pub ⊕-assoc : (a b c : ℤ) → (a ⊕ b) ⊕ c ≡ a ⊕ (b ⊕ c)
unfolding ◌⊕◌
⊕-assoc = +ℤ_assoc

pub ⊕-comm : (a b : ℤ) → a ⊕ b ≡ b ⊕ a
unfolding ◌⊕◌
⊕-comm = +ℤ_comm

pub ⊕-lcomm : (a b c : ℤ) → a ⊕ (b ⊕ c) ≡ b ⊕ (a ⊕ c)
⊕-lcomm a b c = sym (⊕-assoc a b c) ∙ ap (λ x. x ⊕ c) (⊕-comm a b) ∙ ⊕-assoc b a c

pub 𝟘-⊕ : (a : ℤ) → 𝟘 ⊕ a ≡ a
unfolding ◌⊕◌ 𝟘
𝟘-⊕ = +ℤ_idl

pub ⊕-𝟘 : (a : ℤ) → a ⊕ 𝟘 ≡ a
unfolding ◌⊕◌ 𝟘
⊕-𝟘 = +ℤ_idr

pub ⊕-neg : (a : ℤ) → a ⊕ (neg a) ≡ 𝟘
unfolding ◌⊕◌ 𝟘 neg
⊕-neg = +ℤ_invr

pub ⊗-comm : (a b : ℤ) → a ⊗ b ≡ b ⊗ a
unfolding ◌⊗◌
⊗-comm = *ℤ_comm

pub 𝟘-⊗ : (a : ℤ) → 𝟘 ⊗ a ≡ 𝟘
unfolding ◌⊗◌ 𝟘
𝟘-⊗ = zero-*ℤ

pub ⊗-𝟘 : (a : ℤ) → a ⊗ 𝟘 ≡ 𝟘
unfolding ◌⊗◌ 𝟘
⊗-𝟘 = *ℤ-zero

pub 𝟙-⊗ : (a : ℤ) → 𝟙 ⊗ a ≡ a
unfolding ◌⊗◌ 𝟘 𝟙
𝟙-⊗ a = suc_ℤ-*ℤ (pos 0) a ∙ ap (λ x. x +ℤ a) (zero-*ℤ a) ∙ +ℤ_idl a

up : (m k : ℤ) → suc_ℤ m ⊗ k ≡ m ⊗ k ⊕ k
unfolding ◌⊗◌ ◌⊕◌
up = suc_ℤ-*ℤ

down : (m k : ℤ) → pred_ℤ m ⊗ k ≡ m ⊗ k ⊕ (neg k)
unfolding ◌⊗◌ ◌⊕◌ neg
down = pred_ℤ-*ℤ

up⊕ : (m k : ℤ) → suc_ℤ m ⊕ k ≡ suc_ℤ (m ⊕ k)
unfolding ◌⊕◌
up⊕ = suc_ℤ-+ℤ

down⊕ : (m k : ℤ) → pred_ℤ m ⊕ k ≡ pred_ℤ (m ⊕ k)
unfolding ◌⊕◌
down⊕ = pred_ℤ-+ℤ

-- induction by successor and predecessor
ind : (P : ℤ → Type 0) → P 𝟘 → ((k : ℤ) → P k → P (suc_ℤ k)) → ((k : ℤ) → P k → P (pred_ℤ k)) → (k : ℤ) → P k
unfolding 𝟘
ind P z s p = ℤ_ind P z (λ n h. subst P (sym (+ℤ_one (pos n))) (s (pos n) h))
    (λ n h. subst P (sym (-ℤ_one (neg_ℤ (pos n)))) (p (neg_ℤ (pos n)) h))

pub ⊗-distr : (m n k : ℤ) → (m ⊕ n) ⊗ k ≡ m ⊗ k ⊕ n ⊗ k
⊗-distr m n k = ind (λ m. (m ⊕ n) ⊗ k ≡ m ⊗ k ⊕ n ⊗ k)
    (ap (λ x. x ⊗ k) (𝟘-⊕ n) ∙ sym (ap (λ x. x ⊕ n ⊗ k) (𝟘-⊗ k) ∙ 𝟘-⊕ (n ⊗ k)))
    (λ m h. ap (λ x. x ⊗ k) (up⊕ m n) ∙ up (m ⊕ n) k ∙ ap (λ x. x ⊕ k) h ∙ simp (up, ⊕-assoc, ⊕-comm, ⊕-lcomm))
    (λ m h. ap (λ x. x ⊗ k) (down⊕ m n) ∙ down (m ⊕ n) k ∙ ap (λ x. x ⊕ (neg k)) h ∙ simp (down, ⊕-assoc, ⊕-comm, ⊕-lcomm)) m

pub ⊗-distl : (k m n : ℤ) → k ⊗ (m ⊕ n) ≡ k ⊗ m ⊕ k ⊗ n
⊗-distl k m n = ⊗-comm k (m ⊕ n) ∙ ⊗-distr m n k ∙ ap (λ x. x ⊕ n ⊗ k) (⊗-comm m k) ∙ ap (λ x. k ⊗ m ⊕ x) (⊗-comm n k)

pub cancel : (a b c : ℤ) → a ⊕ c ≡ b ⊕ c → a ≡ b
cancel a b c h = sym (⊕-𝟘 a) ∙ ap (λ x. a ⊕ x) (sym (⊕-neg c)) ∙ sym (⊕-assoc a c (neg c)) ∙ ap (λ x. x ⊕ (neg c)) h ∙ ⊕-assoc b c (neg c)
    ∙ ap (λ x. b ⊕ x) (⊕-neg c) ∙ ⊕-𝟘 b

pub neg-⊗ : (a b : ℤ) → (neg a) ⊗ b ≡ neg (a ⊗ b)
neg-⊗ a b = cancel ((neg a) ⊗ b) (neg (a ⊗ b)) (a ⊗ b)
    (sym (⊗-distr (neg a) a b) ∙ ap (λ x. x ⊗ b) (⊕-comm (neg a) a ∙ ⊕-neg a) ∙ 𝟘-⊗ b ∙ sym (⊕-comm (neg (a ⊗ b)) (a ⊗ b) ∙ ⊕-neg (a ⊗ b)))

pub ⊗-assoc : (m k l : ℤ) → (m ⊗ k) ⊗ l ≡ m ⊗ (k ⊗ l)
⊗-assoc m k l = ind (λ m. (m ⊗ k) ⊗ l ≡ m ⊗ (k ⊗ l))
    (ap (λ x. x ⊗ l) (𝟘-⊗ k) ∙ 𝟘-⊗ l ∙ sym (𝟘-⊗ (k ⊗ l)))
    (λ m h. ap (λ x. x ⊗ l) (up m k) ∙ ⊗-distr (m ⊗ k) k l ∙ ap (λ x. x ⊕ k ⊗ l) h ∙ sym (up m (k ⊗ l)))
    (λ m h. ap (λ x. x ⊗ l) (down m k) ∙ ⊗-distr (m ⊗ k) (neg k) l ∙ ap (λ x. x ⊕ (neg k) ⊗ l) h ∙ ap (λ x. m ⊗ (k ⊗ l) ⊕ x) (neg-⊗ k l)
    ∙ sym (down m (k ⊗ l))) m

pub ⊗-lcomm : (a b c : ℤ) → a ⊗ (b ⊗ c) ≡ b ⊗ (a ⊗ c)
⊗-lcomm a b c = sym (⊗-assoc a b c) ∙ ap (λ x. x ⊗ c) (⊗-comm a b) ∙ ⊗-assoc b a c

pub neg-⊕ : (a b : ℤ) → neg (a ⊕ b) ≡ (neg a) ⊕ (neg b)
unfolding ◌⊕◌ neg
neg-⊕ = neg_ℤ-+ℤ

pub neg-neg : (a : ℤ) → neg (neg a) ≡ a
unfolding neg
neg-neg = neg_ℤ-neg_ℤ

-- a difference of natural numbers that is one
pub sub-nat : (x y : ℕ) → y ≤ x → pos (x - y) ≡ pos x ⊕ neg (pos y)
sub-nat x y k = sym (⊕-𝟘 _) ∙ ap (λ t. pos (x - y) ⊕ t) (sym (⊕-neg (pos y))) ∙ sym (⊕-assoc (pos (x - y)) (pos y) (neg (pos y)))
    ∙ ap (λ t. t ⊕ neg (pos y)) (fold ∙ ap pos (back x y k))
  where
    fold : pos (x - y) ⊕ pos y ≡ pos (x - y + y)
    fold = unfold ◌⊕◌ in refl

    back : (x y : ℕ) → y ≤ x → x - y + y ≡ x
    back x y k = omega arith
