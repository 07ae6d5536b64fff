-- A reflective solver for the identities of ℤ as a commutative ring: `solve ρ e f refl : ⟦ e ⟧ ρ ≡ ⟦ f ⟧ ρ`, for expressions of `Expr`
-- over the list ρ of numbers.
--     Expr, _, look, ⟦_⟧, Poly, ins_m, mul_m, eq_m, lt_m, tm', add_t, add_p, mul_t, mul_p, neg_p, norm, solve
-- Assumes nothing.
use mathlib.Core.Path.{◌≡◌, refl, sym, ◌∙◌, ap}
use mathlib.Core.Bool.{Bool, true, false, ◌&&◌}
use mathlib.Core.List.{List, [], ◌∷◌}
use Prim.Native.Nat.{ℕ, zero, suc}
use lib.Dec.{T, ltb, eqb, eqb→eq}
use lib.IntN.{ℤ, pos, negsuc, neg_ℤ, ◌+ℤ◌, ◌*ℤ◌}
use Rattle.laws.proofs.Bools.{passed-left, passed-right}
use Rattle.whole.specs.Numbers.{◌⊕◌, ◌⊗◌, neg, 𝟘, 𝟙}
use Rattle.whole.proofs.Sums.{⊕-assoc, ⊕-comm, ⊕-lcomm, 𝟘-⊕, ⊕-𝟘, ⊗-comm, 𝟘-⊗, ⊗-𝟘, 𝟙-⊗, ⊗-distr, ⊗-distl, ⊗-assoc, ⊗-lcomm, neg-⊕, neg-⊗}

infixl 6 ◌:+◌
infixl 6 ◌:-◌
infixl 7 ◌:*◌
pub data Expr : Type 0 where
  𝕧 : ℕ → Expr
  𝕜 : ℤ → Expr
  ◌:+◌ : Expr → Expr → Expr
  ◌:*◌ : Expr → Expr → Expr
  :n : Expr → Expr

abbrev pub ◌:-◌ : Expr → Expr → Expr
a :- b = a :+ :n b

abbrev pub look : List ℤ → ℕ → ℤ
look [] n = 𝟘
look (x ∷ xs) zero = x
look (x ∷ xs) (suc n) = look xs n

abbrev pub ⟦◌⟧ : Expr → List ℤ → ℤ
⟦◌⟧ (𝕧 i) ρ = look ρ i
⟦◌⟧ (𝕜 c) ρ = c
⟦◌⟧ (a :+ b) ρ = ⟦◌⟧ a ρ ⊕ ⟦◌⟧ b ρ
⟦◌⟧ (a :* b) ρ = ⟦◌⟧ a ρ ⊗ ⟦◌⟧ b ρ
⟦◌⟧ (:n a) ρ = neg (⟦◌⟧ a ρ)

-- monomials: sorted lists of variables; polynomials: sorted lists of monomials with their coefficients
pub data Poly : Type 0 where
  nil : Poly
  tm : ℤ → List ℕ → Poly → Poly

abbrev pub ins_m : ℕ → List ℕ → List ℕ
ins_m i [] = i ∷ []
ins_m i (j ∷ m) = elim (ltb j i) [ true ↦ j ∷ ins_m i m | false ↦ i ∷ j ∷ m ]

abbrev pub mul_m : List ℕ → List ℕ → List ℕ
mul_m [] m = m
mul_m (i ∷ a) m = ins_m i (mul_m a m)

abbrev pub eq_m : List ℕ → List ℕ → Bool
eq_m [] [] = true
eq_m [] (j ∷ b) = false
eq_m (i ∷ a) [] = false
eq_m (i ∷ a) (j ∷ b) = eqb i j && eq_m a b

abbrev pub lt_m : List ℕ → List ℕ → Bool
lt_m [] [] = false
lt_m [] (j ∷ b) = true
lt_m (i ∷ a) [] = false
lt_m (i ∷ a) (j ∷ b) = elim (ltb i j) [ true ↦ true | false ↦ elim (eqb i j) [ true ↦ lt_m a b | false ↦ false ] ]

abbrev pub tm' : ℤ → List ℕ → Poly → Poly
tm' (pos zero) m p = p
tm' (pos (suc n)) m p = tm (pos (suc n)) m p
tm' (negsuc n) m p = tm (negsuc n) m p

abbrev pub add_t : ℤ → List ℕ → Poly → Poly
add_t c m nil = tm' c m nil
add_t c m (tm d l p) =
    elim (eq_m m l) [ true ↦ tm' (d +ℤ c) l p | false ↦ elim (lt_m m l) [ true ↦ tm' c m (tm d l p) | false ↦ tm d l (add_t c m p) ] ]

abbrev pub add_p : Poly → Poly → Poly
add_p nil q = q
add_p (tm c m p) q = add_t c m (add_p p q)

abbrev pub mul_t : ℤ → List ℕ → Poly → Poly
mul_t c m nil = nil
mul_t c m (tm d l p) = add_t (c *ℤ d) (mul_m m l) (mul_t c m p)

abbrev pub mul_p : Poly → Poly → Poly
mul_p nil q = nil
mul_p (tm c m p) q = add_p (mul_t c m q) (mul_p p q)

abbrev pub neg_p : Poly → Poly
neg_p nil = nil
neg_p (tm c m p) = tm (neg_ℤ c) m (neg_p p)

abbrev pub norm : Expr → Poly
norm (𝕧 i) = tm (pos 1) (i ∷ []) nil
norm (𝕜 c) = tm' c [] nil
norm (a :+ b) = add_p (norm a) (norm b)
norm (a :* b) = mul_p (norm a) (norm b)
norm (:n a) = neg_p (norm a)

-- what they stand for
module _ (ρ : List ℤ) where
  ev_m : List ℕ → ℤ
  ev_m [] = 𝟙
  ev_m (i ∷ m) = look ρ i ⊗ ev_m m

  ev_p : Poly → ℤ
  ev_p nil = 𝟘
  ev_p (tm c m p) = c ⊗ ev_m m ⊕ ev_p p

  ins_m-ok : (i : ℕ) (m : List ℕ) → ev_m (ins_m i m) ≡ look ρ i ⊗ ev_m m
  unfolding ev_m
  ins_m-ok i [] = refl
  ins_m-ok i (j ∷ m) = go (ltb j i) (ins_m-ok i m)
    where
      go : (b : Bool) → ev_m (ins_m i m) ≡ look ρ i ⊗ ev_m m
          → ev_m (elim b [ true ↦ j ∷ ins_m i m | false ↦ i ∷ j ∷ m ]) ≡ look ρ i ⊗ (look ρ j ⊗ ev_m m)
      go true h = ap (λ x. look ρ j ⊗ x) h ∙ ⊗-lcomm (look ρ j) (look ρ i) (ev_m m)
      go false h = refl

  mul_m-ok : (a m : List ℕ) → ev_m (mul_m a m) ≡ ev_m a ⊗ ev_m m
  unfolding ev_m
  mul_m-ok [] m = sym (𝟙-⊗ (ev_m m))
  mul_m-ok (i ∷ a) m = ins_m-ok i (mul_m a m) ∙ ap (λ x. look ρ i ⊗ x) (mul_m-ok a m) ∙ sym (⊗-assoc (look ρ i) (ev_m a) (ev_m m))

eq_m-ok : (a b : List ℕ) → T (eq_m a b) → a ≡ b
eq_m-ok [] [] t = refl
eq_m-ok [] (j ∷ b) t = absurd t
eq_m-ok (i ∷ a) [] t = absurd t
eq_m-ok (i ∷ a) (j ∷ b) t = let p : i ≡ j = eqb→eq i j (passed-left (eqb i j) (eq_m a b) t) in let q : a ≡ b =
    eq_m-ok a b (passed-right (eqb i j) (eq_m a b) t) in cc

module _ (ρ : List ℤ) where
  tm'-ok : (c : ℤ) (m : List ℕ) (p : Poly) → ev_p ρ (tm' c m p) ≡ c ⊗ ev_m ρ m ⊕ ev_p ρ p
  unfolding ev_p 𝟘
  tm'-ok (pos zero) m p = sym (ap (λ x. x ⊕ ev_p ρ p) (𝟘-⊗ (ev_m ρ m)) ∙ 𝟘-⊕ (ev_p ρ p))
  tm'-ok (pos (suc n)) m p = refl
  tm'-ok (negsuc n) m p = refl

  plus : (c d : ℤ) (x : ℤ) → (d +ℤ c) ⊗ x ≡ c ⊗ x ⊕ d ⊗ x
  unfolding ◌⊕◌
  plus c d x = ⊗-distr d c x ∙ ⊕-comm (d ⊗ x) (c ⊗ x)

  add_t-ok : (c : ℤ) (m : List ℕ) (p : Poly) → ev_p ρ (add_t c m p) ≡ c ⊗ ev_m ρ m ⊕ ev_p ρ p
  unfolding ev_p
  add_t-ok c m nil = tm'-ok c m nil
  add_t-ok c m (tm d l p) = go (eq_m m l) (lt_m m l) (eq_m-ok m l) (add_t-ok c m p)
    where
      go : (b b' : Bool) → (T b → m ≡ l) → ev_p ρ (add_t c m p) ≡ c ⊗ ev_m ρ m ⊕ ev_p ρ p
          → ev_p ρ (elim b [ true ↦ tm' (d +ℤ c) l p | false ↦ elim b' [ true ↦ tm' c m (tm d l p) | false ↦ tm d l (add_t c m p) ] ])
          ≡ c ⊗ ev_m ρ m ⊕ (d ⊗ ev_m ρ l ⊕ ev_p ρ p)
      go true b' e h = tm'-ok (d +ℤ c) l p ∙ ap (λ x. x ⊕ ev_p ρ p) (plus c d (ev_m ρ l)) ∙ ⊕-assoc (c ⊗ ev_m ρ l) (d ⊗ ev_m ρ l) (ev_p ρ p)
          ∙ ap (λ y. c ⊗ ev_m ρ y ⊕ (d ⊗ ev_m ρ l ⊕ ev_p ρ p)) (sym (e tt))
      go false true e h = tm'-ok c m (tm d l p)
      go false false e h = ap (λ x. d ⊗ ev_m ρ l ⊕ x) h ∙ ⊕-lcomm (d ⊗ ev_m ρ l) (c ⊗ ev_m ρ m) (ev_p ρ p)

  add_p-ok : (p q : Poly) → ev_p ρ (add_p p q) ≡ ev_p ρ p ⊕ ev_p ρ q
  unfolding ev_p
  add_p-ok nil q = sym (𝟘-⊕ (ev_p ρ q))
  add_p-ok (tm c m p) q = add_t-ok c m (add_p p q) ∙ ap (λ x. c ⊗ ev_m ρ m ⊕ x) (add_p-ok p q) ∙ sym (⊕-assoc (c ⊗ ev_m ρ m) (ev_p ρ p) (ev_p ρ q))

  times : (c d x y : ℤ) → (c *ℤ d) ⊗ (x ⊗ y) ≡ (c ⊗ x) ⊗ (d ⊗ y)
  unfolding ◌⊗◌
  times c d x y = ⊗-assoc c d (x ⊗ y) ∙ ap (λ z. c ⊗ z) (⊗-lcomm d x y) ∙ sym (⊗-assoc c x (d ⊗ y))

  mul_t-ok : (c : ℤ) (m : List ℕ) (p : Poly) → ev_p ρ (mul_t c m p) ≡ (c ⊗ ev_m ρ m) ⊗ ev_p ρ p
  unfolding ev_p
  mul_t-ok c m nil = sym (⊗-𝟘 (c ⊗ ev_m ρ m))
  mul_t-ok c m (tm d l p) =
      add_t-ok (c *ℤ d) (mul_m m l) (mul_t c m p) ∙ ap (λ x. (c *ℤ d) ⊗ x ⊕ ev_p ρ (mul_t c m p)) (mul_m-ok ρ m l)
      ∙ ap (λ x. x ⊕ ev_p ρ (mul_t c m p)) (times c d (ev_m ρ m) (ev_m ρ l)) ∙ ap (λ x. (c ⊗ ev_m ρ m) ⊗ (d ⊗ ev_m ρ l) ⊕ x) (mul_t-ok c m p)
      ∙ sym (⊗-distl (c ⊗ ev_m ρ m) (d ⊗ ev_m ρ l) (ev_p ρ p))

  mul_p-ok : (p q : Poly) → ev_p ρ (mul_p p q) ≡ ev_p ρ p ⊗ ev_p ρ q
  unfolding ev_p
  mul_p-ok nil q = sym (𝟘-⊗ (ev_p ρ q))
  mul_p-ok (tm c m p) q =
      add_p-ok (mul_t c m q) (mul_p p q) ∙ ap (λ x. x ⊕ ev_p ρ (mul_p p q)) (mul_t-ok c m q)
      ∙ ap (λ x. (c ⊗ ev_m ρ m) ⊗ ev_p ρ q ⊕ x) (mul_p-ok p q) ∙ sym (⊗-distr (c ⊗ ev_m ρ m) (ev_p ρ p) (ev_p ρ q))

  nz : neg 𝟘 ≡ 𝟘
  unfolding neg 𝟘
  nz = refl

  ntm : (c x : ℤ) → (neg_ℤ c) ⊗ x ≡ neg (c ⊗ x)
  unfolding neg
  ntm c x = neg-⊗ c x

  neg_p-ok : (p : Poly) → ev_p ρ (neg_p p) ≡ neg (ev_p ρ p)
  unfolding ev_p
  neg_p-ok nil = sym nz
  neg_p-ok (tm c m p) =
      ap (λ x. x ⊕ ev_p ρ (neg_p p)) (ntm c (ev_m ρ m)) ∙ ap (λ x. neg (c ⊗ ev_m ρ m) ⊕ x) (neg_p-ok p) ∙ sym (neg-⊕ (c ⊗ ev_m ρ m) (ev_p ρ p))

  var-ok : (x : ℤ) → pos 1 ⊗ (x ⊗ 𝟙) ⊕ 𝟘 ≡ x
  unfolding 𝟙
  var-ok x = ⊕-𝟘 (𝟙 ⊗ (x ⊗ 𝟙)) ∙ 𝟙-⊗ (x ⊗ 𝟙) ∙ ⊗-comm x 𝟙 ∙ 𝟙-⊗ x

  norm-ok : (e : Expr) → ev_p ρ (norm e) ≡ ⟦◌⟧ e ρ
  unfolding ev_p ev_m
  norm-ok (𝕧 i) = var-ok (look ρ i)
  norm-ok (𝕜 c) = tm'-ok c [] nil ∙ ⊕-𝟘 (c ⊗ 𝟙) ∙ ⊗-comm c 𝟙 ∙ 𝟙-⊗ c
  norm-ok (a :+ b) = add_p-ok (norm a) (norm b) ∙ ap (λ x. x ⊕ ev_p ρ (norm b)) (norm-ok a) ∙ ap (λ x. ⟦◌⟧ a ρ ⊕ x) (norm-ok b)
  norm-ok (a :* b) = mul_p-ok (norm a) (norm b) ∙ ap (λ x. x ⊗ ev_p ρ (norm b)) (norm-ok a) ∙ ap (λ x. ⟦◌⟧ a ρ ⊗ x) (norm-ok b)
  norm-ok (:n a) = neg_p-ok (norm a) ∙ ap neg (norm-ok a)

  pub solve : (e f : Expr) → norm e ≡ norm f → ⟦◌⟧ e ρ ≡ ⟦◌⟧ f ρ
  solve e f h = sym (norm-ok e) ∙ ap (ev_p ρ) h ∙ norm-ok f
