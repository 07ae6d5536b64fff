-- Laws of places in a strict order. Assumes nothing.
use mathlib.Core.Path.{◌≡◌, refl, sym, ◌∙◌}
use mathlib.Core.Logic.{◌⊎◌, inl, inr, ⊎_elim}
use mathlib.Core.Bool.{Bool, true, false, ◌&&◌}
use Prim.Native.Nat.{ℕ, suc, ◌<◌}
use native.Mathlib.Omega.{arith}
use native.Mathlib.Decide.{ℕ_discrete, dec_lt}
use lib.Dec.{eqb}
use borrow.Author.Tests.{eq-eqb, eqb-true}
use Rattle.laws.specs.Count.{count, least}
use Rattle.laws.proofs.Counts.{least-before, count_add, count-lt, count_none, least-end}
use Rattle.laws.proofs.Bools.{both, and_left, and_right, which, clash, bool-ext}
use Rattle.regions.specs.Kept.{place, nth}

pub record Order (ahead : ℕ → ℕ → Bool) : Type 0 where
  pub irr : (a : ℕ) → ahead a a ≡ false
  pub trans : (a b c : ℕ) → ahead a b ≡ true → ahead b c ≡ true → ahead a c ≡ true
  pub total : (a b : ℕ) → ahead a b ≡ false → ahead b a ≡ false → a ≡ b

module _ (want : ℕ → Bool) (ahead : ℕ → ℕ → Bool) (m : ℕ) where
  -- `a` is wanted and first among the wanted that meet `p`; or none meets it.
  pub record First (p : ℕ → Bool) (a : ℕ) : Type 0 where
    pub below : a < m
    pub wanted : want a ≡ true
    pub meets : p a ≡ true
    pub first : (b : ℕ) → b < m → want b ≡ true → p b ≡ true → ahead b a ≡ false

  module _ (o : Order ahead) where
    pub place-less : (a b : ℕ) → a < m → want a ≡ true → ahead a b ≡ true → place want ahead m a < place want ahead m b
    unfolding place
    place-less a b h w t =
        count-lt (λ c. want c && ahead c a) (λ c. want c && ahead c b) a m h
        (⊎_elim (λ e. absurd (clash (and_right (want a) (ahead a a) e) (o.irr a))) (λ e. e) (which (want a && ahead a a)))
        (both (want a) (ahead a b) w t)
        (λ c d e. both (want c) (ahead c b) (and_left (want c) (ahead c a) e) (o.trans c a b (and_right (want c) (ahead c a) e) t))

    pub place-one : (a b : ℕ) → a < m → b < m → want a ≡ true → want b ≡ true → place want ahead m a ≡ place want ahead m b → a ≡ b
    place-one a b h k w v e = go (which (ahead a b)) (which (ahead b a))
      where
        go : (ahead a b ≡ true) ⊎ (ahead a b ≡ false) → (ahead b a ≡ true) ⊎ (ahead b a ≡ false) → a ≡ b
        go (inl p) q = absurd (omega (arith, place-less a b h w p))
        go (inr p) (inl q) = absurd (omega (arith, place-less b a k v q))
        go (inr p) (inr q) = o.total a b p q

    -- a wanted number at place i is the one that the definition gives
    pub nth-is : (a i : ℕ) → a < m → want a ≡ true → place want ahead m a ≡ i → nth want ahead m i ≡ a
    unfolding nth
    nth-is a i h w e = go (ℕ_discrete (least p m) a) (dec_lt (least p m) a)
      where
        p : ℕ → Bool
        p = λ c. want c && eqb (place want ahead m c) i

        at_a : p a ≡ true
        at_a = both (want a) (eqb (place want ahead m a) i) w (eq-eqb _ _ e)

        go : Dec (least p m ≡ a) → Dec (least p m < a) → least p m ≡ a
        go (yes q) d = q
        go (no q) (no d) = absurd (clash at_a (least-before p m a (omega arith)))
        go (no q) (yes d) =
            let t : p (least p m) ≡ true = ⊎_elim (λ x. x) (λ x. absurd (omega (arith, least-end' x))) (which (p (least p m))) in
            place-one (least p m) a (omega arith) h (and_left (want (least p m)) _ t) w
            (eqb-true _ _ (and_right (want (least p m)) (eqb (place want ahead m (least p m)) i) t) ∙ sym e)
          where
            least-end' : p (least p m) ≡ false → least p m ≡ m
            least-end' x = least-end p m x

    -- the first of all has place 0
    pub first-place : (a : ℕ) → First (λ b. true) a → place want ahead m a ≡ 0
    unfolding place
    first-place a f = count_none (λ c. want c && ahead c a) m
        (λ c b. ⊎_elim (λ t. absurd (clash (and_right (want c) (ahead c a) t) (f.first c b (and_left (want c) (ahead c a) t) refl)))
        (λ t. t) (which (want c && ahead c a)))

    -- the first of those behind `p` has the next place
    pub next_place : (p a : ℕ) → p < m → want p ≡ true → First (λ b. ahead p b) a → place want ahead m a ≡ suc (place want ahead m p)
    unfolding place
    next_place p a h w f =
        count_add (λ c. want c && ahead c p) (λ c. want c && ahead c a) p m h
        (⊎_elim (λ e. absurd (clash (and_right (want p) (ahead p p) e) (o.irr p))) (λ e. e) (which (want p && ahead p p)))
        (both (want p) (ahead p a) w f.meets)
        (λ c d n. bool-ext (want c && ahead c p) (want c && ahead c a)
        (λ t. both (want c) (ahead c a) (and_left (want c) (ahead c p) t) (o.trans c p a (and_right (want c) (ahead c p) t) f.meets))
        (λ t. both (want c) (ahead c p) (and_left (want c) (ahead c a) t)
        (between c d n (and_left (want c) (ahead c a) t) (and_right (want c) (ahead c a) t))))
      where
        between : (c : ℕ) → c < m → (c ≡ p → ⊥) → want c ≡ true → ahead c a ≡ true → ahead c p ≡ true
        between c d n u t = go (which (ahead c p)) (which (ahead p c))
          where
            go : (ahead c p ≡ true) ⊎ (ahead c p ≡ false) → (ahead p c ≡ true) ⊎ (ahead p c ≡ false) → ahead c p ≡ true
            go (inl x) y = x
            go (inr x) (inl y) = absurd (clash t (f.first c d u y))
            go (inr x) (inr y) = absurd (n (o.total c p x y))

    -- where none is behind `p`, `p` is the last
    pub last-place : (p : ℕ) → p < m → want p ≡ true → ((b : ℕ) → b < m → want b ≡ true → ahead p b ≡ false)
        → count want m ≡ suc (place want ahead m p)
    unfolding place
    last-place p h w f =
        count_add (λ c. want c && ahead c p) want p m h
        (⊎_elim (λ e. absurd (clash (and_right (want p) (ahead p p) e) (o.irr p))) (λ e. e) (which (want p && ahead p p)))
        w
        (λ c d n. bool-ext (want c && ahead c p) (want c) (λ t. and_left (want c) (ahead c p) t)
        (λ t. both (want c) (ahead c p) t (go c n (f c d t) (which (ahead c p)))))
      where
        go : (c : ℕ) → (c ≡ p → ⊥) → ahead p c ≡ false → (ahead c p ≡ true) ⊎ (ahead c p ≡ false) → ahead c p ≡ true
        go c n y (inl x) = x
        go c n y (inr x) = absurd (n (o.total c p x y))

    -- a wanted number's place is below how many are wanted
    pub place-under : (p : ℕ) → p < m → want p ≡ true → place want ahead m p < count want m
    unfolding place
    place-under p h w =
        count-lt (λ c. want c && ahead c p) want p m h
        (⊎_elim (λ e. absurd (clash (and_right (want p) (ahead p p) e) (o.irr p))) (λ e. e) (which (want p && ahead p p)))
        w
        (λ c d t. and_left (want c) (ahead c p) t)
