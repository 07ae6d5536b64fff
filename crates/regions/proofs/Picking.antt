-- The search for the groups that are kept: the first behind another (UpTo), and one after the other (Picking).
--     UpTo, upto_turn, Picking, picking-turn, picking-out, picking_full, picked-out, picked-full
-- Assumes nothing.
use mathlib.Core.Bool.{false, true}
use mathlib.Core.List.{List}
use mathlib.Core.Logic.{◌⊎◌, inl, inr, ⊎_elim}
use mathlib.Core.Path.{◌∙◌, ◌≡◌, ap, refl, sym}
use Prim.Native.Nat.{◌+◌, ◌<◌, ◌≤◌, suc, ℕ}
use native.Mathlib.Decide.{dec_lt, ℕ_discrete}
use native.Mathlib.Numerals.{add-one}
use native.Mathlib.Omega.{arith}
use lib.Dec.{ltb}
use lib.ListN.{get_or, length}
use borrow.Author.Tests.{le-ltb, lt-ltb}
use Rattle.laws.proofs.Bools.{at-or-below, clash, which}
use Rattle.laws.proofs.Counts.{count_none}
use Rattle.laws.specs.Count.{count}
use Rattle.laws.specs.Plane.{value_at}
use Rattle.regions.proofs.Kept.{order}
use Rattle.regions.proofs.Select.{first-place, last-place, next_place, nth-is, place-under}
use Rattle.regions.specs.Kept.{ahead, kept_at, kept_of, nth, place, want}
use Rattle.regions.specs.Inner.{FoundBehind, Picked, Turn, beats, behind, left, took}

-- `a` is the first of those below `k`; the length where there is none.
pub record UpTo (s : List ℕ) (p k a : ℕ) : Type 0 where
  pub most : a ≤ length s
  pub real : a < length s → (want (value_at s) a ≡ true) × (behind s p a ≡ true)
  pub all : (c : ℕ) → c < k → want (value_at s) c ≡ true → behind s p c ≡ true → (a < length s) × (ahead (value_at s) c a ≡ false)

beats-yes : (s : List ℕ) (a b : ℕ) → beats s a b ≡ true → a < length s → ahead (value_at s) b a ≡ true
unfolding beats
beats-yes s a b t h = rw (lt-ltb a (length s) h) at t

beats-no : (s : List ℕ) (a b : ℕ) → beats s a b ≡ false → (a < length s) × (ahead (value_at s) b a ≡ false)
unfolding beats
beats-no s a b t = go (dec_lt a (length s))
  where
    go : Dec (a < length s) → (a < length s) × (ahead (value_at s) b a ≡ false)
    go (yes h) = (h, rw (lt-ltb a (length s) h) at t)
    go (no h) =
        let e : ltb a (length s) ≡ false = le-ltb a (length s) (omega arith) in
        absurd (clash refl (rw e at t))

pub upto_turn : {s : List ℕ} {p k a a' : ℕ} → k < length s → UpTo s p k a → Turn s p a k a' → UpTo s p (k + 1) a'
upto_turn {s} {p} {k} {a} h u (took w q t) = record {
  most = omega arith;
  real = λ z. (w, q);
  all = λ c d v y. (h, not-ahead c (at-or-below c k (rw add-one at d)) v y);
}
  where
    not-ahead : (c : ℕ) → (c ≡ k) ⊎ (c < k) → want (value_at s) c ≡ true → behind s p c ≡ true → ahead (value_at s) c k ≡ false
    not-ahead c (inl e) v y = ap (λ (x : ℕ). ahead (value_at s) x k) e ∙ (order (value_at s)).irr k
    not-ahead c (inr l) v y =
        let z = u.all c l v y in
        ⊎_elim (λ x. absurd (clash ((order (value_at s)).trans c k a x (beats-yes s a k t z.0)) z.1)) (λ x. x)
        (which (ahead (value_at s) c k))
upto_turn {s} {p} {k} {a} h u (left f) = record {
  most = u.most;
  real = u.real;
  all = λ c d v y. ⊎_elim (λ e. rw (← e) at (beats-no s a k (f (rw e at v) (rw e at y)))) (λ l. u.all c l v y)
      (at-or-below c k (rw add-one at d));
}

-- After `i` of them: those before, and `p` the last of these (the length before the first).
pub record Picking (s : List ℕ) (i p : ℕ) (at : List ℕ) : Type 0 where
  pub done : (j : ℕ) → j < i → get_or at j 0 ≡ kept_at (value_at s) (length s) j
  pub inside : (j : ℕ) → j < i → get_or at j 0 < length s
  pub start : i ≡ 0 → p ≡ length s
  pub last : 0 < i → (p < length s) × (want (value_at s) p ≡ true) × (suc (place (want (value_at s)) (ahead (value_at s)) (length s) p) ≡ i)

behind-start : (s : List ℕ) (p b : ℕ) → p ≡ length s → behind s p b ≡ true
unfolding behind
behind-start s p b e = let f : ltb p (length s) ≡ false = le-ltb p (length s) (omega arith) in rw f refl

behind-real : (s : List ℕ) (p b : ℕ) → p < length s → behind s p b ≡ ahead (value_at s) p b
unfolding behind
behind-real s p b h = rw (lt-ltb p (length s) h) refl

-- the place of the one that is found
found-place : (s : List ℕ) (i p a : ℕ) (at : List ℕ) → Picking s i p at → FoundBehind s p a → a < length s
    → place (want (value_at s)) (ahead (value_at s)) (length s) a ≡ i
found-place s i p a at k f h = go (ℕ_discrete i 0)
  where
    go : Dec (i ≡ 0) → place (want (value_at s)) (ahead (value_at s)) (length s) a ≡ i
    go (yes e) = first-place (want (value_at s)) (ahead (value_at s)) (length s) (order (value_at s)) a (record {
      below = h;
      wanted = (f.real h).0;
      meets = refl;
      first = λ b d w q. (f.all b d w (behind-start s p b (k.start e))).1;
    }) ∙ sym e
    go (no e) =
        let l = k.last (omega arith) in
        next_place (want (value_at s)) (ahead (value_at s)) (length s) (order (value_at s)) p a l.0 l.1 (record {
          below = h;
          wanted = (f.real h).0;
          meets = sym (behind-real s p a l.0) ∙ (f.real h).1;
          first = λ b d w q. (f.all b d w (behind-real s p b l.0 ∙ q)).1;
        }) ∙ l.2

pub picking-turn : {s at at' : List ℕ} {i p a : ℕ} → Picking s i p at → FoundBehind s p a → a < length s
    → ((j : ℕ) → j < i → get_or at' j 0 ≡ get_or at j 0) → get_or at' i 0 ≡ a → Picking s (i + 1) a at'
unfolding kept_at
picking-turn {s} {at} {at'} {i} {p} {a} k f h old new = record {
  done = λ j d. ⊎_elim
      (λ e. ap (λ (x : ℕ). get_or at' x 0) e
      ∙ (new ∙ (sym (nth-is (want (value_at s)) (ahead (value_at s)) (length s) (order (value_at s)) a i h (f.real h).0
      (found-place s i p a at k f h)) ∙ ap (λ (x : ℕ). nth (want (value_at s)) (ahead (value_at s)) (length s) x) (sym e))))
      (λ l. old j l ∙ k.done j l) (at-or-below j i (rw add-one at d));
  inside = λ j d. ⊎_elim (λ e. omega (arith, new, ap (λ (x : ℕ). get_or at' x 0) e)) (λ l. omega (arith, old j l, k.inside j l))
      (at-or-below j i (rw add-one at d));
  start = λ e. absurd (omega arith);
  last = λ z. (h, (f.real h).0, omega (arith, found-place s i p a at k f h));
}

-- none left: there are `i` in all
pub picking-out : {s at : List ℕ} {i p a : ℕ} → Picking s i p at → FoundBehind s p a → a ≡ length s → count (want (value_at s)) (length s) ≡ i
picking-out {s} {at} {i} {p} {a} k f e = go (ℕ_discrete i 0)
  where
    none : (b : ℕ) → b < length s → want (value_at s) b ≡ true → behind s p b ≡ false
    none b h w = ⊎_elim (λ t. absurd (omega (arith, (f.all b h w t).0))) (λ t. t) (which (behind s p b))

    go : Dec (i ≡ 0) → count (want (value_at s)) (length s) ≡ i
    go (yes z) = count_none (want (value_at s)) (length s)
        (λ b h. ⊎_elim (λ w. absurd (clash (behind-start s p b (k.start z)) (none b h w))) (λ w. w) (which (want (value_at s) b))) ∙ sym z
    go (no z) =
        let l = k.last (omega arith) in
        last-place (want (value_at s)) (ahead (value_at s)) (length s) (order (value_at s)) p l.0 l.1
        (λ b h w. sym (behind-real s p b l.0) ∙ none b h w) ∙ l.2

-- four are picked: there are at least four
pub picking_full : {s at : List ℕ} {p : ℕ} → Picking s 4 p at → 4 ≤ count (want (value_at s)) (length s)
picking_full {s} {at} {p} k =
    let l = k.last (omega arith) in
    omega (arith, l.2, place-under (want (value_at s)) (ahead (value_at s)) (length s) (order (value_at s)) p l.0 l.1)

-- what `pick` answers: none left after i, or four
pub picked-out : {s at : List ℕ} {i p a : ℕ} → Picking s i p at → FoundBehind s p a → a ≡ length s → i < 4 → Picked s i at
unfolding kept_of
picked-out {s} {at} {i} k f e few = record {
  many = omega (arith, picking-out k f e);
  which = k.done;
  few = omega arith;
  inside = k.inside;
}

pub picked-full : {s at : List ℕ} {i p : ℕ} → Picking s i p at → i ≡ 4 → Picked s 4 at
unfolding kept_of
picked-full {s} {at} {i} {p} k e =
    let k' : Picking s 4 p at = rw e at k in
    record { many = omega (arith, picking_full k'); which = k'.done; few = omega arith; inside = k'.inside }
