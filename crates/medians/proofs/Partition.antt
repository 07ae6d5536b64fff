-- The steps of a partition. Assumes nothing.
--   none_between, passed-more, passed-less, stop-on, floor-on    walks from either end
--   parting-stop, parting-floor, turn-stop, turn-swap            a round: both walks, and an exchange
--   part-begin, part_end                                         the whole
use mathlib.Core.Path.{◌≡◌, refl, sym, ap, ◌∙◌, subst}
use mathlib.Core.Logic.{◌⊎◌, inl, inr}
use mathlib.Core.List.{List}
use mathlib.Core.Bool.{true, false, true≢false}
use Prim.Native.Nat.{ℕ, ◌+◌, ◌-◌, ◌≤◌, ◌<◌}
use native.Mathlib.Nat.{eq-or-lt_of_le}
use native.Mathlib.Omega.{arith}
use lib.ListN.{length, set, length-set}
use lib.Seq.{get_or-set_same, get_or-set_other}
use lib.Ieee.{Float, nan, lt}
use Rattle.ieee.proofs.Values.{lt-or-ge}
use Rattle.math.specs.Lists.{number_at, swapped}
use Rattle.medians.specs.Median.{SameValues}
use Rattle.medians.specs.Inner.{Stop, Floor, Risen, Sunk, Round, fresh, going, Parting, Turned, Parted}
use Rattle.medians.proofs.Order.{lt_irrefl, lt-asym}
use Rattle.medians.proofs.Counts.{same_refl, swap-same}

-- ---- walks
pub none_between : (P : ℕ → Type 0) (i x : ℕ) → i ≤ x → x < i → P x
none_between P i x h l = absurd (no i x h l)
  where
    no : (i x : ℕ) → i ≤ x → x < i → ⊥
    no i x h l = omega arith

-- one more place is passed
pub passed-more : (P : ℕ → Type 0) (f i : ℕ) → ((x : ℕ) → f ≤ x → x < i → P x) → P i → (x : ℕ) → f ≤ x → x < i + 1 → P x
passed-more P f i h q x l m = go (lt-or-ge x i)
  where
    go : (x < i) ⊎ (i ≤ x) → P x
    go (inl k) = h x l k
    go (inr k) = let e : i ≡ x = omega arith in subst P e q

-- one less place is left below
pub passed-less : (P : ℕ → Type 0) (e f : ℕ) → 0 < e → ((x : ℕ) → e ≤ x → x < f → P x) → P (e - 1) → (x : ℕ) → e - 1 ≤ x → x < f → P x
passed-less P e f z h q x l m = go (lt-or-ge x e)
  where
    go : (x < e) ⊎ (e ≤ x) → P x
    go (inl k) = let g : e - 1 ≡ x = omega arith in subst P g q
    go (inr k) = h x k m

-- the stop of a walk lies farther on than a value that is passed
pub stop-on : (s : List Float) (i : ℕ) (p : Float) → Stop s i p → lt (number_at s i) p ≡ true → Stop s (i + 1) p
stop-on s i p t h = go (eq-or-lt_of_le t.from)
  where
    go : (i ≡ t.place) ⊎ (i < t.place) → Stop s (i + 1) p
    go (inl e) = absurd (true≢false (sym h ∙ ap (λ (j : ℕ). lt (number_at s j) p) e ∙ t.holds))
    go (inr l) = record { place = t.place; from = omega arith; within = t.within; holds = t.holds }

pub floor-on : (s : List Float) (e : ℕ) (p : Float) → Floor s e p → lt p (number_at s (e - 1)) ≡ true → Floor s (e - 1) p
floor-on s e p t h = go (lt-or-ge t.place (e - 1))
  where
    go : (t.place < e - 1) ⊎ (e - 1 ≤ t.place) → Floor s (e - 1) p
    go (inl l) = record { place = t.place; before = l; holds = t.holds }
    go (inr l) = let b = t.before in let g : e - 1 ≡ t.place =
        omega arith in absurd (true≢false (sym h ∙ ap (λ (j : ℕ). lt p (number_at s j)) g ∙ t.holds))

-- ---- a round
pub parting-stop : (s : List Float) (p : Float) (i e : ℕ) → i < e → Parting s p i e → Stop s i p
parting-stop s p i e l t = go t.round
  where
    go : Round s p i e → Stop s i p
    go (fresh m w q a b) = record { place = m; from = omega arith; within = w; holds = ap (λ (x : Float). lt x p) q ∙ lt_irrefl p }
    go (going a b) = record { place = e; from = omega arith; within = b; holds = t.high e (omega arith) b }

pub parting-floor : (s : List Float) (p : Float) (i e : ℕ) → i < e → Parting s p i e → Floor s e p
parting-floor s p i e l t = go t.round
  where
    go : Round s p i e → Floor s e p
    go (fresh m w q a b) = record { place = m; before = omega arith; holds = ap (lt p) q ∙ lt_irrefl p }
    go (going a b) = record { place = i - 1; before = omega arith; holds = t.low (i - 1) (omega arith) }

low-on : (s : List Float) (p : Float) (i a : ℕ) → ((x : ℕ) → x < i → lt p (number_at s x) ≡ false)
    → ((x : ℕ) → i ≤ x → x < a → lt (number_at s x) p ≡ true) → (x : ℕ) → x < a → lt p (number_at s x) ≡ false
low-on s p i a h k x l = go (lt-or-ge x i)
  where
    go : (x < i) ⊎ (i ≤ x) → lt p (number_at s x) ≡ false
    go (inl m) = h x m
    go (inr m) = lt-asym (number_at s x) p (k x m l)

high-on : (s : List Float) (p : Float) (e b : ℕ) → ((x : ℕ) → e ≤ x → x < length s → lt (number_at s x) p ≡ false)
    → ((x : ℕ) → b ≤ x → x < e → lt p (number_at s x) ≡ true) → (x : ℕ) → b ≤ x → x < length s → lt (number_at s x) p ≡ false
high-on s p e b h k x l m = go (lt-or-ge x e)
  where
    go : (x < e) ⊎ (e ≤ x) → lt (number_at s x) p ≡ false
    go (inl n) = lt-asym p (number_at s x) (k x l n)
    go (inr n) = h x n m

pub turn-stop : (s : List Float) (p : Float) (i e a b : ℕ) → i < e → Parting s p i e → Risen s i p a → Sunk s e p b → b ≤ a
    → Turned s s p i e a b
turn-stop s p i e a b l t u d h = record {
  same = same_refl s;
  parting = record {
    i-in = omega (arith, u.within);
    e-in = omega (arith, d.upto, t.e-in);
    low = low-on s p i a t.low u.passed;
    high = high-on s p e b t.high d.passed;
    round = go t.round;
  };
  less = omega arith;
}
  where
    -- the pivot's own place stops both walks
    early : (m : ℕ) → number_at s m ≡ p → i ≤ m → m < e → ⊥
    early m q v w = side (lt-or-ge m a)
      where
        side : (m < a) ⊎ (a ≤ m) → ⊥
        side (inl k) = true≢false (sym (u.passed m v k) ∙ ap (λ (x : Float). lt x p) q ∙ lt_irrefl p)
        side (inr k) = true≢false (sym (d.passed m (omega arith) w) ∙ ap (lt p) q ∙ lt_irrefl p)

    go : Round s p i e → Round s p a b
    go (fresh m w q x y) = absurd (early m q (omega arith) (omega arith))
    go (going x y) = going (omega (arith, u.from)) (omega (arith, d.upto))

-- the two places exchanged
at_first : (s : List Float) (a d : ℕ) → a < length s → d < length s → number_at (swapped s a d) a ≡ number_at s d
at_first s a d h l = go (lt-or-ge a d) (lt-or-ge d a)
  where
    go : (a < d) ⊎ (d ≤ a) → (d < a) ⊎ (a ≤ d) → number_at (swapped s a d) a ≡ number_at s d
    go (inl k) w = get_or-set_other (set s a (number_at s d)) d a (number_at s a) nan (λ e. no a d k e) ∙ get_or-set_same s a (number_at s d) nan h
      where
        no : (a d : ℕ) → a < d → a ≡ d → ⊥
        no a d k e = omega arith
    go (inr k) (inl w) = get_or-set_other (set s a (number_at s d)) d a (number_at s a) nan (λ e. no a d w e) ∙ get_or-set_same s a (number_at s d) nan h
      where
        no : (a d : ℕ) → d < a → a ≡ d → ⊥
        no a d k e = omega arith
    go (inr k) (inr w) = let e : d ≡ a =
        omega arith in ap (number_at (swapped s a d)) (sym e) ∙ get_or-set_same (set s a (number_at s d)) d (number_at s a) nan (simp length-set l)
        ∙ ap (number_at s) (sym e)

at_second : (s : List Float) (a d : ℕ) → d < length s → number_at (swapped s a d) d ≡ number_at s a
at_second s a d l = get_or-set_same (set s a (number_at s d)) d (number_at s a) nan (simp length-set l)

at_other : (s : List Float) (a d x : ℕ) → (x ≡ a → ⊥) → (x ≡ d → ⊥) → number_at (swapped s a d) x ≡ number_at s x
at_other s a d x h k = get_or-set_other (set s a (number_at s d)) d x (number_at s a) nan k ∙ get_or-set_other s a x (number_at s d) nan h

pub turn-swap : (s : List Float) (p : Float) (i e a b : ℕ) → i < e → Parting s p i e → Risen s i p a → Sunk s e p b → a < b
    → Turned s (swapped s a (b - 1)) p i e (a + 1) (b - 1)
turn-swap s p i e a b l t u f h = record {
  same = swap-same s a d u.within inside;
  parting = record {
    i-in = simp length-set (omega (arith, u.within));
    e-in = simp length-set (omega arith);
    low = low;
    high = λ x v w. high x v (simp length-set at w);
    round = going (omega arith) (simp length-set (omega arith));
  };
  less = omega (arith, u.from, f.upto);
}
  where
    d : ℕ
    d = b - 1

    inside : b - 1 < length s
    inside = let z = f.upto in let y = t.e-in in let w = f.some in omega arith

    low : (x : ℕ) → x < a + 1 → lt p (number_at (swapped s a (b - 1)) x) ≡ false
    low x k = go (lt-or-ge x a)
      where
        ne : (a b x y : ℕ) → x < a → a < b → y ≡ b - 1 → x ≡ y → ⊥
        ne a b x y h k q e = omega arith

        ne' : (a x : ℕ) → x < a → x ≡ a → ⊥
        ne' a x h e = omega arith

        go : (x < a) ⊎ (a ≤ x) → lt p (number_at (swapped s a (b - 1)) x) ≡ false
        go (inl m) = ap (lt p) (at_other s a (b - 1) x (ne' a x m) (ne a b x (b - 1) m h refl)) ∙ low-on s p i a t.low u.passed x m
        go (inr m) = let q : x ≡ a =
            omega arith in ap (λ (x : ℕ). lt p (number_at (swapped s a (b - 1)) x)) q ∙ ap (lt p) (at_first s a (b - 1) u.within inside)
            ∙ f.stops

    high : (x : ℕ) → b - 1 ≤ x → x < length s → lt (number_at (swapped s a (b - 1)) x) p ≡ false
    high x v w = go (lt-or-ge x b)
      where
        ne : (a b x : ℕ) → b ≤ x → a < b → x ≡ a → ⊥
        ne a b x h k e = omega arith

        ne' : (b x : ℕ) → b ≤ x → 0 < b → x ≡ b - 1 → ⊥
        ne' b x h k e = omega arith

        go : (x < b) ⊎ (b ≤ x) → lt (number_at (swapped s a (b - 1)) x) p ≡ false
        go (inl m) = let q : x ≡ b - 1 =
            omega arith in ap (λ (x : ℕ). lt (number_at (swapped s a (b - 1)) x) p) q ∙ ap (λ (y : Float). lt y p) (at_second s a (b - 1) inside)
            ∙ u.stops
        go (inr m) = ap (λ (y : Float). lt y p) (at_other s a (b - 1) x (ne a b x m h) (ne' b x m f.some))
            ∙ high-on s p e b t.high f.passed x m w

-- ---- a partition
pub part-begin : (s : List Float) (m : ℕ) → m < length s → Parting s (number_at s m) 0 (length s)
part-begin s m h = record {
  i-in = omega arith;
  e-in = omega arith;
  low = λ x l. absurd (none x l);
  high = λ x l k. absurd (past x (length s) l k);
  round = fresh m h refl refl refl;
}
  where
    none : (x : ℕ) → x < 0 → ⊥
    none x h = omega arith

    past : (x n : ℕ) → n ≤ x → x < n → ⊥
    past x n h l = omega arith

pub part_end : (s t : List Float) (m i e : ℕ) → m < length s → SameValues s t → length t ≡ length s → Parting t (number_at s m) i e → e ≤ i
    → Parted s t i e
part_end s t m i e h same long p q = record {
  same = same;
  long = long;
  place = m;
  within = h;
  low = p.low;
  high = p.high;
  meet = q;
  some = (begun p.round).0;
  fewer = (begun p.round).1;
  i-in = omega (arith, p.i-in);
}
  where
    begun : Round t (number_at s m) i e → (0 < i) × (e < length s)
    begun (fresh x w z a b) = (omega arith, omega arith)
    begun (going a b) = (a, omega arith)
