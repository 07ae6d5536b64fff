-- The steps of a selection. Assumes nothing.
--   select-one                         a list of one value
--   select-front, select-tail, select-back, select-mid    the part before, the part after, and the place between
--   front-ok, back-ok                  the parts are shorter and can be ordered
use mathlib.Core.Path.{◌≡◌, refl, sym, ap, ◌∙◌, subst}
use mathlib.Core.Logic.{◌⊎◌, inl, inr}
use mathlib.Core.List.{List, [], ◌++◌, append-nil}
use mathlib.Core.Bool.{false}
use Prim.Native.Nat.{ℕ, ◌+◌, ◌-◌, ◌≤◌, ◌<◌}
use native.Mathlib.Omega.{arith}
use lib.ListN.{length, take, drop, length-append, length-take, length-drop, get_or-append, drop_of_length-le}
use lib.Seq.{get_or-take, get_or-drop, get_or-append-add, length-take-le, take_all}
use lib.Ieee.{Float, nan, lt}
use Rattle.ieee.proofs.Values.{lt-or-ge}
use Rattle.math.specs.Lists.{number_at}
use Rattle.medians.specs.Median.{under, over, Numbers}
use Rattle.medians.specs.Inner.{Parted, Selected}
use Rattle.medians.proofs.Order.{Good, lt_irrefl, le_trans}
use Rattle.medians.proofs.Counts.{none-at, none-all, same_refl, same-trans, none-same, same-front, same_back, number-at, same_numbers, numbers-drop}

-- ---- a selection
pub select-one : (s : List Float) (k : ℕ) → k < length s → length s ≤ 1 → Selected s s k (number_at s k)
select-one s k h l =
    record { same = same_refl s; long = refl; is = refl; before = λ x m. absurd (none k x (length s) m h l); after = after }
  where
    none : (k x n : ℕ) → x < k → k < n → n ≤ 1 → ⊥
    none k x n a b c = omega arith

    after : (x : ℕ) → k ≤ x → x < length s → lt (number_at s x) (number_at s k) ≡ false
    after x m n = let e : x ≡ k = omega arith in ap (λ (j : ℕ). lt (number_at s j) (number_at s k)) e ∙ lt_irrefl (number_at s k)

module _ (s t : List Float) (i e : ℕ) (n : Numbers s) (d : Parted s t i e) where
  pivot : Float
  pivot = number_at s d.place

  pivot-good : Good (number_at s d.place)
  pivot-good = number-at s n d.place d.within

  numbers : Numbers t
  numbers = same_numbers s t d.same n

  good : (x : ℕ) → x < length t → Good (number_at t x)
  good x h = number-at t numbers x h

  -- between the two ends all are equal to the pivot
  pub select-mid : (k : ℕ) → k < length s → e ≤ k → k < i → Selected s t k (number_at t k)
  select-mid k h l m =
      let w : k < length t = omega (arith, d.long) in
      record {
        same = d.same;
        long = d.long;
        is = refl;
        before = λ x q. let y : x < length t =
            omega arith in le_trans (number_at t x) (number_at s d.place) (number_at t k) (good x y) pivot-good (good k w) (d.low x (omega arith))
            (d.high k l w);
        after = λ x q y. le_trans (number_at t k) (number_at s d.place) (number_at t x) (good k w) pivot-good (good x y) (d.low k m)
            (d.high x (omega arith) y);
      }

  -- in the front part
  pub select-front : (u : List Float) (k : ℕ) (r : Float) → k < e → Selected (take e t) u k r → Selected s (u ++ drop e t) k r
  select-front u k r h c =
      let len : length u ≡ e = c.long ∙ length-take-le e t (omega (arith, d.fewer, d.long)) in
      let all : length (u ++ drop e t) ≡ length t = length-append u (drop e t) ∙ simp length-drop (omega (arith, d.fewer, d.long)) in
      record {
        same = same-trans s t (u ++ drop e t) d.same (same-front t u e c.same);
        long = all ∙ d.long;
        is = c.is ∙ sym (get_or-append u (drop e t) nan k (omega arith));
        before = λ x q. ap (lt r) (get_or-append u (drop e t) nan x (omega arith)) ∙ c.before x q;
        after = λ x q y. past x q (omega arith) (lt-or-ge x e) len;
      }
    where
      high-u : (x : ℕ) → x < length u → lt (number_at s d.place) (number_at u x) ≡ false
      high-u x h = none-at (over (number_at s d.place)) u
          (none-same (over (number_at s d.place)) (take e t) u c.same (none-all (over (number_at s d.place)) (take e t) inside)) x h
        where
          inside : (x : ℕ) → x < length (take e t) → lt (number_at s d.place) (number_at (take e t) x) ≡ false
          inside x l =
              let m : x < e = omega (arith, length-take e t) in
              ap (lt (number_at s d.place)) (get_or-take e t x nan m) ∙ d.low x (omega (arith, d.meet))

      r-good : length u ≡ e → Good r
      r-good q =
          let g = number-at u (same_numbers (take e t) u c.same (Rattle.medians.proofs.Counts.numbers-take t e numbers)) k
          (omega arith) in
          subst Good (sym c.is) g

      past : (x : ℕ) → k ≤ x → x < length t → (x < e) ⊎ (e ≤ x) → length u ≡ e → lt (number_at (u ++ drop e t) x) r ≡ false
      past x q y (inl l) z = ap (λ (w : Float). lt w r) (get_or-append u (drop e t) nan x (omega arith)) ∙ c.after x q (omega arith)
      past x q y (inr l) z =
          let j : x ≡ length u + (x - e) = omega arith in
          let o : e + (x - e) ≡ x = omega arith in
          let f : number_at (u ++ drop e t) x ≡ number_at t x =
          ap (number_at (u ++ drop e t)) j ∙ get_or-append-add u (drop e t) (x - e) nan ∙ get_or-drop e t (x - e) nan ∙ ap (number_at t) o in
          ap (λ (w : Float). lt w r) f
          ∙ le_trans r (number_at s d.place) (number_at t x) (r-good z) pivot-good (good x y)
          (ap (lt (number_at s d.place)) c.is ∙ high-u k (omega arith)) (d.high x l y)

  -- in the back part
  pub select-back : (u : List Float) (k : ℕ) (r : Float) → k < length s → i ≤ k → Selected (drop i t) u (k - i) r
      → Selected s (take i t ++ u) k r
  select-back u k r h l c =
      let li : length (take i t) ≡ i = length-take-le i t (omega (arith, d.i-in, d.long)) in
      let lu : length u ≡ length t - i = c.long ∙ length-drop i t in
      let all : length (take i t ++ u) ≡ length t = length-append (take i t) u ∙ (omega (arith, d.i-in, d.long)) in
      record {
        same = same-trans s t (take i t ++ u) d.same (same_back t u i c.same);
        long = all ∙ d.long;
        is = c.is ∙ sym (late k l li);
        before = λ x q. early x q (lt-or-ge x i) li lu;
        after = λ x q y. let z : i ≤ x =
            omega arith in ap (λ (w : Float). lt w r) (late x z li) ∙ c.after (x - i) (omega arith) (omega arith);
      }
    where
      late : (x : ℕ) → i ≤ x → length (take i t) ≡ i → number_at (take i t ++ u) x ≡ number_at u (x - i)
      late x q li = let j : x ≡ length (take i t) + (x - i) =
          omega arith in ap (number_at (take i t ++ u)) j ∙ get_or-append-add (take i t) u (x - i) nan

      low-u : (x : ℕ) → x < length u → lt (number_at u x) (number_at s d.place) ≡ false
      low-u x h = none-at (under (number_at s d.place)) u
          (none-same (under (number_at s d.place)) (drop i t) u c.same (none-all (under (number_at s d.place)) (drop i t) inside)) x h
        where
          inside : (x : ℕ) → x < length (drop i t) → lt (number_at (drop i t) x) (number_at s d.place) ≡ false
          inside x l =
              let m : x < length t - i = omega (arith, length-drop i t) in
              ap (λ (w : Float). lt w (number_at s d.place)) (get_or-drop i t x nan) ∙ d.high (i + x) (omega (arith, d.meet)) (omega arith)

      r-good : k - i < length u → Good r
      r-good q =
          let g = number-at u (same_numbers (drop i t) u c.same (numbers-drop t i numbers)) (k - i) q in
          subst Good (sym c.is) g

      early : (x : ℕ) → x < k → (x < i) ⊎ (i ≤ x) → length (take i t) ≡ i → length u ≡ length t - i → lt r (number_at (take i t ++ u) x) ≡ false
      early x q (inr m) li lu = ap (lt r) (late x m li) ∙ c.before (x - i) (omega arith)
      early x q (inl m) li lu =
          let w : k - i < length u = omega (arith, d.long) in
          let y : x < length t = omega (arith, d.i-in, d.long) in
          ap (lt r) (get_or-append (take i t) u nan x (omega arith) ∙ get_or-take i t x nan m)
          ∙ le_trans (number_at t x) (number_at s d.place) r (good x y) pivot-good (r-good w) (d.low x m)
          (ap (λ (z : Float). lt z (number_at s d.place)) c.is ∙ low-u (k - i) w)

  -- the parts are shorter lists of numbers
  pub front-ok : (k m : ℕ) → length s ≡ m → k < e → (length (take e t) < m) × (k < length (take e t)) × Numbers (take e t)
  front-ok k m q h =
      let z : length (take e t) ≡ e = length-take-le e t (omega (arith, d.fewer, d.long)) in
      (omega (arith, d.fewer), omega arith, Rattle.medians.proofs.Counts.numbers-take t e numbers)

  whole-tail : take (length t - i) (drop i t) ≡ drop i t
  whole-tail = take_all (length t - i) (drop i t) (omega (arith, length-drop i t))

  pub back-ok : (k m : ℕ) → length s ≡ m → k < length s → i ≤ k
      → (length (take (length t - i) (drop i t)) < m) × (k - i < length (take (length t - i) (drop i t)))
      × Numbers (take (length t - i) (drop i t))
  back-ok k m q h l =
      let e = ap length whole-tail ∙ length-drop i t in (
        omega (arith, d.some, d.long),
        omega (arith, d.long),
        subst Numbers (sym whole-tail) (numbers-drop t i numbers),
      )

  pub select-tail : (u : List Float) (k : ℕ) (r : Float) → k < length s → i ≤ k → Selected (take (length t - i) (drop i t)) u (k - i) r
      → Selected s (take i t ++ (u ++ drop (length t - i) (drop i t))) k r
  select-tail u k r h l c =
      let e : drop (length t - i) (drop i t) ≡ [] = drop_of_length-le (drop i t) {i = length t - i} (omega (arith, length-drop i t)) in
      subst (λ (z : List Float). Selected s (take i t ++ (u ++ z)) k r) (sym e)
      (subst (λ (z : List Float). Selected s (take i t ++ z) k r) (sym (append-nil u))
      (select-back u k r h l (subst (λ (z : List Float). Selected z u (k - i) r) whole-tail c)))
