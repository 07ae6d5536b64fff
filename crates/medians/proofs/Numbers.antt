-- That a median of usable values is no NaN, and that the distances from it can be ordered; and the doors' checks.
--     the values after a selection: odd_no_nan, even-no-nan, none-no-nan
--     distances: away-numbers
--     the doors: refuse-9, refuse-10, pass
--     the working list: work-length, spread-is
-- Assumes nothing.
use mathlib.Core.Path.{◌≡◌, refl, sym, ap, ◌∙◌, subst}
use mathlib.Core.List.{List, map}
use mathlib.Core.Bool.{Bool, true, false, not, ◌&&◌, beq, cond, true≢false, false≢true}
use Prim.Native.Nat.{ℕ, zero, suc, ◌+◌, ◌-◌, ◌*◌, ◌^◌, ◌≤◌, ◌<◌}
use native.Mathlib.Omega.{arith}
use lib.IntN.{ℤ, negsuc}
use lib.Dec.{T, ltb}
use lib.ListN.{length, get_or, take, replicate, length-replicate, length-map, get_or-map}
use lib.Seq.{length-take-le}
use lib.Ieee.{Float, Format, nan, inf, fin, binary32, fits, is_nan, round, units, odd, low, prec, emax, sum, add, sub, neg, mul, of_bits, up, down, unlike}
use lib.Ieee.Fits.{sub-fits}
use borrow.Author.Tests.{le-leb, lt-leb}
use Rattle.laws.proofs.Bools.{and_left, not-false}
use Rattle.ieee.specs.Ops.{abs, finite, plain}
use Rattle.math.specs.Lists.{number_at}
use Rattle.ieee.specs.Constants.{1·4826, 0·5}
use Rattle.medians.specs.Median.{SameValues, median, usable, all_usable, is_bad, Numbers, away, mad_sigma, checked}
use Rattle.laws.specs.Check.{or_refuse}
use Rattle.laws.specs.Said.{Said, refuse}
use Rattle.medians.specs.Inner.{Selected, Largest}
use Rattle.medians.proofs.Order.{Good, good_of}
use Rattle.medians.proofs.Counts.{none-all, none-at, none-same}
use Rattle.medians.proofs.Usable.{usable_at}

-- ---- what is no NaN
odd_number : (d : ℕ) (s : Bool) (q k l : ℕ) → is_nan (odd d s q k l) ≡ false
unfolding odd is_nan
odd_number d s zero k l = refl
odd_number d s (suc q) k l = refl

pick-number : (b : Bool) (x y : Float) → is_nan x ≡ false → is_nan y ≡ false → is_nan (cond b x y) ≡ false
pick-number true x y h k = h
pick-number false x y h k = k

inf-number : (s : Bool) → is_nan (inf s) ≡ false
unfolding is_nan
inf-number s = refl

units_number : (f : Format) (s : Bool) (q k : ℕ) → is_nan (units f s q k) ≡ false
unfolding units
units_number f s q k =
    pick-number (ltb (q * 2 ^ k) (2 ^ (low f + suc (emax f)))) _ _ (odd_number (suc (prec f)) s q k (low f)) (inf-number s)

round_number : (f : Format) (s : Bool) (a b : ℕ) → is_nan (round f s a b) ≡ false
unfolding round
round_number f s a b = units_number f s _ _

sum_number : (f : Format) (s : Bool) (a : ℕ) (t : Bool) (b c : ℕ) → is_nan (sum f s a t b c) ≡ false
unfolding sum
sum_number f s a t b c =
    pick-number (beq s t) _ _ (round_number f s (a + b) c)
    (pick-number (ltb a b) _ _ (round_number f t (b - a) c) (round_number f (s && ltb b a) (a - b) c))

-- a finite number and one that is no NaN
add-number : (f : Format) (x y : Float) → finite x ≡ true → is_nan y ≡ false → is_nan (add f x y) ≡ false
unfolding add finite is_nan
add-number f nan y h k = absurd (false≢true h)
add-number f (inf s) y h k = absurd (false≢true h)
add-number f (fin s m e) nan h k = absurd (true≢false k)
add-number f (fin s m e) (inf t) h k = refl
add-number f (fin s m e) (fin t n d) h k = sum_number f s (m * up e * down d) t (n * up d * down e) (down e * down d)

neg-number : (x : Float) → is_nan x ≡ false → is_nan (neg x) ≡ false
unfolding neg is_nan
neg-number nan h = h
neg-number (inf s) h = refl
neg-number (fin s m e) h = refl

sub_number : (f : Format) (x y : Float) → finite x ≡ true → is_nan y ≡ false → is_nan (sub f x y) ≡ false
unfolding sub
sub_number f x y h k = add-number f x (neg y) h (neg-number y k)

finite_number : (x : Float) → finite x ≡ true → is_nan x ≡ false
unfolding finite is_nan
finite_number nan h = absurd (false≢true h)
finite_number (inf s) h = refl
finite_number (fin s m e) h = refl

scaled-number : (f : Format) (s : Bool) (e : ℤ) (x : Float) → is_nan x ≡ false → is_nan (mul f (fin s 1 e) x) ≡ false
unfolding mul is_nan
scaled-number f s e nan h = h
scaled-number f s e (inf t) h = refl
scaled-number f s e (fin t n d) h = round_number f (unlike s t) (1 * up e * (n * up d)) (down e * down d)

half_is : 0·5 ≡ fin false 1 (negsuc 0)
unfolding of_bits
half_is = refl

half-number : (x : Float) → is_nan x ≡ false → is_nan (mul binary32 0·5 x) ≡ false
half-number x h = ap (λ (y : Float). is_nan (mul binary32 y x)) half_is ∙ scaled-number binary32 false (negsuc 0) x h

usable-finite : (x : Float) → usable x ≡ true → finite x ≡ true
unfolding usable
usable-finite x h = and_left (finite x) (plain x) h

-- ---- the values after a selection
unusable : Float → Bool
unusable x = not (usable x)

still-finite : (s t : List Float) → all_usable s ≡ true → SameValues s t → (x : ℕ) → x < length t → finite (number_at t x) ≡ true
unfolding unusable
still-finite s t h q x l =
    usable-finite (number_at t x)
    (not-false _ (none-at unusable t (none-same unusable s t q (none-all unusable s (λ y m. ap not (usable_at s h y m)))) x l))

pub odd_no_nan : (s t : List Float) (k : ℕ) (r : Float) → k < length s → Selected s t k r → all_usable s ≡ true → is_nan r ≡ false
odd_no_nan s t k r h c a = ap is_nan c.is ∙ finite_number _ (still-finite s t a c.same k (omega (arith, c.long)))

pub even-no-nan : (s t : List Float) (k : ℕ) (r y : Float) → k < length s → Selected s t k r → Largest t k y → all_usable s ≡ true
    → is_nan (mul binary32 0·5 (add binary32 y r)) ≡ false
even-no-nan s t k r y h c l a =
    let f : finite (number_at t l.place) ≡ true = still-finite s t a c.same l.place (omega (arith, l.within, c.long)) in
    half-number _ (add-number binary32 y r (ap finite (sym l.is) ∙ f) (odd_no_nan s t k r h c a))

zero_number : is_nan (of_bits binary32 0) ≡ false
unfolding of_bits is_nan
zero_number = refl

pub none-no-nan : (s : List Float) → all_usable s ≡ true → is_nan (of_bits binary32 0) ≡ false
none-no-nan s h = zero_number

-- ---- distances
abs-fits : (f : Format) (x : Float) → T (fits f x) → T (fits f (abs x))
unfolding abs fits
abs-fits f nan h = tt
abs-fits f (inf s) h = tt
abs-fits f (fin s zero e) h = h
abs-fits f (fin s (suc m) e) h = h

abs-plain : (x : Float) → is_nan x ≡ false → T (plain (abs x))
unfolding abs is_nan
abs-plain nan h = absurd (true≢false h)
abs-plain (inf s) h = tt
abs-plain (fin s m e) h = tt

away-good : (c x : Float) → finite x ≡ true → is_nan c ≡ false → Good (away c x)
unfolding away
away-good c x h k = good_of _ (abs-fits binary32 _ (sub-fits binary32 x c)) (abs-plain _ (sub_number binary32 x c h k))

away-nan : (c : Float) → away c nan ≡ nan
unfolding away abs sub add
away-nan c = refl

pub away-numbers : (s : List Float) (c : Float) → all_usable s ≡ true → is_nan c ≡ false → Numbers (map (away c) s)
unfolding Numbers
away-numbers s c h k =
    none-all is_bad (map (away c) s) (λ x l.
    let m : x < length s = subst (λ (n : ℕ). x < n) (length-map s (away c)) l in
    let e : number_at (map (away c) s) x ≡ away c (number_at s x) =
    ap (λ (d : Float). get_or (map (away c) s) x d) (sym (away-nan c)) ∙ get_or-map (away c) s x nan in
    ap is_bad e ∙ away-good c (number_at s x) (usable-finite (number_at s x) (usable_at s h x m)) k)

-- ---- the doors
pub refuse-9 : (s : List Float) (a : Said Float) → 4096 < length s → refuse 9 ≡ checked s a
unfolding checked
refuse-9 s a h = sym (ap (λ (b : Bool). or_refuse b (refuse 9) (or_refuse (all_usable s) (refuse 10) a)) (lt-leb _ _ h))

within : (s : List Float) (a : Said Float) (t : Bool) → length s ≤ 4096 → all_usable s ≡ t → or_refuse t (refuse 10) a ≡ checked s a
unfolding checked
within s a t h e =
    sym (ap (λ (b : Bool). or_refuse b (refuse 9) (or_refuse (all_usable s) (refuse 10) a)) (le-leb _ _ h)
    ∙ ap (λ (b : Bool). or_refuse b (refuse 10) a) e)

pub refuse-10 : (s : List Float) (a : Said Float) → length s ≤ 4096 → all_usable s ≡ false → refuse 10 ≡ checked s a
refuse-10 s a h e = within s a false h e

pub pass : (s : List Float) (a : Said Float) → length s ≤ 4096 → all_usable s ≡ true → a ≡ checked s a
pass s a h e = within s a true h e

-- ---- the working list
pub work-length : (m n : ℕ) → n ≤ m → length (take n (replicate m (of_bits binary32 0))) ≡ n
work-length m n h = length-take-le n (replicate m (of_bits binary32 0))
    (subst (λ (k : ℕ). n ≤ k) (sym (length-replicate m (of_bits binary32 0))) h)

pub spread-is : (s w : List Float) (c d : Float) → c ≡ median s → d ≡ median w → w ≡ map (away c) s → mul binary32 1·4826 d ≡ mad_sigma s
unfolding mad_sigma
spread-is s w c d e f g = ap (mul binary32 1·4826) (f ∙ ap median (g ∙ ap (λ (c : Float). map (away c) s) e))
