-- The sign of a rounded value, and the tests of turns and distances.
--     `round` below zero is `round` above it, negated: round-neg
--     the sign of a rounded number: rounds-sign
--     the turn of three points: small_product, cross-rounds
--     the sign of a difference of whole numbers is their order: lt_z-sub, cross-lt, cross-eq, d2-val
-- Assumes nothing.
use Rattle.std.proofs.Common.{◌≡◌, ℕ, zero, suc, ◌+◌, ◌-◌, ◌*◌, ◌^◌, ◌<◌, ◌≤◌, Bool, true, false, cond, ◌&&◌, ◌||◌, T, eqb, ltb, ℤ, pos, negsuc, ◌-ℤ◌, ◌*ℤ◌, neg_ℤ, nat_abs, sym, refl, ap, ◌∙◌, subst, zero-le, le_trans, le_of_eq, zero-lt-suc, mul-le-mul, mul-pos, zero-mul, arith, lit≤, eqb→eq, ltb→lt, lt→ltb, pow_pos, pow_mono}
use lib.IntN.{sub_ℕ}
use lib.Signed.{lt_z}
use lib.Dec.{leb-suc-suc, eqb-suc-zero, not_T}
use lib.Arith.{le→nltb}
use lib.Ieee.{Float, nan, inf, fin, Format, binary32, binary64, prec, emax, low, up, down, odd, units, round, neg, lt, eq, le, of_bits}
use lib.Ieee.Fits.{up_pos, round_is}
use lib.Ieee.Bits.{is_true, is_false}
use lib.Ieee.Order.{drop, kept, round_mono}
use lib.Ieee.Positive.{above, above_of_le}
use Rattle.ieee.specs.Inner.{signed, Val, Rounds, eq_z}
use Rattle.ieee.proofs.Vals.{rounds-val, lt_val, eq_val, zero_val, sub-rounds, sub_val, mul_val, add-val, pos-sub}
use Rattle.ieee.specs.Cross.{cross, cross_z, exact_span, d2, d2_z}

-- ---- `round` below zero is `round` above it, negated
odd-neg : (d q k l : ℕ) → odd d true q k l ≡ neg (odd d false q k l)
unfolding odd neg
odd-neg d zero k l = refl
odd-neg d (suc q) k l = refl

units-neg : (f : Format) (q k : ℕ) → units f true q k ≡ neg (units f false q k)
unfolding units
units-neg f q k = go (ltb (q * 2 ^ k) (2 ^ (low f + suc (emax f))))
  where
    go : (b : Bool) → cond b (odd (suc (prec f)) true q k (low f)) (inf true)
        ≡ neg (cond b (odd (suc (prec f)) false q k (low f)) (inf false))
    go true = odd-neg (suc (prec f)) q k (low f)
    go false = unfold neg in refl

pub round-neg : (f : Format) (a c : ℕ) → round f true a c ≡ neg (round f false a c)
round-neg f a c = round_is f true a c ∙ units-neg f (kept (prec f) (a * 2 ^ low f) c) (drop (prec f) (a * 2 ^ low f) c)
    ∙ ap neg (sym (round_is f false a c))

-- ---- what is not zero does not round to zero
lowest : (f : Format) → round f false 1 (2 ^ low f) ≡ fin false 1 (negsuc (low f - 1))
unfolding round
lowest binary32 = refl
lowest binary64 = refl

above-round : (f : Format) (n j : ℕ) → j ≤ low f → 0 < n → T (above (round f false n (2 ^ j)))
above-round f n j h p =
    above_of_le (fin false 1 (negsuc (low f - 1))) (round f false n (2 ^ j)) tt
    (subst (λ (v : Float). T (le v (round f false n (2 ^ j)))) (lowest f)
    (round_mono f 1 (2 ^ low f) n (2 ^ j) (pow_pos (low f)) (pow_pos j) (mul-le-mul p (pow_mono h))))

abbrev +0 : Float
+0 = fin false 0 (pos 0)

no_zero : (m : ℕ) (e : ℤ) → 0 < m → 0 < m * up e * 1
no_zero m e h = mul-pos (mul-pos h (up_pos e)) (zero-lt-suc 0)

pos-not-zero : (a b : ℕ) → 0 < a → b ≡ 0 → eqb a b ≡ false
pos-not-zero a b h e = is_false (eqb a b) (not_T (eqb a b) (λ t. no (eqb→eq a b t)))
  where
    no : a ≡ b → ⊥
    no q = omega arith

above-lt : (z : Float) → T (above z) → lt z +0 ≡ false
unfolding lt
above-lt nan a = absurd a
above-lt (inf true) a = absurd a
above-lt (inf false) a = refl
above-lt (fin true m e) a = absurd a
above-lt (fin false m e) a =
    is_false (ltb (m * up e * 1) (0 * down e)) (le→nltb (m * up e * 1) (0 * down e) (none (m * up e * 1) (0 * down e) (zero-mul (down e))))
  where
    none : (a b : ℕ) → b ≡ 0 → b ≤ a
    none a b e = omega arith

above-gt : (z : Float) → T (above z) → lt +0 z ≡ true
unfolding lt
above-gt nan a = absurd a
above-gt (inf true) a = absurd a
above-gt (inf false) a = refl
above-gt (fin true m e) a = absurd a
above-gt (fin false m e) a =
    is_true (ltb (0 * down e) (m * up e * 1))
    (lt→ltb (0 * down e) (m * up e * 1) (subst (λ (z : ℕ). z < m * up e * 1) (sym (zero-mul (down e))) (no_zero m e (ltb→lt 0 m a))))

above-eq : (z : Float) → T (above z) → eq z +0 ≡ false
unfolding eq
above-eq nan a = refl
above-eq (inf s) a = refl
above-eq (fin true m e) a = absurd a
above-eq (fin false m e) a =
    ap (λ (b : Bool). b && true) (pos-not-zero (m * up e * 1) (0 * down e) (no_zero m e (ltb→lt 0 m a)) (zero-mul (down e)))

above-neg-lt : (z : Float) → T (above z) → lt (neg z) +0 ≡ true
unfolding lt neg
above-neg-lt nan a = absurd a
above-neg-lt (inf true) a = absurd a
above-neg-lt (inf false) a = refl
above-neg-lt (fin true m e) a = absurd a
above-neg-lt (fin false m e) a =
    is_true (ltb 0 (m * up e * 1 + 0 * down e))
    (lt→ltb 0 (m * up e * 1 + 0 * down e) (more (m * up e * 1) (0 * down e) (no_zero m e (ltb→lt 0 m a))))
  where
    more : (a b : ℕ) → 0 < a → 0 < a + b
    more a b h = omega arith

above-neg-gt : (z : Float) → T (above z) → lt +0 (neg z) ≡ false
unfolding lt neg
above-neg-gt nan a = absurd a
above-neg-gt (inf true) a = absurd a
above-neg-gt (inf false) a = refl
above-neg-gt (fin true m e) a = absurd a
above-neg-gt (fin false m e) a = refl

above-neg-eq : (z : Float) → T (above z) → eq (neg z) +0 ≡ false
unfolding eq neg
above-neg-eq nan a = refl
above-neg-eq (inf s) a = refl
above-neg-eq (fin true m e) a = absurd a
above-neg-eq (fin false m e) a =
    ap (λ (b : Bool). b && (false || eqb (m * up e * 1) 0))
    (pos-not-zero (m * up e * 1) (0 * down e) (no_zero m e (ltb→lt 0 m a)) (zero-mul (down e)))

ltb-zero : (a : ℕ) → ltb a 0 ≡ false
ltb-zero a = is_false (ltb a 0) (le→nltb a 0 (no a))
  where
    no : (a : ℕ) → 0 ≤ a
    no a = omega arith

ltb-pos : (a : ℕ) → 0 < a → ltb 0 a ≡ true
ltb-pos a h = is_true (ltb 0 a) (lt→ltb 0 a h)

-- ---- the sign of a rounded number
abbrev Signs0 : Float → ℤ → Type 0
Signs0 x z = (lt x +0 ≡ lt_z z (pos 0)) × (lt +0 x ≡ lt_z (pos 0) z) × (eq x +0 ≡ eq_z z (pos 0))

zero_is : (f : Format) → of_bits f 0 ≡ +0
unfolding of_bits
zero_is binary32 = refl
zero_is binary64 = refl

signs-at : (f : Format) (s : Bool) (n j : ℕ) → j ≤ low f → Signs0 (round f s n (2 ^ j)) (signed s n)
signs-at f s zero j h =
    let r : Rounds f (round f s 0 (2 ^ j)) j (signed s 0) = record { minus = s; size = 0; rounded = refl; is = refl } in
    let v = rounds-val f h (small s) r in
    let z : Val +0 j (pos 0) = subst (λ (x : Float). Val x j (pos 0)) (zero_is f) (zero_val f j) in
    (lt_val v z, lt_val z v, eq_val v z)
  where
    small : (s : Bool) → nat_abs (signed s 0) ≤ 2 ^ prec f
    small false = zero-le
    small true = zero-le
signs-at f false (suc n) j h =
    let a = above-round f (suc n) j h (zero-lt-suc n) in
    let z = round f false (suc n) (2 ^ j) in
    (above-lt z a ∙ sym (ltb-zero (suc n)), above-gt z a ∙ sym (ltb-pos (suc n) (zero-lt-suc n)), above-eq z a ∙ sym (eqb-suc-zero n))
signs-at f true (suc n) j h =
    let a = above-round f (suc n) j h (zero-lt-suc n) in
    let z = round f false (suc n) (2 ^ j) in
    subst (λ (x : Float). Signs0 x (negsuc n)) (sym (round-neg f (suc n) (2 ^ j))) (above-neg-lt z a, above-neg-gt z a, above-neg-eq z a)

pub rounds-sign : (f : Format) {x : Float} {j : ℕ} {z : ℤ} → j ≤ low f → Rounds f x j z
    → (lt x (of_bits f 0) ≡ lt_z z (pos 0)) × (lt (of_bits f 0) x ≡ lt_z (pos 0) z) × (eq x (of_bits f 0) ≡ eq_z z (pos 0))
rounds-sign f {x} {j} {z} h r =
    subst (λ (o : Float). (lt x o ≡ lt_z z (pos 0)) × (lt o x ≡ lt_z (pos 0) z) × (eq x o ≡ eq_z z (pos 0))) (sym (zero_is f))
    (subst (λ (z : ℤ). Signs0 x z) r.is
    (subst (λ (x : Float). Signs0 x (signed r.minus r.size)) (sym r.rounded) (signs-at f r.minus r.size j h)))

-- ---- the turn of three points
abs-signed-mul : (a b : ℤ) → nat_abs (a *ℤ b) ≡ nat_abs a * nat_abs b
abs-signed-mul (pos a) (pos b) = refl
abs-signed-mul (pos a) (negsuc b) = abs_neg (a * suc b)
  where
    abs_neg : (n : ℕ) → nat_abs (neg_ℤ (pos n)) ≡ n
    abs_neg zero = refl
    abs_neg (suc n) = refl
abs-signed-mul (negsuc a) (pos b) = abs_neg (suc a * b)
  where
    abs_neg : (n : ℕ) → nat_abs (neg_ℤ (pos n)) ≡ n
    abs_neg zero = refl
    abs_neg (suc n) = refl
abs-signed-mul (negsuc a) (negsuc b) = refl

pub small_product : (B P : ℕ) (a b : ℤ) → B * B ≤ P → nat_abs a ≤ B → nat_abs b ≤ B → nat_abs (a *ℤ b) ≤ P
small_product B P a b q h k = le_trans (le_of_eq (abs-signed-mul a b)) (le_trans (mul-le-mul h k) q)

span-sq : (f : Format) → exact_span f * exact_span f ≤ 2 ^ prec f
span-sq binary32 = lit≤ tt
span-sq binary64 = lit≤ tt

span-in : (f : Format) → exact_span f ≤ 2 ^ prec f
span-in binary32 = lit≤ tt
span-in binary64 = lit≤ tt

one_in : (f : Format) → 1 ≤ low f
one_in binary32 = lit≤ tt
one_in binary64 = lit≤ tt

two_in : (f : Format) → 2 ≤ low f
two_in binary32 = lit≤ tt
two_in binary64 = lit≤ tt

module _ (f : Format) {ox oy ax ay bx by : Float} {ox' oy' ax' ay' bx' by' : ℤ} (o : Val ox 1 ox') (p : Val oy 1 oy') (a : Val ax 1 ax')
    (b : Val ay 1 ay') (c : Val bx 1 bx') (d : Val by 1 by')
    (h : nat_abs (ax' -ℤ ox') ≤ exact_span f) (k : nat_abs (by' -ℤ oy') ≤ exact_span f) (l : nat_abs (ay' -ℤ oy') ≤ exact_span f)
    (m : nat_abs (bx' -ℤ ox') ≤ exact_span f) where
  pub cross-rounds : Rounds f (cross f ox oy ax ay bx by) 2 (cross_z ox' oy' ax' ay' bx' by')
  cross-rounds =
      sub-rounds f
      (mul_val f (two_in f) (small_product (exact_span f) (2 ^ prec f) (ax' -ℤ ox') (by' -ℤ oy') (span-sq f) h k)
      (sub_val f (one_in f) (le_trans h (span-in f)) a o) (sub_val f (one_in f) (le_trans k (span-in f)) d p))
      (mul_val f (two_in f) (small_product (exact_span f) (2 ^ prec f) (ay' -ℤ oy') (bx' -ℤ ox') (span-sq f) l m)
      (sub_val f (one_in f) (le_trans l (span-in f)) b p) (sub_val f (one_in f) (le_trans m (span-in f)) c o))

-- ---- the sign of a difference of whole numbers is their order
sub-lt : (m n : ℕ) → lt_z (sub_ℕ m n) (pos 0) ≡ ltb m n
sub-lt m n = go (ltb m n)
  where
    go : (t : Bool) → lt_z (cond t (negsuc (n - suc m)) (pos (m - n))) (pos 0) ≡ t
    go true = refl
    go false = ltb-zero (m - n)

pub lt_z-sub : (a b : ℤ) → lt_z (a -ℤ b) (pos 0) ≡ lt_z a b
lt_z-sub (pos m) (pos n) = ap (λ (z : ℤ). lt_z z (pos 0)) (pos-sub binary32 m n) ∙ sub-lt m n
lt_z-sub (pos m) (negsuc n) = ltb-zero (m + suc n)
lt_z-sub (negsuc m) (pos zero) = sub-lt 0 (suc m) ∙ ltb-pos (suc m) (zero-lt-suc m)
lt_z-sub (negsuc m) (pos (suc n)) = refl
lt_z-sub (negsuc m) (negsuc n) = sub-lt (suc n) (suc m) ∙ leb-suc-suc (suc n) m

-- so the tests `cross < 0.0` and `cross == 0.0` of the code are comparisons of whole numbers
module _ (f : Format) {ox oy ax ay bx by : Float} {ox' oy' ax' ay' bx' by' : ℤ} (o : Val ox 1 ox') (p : Val oy 1 oy') (a : Val ax 1 ax')
    (b : Val ay 1 ay') (c : Val bx 1 bx') (d : Val by 1 by')
    (h : nat_abs (ax' -ℤ ox') ≤ exact_span f) (k : nat_abs (by' -ℤ oy') ≤ exact_span f) (l : nat_abs (ay' -ℤ oy') ≤ exact_span f)
    (m : nat_abs (bx' -ℤ ox') ≤ exact_span f) where
  pub cross-lt : lt (cross f ox oy ax ay bx by) (of_bits f 0) ≡ lt_z ((ax' -ℤ ox') *ℤ (by' -ℤ oy')) ((ay' -ℤ oy') *ℤ (bx' -ℤ ox'))
  cross-lt = (rounds-sign f (two_in f) (cross-rounds f o p a b c d h k l m)).0
      ∙ lt_z-sub ((ax' -ℤ ox') *ℤ (by' -ℤ oy')) ((ay' -ℤ oy') *ℤ (bx' -ℤ ox'))

  pub cross-eq : eq (cross f ox oy ax ay bx by) (of_bits f 0) ≡ eq_z (cross_z ox' oy' ax' ay' bx' by') (pos 0)
  cross-eq = (rounds-sign f (two_in f) (cross-rounds f o p a b c d h k l m)).2

module _ (f : Format) {ax ay bx by : Float} {ax' ay' bx' by' : ℤ} (a : Val ax 1 ax') (b : Val ay 1 ay') (c : Val bx 1 bx')
    (d : Val by 1 by')
    (h : nat_abs (ax' -ℤ bx') ≤ exact_span f) (k : nat_abs (ay' -ℤ by') ≤ exact_span f) (whole : nat_abs (d2_z ax' ay' bx' by') ≤ 2 ^ prec f) where
  pub d2-val : Val (d2 f ax ay bx by) 2 (d2_z ax' ay' bx' by')
  d2-val =
      add-val f (two_in f) whole
      (mul_val f (two_in f) (small_product (exact_span f) (2 ^ prec f) (ax' -ℤ bx') (ax' -ℤ bx') (span-sq f) h h)
      (sub_val f (one_in f) (le_trans h (span-in f)) a c) (sub_val f (one_in f) (le_trans h (span-in f)) a c))
      (mul_val f (two_in f) (small_product (exact_span f) (2 ^ prec f) (ay' -ℤ by') (ay' -ℤ by') (span-sq f) k k)
      (sub_val f (one_in f) (le_trans k (span-in f)) b d) (sub_val f (one_in f) (le_trans k (span-in f)) b d))
