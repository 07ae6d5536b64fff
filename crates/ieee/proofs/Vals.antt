-- Floats that are whole numbers over a power of two: `Val x j z` says that x is z / 2 ^ j. A zero may have either sign. Assumes nothing.
--   lt_val, eq_val                     comparisons are those of the numerators
--   int-val, finer                     a whole number; a finer denominator
--   zero_val, half-val, one-val        0, 0.5 and 1
--   centre-val                         n + 0.5
-- and, passed on from `Sums`, what sums, differences and products are.
use Rattle.std.proofs.Common.{◌≡◌, ℕ, zero, suc, ◌+◌, ◌*◌, ◌^◌, ◌<◌, ◌≤◌, Bool, true, false, ◌&&◌, ◌||◌, eqb, ltb, ℤ, pos, ◌*ℤ◌, sym, refl, ap, ◌∙◌, subst, zero-lt-suc, mul_assoc, mul-pos, pow-suc, zero-add, zero-mul, mul_right_comm, arith, lit≤, lt→ltb, pow_pos, eq-eqb, ne_eqb}
use native.Mathlib.Nat.{eq_of_mul-eq-mul_right}
use mathlib.Core.Bool.{beq, and-true, and-false, and_self}
use native.Mathlib.Decide.{ℕ_discrete}
use lib.Signed.{lt_z}
use lib.Dec.{leb-suc-suc, eqb-zero-suc, eqb-suc-zero, eqb-suc-suc}
use lib.Arith.{le→nltb}
use lib.Ieee.{Float, nan, inf, fin, Format, binary32, binary64, prec, up, down, below, level, add, lt, eq, of_int, of_bits}
use lib.Ieee.Fits.{down_pos}
use lib.Ieee.Bits.{is_true, is_false}
use lib.Ieee.Exact.{HasValue}
use lib.Ieee.Back.{round_whole}
use Rattle.ieee.specs.Inner.{signed, Val, eq_z}
use Rattle.ieee.proofs.Sums.{cross-l, cross-r, ltb-same}
pub use Rattle.ieee.proofs.Sums.{exact, plus-same, less-same, add-sum, pos-sub, rounds-val, add_rounds, add-val, neg-val, sub-rounds, sub_val, mul-round, mul-rounds, mul_val}

-- ---- comparisons
ltb-zero : (a : ℕ) → ltb a 0 ≡ false
ltb-zero a = is_false (ltb a 0) (le→nltb a 0 (no a))
  where
    no : (a : ℕ) → 0 ≤ a
    no a = omega arith

ltb-pos : (a : ℕ) → 0 < a → ltb 0 a ≡ true
ltb-pos a h = is_true (ltb 0 a) (lt→ltb 0 a h)

below-z : (s t : Bool) (a b : ℕ) → below s a t b ≡ lt_z (signed s a) (signed t b)
below-z false false a b = refl
below-z false true a zero = sym (ltb-zero a)
below-z false true a (suc b) = refl
below-z true false zero b = ap (λ (z : ℕ). ltb 0 z) (zero-add b)
below-z true false (suc a) b = ltb-pos (suc a + b) (more a b)
  where
    more : (a b : ℕ) → 0 < suc a + b
    more a b = omega arith
below-z true true zero zero = refl
below-z true true zero (suc b) = ltb-zero (suc b)
below-z true true (suc a) zero = ltb-pos (suc a) (zero-lt-suc a)
below-z true true (suc a) (suc b) = leb-suc-suc (suc b) a

lt-below : (x y : Float) (s t : Bool) (a b c : ℕ) → 0 < c → HasValue x s a c → HasValue y t b c → lt x y ≡ below s a t b
unfolding lt
lt-below nan y s t a b c C h k = absurd h
lt-below (inf i) y s t a b c C h k = absurd h
lt-below (fin i m e) nan s t a b c C h k = absurd k
lt-below (fin i m e) (inf l) s t a b c C h k = absurd k
lt-below (fin i m e) (fin l n d) s t a b c C h k =
    same i l ∙ ap (λ (s : Bool). below s a l b) h.0 ∙ ap (λ (t : Bool). below s a t b) k.0
  where
    A : ℕ
    A = m * up e * down d

    B : ℕ
    B = n * up d * down e

    D : ℕ
    D = down e * down d

    Dp : 0 < D
    Dp = mul-pos (down_pos e) (down_pos d)

    p : A * c ≡ a * D
    p = cross-l binary32 m (up e) (down e) (down d) a c h.1

    q : B * c ≡ b * D
    q = cross-r binary32 n (up d) (down e) (down d) b c k.1

    zero-side : ltb 0 (A + B) ≡ ltb 0 (a + b)
    zero-side = ltb-same 0 (A + B) D 0 (a + b) c Dp C (zero-mul c ∙ sym (zero-mul D)) (plus-same A B D a b c Dp C p q)

    same : (i l : Bool) → below i A l B ≡ below i a l b
    same false false = ltb-same A B D a b c Dp C p q
    same false true = refl
    same true false = zero-side
    same true true = ltb-same B A D b a c Dp C q p

pub lt_val : {x y : Float} {j : ℕ} {a b : ℤ} → Val x j a → Val y j b → lt x y ≡ lt_z a b
lt_val {x} {y} {j} {a} {b} v w =
    lt-below x y v.minus w.minus v.size w.size (2 ^ j) (pow_pos j) v.has w.has
    ∙ below-z v.minus w.minus v.size w.size
    ∙ ap (λ (z : ℤ). lt_z z (signed w.minus w.size)) v.is
    ∙ ap (λ (z : ℤ). lt_z a z) w.is

-- equal numerators are equal over any common denominator
eqb_same : (A B D a b c : ℕ) → 0 < D → 0 < c → A * c ≡ a * D → B * c ≡ b * D → eqb A B ≡ eqb a b
eqb_same A B D a b c Dp Cp p q = go (ℕ_discrete a b)
  where
    go : Dec (a ≡ b) → eqb A B ≡ eqb a b
    go (yes e) = eq-eqb A B (eq_of_mul-eq-mul_right c Cp A B (p ∙ ap (λ (z : ℕ). z * D) e ∙ sym q)) ∙ sym (eq-eqb a b e)
    go (no n) = ne_eqb A B (λ e. n (eq_of_mul-eq-mul_right D Dp a b (sym p ∙ ap (λ (z : ℕ). z * c) e ∙ q))) ∙ sym (ne_eqb a b n)

level-z : (s t : Bool) (a b : ℕ) → level s a t b ≡ eq_z (signed s a) (signed t b)
level-z false false a b = and-true (eqb a b)
level-z false true a zero = and_self (eqb a 0)
level-z false true zero (suc b) = ap (λ (z : Bool). z && true) (eqb-zero-suc b)
level-z false true (suc a) (suc b) = ap (λ (z : Bool). eqb (suc a) (suc b) && z) (eqb-suc-zero a) ∙ and-false (eqb (suc a) (suc b))
level-z true false zero b = and-true (eqb 0 b)
level-z true false (suc a) b = ap (λ (z : Bool). eqb (suc a) b && z) (eqb-suc-zero a) ∙ and-false (eqb (suc a) b)
level-z true true zero zero = refl
level-z true true zero (suc b) = ap (λ (z : Bool). z && true) (eqb-zero-suc b)
level-z true true (suc a) zero = ap (λ (z : Bool). z && true) (eqb-suc-zero a)
level-z true true (suc a) (suc b) = and-true (eqb (suc a) (suc b)) ∙ eqb-suc-suc a b

eq-level : (x y : Float) (s t : Bool) (a b c : ℕ) → 0 < c → HasValue x s a c → HasValue y t b c → eq x y ≡ level s a t b
unfolding eq
eq-level nan y s t a b c C h k = absurd h
eq-level (inf i) y s t a b c C h k = absurd h
eq-level (fin i m e) nan s t a b c C h k = absurd k
eq-level (fin i m e) (inf l) s t a b c C h k = absurd k
eq-level (fin i m e) (fin l n d) s t a b c C h k =
    let Dp = mul-pos (down_pos e) (down_pos d) in
    let p = cross-l binary32 m (up e) (down e) (down d) a c h.1 in
    let q = cross-r binary32 n (up d) (down e) (down d) b c k.1 in
    ap (λ (z : Bool). z && (beq i l || eqb (m * up e * down d) 0))
    (eqb_same (m * up e * down d) (n * up d * down e) (down e * down d) a b c Dp C p q)
    ∙ ap (λ (z : Bool). eqb a b && (beq i l || z))
    (eqb_same (m * up e * down d) 0 (down e * down d) a 0 c Dp C p (zero-mul c ∙ sym (zero-mul (down e * down d))))
    ∙ ap (λ (s : Bool). level s a l b) h.0
    ∙ ap (λ (t : Bool). level s a t b) k.0

pub eq_val : {x y : Float} {j : ℕ} {a b : ℤ} → Val x j a → Val y j b → eq x y ≡ eq_z a b
eq_val {x} {y} {j} {a} {b} v w =
    eq-level x y v.minus w.minus v.size w.size (2 ^ j) (pow_pos j) v.has w.has
    ∙ level-z v.minus w.minus v.size w.size
    ∙ ap (λ (z : ℤ). eq_z z (signed w.minus w.size)) v.is
    ∙ ap (λ (z : ℤ). eq_z a z) w.is

-- ---- where such floats come from
pub int-val : (f : Format) (n : ℕ) → n ≤ 2 ^ prec f → Val (of_int f (pos n)) 0 (pos n)
unfolding of_int
int-val f n h = record { minus = false; size = n; has = round_whole f false n h; is = refl }

signed-twice : (s : Bool) (n : ℕ) → signed s (n * 2) ≡ signed s n *ℤ pos 2
signed-twice false n = refl
signed-twice true zero = refl
signed-twice true (suc n) = refl

-- z / 2 ^ j is 2 * z / 2 ^ (j + 1)
finer-has : (x : Float) (s : Bool) (n c : ℕ) → HasValue x s n c → HasValue x s (n * 2) (c * 2)
finer-has nan s n c h = absurd h
finer-has (inf t) s n c h = absurd h
finer-has (fin t m e) s n c h = (h.0, sym (mul_assoc (m * up e) c 2) ∙ ap (λ (z : ℕ). z * 2) h.1 ∙ mul_right_comm n (down e) 2)

pub finer : {x : Float} {j : ℕ} {z : ℤ} → Val x j z → Val x (suc j) (z *ℤ pos 2)
finer {x} {j} {z} v = record {
  minus = v.minus;
  size = v.size * 2;
  has = subst (λ (c : ℕ). HasValue x v.minus (v.size * 2) c) (sym (pow-suc 2 j)) (finer-has x v.minus v.size (2 ^ j) v.has);
  is = signed-twice v.minus v.size ∙ ap (λ (y : ℤ). y *ℤ pos 2) v.is;
}

pub zero_val : (f : Format) (j : ℕ) → Val (of_bits f 0) j (pos 0)
unfolding of_bits
zero_val binary32 j = record { minus = false; size = 0; has = (refl, zero-mul (2 ^ j)); is = refl }
zero_val binary64 j = record { minus = false; size = 0; has = (refl, zero-mul (2 ^ j)); is = refl }

pub half-val : Val (of_bits binary32 0x3f00_0000) 1 (pos 1)
unfolding of_bits
half-val = record { minus = false; size = 1; has = (refl, refl); is = refl }

pub one-val : Val (of_bits binary32 0x3f80_0000) 0 (pos 1)
unfolding of_bits
one-val = record { minus = false; size = 1; has = (refl, refl); is = refl }

-- `n as f32 + 0.5` is (2 * n + 1) / 2
pub centre-val : (n : ℕ) → n ≤ 8000000 → Val (add binary32 (of_int binary32 (pos n)) (of_bits binary32 0x3f00_0000)) 1 (pos (n * 2 + 1))
centre-val n h = add-val binary32 (lit≤ tt) (small n h) (finer (int-val binary32 n (below n h))) half-val
  where
    below : (n : ℕ) → n ≤ 8000000 → n ≤ 16777216
    below n h = omega arith

    small : (n : ℕ) → n ≤ 8000000 → n * 2 + 1 ≤ 16777216
    small n h = omega arith
