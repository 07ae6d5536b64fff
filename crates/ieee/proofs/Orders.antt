-- A finite `f32` is a whole number of units of 2 ^ -149, and `<` is those numbers' order: so it is transitive, no value is below itself,
-- and where neither of two is below the other they are equal, or the two zeros.
-- For medians and searches over lists that hold no NaN, infinity or -0. Assumes nothing.
use Rattle.std.proofs.Common.{◌≡◌, ℕ, zero, suc, ◌+◌, ◌-◌, ◌*◌, ◌^◌, ◌<◌, ◌≤◌, Bool, true, false, T, ltb, ℤ, pos, negsuc, sym, refl, ap, ◌∙◌, subst, true≢false, mul_assoc, le_antisymm, zero-mul, mul-one, arith, ltb→lt, lt→ltb, nltb→le, pow_pos, pow-add}
use mathlib.Core.Bool.{false≢true}
use lib.Signed.{lt_z}
use lib.Ieee.{Float, nan, inf, fin, binary32, up, down, fits, lt}
use lib.Ieee.Bits.{is_true}
use lib.Ieee.Scale.{finite}
use lib.Ieee.Exact.{HasValue}
use Rattle.ieee.proofs.Helpers.{n_t-of}
use Rattle.ieee.proofs.Values.{pow-back, fits-parts, value-unique}
use Rattle.ieee.specs.Ops.{plain}
use Rattle.ieee.specs.Inner.{signed, Val}
use Rattle.ieee.proofs.Vals.{lt_val}

-- ---- in units
unit_size : (s : Bool) (m : ℕ) (e : ℤ) → down e ≤ 2 ^ 149 → (n : ℕ) × HasValue (fin s m e) s n (2 ^ 149)
unit_size s m (pos a) d = (m * 2 ^ a * 2 ^ 149, (refl, sym (mul-one (m * 2 ^ a * 2 ^ 149))))
unit_size s m (negsuc a) d =
    let g : suc a ≤ 149 = pow-back (suc a) 149 d in (
      m * 2 ^ (149 - suc a),
      (
        refl,
        ap (λ (z : ℕ). z * 2 ^ 149) (mul-one m)
            ∙ ap (λ (z : ℕ). m * z) (ap (λ (z : ℕ). 2 ^ z) (sym (back (suc a) g)) ∙ pow-add 2 (149 - suc a) (suc a))
            ∙ sym (mul_assoc m (2 ^ (149 - suc a)) (2 ^ suc a)),
      ),
    )
  where
    back : (a : ℕ) → a ≤ 149 → 149 - a + a ≡ 149
    back a h = omega arith

-- the numerator over 2 ^ 149, which every finite `f32` has
pub unit_val : (x : Float) → T (fits binary32 x) → T (finite x) → (z : ℤ) × Val x 149 z
unit_val nan f t = absurd t
unit_val (inf s) f t = absurd t
unit_val (fin s zero e) f t = (
  signed s 0,
  record {
    minus = s;
    size = 0;
    has =
        (refl, ap (λ (z : ℕ). z * 2 ^ 149) (zero-mul (up e)) ∙ zero-mul (2 ^ 149) ∙ sym (zero-mul (down e)));
    is = refl;
  },
)
unit_val (fin s (suc m) e) f t = let u =
    unit_size s (suc m) e (fits-parts s m e f).1 in (signed s u.0, record { minus = s; size = u.0; has = u.1; is = refl })

-- ---- the order of the whole numbers
T_of : {b : Bool} → b ≡ true → T b
T_of e = subst T (sym e) tt

ltb-trans : (a b c : ℕ) → ltb a b ≡ true → ltb b c ≡ true → ltb a c ≡ true
ltb-trans a b c h k = let l = ltb→lt a b (T_of h) in let m = ltb→lt b c (T_of k) in is_true (ltb a c) (lt→ltb a c (omega arith))

pub lt_z-trans : (a b c : ℤ) → lt_z a b ≡ true → lt_z b c ≡ true → lt_z a c ≡ true
lt_z-trans (pos a) (pos b) (pos c) h k = ltb-trans a b c h k
lt_z-trans (pos a) (pos b) (negsuc c) h k = absurd (false≢true k)
lt_z-trans (pos a) (negsuc b) c h k = absurd (false≢true h)
lt_z-trans (negsuc a) (pos b) (pos c) h k = refl
lt_z-trans (negsuc a) (pos b) (negsuc c) h k = absurd (false≢true k)
lt_z-trans (negsuc a) (negsuc b) (pos c) h k = refl
lt_z-trans (negsuc a) (negsuc b) (negsuc c) h k = ltb-trans c b a k h

ltb-same : (a b : ℕ) → ltb a b ≡ false → ltb b a ≡ false → a ≡ b
ltb-same a b h k = le_antisymm (nltb→le b a (n_t-of k)) (nltb→le a b (n_t-of h))

pub lt_z_same : (a b : ℤ) → lt_z a b ≡ false → lt_z b a ≡ false → a ≡ b
lt_z_same (pos a) (pos b) h k = ap pos (ltb-same a b h k)
lt_z_same (pos a) (negsuc b) h k = absurd (true≢false k)
lt_z_same (negsuc a) (pos b) h k = absurd (true≢false h)
lt_z_same (negsuc a) (negsuc b) h k = ap negsuc (ltb-same a b k h)

-- ---- the order of the floats
pub lt_trans : (x y z : Float) → T (fits binary32 x) → T (fits binary32 y) → T (fits binary32 z) → T (finite x) → T (finite y)
    → T (finite z) → lt x y ≡ true → lt y z ≡ true → lt x z ≡ true
lt_trans x y z fx fy fz tx ty tz h k =
    let u = unit_val x fx tx in
    let v = unit_val y fy ty in
    let w = unit_val z fz tz in
    lt_val u.1 w.1 ∙ lt_z-trans u.0 v.0 w.0 (sym (lt_val u.1 v.1) ∙ h) (sym (lt_val v.1 w.1) ∙ k)

no_zero : (m : ℕ) (e : ℤ) (n : ℕ) → suc m * up e * 2 ^ 149 ≡ n * down e → n ≡ 0 → ⊥
no_zero m e n h z = native.Mathlib.Nat.lt_irrefl 0
    (subst (λ (y : ℕ). 0 < y) (h ∙ ap (λ (y : ℕ). y * down e) z ∙ zero-mul (down e))
    (native.Mathlib.Nat.mul-pos (native.Mathlib.Nat.mul-pos (native.Mathlib.Nat.zero-lt-suc m) (lib.Ieee.Fits.up_pos e)) (pow_pos 149)))

-- the sign and the size from the numerator, for what is not -0
sign_of : (s : Bool) (n : ℕ) → (s ≡ true → n ≡ 0 → ⊥) → (t : Bool) (k : ℕ) → (t ≡ true → k ≡ 0 → ⊥) → signed s n ≡ signed t k
    → (s ≡ t) × (n ≡ k)
sign_of false n p false k q e = (refl, ap lib.IntN.nat_abs e)
sign_of true zero p t k q e = absurd (p refl refl)
sign_of true (suc n) p true zero q e = absurd (q refl refl)
sign_of true (suc n) p true (suc k) q e = (refl, ap lib.IntN.nat_abs e)
sign_of true (suc n) p false k q e = absurd (lib.IntN.pos-ne-negsuc k n (sym e))
sign_of false n p true zero q e = absurd (q refl refl)
sign_of false n p true (suc k) q e = absurd (lib.IntN.pos-ne-negsuc n k e)

plain_size : (x : Float) (z : ℤ) → T (plain x) → (v : Val x 149 z) → v.minus ≡ true → v.size ≡ 0 → ⊥
plain_size nan z p v a b = absurd v.has
plain_size (inf s) z p v a b = absurd v.has
plain_size (fin false m e) z p v a b = false≢true (v.has.0 ∙ a)
plain_size (fin true zero e) z p v a b = absurd p
plain_size (fin true (suc m) e) z p v a b = no_zero m e v.size v.has.1 b

pub lt_same : (x y : Float) → T (fits binary32 x) → T (fits binary32 y) → T (finite x) → T (finite y) → T (plain x) → T (plain y)
    → lt x y ≡ false → lt y x ≡ false → x ≡ y
lt_same x y fx fy tx ty px py h k =
    let u = unit_val x fx tx in
    let v = unit_val y fy ty in
    let a = u.1 in
    let b = v.1 in
    let e : u.0 ≡ v.0 = lt_z_same u.0 v.0 (sym (lt_val a b) ∙ h) (sym (lt_val b a) ∙ k) in
    let w = sign_of a.minus a.size (plain_size x u.0 px a) b.minus b.size (plain_size y v.0 py b)
    (a.is ∙ e ∙ sym b.is) in
    value-unique binary32 x y a.minus a.size (2 ^ 149) (pow_pos 149) fx fy a.has
    (subst (λ (n : ℕ). HasValue y a.minus n (2 ^ 149)) (sym w.1)
    (subst (λ (s : Bool). HasValue y s b.size (2 ^ 149)) (sym w.0) b.has))
