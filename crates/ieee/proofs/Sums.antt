-- Sums, differences and products of floats that are whole numbers over a power of two: each is the exact one rounded once (`Rounds`), and
-- exact (`Val`) where its numerator has at most as many digits as the format. Assumes nothing.
--   exact                              where `round` loses nothing
--   ltb-same, plus-same, less-same     numerators over a common denominator
--   rounds-val                         what is rounded and short is exact
--   add_rounds, add-val; neg-val; sub-rounds, sub_val; mul-rounds, mul_val
--   add-sum, mul-round, pos-sub        the same of signs and sizes
use Rattle.std.proofs.Common.{◌≡◌, ℕ, zero, suc, ◌+◌, ◌-◌, ◌*◌, ◌^◌, ◌<◌, ◌≤◌, Bool, true, false, cond, not, ◌&&◌, T, ltb, ◌⊎◌, ℤ, pos, negsuc, ◌+ℤ◌, ◌-ℤ◌, ◌*ℤ◌, neg_ℤ, nat_abs, sym, refl, ap, ◌∙◌, subst, inl, inr, lt_of_lt_of_le, add-zero, mul-le-mul_right, mul_assoc, mul_comm, add-mul, lt_of_mul-lt-mul_right, eq-or-lt_of_le, mul-lt-mul_of_pos_right, mul-pos, one-mul, mul-zero, zero-mul, mul_right_comm, le_of_mul-le-mul_right, arith, lit<, ltb→lt, lt→ltb, nltb→le, pow_pos, pow_mono, pow-add, shl_lt}
use native.Mathlib.Nat.{mul-sub, mul-mul-mul_comm}
use mathlib.Core.Bool.{beq}
use lib.IntN.{sub_ℕ, neg_ℤ-+ℤ, neg_ℤ-neg_ℤ}
use lib.Arith.{le→nltb}
use lib.Pow.{pow-lt}
use lib.Ieee.{Float, nan, inf, fin, Format, binary32, binary64, prec, emax, low, up, down, unlike, round, sum, neg, add, sub, mul}
use lib.Ieee.Fits.{down_pos, reach, two}
use lib.Ieee.Bits.{is_true, is_false}
use lib.Ieee.Exact.{HasValue, round_exact}
use lib.Ieee.Scale.{round_same}
use Rattle.ieee.specs.Inner.{signed, Val, Rounds}

-- ---- where `round` is exact
pub exact : (f : Format) (s : Bool) (n j : ℕ) → n ≤ 2 ^ prec f → j ≤ low f → HasValue (round f s n (2 ^ j)) s n (2 ^ j)
exact f s n j h k = go (eq-or-lt_of_le h)
  where
    back : (j l : ℕ) → j ≤ l → l - j + j ≡ l
    back j l k = omega arith

    top : (p j l : ℕ) → j ≤ l → p + (l - j) + j ≡ p + l
    top p j l k = omega arith

    room : (p e j l : ℕ) → j ≤ l → p ≤ suc e → p + (l - j) ≤ l + suc e
    room p e j l k h = omega arith

    room-lt : (f : Format) → prec f < suc (emax f)
    room-lt binary32 = lit< tt
    room-lt binary64 = lit< tt

    widen : (p e j l : ℕ) → j ≤ l → p < suc e → p + (l - j) < l + suc e
    widen p e j l k h = omega arith

    digits : 0 < prec f
    digits = omega (arith, two f)

    go : (n ≡ 2 ^ prec f) ⊎ (n < 2 ^ prec f) → HasValue (round f s n (2 ^ j)) s n (2 ^ j)
    go (inr l) =
        round_exact f s n (2 ^ j) n (low f - j) (pow_pos j) l
        (lt_of_lt_of_le (shl_lt (prec f) (low f - j) l) (pow_mono (room (prec f) (emax f) j (low f) k (reach f))))
        (ap (λ (z : ℕ). n * z) (ap (λ (z : ℕ). 2 ^ z) (sym (back j (low f) k)) ∙ pow-add 2 (low f - j) j)
        ∙ sym (mul_assoc n (2 ^ (low f - j)) (2 ^ j)))
    go (inl e) =
        subst (λ (n : ℕ). HasValue (round f s n (2 ^ j)) s n (2 ^ j)) (sym e)
        (round_exact f s (2 ^ prec f) (2 ^ j) 1 (prec f + (low f - j)) (pow_pos j) (pow-lt {i = 0} digits)
        (subst (λ (z : ℕ). z < 2 ^ (low f + suc (emax f))) (sym (one-mul (2 ^ (prec f + (low f - j)))))
        (pow-lt (widen (prec f) (emax f) j (low f) k (room-lt f))))
        (sym (ap (λ (z : ℕ). z * 2 ^ j) (one-mul (2 ^ (prec f + (low f - j)))) ∙ sym (pow-add 2 (prec f + (low f - j)) j)
        ∙ ap (λ (z : ℕ). 2 ^ z) (top (prec f) j (low f) k) ∙ pow-add 2 (prec f) (low f))))

-- ---- the numerators decide
-- A / D is a / c and B / D is b / c
module _ (A B D a b c : ℕ) (Dp : 0 < D) (Cp : 0 < c) (p : A * c ≡ a * D) (q : B * c ≡ b * D) where
  order : (t : Bool) → (T t → a < b) → (T (not t) → b ≤ a) → ltb A B ≡ t
  order true y n = is_true (ltb A B)
      (lt→ltb A B (lt_of_mul-lt-mul_right c
      (subst (λ (z : ℕ). z < B * c) (sym p) (subst (λ (z : ℕ). a * D < z) (sym q) (mul-lt-mul_of_pos_right (y tt) Dp)))))
  order false y n = is_false (ltb A B)
      (le→nltb A B (le_of_mul-le-mul_right
      (subst (λ (z : ℕ). B * c ≤ z) (sym p) (subst (λ (z : ℕ). z ≤ a * D) (sym q) (mul-le-mul_right D (n tt)))) Cp))

  pub ltb-same : ltb A B ≡ ltb a b
  ltb-same = order (ltb a b) (ltb→lt a b) (nltb→le a b)

  pub plus-same : (A + B) * c ≡ (a + b) * D
  plus-same = add-mul A B c ∙ ap (λ (z : ℕ). z + B * c) p ∙ ap (λ (z : ℕ). a * D + z) q ∙ sym (add-mul a b D)

  pub less-same : (A - B) * c ≡ (a - b) * D
  less-same = mul_comm (A - B) c ∙ mul-sub c A B ∙ ap (λ (z : ℕ). z - c * B) (mul_comm c A ∙ p)
      ∙ ap (λ (z : ℕ). a * D - z) (mul_comm c B ∙ q) ∙ ap (λ (z : ℕ). z - b * D) (mul_comm a D) ∙ ap (λ (z : ℕ). D * a - z) (mul_comm b D)
      ∙ sym (mul-sub D a b) ∙ mul_comm D (a - b)

module _ (f : Format) where
  module _ (A B D a b c : ℕ) (Dp : 0 < D) (Cp : 0 < c) (p : A * c ≡ a * D) (q : B * c ≡ b * D) where
    pub sum_same : (s t : Bool) → sum f s A t B D ≡ sum f s a t b c
    unfolding sum
    sum_same s t = go (beq s t)
      where
        go : (e : Bool) → cond e (round f s (A + B) D) (cond (ltb A B) (round f t (B - A) D) (round f (s && ltb B A) (A - B) D))
            ≡ cond e (round f s (a + b) c) (cond (ltb a b) (round f t (b - a) c) (round f (s && ltb b a) (a - b) c))
        go true = round_same f s (A + B) D (a + b) c Dp Cp (plus-same A B D a b c Dp Cp p q)
        go false =
            ap (λ (l : Bool). cond l (round f t (B - A) D) (round f (s && ltb B A) (A - B) D)) (ltb-same A B D a b c Dp Cp p q)
            ∙ ap (λ (x : Float). cond (ltb a b) x (round f (s && ltb B A) (A - B) D))
            (round_same f t (B - A) D (b - a) c Dp Cp (less-same B A D b a c Dp Cp q p))
            ∙ ap (λ (l : Bool). cond (ltb a b) (round f t (b - a) c) (round f (s && l) (A - B) D)) (ltb-same B A D b a c Dp Cp q p)
            ∙ ap (λ (x : Float). cond (ltb a b) (round f t (b - a) c) x)
            (round_same f (s && ltb b a) (A - B) D (a - b) c Dp Cp (less-same A B D a b c Dp Cp p q))

  -- ---- the sum of two such, as `sum` of the numerators
  pub cross-l : (m u d w a c : ℕ) → m * u * c ≡ a * d → m * u * w * c ≡ a * (d * w)
  cross-l m u d w a c h = mul_right_comm (m * u) w c ∙ ap (λ (z : ℕ). z * w) h ∙ mul_assoc a d w

  pub cross-r : (n u d w b c : ℕ) → n * u * c ≡ b * w → n * u * d * c ≡ b * (d * w)
  cross-r n u d w b c h = mul_right_comm (n * u) d c ∙ ap (λ (z : ℕ). z * d) h ∙ mul_right_comm b w d ∙ mul_assoc b d w

  pub add-sum : (x y : Float) (s t : Bool) (a b c : ℕ) → 0 < c → HasValue x s a c → HasValue y t b c → add f x y ≡ sum f s a t b c
  unfolding add
  add-sum nan y s t a b c C h k = absurd h
  add-sum (inf i) y s t a b c C h k = absurd h
  add-sum (fin i m e) nan s t a b c C h k = absurd k
  add-sum (fin i m e) (inf l) s t a b c C h k = absurd k
  add-sum (fin i m e) (fin l n d) s t a b c C h k =
      sum_same (m * up e * down d) (n * up d * down e) (down e * down d) a b c (mul-pos (down_pos e) (down_pos d)) C
      (cross-l m (up e) (down e) (down d) a c h.1) (cross-r n (up d) (down e) (down d) b c k.1) i l
      ∙ ap (λ (s : Bool). sum f s a l b c) h.0
      ∙ ap (λ (t : Bool). sum f s a t b c) k.0

  neg-has : (y : Float) (t : Bool) (b c : ℕ) → HasValue y t b c → HasValue (neg y) (not t) b c
  unfolding neg
  neg-has nan t b c k = absurd k
  neg-has (inf l) t b c k = absurd k
  neg-has (fin l n d) t b c k = (ap not k.0, k.1)

  sub-is-add : (x y : Float) → sub f x y ≡ add f x (neg y)
  unfolding sub
  sub-is-add x y = refl

  -- ---- the sum is exact
  pub pos-sub : (a b : ℕ) → pos a +ℤ neg_ℤ (pos b) ≡ sub_ℕ a b
  pos-sub a zero = ap pos (add-zero a) ∙ at a
    where
      at : (a : ℕ) → pos a ≡ sub_ℕ a 0
      at a = go (ltb a 0) (ltb→lt a 0)
        where
          no : (a : ℕ) → a < 0 → ⊥
          no a h = omega arith

          less : (a : ℕ) → a ≡ a - 0
          less a = omega arith

          go : (t : Bool) → (T t → a < 0) → pos a ≡ cond t (negsuc (0 - suc a)) (pos (a - 0))
          go true h = absurd (no a (h tt))
          go false h = ap pos (less a)
  pos-sub a (suc b) = refl

  neg_of : (a b : ℕ) → a < b → neg_ℤ (pos (b - a)) ≡ negsuc (b - suc a)
  neg_of a b h = ap (λ (z : ℕ). neg_ℤ (pos z)) (next a b h)
    where
      next : (a b : ℕ) → a < b → b - a ≡ suc (b - suc a)
      next a b h = omega arith

  swap : (a b : ℕ) → neg_ℤ (pos a) +ℤ pos b ≡ pos b +ℤ neg_ℤ (pos a)
  swap a b = lib.IntN.+ℤ_comm (neg_ℤ (pos a)) (pos b)

  not-both : (a b : ℕ) → a < b → b ≤ a → ⊥
  not-both a b h k = omega arith

  abs-signed : (s : Bool) (n : ℕ) → nat_abs (signed s n) ≡ n
  abs-signed false n = refl
  abs-signed true zero = refl
  abs-signed true (suc n) = refl

  -- what is small is not changed
  pub rounds-val : {x : Float} {j : ℕ} {z : ℤ} → j ≤ low f → nat_abs z ≤ 2 ^ prec f → Rounds f x j z → Val x j z
  rounds-val {x} {j} {z} fine h r = record {
    minus = r.minus;
    size = r.size;
    has = subst (λ (v : Float). HasValue v r.minus r.size (2 ^ j)) (sym r.rounded)
        (exact f r.minus r.size j
        (subst (λ (n : ℕ). n ≤ 2 ^ prec f) (ap nat_abs (sym r.is) ∙ abs-signed r.minus r.size) h) fine);
    is = r.is;
  }

  -- what `sum` gives, of the numerators
  module _ (j : ℕ) where
    mixed : (a b : ℕ) (l : Bool) → (T l → a < b) → (T (not l) → b ≤ a)
        → Rounds f (cond l (round f true (b - a) (2 ^ j)) (round f false (a - b) (2 ^ j))) j (cond l (negsuc (b - suc a)) (pos (a - b)))
    mixed a b true y n = record { minus = true; size = b - a; rounded = refl; is = neg_of a b (y tt) }
    mixed a b false y n = record { minus = false; size = a - b; rounded = refl; is = refl }

    mixed' : (a b : ℕ) (l g : Bool) → (T l → a < b) → (T (not l) → b ≤ a) → (T g → b < a) → (T (not g) → a ≤ b)
        → Rounds f (cond l (round f false (b - a) (2 ^ j)) (round f g (a - b) (2 ^ j))) j (cond g (negsuc (a - suc b)) (pos (b - a)))
    mixed' a b true true y n u w = absurd (clash a b (y tt) (u tt))
      where
        clash : (a b : ℕ) → a < b → b < a → ⊥
        clash a b h k = omega arith
    mixed' a b true false y n u w = record { minus = false; size = b - a; rounded = refl; is = refl }
    mixed' a b false true y n u w = record { minus = true; size = a - b; rounded = refl; is = neg_of b a (u tt) }
    mixed' a b false false y n u w = record { minus = false; size = a - b; rounded = refl; is = ap pos (equal a b (n tt) (w tt)) }
      where
        equal : (a b : ℕ) → b ≤ a → a ≤ b → a - b ≡ b - a
        equal a b h k = omega arith

    sum-rounds : (s t : Bool) (a b : ℕ) → Rounds f (sum f s a t b (2 ^ j)) j (signed s a +ℤ signed t b)
    unfolding sum
    sum-rounds false false a b = record { minus = false; size = a + b; rounded = refl; is = refl }
    sum-rounds true true a b = record { minus = true; size = a + b; rounded = refl; is = neg_ℤ-+ℤ (pos a) (pos b) }
    sum-rounds false true a b =
        subst (λ (z : ℤ). Rounds f (cond (ltb a b) (round f true (b - a) (2 ^ j)) (round f false (a - b) (2 ^ j))) j z) (sym (pos-sub a b))
        (mixed a b (ltb a b) (ltb→lt a b) (nltb→le a b))
    sum-rounds true false a b =
        subst (λ (z : ℤ). Rounds f (cond (ltb a b) (round f false (b - a) (2 ^ j)) (round f (ltb b a) (a - b) (2 ^ j))) j z)
        (sym (swap a b ∙ pos-sub b a))
        (mixed' a b (ltb a b) (ltb b a) (ltb→lt a b) (nltb→le a b) (ltb→lt b a) (nltb→le b a))

  signed-not : (t : Bool) (b : ℕ) → signed (not t) b ≡ neg_ℤ (signed t b)
  signed-not true b = sym (neg_ℤ-neg_ℤ (pos b))
  signed-not false b = refl

  pub add_rounds : {x y : Float} {j : ℕ} {a b : ℤ} → Val x j a → Val y j b → Rounds f (add f x y) j (a +ℤ b)
  add_rounds {x} {y} {j} {a} {b} v w =
      subst (λ (z : Float). Rounds f z j (a +ℤ b))
      (sym (add-sum x y v.minus w.minus v.size w.size (2 ^ j) (pow_pos j) v.has w.has))
      (subst (λ (z : ℤ). Rounds f (sum f v.minus v.size w.minus w.size (2 ^ j)) j z)
      (ap (λ (z : ℤ). z +ℤ signed w.minus w.size) v.is ∙ ap (λ (z : ℤ). a +ℤ z) w.is)
      (sum-rounds j v.minus w.minus v.size w.size))

  pub add-val : {x y : Float} {j : ℕ} {a b : ℤ} → j ≤ low f → nat_abs (a +ℤ b) ≤ 2 ^ prec f → Val x j a → Val y j b
      → Val (add f x y) j (a +ℤ b)
  add-val fine h v w = rounds-val fine h (add_rounds v w)

  pub neg-val : {y : Float} {j : ℕ} {b : ℤ} → Val y j b → Val (neg y) j (neg_ℤ b)
  neg-val {y} {j} {b} w =
      record {
        minus = not w.minus;
        size = w.size;
        has = neg-has y w.minus w.size (2 ^ j) w.has;
        is = signed-not w.minus
            w.size ∙ ap neg_ℤ w.is;
      }

  pub sub-rounds : {x y : Float} {j : ℕ} {a b : ℤ} → Val x j a → Val y j b → Rounds f (sub f x y) j (a -ℤ b)
  sub-rounds {x} {y} {j} {a} {b} v w = subst (λ (z : Float). Rounds f z j (a -ℤ b)) (sym (sub-is-add x y)) (add_rounds v (neg-val w))

  pub sub_val : {x y : Float} {j : ℕ} {a b : ℤ} → j ≤ low f → nat_abs (a -ℤ b) ≤ 2 ^ prec f → Val x j a → Val y j b
      → Val (sub f x y) j (a -ℤ b)
  sub_val fine h v w = rounds-val fine h (sub-rounds v w)

  -- ---- the product
  signed_mul : (s t : Bool) (a b : ℕ) → signed (unlike s t) (a * b) ≡ signed s a *ℤ signed t b
  signed_mul false false a b = refl
  signed_mul false true a zero = ap (λ (z : ℕ). neg_ℤ (pos z)) (mul-zero a) ∙ sym (ap pos (mul-zero a))
  signed_mul false true a (suc b) = refl
  signed_mul true false zero b = ap (λ (z : ℕ). neg_ℤ (pos z)) (zero-mul b) ∙ sym (ap pos (zero-mul b))
  signed_mul true false (suc a) b = refl
  signed_mul true true zero zero = refl
  signed_mul true true zero (suc b) = ap pos (zero-mul (suc b)) ∙ sym (ap (λ (z : ℕ). neg_ℤ (pos z)) (zero-mul (suc b)))
  signed_mul true true (suc a) zero = ap pos (mul-zero (suc a)) ∙ sym (ap (λ (z : ℕ). neg_ℤ (pos z)) (mul-zero (suc a)))
  signed_mul true true (suc a) (suc b) = refl

  pub mul-round : (x y : Float) (s t : Bool) (a b c d : ℕ) → 0 < c → 0 < d → HasValue x s a c → HasValue y t b d
      → mul f x y ≡ round f (unlike s t) (a * b) (c * d)
  unfolding mul
  mul-round nan y s t a b c d C D h k = absurd h
  mul-round (inf i) y s t a b c d C D h k = absurd h
  mul-round (fin i m e) nan s t a b c d C D h k = absurd k
  mul-round (fin i m e) (inf l) s t a b c d C D h k = absurd k
  mul-round (fin i m e) (fin l n g) s t a b c d C D h k =
      round_same f (unlike i l) (m * up e * (n * up g)) (down e * down g) (a * b) (c * d) (mul-pos (down_pos e) (down_pos g)) (mul-pos C D)
      (mul-mul-mul_comm (m * up e) (n * up g) c d ∙ ap (λ (z : ℕ). z * (n * up g * d)) h.1 ∙ ap (λ (z : ℕ). a * down e * z) k.1
      ∙ mul-mul-mul_comm a (down e) b (down g))
      ∙ ap (λ (s : Bool). round f (unlike s l) (a * b) (c * d)) h.0
      ∙ ap (λ (t : Bool). round f (unlike s t) (a * b) (c * d)) k.0

  pub mul-rounds : {x y : Float} {i j : ℕ} {a b : ℤ} → Val x i a → Val y j b → Rounds f (mul f x y) (i + j) (a *ℤ b)
  mul-rounds {x} {y} {i} {j} {a} {b} v w = record {
    minus = unlike v.minus w.minus;
    size = v.size * w.size;
    rounded = mul-round x y v.minus w.minus v.size w.size (2 ^ i) (2 ^ j) (pow_pos i) (pow_pos j) v.has w.has
        ∙ ap (λ (z : ℕ). round f (unlike v.minus w.minus) (v.size * w.size) z) (sym (pow-add 2 i j));
    is = signed_mul v.minus w.minus v.size w.size ∙ ap (λ (z : ℤ). z *ℤ signed w.minus w.size) v.is
        ∙ ap (λ (z : ℤ). a *ℤ z) w.is;
  }

  pub mul_val : {x y : Float} {i j : ℕ} {a b : ℤ} → i + j ≤ low f → nat_abs (a *ℤ b) ≤ 2 ^ prec f → Val x i a → Val y j b
      → Val (mul f x y) (i + j) (a *ℤ b)
  mul_val fine h v w = rounds-val fine h (mul-rounds v w)
