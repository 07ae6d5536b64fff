-- The order of roots. Assumes nothing. root-under     where the root of c is below t, so is the root of every x above 0 and below c
--     root-under
-- Assumes nothing.
use Rattle.std.proofs.Common.{◌≡◌, ℕ, zero, suc, ◌+◌, ◌*◌, ◌^◌, ◌<◌, ◌≤◌, Bool, true, false, T, ltb, ◌⊎◌, ℤ, pos, negsuc, nat_abs, sym, refl, ap, ◌∙◌, subst, inl, inr, zero-lt-suc, mul-lt-mul_of_pos_right, arith, ltb→lt, lt→ltb, pow_pos}
use mathlib.Core.Bool.{false≢true}
use lib.IntN.{pos-ne-negsuc}
use lib.Signed.{lt_z}
use lib.Ieee.{Float, nan, inf, fin, binary32, fits, lt, is_nan, of_bits}
use lib.Ieee.Bits.{is_true}
use lib.Ieee.Scale.{finite}
use lib.Ieee.Exact.{HasValue}
use Rattle.ieee.specs.Claims.{Nearest, RootNearest}
use Rattle.ieee.specs.Root.{sqrt}
use Rattle.ieee.specs.Inner.{signed, Val}
use Rattle.ieee.proofs.Values.{lt-or-ge}
use Rattle.ieee.proofs.Vals.{lt_val, zero_val}
use Rattle.ieee.proofs.Tests.{lt-no-nan-r, of_bits-zero}
use Rattle.ieee.proofs.Orders.{unit_val, lt_z-trans}
use Rattle.ieee.proofs.RootNearest.{root-nearest}

-- ---- units of what is above 0
above : (z : ℤ) → lt_z (pos 0) z ≡ true → (n : ℕ) × (z ≡ pos (suc n))
above (pos zero) h = absurd (false≢true h)
above (pos (suc n)) h = (n, refl)
above (negsuc n) h = absurd (false≢true h)

parts : (s : Bool) (k n : ℕ) → signed s k ≡ pos (suc n) → (s ≡ false) × (k ≡ suc n)
parts false k n e = (refl, ap nat_abs e)
parts true zero n e = absurd (let z : 0 ≡ suc n = ap nat_abs e in omega arith)
parts true (suc k) n e = absurd (pos-ne-negsuc (suc n) k (sym e))

units_of : (x : Float) (z : ℤ) → Val x 149 z → lt_z (pos 0) z ≡ true
    → (X : ℕ) × (0 < X) × HasValue x false X (2 ^ 149) × (z ≡ pos X)
units_of x z v h =
    let a = above z h in
    let p = parts v.minus v.size a.0 (v.is ∙ a.1) in (
      suc a.0,
      zero-lt-suc a.0,
      subst (λ (n : ℕ). HasValue x false n (2 ^ 149)) p.1 (subst (λ (s : Bool). HasValue x s v.size (2 ^ 149)) p.0 v.has),
      a.1,
    )

-- ---- what is finite
finite-over : (c t : Float) → lt (sqrt binary32 c) t ≡ true → T (finite c)
unfolding lt sqrt
finite-over nan t h = absurd (false≢true h)
finite-over (inf true) t h = absurd (false≢true h)
finite-over (inf false) nan h = absurd (false≢true h)
finite-over (inf false) (inf s) h = absurd (false≢true h)
finite-over (inf false) (fin s m e) h = absurd (false≢true h)
finite-over (fin s m e) t h = tt

finite-under : (x c : Float) → lt (fin false 0 (pos 0)) x ≡ true → lt x c ≡ true → T (finite x)
unfolding lt
finite-under nan c p h = absurd (false≢true p)
finite-under (inf true) c p h = absurd (false≢true p)
finite-under (inf false) nan p h = absurd (false≢true h)
finite-under (inf false) (inf s) p h = absurd (false≢true h)
finite-under (inf false) (fin s m e) p h = absurd (false≢true h)
finite-under (fin s m e) c p h = tt

-- ---- a bound of the greater is one of the smaller
below-too : (U W : ℕ) (z : ℤ) → U ≤ W → lt_z (pos W) z ≡ true → lt_z (pos U) z ≡ true
below-too U W (pos n) h l = let k = ltb→lt W n (subst T (sym l) tt) in is_true (ltb U n) (lt→ltb U n (omega arith))
below-too U W (negsuc n) h l = absurd (false≢true l)

module _ (u w : Float) (U W : ℕ) (hu : HasValue u false U (2 ^ 149)) (hw : HasValue w false W (2 ^ 149)) (h : U ≤ W) where
  small : Val u 149 (pos U)
  small = record { minus = false; size = U; has = hu; is = refl }

  great : Val w 149 (pos W)
  great = record { minus = false; size = W; has = hw; is = refl }

  bound : (t : Float) → T (fits binary32 t) → T (finite t) → lt w t ≡ true → lt u t ≡ true
  bound t f k l = let v = unit_val t f k in lt_val small v.1 ∙ below-too U W v.0 h (sym (lt_val great v.1) ∙ l)

infinite : (u w : Float) (U W : ℕ) (s : Bool) → HasValue u false U (2 ^ 149) → HasValue w false W (2 ^ 149) → lt w (inf s) ≡ true
    → lt u (inf s) ≡ true
unfolding lt
infinite nan w U W s hu hw l = absurd hu
infinite (inf t) w U W s hu hw l = absurd hu
infinite (fin t m e) nan U W s hu hw l = absurd hw
infinite (fin t m e) (inf r) U W s hu hw l = absurd hw
infinite (fin t m e) (fin r n d) U W s hu hw l = l

bounded : (u w t : Float) (U W : ℕ) → HasValue u false U (2 ^ 149) → HasValue w false W (2 ^ 149) → U ≤ W → T (fits binary32 t)
    → lt w t ≡ true → lt u t ≡ true
unfolding is_nan
bounded u w nan U W hu hw h f l = absurd (lt-no-nan-r w nan l)
bounded u w (inf s) U W hu hw h f l = infinite u w U W s hu hw l
bounded u w (fin s m e) U W hu hw h f l = bound u w U W hu hw h (fin s m e) f tt l

-- ---- roots
in_order : (N M Y Z : ℕ) → N < M → Nearest N Y Z → Nearest M Z Y → Y ≤ Z
in_order N M Y Z h a b = go (lt-or-ge Z Y)
  where
    clash : (Y + Z) * (Y + Z) ≤ 4 * N → 4 * M ≤ (Z + Y) * (Z + Y) → ⊥
    clash p q = omega (arith, h)

    go : (Z < Y) ⊎ (Y ≤ Z) → Y ≤ Z
    go (inl l) = absurd (clash (a.1 l) (b.0 l))
    go (inr g) = g

pub root-under : (x c t : Float) → T (fits binary32 x) → T (fits binary32 c) → T (fits binary32 t) → lt (of_bits binary32 0) x ≡ true
    → lt x c ≡ true → lt (sqrt binary32 c) t ≡ true → lt (sqrt binary32 x) t ≡ true
unfolding RootNearest
root-under x c t fx fc ft p h l =
    let v = unit_val x fx (finite-under x c (ap (λ (z : Float). lt z x) (sym of_bits-zero) ∙ p) h) in
    let w = unit_val c fc (finite-over c t l) in
    let pv = sym (lt_val (zero_val binary32 149) v.1) ∙ p in
    let vw = sym (lt_val v.1 w.1) ∙ h in
    let a = units_of x v.0 v.1 pv in
    let b = units_of c w.0 w.1 (lt_z-trans (pos 0) v.0 w.0 pv vw) in
    let ordered = ap (λ (z : ℤ). lt_z z (pos b.0)) (sym a.3) ∙ ap (λ (z : ℤ). lt_z v.0 z) (sym b.3) ∙ vw in
    let less : a.0 < b.0 = ltb→lt a.0 b.0 (subst T (sym ordered) tt) in
    let r = root-nearest x a.0 fx a.2 a.1 in
    let q = root-nearest c b.0 fc b.2 b.1 in
    bounded (sqrt binary32 x) (sqrt binary32 c) t r.0 q.0 r.1 q.1
    (in_order (a.0 * 2 ^ 149) (b.0 * 2 ^ 149) r.0 q.0 (mul-lt-mul_of_pos_right less (pow_pos 149))
    (r.3 (sqrt binary32 c) q.0 q.2 q.1) (q.3 (sqrt binary32 x) r.0 r.2 r.1))
    ft l
