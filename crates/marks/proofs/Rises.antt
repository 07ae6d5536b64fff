-- Within one version more agreement is a greater score: between a / n and b / n, a < b ≤ n ≤ 2,048, lie two multiples of 1 / 4,096, which
-- f32 has exactly, and rounding keeps the order.
--     score-is    a score is the fraction, rounded once
--     score-full  as many as all is 1
--     score-rises count to score is strictly rising
-- Assumes nothing.
use mathlib.Core.Path.{◌≡◌, refl, sym, ap, ◌∙◌, subst}
use mathlib.Core.Bool.{Bool, true, false, true≢false}
use Prim.Native.Nat.{ℕ, ◌+◌, ◌*◌, ◌/◌, ◌%◌, ◌^◌, ◌<◌, ◌≤◌}
use native.Mathlib.Omega.{arith}
use native.Mathlib.Nat.{
  lt_of_mul-lt-mul_right,
  mod-add-div',
  mod-lt,
  mul_comm,
  mul_assoc,
  mul_left_comm,
  mul-pos,
  le_trans,
  le_of_eq,
  mul-le-mul_right,
  mul-lt-mul_of_pos_right,
  le_of_mul-le-mul_right,
  lt_of_lt_of_le,
  mul-one,
  zero-mul,
}
use lib.Pow.{pow_pos}
use lib.Dec.{T, ltb, lit<, lit≤}
use borrow.Author.Tests.{lt-ltb, ne_eqb, ltb-true, ltb-false}
use lib.IntN.{pos}
use lib.Ieee.{Float, nan, inf, fin, binary32, round, div, of_int, of_bits, lt, up, down}
use lib.Ieee.Exact.{HasValue, round_exact}
use lib.Ieee.Order.{round_mono}
use lib.Ieee.Scale.{round_same}
use lib.Ieee.Positive.{num, den, positive, den_pos, own_value, value→cross, positive_of_value, values_of_le, between}
use Rattle.lcr_core.specs.Version.{IsVersion, positions_of}
use Rattle.marks.specs.Correlate.{score}

-- ---- a score is a fraction, rounded once

times : (k a b : ℕ) → a < b → a * 2 ^ k < b * 2 ^ k
times k a b h = mul-lt-mul_of_pos_right h (pow_pos k)

whole : (n : ℕ) → n < 2 ^ 24 → HasValue (of_int binary32 (pos n)) false n 1
unfolding of_int
whole n h = round_exact binary32 false n 1 n 149 (lit< tt) h (times 149 n (2 ^ 128) (lt_of_lt_of_le h (lit≤ tt)))
    (sym (mul-one (n * 2 ^ 149)))

cross-same : (a b m n de dd : ℕ) → m * 1 ≡ a * de → n * 1 ≡ b * dd → m * dd * b ≡ a * (n * de)
cross-same a b m n de dd p q =
    let m' : m ≡ a * de = omega arith in
    let n' : n ≡ b * dd = omega arith in
    ap (λ (x : ℕ). x * dd * b) m' ∙ sym (ap (λ (x : ℕ). a * (x * de)) n' ∙ simp (mul_assoc, mul_comm, mul_left_comm))

value-above : (w b dd : ℕ) → 0 < b → 0 < dd → w * 1 ≡ b * dd → 0 < w
value-above w b dd hb hd e = let z : 0 < b * dd = mul-pos hb hd in omega arith

not-nought : (n u : ℕ) → 0 < n * u → n ≡ 0 → ⊥
not-nought n u h e = let z : n * u ≡ 0 * u = ap (λ (x : ℕ). x * u) e in omega arith

div_is : (x y : Float) (a b : ℕ) → 0 < b → HasValue x false a 1 → HasValue y false b 1 → div binary32 x y ≡ round binary32 false a b
unfolding div
div_is nan y a b h p q = absurd p
div_is (inf s) y a b h p q = absurd p
div_is (fin true m e) y a b h p q = absurd (true≢false p.0)
div_is (fin false m e) nan a b h p q = absurd q
div_is (fin false m e) (inf t) a b h p q = absurd q
div_is (fin false m e) (fin true n d) a b h p q = absurd (true≢false q.0)
div_is (fin false m e) (fin false n d) a b h p q =
    let w : 0 < n * up d = value-above (n * up d) b (down d) h (den_pos (fin false n d)) q.1 in
    rw (ne_eqb n 0 (not-nought n (up d) w))
    (round_same binary32 false (m * up e * down d) (n * up d * down e) a b (mul-pos w (den_pos (fin false m e))) h
    (cross-same a b (m * up e) (n * up d) (down e) (down d) p.1 q.1))

pub score-is : (v c : ℕ) → v ≤ 64 → c < 2 ^ 24 → score v c ≡ round binary32 false c (positions_of v)
unfolding score
score-is v c hv hc =
    div_is (of_int binary32 (pos c)) (of_int binary32 (pos (positions_of v))) c (positions_of v) (omega arith) (whole c hc)
    (whole (positions_of v) (omega arith))

-- as many as all is 1
pub score-full : (v : ℕ) → IsVersion v → score v (positions_of v) ≡ of_bits binary32 1065353216
unfolding round of_bits
score-full v is =
    score-is v (positions_of v) is.greatest (omega arith)
    ∙ round_same binary32 false (positions_of v) (positions_of v) 1 1 (omega arith) (omega arith) (omega arith)

-- ---- strictly rising

-- a multiple of 1 / 4,096
grain : (x : ℕ) → x < 2 ^ 24 → HasValue (round binary32 false x 4096) false x 4096
grain x h = round_exact binary32 false x 4096 x 137 (lit< tt) h (lt_of_lt_of_le (times 137 x (2 ^ 24) h) (lit≤ tt))
    (sym (mul_assoc x (2 ^ 137) 4096))

-- a number that is not negative is below a positive one where the fractions say so
cross→lt : (x y : Float) (a c : ℕ) → HasValue x false a c → T (positive y) → num x * den y < num y * den x → lt x y ≡ true
unfolding lt
cross→lt nan y a c p q h = absurd p
cross→lt (inf s) y a c p q h = absurd p
cross→lt (fin true m e) y a c p q h = absurd (true≢false p.0)
cross→lt (fin false m e) nan a c p q h = absurd q
cross→lt (fin false m e) (inf t) a c p q h = absurd q
cross→lt (fin false m e) (fin true n d) a c p q h = absurd q
cross→lt (fin false m e) (fin false n d) a c p q h = lt-ltb (m * up e * down d) (n * up d * down e) h

-- A / D ≤ x / k < (x + 1) / k ≤ B / E
strict : (A D B E x k : ℕ) → 0 < D → 0 < E → 0 < k → A * k ≤ x * D → (x + 1) * E ≤ B * k → A * E < B * D
strict A D B E x k h_d h_e hk h g =
    let p : A * k * E ≤ x * D * E = mul-le-mul_right E h in
    let q : (x + 1) * E * D ≤ B * k * D = mul-le-mul_right D g in
    let r : 0 < D * E = mul-pos h_d h_e in
    let s : x * D * E + D * E ≡ (x + 1) * E * D = omega arith in
    let u : A * E * k ≡ A * k * E = omega arith in
    let w : B * D * k ≡ B * k * D = omega arith in
    lt_of_mul-lt-mul_right k {m = A * E} {n = B * D} (below (A * E * k) (A * k * E) (x * D * E) (D * E) ((x + 1) * E * D) (B * k * D) (B * D * k) u p r s q w)
  where
    below : (a b c d e f g : ℕ) → a ≡ b → b ≤ c → 0 < d → c + d ≡ e → e ≤ f → g ≡ f → a < g
    below a b c d e f g h₁ h₂ h₃ h₄ h₅ h₆ = omega arith

-- the multiple of 1 / 4,096 next above a / n
nought : (x n : ℕ) → 0 < n → x * n ≡ 0 → x ≡ 0
nought x n h e = go (ltb 0 x) refl
  where
    go : (t : Bool) → ltb 0 x ≡ t → x ≡ 0
    go true p = let l : 0 < x = ltb-true 0 x p in let z : 0 < x * n = mul-pos l h in absurd (no z)
      where
        no : 0 < x * n → ⊥
        no z = omega arith
    go false p = let l : x ≤ 0 = ltb-false 0 x p in omega arith

module _ (n a b : ℕ) (hn : 0 < n) (small : n ≤ 2048) (ab : a < b) (bn : b ≤ n) where
  step : ℕ
  step = a * 4096 / n + 1

  low_step : a * 4096 ≤ step * n
  unfolding step
  low_step = let z = mod-add-div' (a * 4096) n in let m : a * 4096 % n < n = mod-lt (a * 4096) hn in omega arith

  high-step : (step + 1) * n ≤ b * 4096
  unfolding step
  high-step = let z = mod-add-div' (a * 4096) n in omega arith

  under : step + 1 ≤ 4096
  under = le_of_mul-le-mul_right (le_trans high-step (le_trans (mul-le-mul_right 4096 bn) (le_of_eq (mul_comm n 4096)))) hn

  lower : Float
  lower = round binary32 false step 4096

  upper : Float
  upper = round binary32 false (step + 1) 4096

  step-above : 0 < step
  unfolding step
  step-above = omega arith

  lower-positive : T (positive lower)
  unfolding lower
  lower-positive = positive_of_value (round binary32 false step 4096) step 4096 (grain step (let u = under in omega arith)) step-above

  upper-positive : T (positive upper)
  unfolding upper
  upper-positive = positive_of_value (round binary32 false (step + 1) 4096) (step + 1) 4096
      (grain (step + 1) (let u = under in omega arith)) (omega arith)

  -- the least and the greatest score that is not 0
  least : T (positive (round binary32 false 1 4096))
  least = positive_of_value (round binary32 false 1 4096) 1 4096 (grain 1 (lit< tt)) (lit< tt)

  most : T (positive (round binary32 false 4096 4096))
  most = positive_of_value (round binary32 false 4096 4096) 4096 4096 (grain 4096 (lit< tt)) (lit< tt)

  positive-at : (k : ℕ) → 0 < k → k ≤ n → T (positive (round binary32 false k n))
  positive-at k hk h =
      between (round binary32 false 1 4096) (round binary32 false k n) (round binary32 false 4096 4096) least most
      (round_mono binary32 1 4096 k n (lit< tt) hn (omega arith)) (round_mono binary32 k n 4096 4096 hn (lit< tt) (omega arith))

  above-upper : (step + 1) * den (round binary32 false b n) ≤ num (round binary32 false b n) * 4096
  unfolding upper
  above-upper =
      values_of_le (round binary32 false (step + 1) 4096) (round binary32 false b n) (step + 1) 4096 (num (round binary32 false b n))
      (den (round binary32 false b n))
      upper-positive (positive-at b (omega arith) bn) (grain (step + 1) (let u = under in omega arith))
      (own_value (round binary32 false b n) (positive-at b (omega arith) bn))
      (round_mono binary32 (step + 1) 4096 b n (lit< tt) hn high-step)

  from_some : 0 < a → lt (round binary32 false a n) (round binary32 false b n) ≡ true
  unfolding lower
  from_some ha =
      let pa = positive-at a ha (omega arith) in
      let below : num (round binary32 false a n) * 4096 ≤ step * den (round binary32 false a n) =
      values_of_le (round binary32 false a n) (round binary32 false step 4096) (num (round binary32 false a n))
      (den (round binary32 false a n)) step 4096
      pa lower-positive (own_value (round binary32 false a n) pa) (grain step (let u = under in omega arith))
      (round_mono binary32 a n step 4096 hn (lit< tt) low_step) in
      cross→lt (round binary32 false a n) (round binary32 false b n) (num (round binary32 false a n)) (den (round binary32 false a n))
      (own_value (round binary32 false a n) pa)
      (positive-at b (omega arith) bn)
      (strict (num (round binary32 false a n)) (den (round binary32 false a n)) (num (round binary32 false b n))
      (den (round binary32 false b n)) step 4096
      (den_pos (round binary32 false a n)) (den_pos (round binary32 false b n)) (lit< tt) below above-upper)

  from-none : a ≡ 0 → lt (round binary32 false a n) (round binary32 false b n) ≡ true
  from-none e =
      let v : HasValue (round binary32 false a n) false a n =
      subst (λ (k : ℕ). HasValue (round binary32 false k n) false k n) (sym e)
      (round_exact binary32 false 0 n 0 0 hn (lit< tt) (lit< tt) (sym (zero-mul n))) in
      let z : num (round binary32 false a n) ≡ 0 =
      nothing (num (round binary32 false a n)) a (den (round binary32 false a n)) n hn e
      (value→cross (round binary32 false a n) a n v) in
      cross→lt (round binary32 false a n) (round binary32 false b n) a n v (positive-at b (omega arith) bn)
      (strict (num (round binary32 false a n)) (den (round binary32 false a n)) (num (round binary32 false b n))
      (den (round binary32 false b n)) step 4096
      (den_pos (round binary32 false a n)) (den_pos (round binary32 false b n)) (lit< tt)
      (none_below (num (round binary32 false a n)) _ z) above-upper)
    where
      nothing : (x a d n : ℕ) → 0 < n → a ≡ 0 → x * n ≡ a * d → x ≡ 0
      nothing x a d n h p q = nought x n h (q ∙ ap (λ (y : ℕ). y * d) p ∙ zero-mul d)

      none_below : (x y : ℕ) → x ≡ 0 → x * 4096 ≤ y
      none_below x y p = omega arith

  pub rises-at : lt (round binary32 false a n) (round binary32 false b n) ≡ true
  rises-at = go (ltb 0 a) refl
    where
      go : (t : Bool) → ltb 0 a ≡ t → lt (round binary32 false a n) (round binary32 false b n) ≡ true
      go true e = from_some (ltb-true 0 a e)
      go false e = from-none (let l : a ≤ 0 = ltb-false 0 a e in omega arith)

pub score-rises : (v : ℕ) → IsVersion v → (a b : ℕ) → a < b → b ≤ positions_of v → lt (score v a) (score v b) ≡ true
score-rises v h a b ab bn =
    rw (score-is v a h.greatest (omega arith), score-is v b h.greatest (omega arith))
    (rises-at (positions_of v) a b (omega arith) (omega arith) ab bn)
