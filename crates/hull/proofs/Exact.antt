-- For points of doubled coordinates up to 2,048 the f32 tests of the hull are those of whole numbers. Values: half-val, neg_is, less-is,
-- near, sum-size. Points by number: pt_at_lem, small_at, x-at, y-at, vx, vy, dx, dy. Tests: cross-round, d2-is, better-is, low-is, eq_is. The
-- hull: map-pt, length-pts, hull-exact. Assumes nothing.
use mathlib.Core.Path.{◌≡◌, refl, sym, ap, ap₂, ◌∙◌, subst}
use mathlib.Core.Bool.{Bool, true, false, not, ◌&&◌, ◌||◌, cond}
use mathlib.Core.List.Memᴰ
use mathlib.Core.List.{List, [], ◌∷◌, map}
use Prim.Native.Nat.{ℕ, zero, suc, ◌+◌, ◌-◌, ◌*◌, ◌^◌, ◌≤◌, ◌<◌}
use native.Mathlib.Omega.{arith}
use native.Mathlib.Nat.{le_trans}
use lib.Dec.{ltb, eqb, lit≤}
use lib.ListN.{length, get_or}
use lib.IntN.{ℤ, pos, negsuc, nat_abs, ◌+ℤ◌, ◌-ℤ◌, ◌*ℤ◌}
use lib.Signed.{lt_z}
use lib.Ieee.{Float, nan, inf, fin, binary32, lt, eq, is_nan}
use lib.Ieee.Exact.{HasValue}
use borrow.Author.Tests.{ltb-true, ltb-false, le-ltb, eq-eqb, ne_eqb}
use Rattle.ieee.specs.Constants.{0f}
use Rattle.ieee.specs.Inner.{Val, Rounds, eq_z}
use Rattle.ieee.specs.Ops.{sign, before}
use Rattle.ieee.specs.Cross.{d2_z, exact_span}
use Rattle.ieee.proofs.Vals.{exact, lt_val, eq_val, pos-sub, zero_val}
use Rattle.ieee.proofs.Signs.{rounds-sign, cross-rounds, d2-val, lt_z-sub, small_product}
use Rattle.whole.specs.Numbers.{◌⊕◌, ◌⊗◌, neg}
use Rattle.whole.specs.Points.{Pt, origin, pt_at}
use Rattle.whole.specs.Points as PW
use Rattle.whole.specs.Hull.{is_neg, is_zero, better, same_pt, lower, walk, hull}
use Rattle.whole.specs.Walk.{walk_with, hull_with, whole_tests}
use Rattle.whole.proofs.Wraps.{hull_with-cong, hull_with-is}
use Rattle.hull.specs.Points.{x_at, y_at, half_of, numbers_of, floats_of, pt_of, pts_of, Small}
use Rattle.hull.specs.Hull.{cross_at, d2_at, better_at, lower_at, same_at, hull_tests, hull_of, hull_points}

-- ---- values
pub half-val : (n : ℕ) → n ≤ 16777216 → Val (half_of n) 1 (pos n)
unfolding half_of
half-val n h = record { minus = false; size = n; has = exact binary32 false n 1 h (lit≤ tt); is = refl }

-- ---- signs
pub neg_is : (z : ℤ) → lt_z z (pos 0) ≡ is_neg z
neg_is (pos n) = le-ltb n 0 (omega arith)
neg_is (negsuc n) = refl

zero_is : (z : ℤ) → eq_z z (pos 0) ≡ is_zero z
zero_is (pos zero) = refl
zero_is (pos (suc n)) = ne_eqb (suc n) 0 (λ e. omega arith)
zero_is (negsuc n) = refl

pub less-is : (a b : ℤ) → lt_z a b ≡ is_neg (a ⊕ neg b)
unfolding ◌⊕◌ neg
less-is a b = sym (lt_z-sub a b) ∙ neg_is (a -ℤ b)

-- a difference of two numbers up to n
pub near : (n a b : ℕ) → a ≤ n → b ≤ n → nat_abs (pos a -ℤ pos b) ≤ n
near n a b la lb = subst (λ (z : ℤ). nat_abs z ≤ n) (sym (pos-sub binary32 a b)) (go (ltb a b) refl)
  where
    go : (t : Bool) → ltb a b ≡ t → nat_abs (cond t (negsuc (b - suc a)) (pos (a - b))) ≤ n
    go true e = omega (arith, ltb-true a b e)
    go false e = omega arith

-- the size of a sum
pub sum-size : (a b : ℤ) → nat_abs (a +ℤ b) ≤ nat_abs a + nat_abs b
sum-size (pos a) (pos b) = omega arith
sum-size (pos a) (negsuc b) = go (ltb a (suc b)) refl
  where
    go : (t : Bool) → ltb a (suc b) ≡ t → nat_abs (cond t (negsuc (suc b - suc a)) (pos (a - suc b))) ≤ a + suc b
    go true e = omega arith
    go false e = omega arith
sum-size (negsuc a) (pos b) = go (ltb b (suc a)) refl
  where
    go : (t : Bool) → ltb b (suc a) ≡ t → nat_abs (cond t (negsuc (suc a - suc b)) (pos (b - suc a))) ≤ suc a + b
    go true e = omega arith
    go false e = omega arith
sum-size (negsuc a) (negsuc b) = omega arith

-- ---- points by number
abbrev pub at : List (ℕ × ℕ) → ℕ → ℕ × ℕ
at L i = get_or L i (0, 0)

pub pt_at_lem : (L : List (ℕ × ℕ)) (i : ℕ) → pt_at (pts_of L) i ≡ pt_of (at L i)
unfolding pt_at pt_of origin
pt_at_lem [] i = refl
pt_at_lem (q ∷ L) zero = refl
pt_at_lem (q ∷ L) (suc i) = pt_at_lem L i

pub small_at : (L : List (ℕ × ℕ)) → Small L → (i : ℕ) → ((at L i).0 ≤ 2048) × ((at L i).1 ≤ 2048)
small_at [] s i = (omega arith, omega arith)
small_at (q ∷ L) s zero = s q (Memᴰ.head refl)
small_at (q ∷ L) s (suc i) = small_at L (λ r m. s r (Memᴰ.tail m)) i

pub x-at : (L : List (ℕ × ℕ)) (i : ℕ) → i < length L → x_at (floats_of L) i ≡ half_of (at L i).0
unfolding floats_of numbers_of
x-at [] i l = absurd (omega arith)
x-at (q ∷ L) zero l = refl
x-at (q ∷ L) (suc i) l = ap (λ (k : ℕ). get_or (floats_of (q ∷ L)) k 0f) (two i) ∙ x-at L i (omega arith)
  where
    two : (i : ℕ) → 2 * suc i ≡ suc (suc (2 * i))
    two i = omega arith

pub y-at : (L : List (ℕ × ℕ)) (i : ℕ) → i < length L → y_at (floats_of L) i ≡ half_of (at L i).1
unfolding floats_of numbers_of
y-at [] i l = absurd (omega arith)
y-at (q ∷ L) zero l = refl
y-at (q ∷ L) (suc i) l = ap (λ (k : ℕ). get_or (floats_of (q ∷ L)) k 0f) (two i) ∙ y-at L i (omega arith)
  where
    two : (i : ℕ) → 2 * suc i + 1 ≡ suc (suc (2 * i + 1))
    two i = omega arith

-- past the list's end both are 0
x-val : (L : List (ℕ × ℕ)) → Small L → (i : ℕ) → Val (x_at (floats_of L) i) 1 (pos (at L i).0)
unfolding floats_of numbers_of
x-val [] s i = zero_val binary32 1
x-val (q ∷ L) s zero = half-val q.0 (omega (arith, (s q (Memᴰ.head refl)).0))
x-val (q ∷ L) s (suc i) =
    subst (λ (k : ℕ). Val (get_or (floats_of (q ∷ L)) k 0f) 1 (pos (at L i).0)) (two i) (x-val L (λ r m. s r (Memᴰ.tail m)) i)
  where
    two : (i : ℕ) → suc (suc (2 * i)) ≡ 2 * suc i
    two i = omega arith

y-val : (L : List (ℕ × ℕ)) → Small L → (i : ℕ) → Val (y_at (floats_of L) i) 1 (pos (at L i).1)
unfolding floats_of numbers_of
y-val [] s i = zero_val binary32 1
y-val (q ∷ L) s zero = half-val q.1 (omega (arith, (s q (Memᴰ.head refl)).1))
y-val (q ∷ L) s (suc i) =
    subst (λ (k : ℕ). Val (get_or (floats_of (q ∷ L)) k 0f) 1 (pos (at L i).1)) (two i) (y-val L (λ r m. s r (Memᴰ.tail m)) i)
  where
    two : (i : ℕ) → suc (suc (2 * i + 1)) ≡ 2 * suc i + 1
    two i = omega arith

module _ (L : List (ℕ × ℕ)) (small : Small L) where
  abbrev F : List Float
  F = floats_of L

  abbrev X : ℕ → ℕ
  X i = (at L i).0

  abbrev Y : ℕ → ℕ
  Y i = (at L i).1

  pub vx : (i : ℕ) → Val (x_at F i) 1 (pos (X i))
  vx i = x-val L small i

  pub vy : (i : ℕ) → Val (y_at F i) 1 (pos (Y i))
  vy i = y-val L small i

  pub dx : (i j : ℕ) → nat_abs (pos (X i) -ℤ pos (X j)) ≤ 2048
  dx i j = near 2048 (X i) (X j) (small_at L small i).0 (small_at L small j).0

  pub dy : (i j : ℕ) → nat_abs (pos (Y i) -ℤ pos (Y j)) ≤ 2048
  dy i j = near 2048 (Y i) (Y j) (small_at L small i).1 (small_at L small j).1

  up' : (n : ℕ) → n ≤ 2048 → n ≤ exact_span binary32
  up' n l = omega arith

  pub cross-round : (o a b : ℕ) → Rounds binary32 (cross_at F o a b) 2 (PW.cross (pt_of (at L o)) (pt_of (at L a)) (pt_of (at L b)))
  unfolding cross_at PW.cross pt_of ◌⊕◌ ◌⊗◌ neg
  cross-round o a b = cross-rounds binary32 (vx o) (vy o) (vx a) (vy a) (vx b) (vy b) (up' _ (dx a o)) (up' _ (dy b o)) (up' _ (dy a o))
      (up' _ (dx b o))

  d2-size : (a b : ℕ) → nat_abs (d2_z (pos (X a)) (pos (Y a)) (pos (X b)) (pos (Y b))) ≤ 8388608
  d2-size a b =
      omega (
        arith,
        sum-size ((pos (X a) -ℤ pos (X b)) *ℤ (pos (X a) -ℤ pos (X b))) ((pos (Y a) -ℤ pos (Y b)) *ℤ (pos (Y a) -ℤ pos (Y b))),
        small_product 2048 4194304 (pos (X a) -ℤ pos (X b)) (pos (X a) -ℤ pos (X b)) (lit≤ tt) (dx a b) (dx a b),
        small_product 2048 4194304 (pos (Y a) -ℤ pos (Y b)) (pos (Y a) -ℤ pos (Y b)) (lit≤ tt) (dy a b) (dy a b),
      )

  pub d2-is : (a b : ℕ) → Val (d2_at F a b) 2 (PW.d2 (pt_of (at L a)) (pt_of (at L b)))
  unfolding d2_at PW.d2 pt_of ◌⊕◌ ◌⊗◌ neg
  d2-is a b = d2-val binary32 (vx a) (vy a) (vx b) (vy b) (up' _ (dx a b)) (up' _ (dy a b)) (le_trans (d2-size a b) (lit≤ tt))

  -- ---- the tests
  pub better-is : (c n i : ℕ) → c < length L → n < length L → i < length L → (hull_tests F).better c n i ≡ (whole_tests (pts_of L)).better c n i
  unfolding better_at whole_tests better
  better-is c n i lc ln li =
      let r = rounds-sign binary32 (lit≤ tt) (cross-round c n i) in
      let C : ℤ = PW.cross (pt_of (at L c)) (pt_of (at L n)) (pt_of (at L i)) in
      let e₁ : lt (cross_at F c n i) 0f ≡ is_neg C = r.0 ∙ neg_is C in
      let e₂ : eq (cross_at F c n i) 0f ≡ is_zero C = r.2 ∙ zero_is C in
      let e₃ : lt (d2_at F c n) (d2_at F c i) ≡ is_neg (PW.d2 (pt_of (at L c)) (pt_of (at L n)) ⊕ neg (PW.d2 (pt_of (at L c)) (pt_of (at L i)))) =
      lt_val (d2-is c n) (d2-is c i) ∙ less-is _ _ in
      rw (e₁, e₂, e₃, pt_at_lem L c, pt_at_lem L n, pt_at_lem L i)

  before-is : (a b : ℕ) → a ≤ 2048 → b ≤ 2048 → before (half_of a) (half_of b) ≡ ltb a b
  unfolding half_of
  before-is a b la lb =
      go (half_of a) (half_of b) (exact binary32 false a 1 (omega arith) (lit≤ tt)) (exact binary32 false b 1 (omega arith) (lit≤ tt))
      (lt_val (half-val a (omega arith)) (half-val b (omega arith))) (lt_val (half-val b (omega arith)) (half-val a (omega arith)))
    where
      last : (s t : Bool) (p q : Bool) → t ≡ false → p ≡ ltb a b → q ≡ ltb b a → s ≡ false
          → cond p true (cond q false (s && not t)) ≡ ltb a b
      last s t p q et ep er es = rw (et, ep, er, es) (fin' (ltb a b) (ltb b a))
        where
          fin' : (p q : Bool) → cond p true (cond q false false) ≡ p
          fin' true q = refl
          fin' false true = refl
          fin' false false = refl

      go : (x y : Float) → HasValue x false a (2 ^ 1) → HasValue y false b (2 ^ 1) → lt x y ≡ ltb a b → lt y x ≡ ltb b a
          → before x y ≡ ltb a b
      go nan y h k e f = absurd h
      go (inf s) y h k e f = absurd h
      go (fin s m d) nan h k e f = absurd k
      go (fin s m d) (inf t) h k e f = absurd k
      go (fin s m d) (fin t n g) h k e f =
          unfold before is_nan sign in last s t (lt (fin s m d) (fin t n g)) (lt (fin t n g) (fin s m d)) k.0 e f h.0

  less-nat : (a b : ℕ) → is_neg (pos a ⊕ neg (pos b)) ≡ ltb a b
  less-nat a b = sym (less-is (pos a) (pos b))

  zero-nat : (a b : ℕ) → is_zero (pos a ⊕ neg (pos b)) ≡ eqb a b
  unfolding ◌⊕◌ neg
  zero-nat a b = ap is_zero (pos-sub binary32 a b) ∙ go (ltb a b) refl
    where
      go : (t : Bool) → ltb a b ≡ t → is_zero (cond t (negsuc (b - suc a)) (pos (a - b))) ≡ eqb a b
      go true e = sym (ne_eqb a b (λ z. omega (arith, ltb-true a b e)))
      go false e = here (ltb b a) refl
        where
          here : (t : Bool) → ltb b a ≡ t → is_zero (pos (a - b)) ≡ eqb a b
          here true f = sym (zero_is (pos (a - b))) ∙ ne_eqb (a - b) 0 (λ z. omega (arith, ltb-true b a f))
              ∙ sym (ne_eqb a b (λ z. omega (arith, ltb-true b a f)))
          here false f = sym (zero_is (pos (a - b))) ∙ eq-eqb (a - b) 0 (omega (arith, ltb-false b a f))
              ∙ sym (eq-eqb a b (omega (arith, ltb-false b a f, ltb-false a b e)))

  order-eq : (a b : ℕ) (t : Bool) → (ltb a b || (not (ltb b a) && t)) ≡ (ltb a b || (eqb a b && t))
  order-eq a b t = go (ltb a b) (ltb b a) refl refl
    where
      go : (p q : Bool) → ltb a b ≡ p → ltb b a ≡ q → (p || (not q && t)) ≡ (p || (eqb a b && t))
      go true q e f = refl
      go false true e f = ap (λ (z : Bool). z && t) (sym (ne_eqb a b (λ z. omega (arith, ltb-true b a f))))
      go false false e f = ap (λ (z : Bool). z && t) (sym (eq-eqb a b (omega (arith, ltb-false b a f, ltb-false a b e))))

  pub low-is : (i n : ℕ) → i < length L → n < length L → (hull_tests F).low i n ≡ (whole_tests (pts_of L)).low i n
  unfolding lower_at whole_tests lower pt_of
  low-is i n li ln =
      let si = small_at L small i in
      let sn = small_at L small n in
      rw (
        x-at L i li,
        x-at L n ln,
        y-at L i li,
        y-at L n ln,
        before-is (X i) (X n) si.0 sn.0,
        before-is (X n) (X i) sn.0 si.0,
        before-is (Y i) (Y n) si.1 sn.1,
        pt_at_lem L i,
        pt_at_lem L n,
        less-nat (X i) (X n),
        zero-nat (X i) (X n),
        less-nat (Y i) (Y n),
      ) (order-eq (X i) (X n) (ltb (Y i) (Y n)))

  pub eq_is : (i j : ℕ) → i < length L → j < length L → (hull_tests F).eq i j ≡ (whole_tests (pts_of L)).eq i j
  unfolding same_at whole_tests same_pt pt_of
  eq_is i j li lj =
      rw (eq_val (vx i) (vx j), eq_val (vy i) (vy j), pt_at_lem L i, pt_at_lem L j, zero-nat (X i) (X j), zero-nat (Y i) (Y j))

pub map-pt : (L : List (ℕ × ℕ)) (is : List ℕ) → pts_of (map (λ i. get_or L i (0, 0)) is) ≡ map (pt_at (pts_of L)) is
map-pt L [] = refl
map-pt L (i ∷ is) = ap₂ (λ (p : Pt) (l : List Pt). p ∷ l) (sym (pt_at_lem L i)) (map-pt L is)

pub length-pts : (L : List (ℕ × ℕ)) → length (pts_of L) ≡ length L
length-pts [] = refl
length-pts (q ∷ L) = ap suc (length-pts L)

-- The hull of f32 points is that of whole points.
pub hull-exact : (L : List (ℕ × ℕ)) → Small L → pts_of (hull_points L) ≡ hull (pts_of L)
unfolding hull_points hull_of
hull-exact [] s = unfold hull_with walk_with hull walk in refl
hull-exact (q ∷ L) s =
    let K = q ∷ L in
    map-pt K (hull_with (hull_tests (floats_of K)) (length K))
    ∙ ap (map (pt_at (pts_of K)))
    (hull_with-cong (hull_tests (floats_of K)) (whole_tests (pts_of K)) (length K) (omega arith) (better-is K s) (low-is K s) (eq_is K s))
    ∙ ap (λ (n : ℕ). map (pt_at (pts_of K)) (hull_with (whole_tests (pts_of K)) n)) (sym (length-pts K))
    ∙ hull_with-is (pts_of K)
