-- `<` on `f32` values that are neither NaN nor -0 is a strict total order, infinities included. Here: lt_irrefl and lt-asym (of any
-- values), lt_trans, lt_same, le_trans, le-lt.
--     lt_irrefl, lt-asym, Good, good-fits, good-plain, good_of, lt_trans, lt_same, le_trans, le-lt
-- Assumes nothing.
use mathlib.Core.Path.{◌≡◌, refl, sym, ap, ◌∙◌, subst}
use mathlib.Core.Bool.{Bool, true, false, not, ◌&&◌, true≢false, false≢true}
use Prim.Native.Nat.{ℕ, ◌*◌, ◌≤◌, ◌<◌}
use native.Mathlib.Omega.{arith}
use lib.Dec.{T, ltb, ltb→lt}
use lib.Arith.{le→nltb}
use lib.Ieee.{Float, nan, inf, fin, binary32, lt, fits, up, down, below}
use lib.Ieee.Fits.{and_l, and_r}
use lib.Ieee.Bits.{is_true, is_false}
use Rattle.ieee.proofs.Orders as fx
use Rattle.ieee.specs.Ops.{plain}
use Rattle.medians.specs.Median.{is_bad}

T_of : {b : Bool} → b ≡ true → T b
T_of e = subst T (sym e) tt

ltb_no : (a b : ℕ) → b ≤ a → ltb a b ≡ false
ltb_no a b h = is_false (ltb a b) (le→nltb a b h)

ltb_yes : (a b : ℕ) → ltb a b ≡ true → a < b
ltb_yes a b h = ltb→lt a b (T_of h)

below_irrefl : (s : Bool) (a : ℕ) → below s a s a ≡ false
below_irrefl false a = ltb_no a a (omega arith)
below_irrefl true a = ltb_no a a (omega arith)

below-asym : (s : Bool) (a : ℕ) (t : Bool) (b : ℕ) → below s a t b ≡ true → below t b s a ≡ false
below-asym false a false b h = let z = ltb_yes a b h in ltb_no b a (omega arith)
below-asym false a true b h = absurd (false≢true h)
below-asym true a false b h = refl
below-asym true a true b h = let z = ltb_yes b a h in ltb_no a b (omega arith)

pub lt_irrefl : (x : Float) → lt x x ≡ false
unfolding lt
lt_irrefl nan = refl
lt_irrefl (inf true) = refl
lt_irrefl (inf false) = refl
lt_irrefl (fin s m e) = below_irrefl s (m * up e * down e)

pub lt-asym : (x y : Float) → lt x y ≡ true → lt y x ≡ false
unfolding lt
lt-asym nan y h = absurd (false≢true h)
lt-asym (inf s) nan h = refl
lt-asym (inf true) (inf true) h = refl
lt-asym (inf true) (inf false) h = refl
lt-asym (inf false) (inf t) h = absurd (false≢true h)
lt-asym (inf true) (fin t n d) h = refl
lt-asym (inf false) (fin t n d) h = absurd (false≢true h)
lt-asym (fin s m e) nan h = refl
lt-asym (fin s m e) (inf true) h = absurd (false≢true h)
lt-asym (fin s m e) (inf false) h = refl
lt-asym (fin s m e) (fin t n d) h = below-asym s (m * up e * down d) t (n * up d * down e) h

-- a value that is to be ordered
abbrev pub Good : Float → Type 0
Good x = is_bad x ≡ false

not_back : (b : Bool) → not b ≡ false → T b
not_back true h = tt
not_back false h = absurd (true≢false h)

held : (x : Float) → Good x → T (fits binary32 x && plain x)
unfolding is_bad
held x g = not_back (fits binary32 x && plain x) g

pub good-fits : (x : Float) → Good x → T (fits binary32 x)
good-fits x g = and_l (fits binary32 x) (plain x) (held x g)

pub good-plain : (x : Float) → Good x → T (plain x)
good-plain x g = and_r (fits binary32 x) (plain x) (held x g)

pub good_of : (x : Float) → T (fits binary32 x) → T (plain x) → Good x
unfolding is_bad
good_of x f p = ap not (is_true (fits binary32 x && plain x) (lib.Ieee.Fits.and_i (fits binary32 x) (plain x) f p))

trans-by : (x y z : Float) → T (fits binary32 x) → T (fits binary32 y) → T (fits binary32 z) → T (plain x) → T (plain y) → T (plain z)
    → lt x y ≡ true → lt y z ≡ true → lt x z ≡ true
unfolding lt
trans-by nan y z gx gy gz px py pz h k = absurd px
trans-by (inf false) nan z gx gy gz px py pz h k = absurd py
trans-by (inf false) (inf t) z gx gy gz px py pz h k = absurd (false≢true h)
trans-by (inf false) (fin t n d) z gx gy gz px py pz h k = absurd (false≢true h)
trans-by (inf true) y nan gx gy gz px py pz h k = absurd pz
trans-by (inf true) y (inf false) gx gy gz px py pz h k = refl
trans-by (inf true) nan (inf true) gx gy gz px py pz h k = absurd py
trans-by (inf true) (inf true) (inf true) gx gy gz px py pz h k = absurd (false≢true h)
trans-by (inf true) (inf false) (inf true) gx gy gz px py pz h k = absurd (false≢true k)
trans-by (inf true) (fin t n d) (inf true) gx gy gz px py pz h k = absurd (false≢true k)
trans-by (inf true) y (fin u l c) gx gy gz px py pz h k = refl
trans-by (fin s m e) nan z gx gy gz px py pz h k = absurd py
trans-by (fin s m e) (inf true) z gx gy gz px py pz h k = absurd (false≢true h)
trans-by (fin s m e) (inf false) nan gx gy gz px py pz h k = absurd pz
trans-by (fin s m e) (inf false) (inf u) gx gy gz px py pz h k = absurd (false≢true k)
trans-by (fin s m e) (inf false) (fin u l c) gx gy gz px py pz h k = absurd (false≢true k)
trans-by (fin s m e) (fin t n d) nan gx gy gz px py pz h k = absurd pz
trans-by (fin s m e) (fin t n d) (inf u) gx gy gz px py pz h k = k
trans-by (fin s m e) (fin t n d) (fin u l c) gx gy gz px py pz h k = fx.lt_trans (fin s m e) (fin t n d) (fin u l c) gx gy gz tt tt tt h k

pub lt_trans : (x y z : Float) → Good x → Good y → Good z → lt x y ≡ true → lt y z ≡ true → lt x z ≡ true
lt_trans x y z gx gy gz h k =
    trans-by x y z (good-fits x gx) (good-fits y gy) (good-fits z gz) (good-plain x gx) (good-plain y gy) (good-plain z gz) h k

same_by : (x y : Float) → T (fits binary32 x) → T (fits binary32 y) → T (plain x) → T (plain y) → lt x y ≡ false → lt y x ≡ false → x ≡ y
unfolding lt
same_by nan y gx gy px py h k = absurd px
same_by (inf s) nan gx gy px py h k = absurd py
same_by (inf true) (inf true) gx gy px py h k = refl
same_by (inf true) (inf false) gx gy px py h k = absurd (true≢false h)
same_by (inf false) (inf true) gx gy px py h k = absurd (true≢false k)
same_by (inf false) (inf false) gx gy px py h k = refl
same_by (inf true) (fin t n d) gx gy px py h k = absurd (true≢false h)
same_by (inf false) (fin t n d) gx gy px py h k = absurd (true≢false k)
same_by (fin s m e) nan gx gy px py h k = absurd py
same_by (fin s m e) (inf true) gx gy px py h k = absurd (true≢false k)
same_by (fin s m e) (inf false) gx gy px py h k = absurd (true≢false h)
same_by (fin s m e) (fin t n d) gx gy px py h k = fx.lt_same (fin s m e) (fin t n d) gx gy tt tt px py h k

pub lt_same : (x y : Float) → Good x → Good y → lt x y ≡ false → lt y x ≡ false → x ≡ y
lt_same x y gx gy h k = same_by x y (good-fits x gx) (good-fits y gy) (good-plain x gx) (good-plain y gy) h k

-- x at most y, y at most z
pub le_trans : (x y z : Float) → Good x → Good y → Good z → lt y x ≡ false → lt z y ≡ false → lt z x ≡ false
le_trans x y z gx gy gz h k = go (lt z x) refl
  where
    at_y : (b : Bool) → lt x y ≡ b → lt z x ≡ true → ⊥
    at_y true e q = true≢false (sym (lt_trans z x y gz gx gy q e) ∙ k)
    at_y false e q = true≢false (sym q ∙ ap (lt z) (lt_same x y gx gy e h) ∙ k)

    go : (b : Bool) → lt z x ≡ b → lt z x ≡ false
    go true e = absurd (at_y (lt x y) refl e)
    go false e = e

-- z at most x, x below y
pub le-lt : (z x y : Float) → Good z → Good x → Good y → lt x z ≡ false → lt x y ≡ true → lt z y ≡ true
le-lt z x y gz gx gy h k = go (lt z y) refl
  where
    go : (b : Bool) → lt z y ≡ b → lt z y ≡ true
    go true e = e
    go false e = absurd (true≢false (sym k ∙ le_trans y z x gy gz gx e h))
