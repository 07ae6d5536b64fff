-- Points stored in the lent list. Lists of points: row-two, column-two, found-two, rows-le, columns-le. Numbers: numbers-append,
-- floats-append, length-floats. Stores: wrote_none, wrote-append, wrote-ext, wrote-two, wrote-length, wrote-next, wrote-laid; put-begin,
-- put-more, room-more; strip-begin, strip-more, room-strip; half_is. Assumes nothing.
use mathlib.Core.Path.{◌≡◌, refl, sym, ap, ◌∙◌, subst}
use mathlib.Core.Bool.{Bool, true, false, cond}
use mathlib.Core.List.{List, [], ◌∷◌, ◌++◌, map}
use Prim.Native.Nat.{ℕ, suc, ◌+◌, ◌-◌, ◌*◌, ◌≤◌, ◌<◌}
use native.Mathlib.Nat.{add_assoc, mul-one}
use native.Mathlib.Omega.{arith}
use lib.Dec.{leb, ltb}
use lib.ListN.{length, set}
use lib.IntN.{pos}
use lib.Ieee.{Float, binary32, round, mul, of_int, of_bits}
use lib.Ieee.Back.{round_whole}
use lib.Ieee.Exact.{HasValue}
use Rattle.hull.proofs.Floats.{length-floats, numbers-append}
use Rattle.laws.proofs.Stores.{map-append, stored-none, stored-append, stored-ext, stored-length, stored-laid}
use Rattle.ieee.proofs.Vals.{mul-round}
use Rattle.laws.specs.Lent.{laid}
use Rattle.hull.specs.Points.{half_of, numbers_of, floats_of}
use Rattle.laws.proofs.Joined.{joined-more, joined-add, joined-ext, joined-le}
use Rattle.boundary.specs.Runs.{run_start, edges}
use Rattle.boundary.specs.Boundary.{row_points, column_points, rows_from, columns_from}
use Rattle.laws.specs.Fold.{joined}
use Rattle.outline.specs.Inner.{column_found, Wrote}

-- ---- a line has two points or none
two-le : (b : Bool) (p q : ℕ) (f : ℕ → ℕ × ℕ) → length (map f (cond b (p ∷ q ∷ []) [])) ≤ 2
two-le true p q f = omega arith
two-le false p q f = omega arith

pub row-two : (k : ℕ) (t : ℕ → ℕ → Bool) (x0 n y : ℕ) → length (row_points k t x0 n y) ≤ 2
unfolding row_points edges
row-two k t x0 n y = two-le (ltb (run_start k n (λ i. t (x0 + i) y)) n) _ _ _

pub column-two : (k : ℕ) (t : ℕ → ℕ → Bool) (y0 n x : ℕ) → length (column_points k t y0 n x) ≤ 2
unfolding column_points edges
column-two k t y0 n x = two-le (ltb (run_start k n (λ j. t x (y0 + j))) n) _ _ _

pub found-two : (run y0 n x d u : ℕ) → length (column_found run y0 n x d u) ≤ 2
unfolding column_found
found-two run y0 n x d u = go (leb run d)
  where
    go : (b : Bool) → length {A = ℕ × ℕ} (cond b ((2 * x + 1, 2 * (y0 + (d - run))) ∷ (2 * x + 1, 2 * (y0 + (n + run - u))) ∷ []) []) ≤ 2
    go true = omega arith
    go false = omega arith

pub rows-le : (k : ℕ) (t : ℕ → ℕ → Bool) (x0 n y0 m : ℕ) → length (rows_from k t x0 n y0 m) ≤ 2 * m
unfolding rows_from
rows-le k t x0 n y0 m = joined-le 2 m (λ j. row_points k t x0 n (y0 + j)) (λ j. row-two k t x0 n (y0 + j))

pub columns-le : (k : ℕ) (t : ℕ → ℕ → Bool) (y0 n x0 m : ℕ) → length (columns_from k t y0 n x0 m) ≤ 2 * m
unfolding columns_from
columns-le k t y0 n x0 m = joined-le 2 m (λ i. column_points k t y0 n (x0 + i)) (λ i. column-two k t y0 n (x0 + i))

-- ---- numbers of points
pub floats-append : (l m : List (ℕ × ℕ)) → floats_of (l ++ m) ≡ floats_of l ++ floats_of m
unfolding floats_of
floats-append l m = ap (map half_of) (numbers-append l m) ∙ map-append half_of (numbers_of l) (numbers_of m)

-- ---- stores
pub wrote_none : (at : ℕ) (l : List Float) → Wrote at [] l l at
unfolding floats_of numbers_of
wrote_none at l = record { stored = stored-none at l }

pub wrote-append : {at : ℕ} {us vs : List (ℕ × ℕ)} {l l' l'' : List Float} {r r' : ℕ} → Wrote at us l l' r → Wrote r vs l' l'' r'
    → Wrote at (us ++ vs) l l'' r'
wrote-append {at} {us} {vs} v w = record {
  stored = stored-ext (floats_of us ++ floats_of vs) (floats_of (us ++ vs)) (sym (floats-append us vs))
      (stored-append v.stored w.stored);
}

pub wrote-ext : {at : ℕ} {l l' : List Float} {r : ℕ} (us vs : List (ℕ × ℕ)) → us ≡ vs → Wrote at us l l' r → Wrote at vs l l' r
wrote-ext {at} {l} {l'} {r} us vs e w = subst (λ (q : List (ℕ × ℕ)). Wrote at q l l' r) e w

pub wrote-two : (at a b c d : ℕ) (l : List Float) {p q r s : Float} → p ≡ half_of a → q ≡ half_of b → r ≡ half_of c → s ≡ half_of d
    → Wrote at ((a, b) ∷ (c, d) ∷ []) l (set (set (set (set l at p) (at + 1) q) (at + 2) r) (at + 3) s) (at + 4)
unfolding floats_of numbers_of
wrote-two at a b c d l hp hq hr hs =
    let e1 : at + 1 ≡ suc at = omega arith in
    let e2 : at + 2 ≡ suc (suc at) = omega arith in
    let e3 : at + 3 ≡ suc (suc (suc at)) = omega arith in
    record { stored = record { list = rw (e1, e2, e3, hp, hq, hr, hs); next = refl } }

pub wrote-length : {at : ℕ} {ps : List (ℕ × ℕ)} {l l' : List Float} {r : ℕ} → Wrote at ps l l' r → length l' ≡ length l
wrote-length w = stored-length w.stored

-- the place after the points
pub wrote-next : {at : ℕ} {ps : List (ℕ × ℕ)} {l l' : List Float} {r : ℕ} → Wrote at ps l l' r → r ≡ at + 2 * length ps
wrote-next {at} {ps} w = w.stored.next ∙ ap (λ (k : ℕ). at + k) (length-floats ps)

pub wrote-laid : {ps : List (ℕ × ℕ)} {l l' : List Float} {r : ℕ} → Wrote 0 ps l l' r → 2 * length ps ≤ length l → l' ≡ laid (floats_of ps) l
wrote-laid {ps} {l} w fit = stored-laid w.stored (rw (length-floats ps) fit)

-- ---- line by line
module _ (f : ℕ → List (ℕ × ℕ)) where
  pub put-begin : (at : ℕ) (l : List Float) → Wrote at (joined 0 f) l l at
  unfolding joined
  put-begin at l = wrote_none at l

  pub put-more : {l l' l'' : List Float} {at r r' : ℕ} (n : ℕ) → Wrote at (joined n f) l l' r → Wrote r (f n) l' l'' r'
      → Wrote at (joined (n + 1) f) l l'' r'
  put-more n v w = wrote-ext (joined n f ++ f n) (joined (n + 1) f) (sym (joined-more n f)) (wrote-append v w)

  -- room for a line more, where a line has two points or none
  pub room-more : {l l' : List Float} {at r : ℕ} (i n : ℕ) → ((j : ℕ) → length (f j) ≤ 2) → Wrote at (joined i f) l l' r → i < n
      → at + 4 * n ≤ length l → r + 4 ≤ length l'
  room-more i n few w h room = omega (arith, wrote-next w, joined-le 2 i f few, wrote-length w)

-- strip by strip
module _ (run : ℕ) (t : ℕ → ℕ → Bool) (y0 rows x0 : ℕ) where
  pub strip-begin : (at : ℕ) (l : List Float) → Wrote at (columns_from run t y0 rows x0 0) l l at
  unfolding columns_from
  strip-begin at l = put-begin (λ i. column_points run t y0 rows (x0 + i)) at l

  pub strip-more : {l l' l'' : List Float} {at r r' : ℕ} (n m : ℕ) → Wrote at (columns_from run t y0 rows x0 n) l l' r
      → Wrote r (columns_from run t y0 rows (x0 + n) m) l' l'' r' → Wrote at (columns_from run t y0 rows x0 (n + m)) l l'' r'
  strip-more n m v w =
      wrote-ext (columns_from run t y0 rows x0 n ++ columns_from run t y0 rows (x0 + n) m) (columns_from run t y0 rows x0 (n + m)) same
      (wrote-append v w)
    where
      same : columns_from run t y0 rows x0 n ++ columns_from run t y0 rows (x0 + n) m ≡ columns_from run t y0 rows x0 (n + m)
      same =
          unfold columns_from in
          ap (λ (l : List (ℕ × ℕ)). joined n (λ i. column_points run t y0 rows (x0 + i)) ++ l)
          (joined-ext m (λ i. column_points run t y0 rows (x0 + n + i)) (λ i. column_points run t y0 rows (x0 + (n + i)))
          (λ i l. ap (column_points run t y0 rows) (add_assoc x0 n i)))
          ∙ sym (joined-add n m (λ i. column_points run t y0 rows (x0 + i)))

  -- room for m columns more
  pub room-strip : {l l' : List Float} {at r : ℕ} (i m n : ℕ) → Wrote at (columns_from run t y0 rows x0 i) l l' r → i + m ≤ n
      → at + 4 * n ≤ length l
      → r + 4 * m ≤ length l'
  room-strip i m n w h room = omega (arith, wrote-next w, columns-le run t y0 rows x0 i, wrote-length w)

-- ---- halves
pub half_is : (n : ℕ) → n ≤ 16384 → mul binary32 (of_int binary32 (pos n)) (of_bits binary32 0x3f00_0000) ≡ half_of n
unfolding half_of of_int of_bits
half_is n h =
    mul-round binary32 (of_int binary32 (pos n)) (of_bits binary32 0x3f00_0000) false false n 1 1 2 (omega arith) (omega arith)
    (round_whole binary32 false n (wide n h)) half
    ∙ ap (λ (k : ℕ). round binary32 false k 2) (mul-one n)
  where
    half : HasValue (of_bits binary32 0x3f00_0000) false 1 2
    half = unfold of_bits in (refl, refl)

    wide : (n : ℕ) → n ≤ 16384 → n ≤ 16777216
    wide n h = omega arith
