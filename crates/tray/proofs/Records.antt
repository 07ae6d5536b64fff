-- Laws of the record. Its head check by check: side-in, side-of, none-short to asked-all; small-area, area_small. The record by its head:
-- check-by, head-length, asked-yes, check-yes, asked-no, check-no, head_of, refuse-head, refuse-cut, check-whole. What an accepted
-- record is: Accepted with accepted. Its answer: refused-record, found-record. Assumes nothing.
use mathlib.Core.Path.{◌≡◌, refl, sym, ap, ap₂, ◌∙◌}
use mathlib.Core.Bool.{Bool, true, false, ◌&&◌, cond}
use mathlib.Core.List.{List}
use Prim.Native.Nat.{ℕ, ◌+◌, ◌*◌, ◌≤◌, ◌<◌}
use native.Mathlib.Nat.{mul-le-mul}
use native.Mathlib.Omega.{arith}
use lib.Dec.{leb, eqb}
use lib.ListN.{length}
use borrow.Author.Tests.{leb-true, eqb-true, le-leb, lt-leb, eq-eqb, ne_eqb}
use Rattle.laws.specs.Check.{or_refuse}
use Rattle.laws.proofs.Bools.{and_left, and_right}
use Rattle.picture_checks.proofs.Checked.{check-step}
use Rattle.pgm.specs.Doors.{image, found}
use Rattle.laws.specs.Said.{give, refuse}
use Rattle.pgm.proofs.Gates.{refused-is}
use Rattle.tray.specs.Record.{pair_at, four_at, width_of, height_of, is_tray_side, check_record, is_head, asked}

pub side-in : (n : ℕ) → is_tray_side n ≡ true → (1 ≤ n) × (n ≤ 160)
side-in n e = (leb-true 1 n (and_left (leb 1 n) (leb n 160) e), leb-true n 160 (and_right (leb 1 n) (leb n 160) e))

-- a side that the code read, and its check
pub side-of : {n m : ℕ} {b : Bool} → n ≡ m → b ≡ is_tray_side n → is_tray_side m ≡ b
side-of {n} {m} {b} e f = ap (λ (k : ℕ). is_tray_side k) (sym e) ∙ sym f

-- ---- a head, check by check
module _ (s : List ℕ) where
  pub none-short : length s < 10 → 0 ≡ asked s
  none-short l = rw (lt-leb 10 (length s) l)

  module _ (a : 10 ≤ length s) where
    pub none-kind : (pair_at s 4 ≡ 1 → ⊥) → 0 ≡ asked s
    none-kind k = rw (le-leb 10 (length s) a, ne_eqb (pair_at s 4) 1 k)

    module _ (k : pair_at s 4 ≡ 1) where
      pub none-wide : is_tray_side (width_of s) ≡ false → 0 ≡ asked s
      none-wide e = rw (le-leb 10 (length s) a, eq-eqb (pair_at s 4) 1 k, e)

      module _ (w : is_tray_side (width_of s) ≡ true) where
        pub none-high : is_tray_side (height_of s) ≡ false → 0 ≡ asked s
        none-high e = rw (le-leb 10 (length s) a, eq-eqb (pair_at s 4) 1 k, w, e)

        module _ (h : is_tray_side (height_of s) ≡ true) where
          pub none-long : (four_at s 0 ≡ 6 + width_of s * height_of s → ⊥) → 0 ≡ asked s
          none-long n =
              rw (le-leb 10 (length s) a, eq-eqb (pair_at s 4) 1 k, w, h, ne_eqb (four_at s 0) (6 + width_of s * height_of s) n)

          pub asked-all : four_at s 0 ≡ 6 + width_of s * height_of s → width_of s * height_of s ≡ asked s
          asked-all e =
              rw (le-leb 10 (length s) a, eq-eqb (pair_at s 4) 1 k, w, h, eq-eqb (four_at s 0) (6 + width_of s * height_of s) e)

-- ---- a record by its head
chain : (a b c d e : Bool) (rest : ℕ) → or_refuse a 13 (or_refuse b 13 (or_refuse c 13 (or_refuse d 13 (or_refuse e 13 rest))))
    ≡ cond (a && (b && (c && (d && e)))) rest 13
chain false b c d e rest = refl
chain true false c d e rest = refl
chain true true false d e rest = refl
chain true true true false e rest = refl
chain true true true true false rest = refl
chain true true true true true rest = refl

module _ (s : List ℕ) where
  abbrev area : ℕ
  area = width_of s * height_of s

  pub check-by : check_record s ≡ cond (is_head s) (or_refuse (leb (10 + area) (length s)) 13 0) 13
  check-by =
      chain (leb 10 (length s)) (eqb (pair_at s 4) 1) (is_tray_side (width_of s)) (is_tray_side (height_of s)) (eqb (four_at s 0) (6 + area))
      (or_refuse (leb (10 + area) (length s)) 13 0)

  -- what a head that passes has
  module _ (good : is_head s ≡ true) where
    sides : (is_tray_side (width_of s) ≡ true) × (is_tray_side (height_of s) ≡ true) × (eqb (four_at s 0) (6 + area) ≡ true)
    sides =
        let k = and_right (leb 10 (length s)) _ good in
        let w = and_right (eqb (pair_at s 4) 1) _ k in
        let h = and_right (is_tray_side (width_of s)) _ w in
        (and_left (is_tray_side (width_of s)) _ w, and_left (is_tray_side (height_of s)) _ h, and_right (is_tray_side (height_of s)) _ h)

    pub head-length : four_at s 0 ≡ 6 + area
    head-length = eqb-true (four_at s 0) (6 + area) sides.2

    head-some : 1 ≤ area
    head-some =
        mul-le-mul {n₁ = 1} {m₁ = 1} {n₂ = width_of s} {m₂ = height_of s} (side-in (width_of s) sides.0).0
        (side-in (height_of s) sides.1).0

    pub asked-yes : asked s ≡ area
    asked-yes = ap (λ (b : Bool). cond b area 0) good

    pub check-yes : check_record s ≡ or_refuse (leb (10 + area) (length s)) 13 0
    check-yes = check-by ∙ ap (λ (b : Bool). cond b (or_refuse (leb (10 + area) (length s)) 13 0) 13) good

  module _ (bad : is_head s ≡ false) where
    pub asked-no : asked s ≡ 0
    asked-no = ap (λ (b : Bool). cond b area 0) bad

    pub check-no : check_record s ≡ 13
    check-no = check-by ∙ ap (λ (b : Bool). cond b (or_refuse (leb (10 + area) (length s)) 13 0) 13) bad

  -- an accepted record has a head that passes
  pub head_of : check_record s ≡ 0 → is_head s ≡ true
  head_of z = go (is_head s) refl
    where
      go : (b : Bool) → is_head s ≡ b → is_head s ≡ true
      go true y = y
      go false y = absurd (omega (arith, z, check-no y))

  -- the three ways of the record's check, by how many pixels its head asks for
  pub refuse-head : (n : ℕ) → n ≡ asked s → n ≡ 0 → 13 ≡ check_record s
  refuse-head n e z = go (is_head s) refl
    where
      go : (b : Bool) → is_head s ≡ b → 13 ≡ check_record s
      go true y = absurd (omega (arith, e, z, asked-yes y, head-some y))
      go false y = sym (check-no y)

  module _ (n : ℕ) (e : n ≡ asked s) (some : n ≡ 0 → ⊥) where
    passes : is_head s ≡ true
    passes = go (is_head s) refl
      where
        go : (b : Bool) → is_head s ≡ b → is_head s ≡ true
        go true y = y
        go false y = absurd (some (e ∙ asked-no y))

    pixels-all : n ≡ area
    pixels-all = e ∙ asked-yes passes

    pub refuse-cut : length s < 10 + n → 13 ≡ check_record s
    refuse-cut l =
        sym (check-yes passes ∙ ap (λ (b : Bool). or_refuse b 13 0) (lt-leb (10 + area) (length s) (omega (arith, pixels-all))))

    pub check-whole : 10 + n ≤ length s → 0 ≡ check_record s
    check-whole l =
        sym (check-yes passes ∙ ap (λ (b : Bool). or_refuse b 13 0) (le-leb (10 + area) (length s) (omega (arith, pixels-all))))

-- ---- an accepted record
pub record Accepted (s : List ℕ) : Type 0 where
  pub some_wide : 1 ≤ width_of s
  pub wide : width_of s ≤ 160
  pub some_high : 1 ≤ height_of s
  pub high : height_of s ≤ 160
  pub long : 10 + width_of s * height_of s ≤ length s

pub accepted : (s : List ℕ) → check_record s ≡ 0 → Accepted s
accepted s e =
    let a = check-step (leb 10 (length s)) 13 _ (lib.Dec.lit< tt) e in
    let b = check-step (eqb (pair_at s 4) 1) 13 _ (lib.Dec.lit< tt) a.1 in
    let c = check-step (is_tray_side (width_of s)) 13 _ (lib.Dec.lit< tt) b.1 in
    let d = check-step (is_tray_side (height_of s)) 13 _ (lib.Dec.lit< tt) c.1 in
    let f = check-step (eqb (four_at s 0) (6 + width_of s * height_of s)) 13 _ (lib.Dec.lit< tt) d.1 in
    let g = check-step (leb (10 + width_of s * height_of s) (length s)) 13 0 (lib.Dec.lit< tt) f.1 in
    record {
      some_wide = (side-in (width_of s) c.0).0;
      wide = (side-in (width_of s) c.0).1;
      some_high = (side-in (height_of s) d.0).0;
      high = (side-in (height_of s) d.0).1;
      long = leb-true _ _ g.0;
    }

pub small-area : (w h : ℕ) → w ≤ 160 → h ≤ 160 → w * h ≤ 25600
small-area w h a b = mul-le-mul {n₁ = w} {m₁ = h} {n₂ = 160} {m₂ = 160} a b

pub area_small : (w h : ℕ) {a b : Bool} → a ≡ is_tray_side w → a ≡ true → b ≡ is_tray_side h → b ≡ true → w * h ≤ 25600
area_small w h e x f y = small-area w h (side-in w (sym e ∙ x)).1 (side-in h (sym f ∙ y)).1

-- ---- its answer
pub refused-record : (s : List ℕ) (n : ℕ) → n ≡ check_record s → (n ≡ 0 → ⊥) → refuse n ≡ found (check_record s) (width_of s) (height_of s) 10
refused-record s n e off = refused-is n (width_of s) (height_of s) 10 off ∙ ap (λ (k : ℕ). found k (width_of s) (height_of s) 10) e

pub found-record : (s : List ℕ) {w h : ℕ} → check_record s ≡ 0 → w ≡ width_of s → h ≡ height_of s
    → give (image w h 10) ≡ found (check_record s) (width_of s) (height_of s) 10
found-record s {w} {h} e x y = ap₂ (λ (a b : ℕ). give (image a b 10)) x y ∙ unfold found in rw e
