-- Laws of the round at which a window's split has settled.
--     same-nan, same_not, same_numbers   the same bits, in the three cases of the code
--     settled-by                         a round has settled where the code's test says so
--     end-two, end-three, end-four       the split and its round at the ends of the code
--     stops                              the split of the settled round is that of four rounds
-- Assumes nothing.
use mathlib.Core.Path.{◌≡◌, refl, sym, ap, ◌∙◌}
use mathlib.Core.Bool.{Bool, true, false, not, cond, ◌&&◌, ◌||◌}
use mathlib.Core.List.{List}
use Prim.Native.Nat.{ℕ, zero, suc}
use lib.Dec.{T, eqb}
use lib.Ieee.{Float, nan, inf, fin, binary32, eq, ne, of_bits, to_bits, fits, is_nan}
use lib.Ieee.Bits.{of_bits-to_bits}
use lib.Ieee.Fits.{div-fits, cond-fits}
use lib.ListN.{length}
use borrow.Author.Tests.{eqb-true, eq-eqb}
use Rattle.laws.proofs.Bools.{clash}
use Rattle.ieee.proofs.Helpers.{ne-nan}
use Rattle.marks.specs.Split.{0·0, split_mean, sides_to, between, split_round, rounds, split_after, split, same_bits, settled_after, round_of, settled_split}
use Rattle.marks.proofs.Splits.{round-next}

-- ---- the same bits
same_by : (a b : Float) (p q r : Bool) → is_nan a ≡ p → is_nan b ≡ q → eqb (to_bits binary32 a) (to_bits binary32 b) ≡ r
    → cond p q (not q && r) ≡ same_bits a b
unfolding same_bits
same_by a b p q r ep eq er = rw (ep, eq, er)

pub same-nan : (a b : Float) → ne a a ≡ true → ne b b ≡ same_bits a b
same-nan a b ea = sym (ne-nan b) ∙ same_by a b true (is_nan b) _ (ne-nan a ∙ ea) refl refl

pub same_not : (a b : Float) → ne a a ≡ false → ne b b ≡ true → false ≡ same_bits a b
same_not a b ea eb = same_by a b false true _ (ne-nan a ∙ ea) (ne-nan b ∙ eb) refl

pub same_numbers : (a b : Float) → ne a a ≡ false → ne b b ≡ false → eqb (to_bits binary32 a) (to_bits binary32 b) ≡ same_bits a b
same_numbers a b ea eb = same_by a b false false _ (ne-nan a ∙ ea) (ne-nan b ∙ eb) refl

nan_is : (a : Float) → is_nan a ≡ true → a ≡ nan
unfolding is_nan
nan_is nan e = refl
nan_is (inf s) e = absurd (clash e refl)
nan_is (fin s m d) e = absurd (clash e refl)

-- two f32 with the same bits are one number, or both a NaN
same-is : (a b : Float) → T (fits binary32 a) → T (fits binary32 b) → same_bits a b ≡ true → a ≡ b
same-is a b f g e = go (is_nan a) (is_nan b) refl refl
  where
    go : (p q : Bool) → is_nan a ≡ p → is_nan b ≡ q → a ≡ b
    go true true ep eq = nan_is a ep ∙ sym (nan_is b eq)
    go true false ep eq = absurd (clash (same_by a b true false _ ep eq refl ∙ e) refl)
    go false true ep eq = absurd (clash (same_by a b false true _ ep eq refl ∙ e) refl)
    go false false ep eq =
        let z = eqb-true (to_bits binary32 a) (to_bits binary32 b)
        (same_by a b false false (eqb (to_bits binary32 a) (to_bits binary32 b)) ep eq refl ∙ e) in
        sym (of_bits-to_bits binary32 a f) ∙ ap (of_bits binary32) z ∙ of_bits-to_bits binary32 b g

same_self : (a : Float) → same_bits a a ≡ true
same_self a = go (is_nan a) refl
  where
    go : (p : Bool) → is_nan a ≡ p → same_bits a a ≡ true
    go true ep = sym (same_by a a true true _ ep ep refl)
    go false ep = sym (same_by a a false false true ep ep (eq-eqb (to_bits binary32 a) (to_bits binary32 a) refl))

module _ (w : List Float) where
  -- ---- every split is an f32, since the mean is a quotient
  after-fits : (k : ℕ) → T (fits binary32 (split_after w k))
  unfolding split_after rounds split_mean split_round between
  after-fits zero = div-fits binary32 _ _
  after-fits (suc k) =
      let t = split_after w k in
      cond-fits binary32 (eq (sides_to t w (length w)).ln 0·0 || eq (sides_to t w (length w)).hn 0·0) t _ (after-fits k) (div-fits binary32 _ _)

  -- ---- a round that has settled
  still : (k : ℕ) {x : Float} → x ≡ split_after w k → x ≡ split_after w (suc k) → settled_after w k ≡ true
  unfolding settled_after
  still k {x} e f = rw (← e, ← f) (same_self x)

  pub settled-by : (k : ℕ) {a b : Float} {s : Bool} → a ≡ split_after w k → b ≡ split_after w (suc k) → s ≡ same_bits b a → s ≡ settled_after w k
  unfolding settled_after
  settled-by k ea eb es = rw (← ea, ← eb) es

  -- it leaves the split, and so does the one after it
  settled-next : (k : ℕ) → settled_after w k ≡ true → split_after w (suc k) ≡ split_after w (suc (suc k))
  unfolding settled_after
  settled-next k e =
      sym (round-next w k refl refl)
      ∙ ap (split_round w) (sym (same-is (split_after w (suc k)) (split_after w k) (after-fits (suc k)) (after-fits k) e))
      ∙ round-next w (suc k) refl refl

  settled-again : (k : ℕ) → settled_after w k ≡ true → settled_after w (suc k) ≡ true
  settled-again k e = still (suc k) refl (settled-next k e)

  -- ---- the ends of the code
  pub end-two : {x : Float} → settled_after w 1 ≡ true → x ≡ split_after w 2 → record { split = x; round = 2 } ≡ settled_split w
  unfolding settled_split round_of
  end-two e ex = rw (e, ex)

  pub end-three : {x : Float} → settled_after w 1 ≡ false → settled_after w 2 ≡ true → x ≡ split_after w 3
      → record { split = x; round = 3 } ≡ settled_split w
  unfolding settled_split round_of
  end-three e f ex = rw (e, f, ex)

  pub end-four : {x : Float} → settled_after w 1 ≡ false → settled_after w 2 ≡ false → x ≡ split_after w 4
      → record { split = x; round = 4 } ≡ settled_split w
  unfolding settled_split round_of
  end-four e f ex = rw (e, f, ex)

  -- ---- four rounds
  pub stops : (settled_split w).split ≡ split w
  unfolding settled_split round_of split split_after
  stops = go (settled_after w 1) (settled_after w 2) refl refl
    where
      go : (p q : Bool) → settled_after w 1 ≡ p → settled_after w 2 ≡ q
          → split_after w (cond (settled_after w 1) 2 (cond (settled_after w 2) 3 4)) ≡ split_after w 4
      go true q e f = rw e (settled-next 1 e ∙ settled-next 2 (settled-again 1 e))
      go false true e f = rw (e, f) (settled-next 2 f)
      go false false e f = rw (e, f)
