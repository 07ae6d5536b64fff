-- The first bytes of a record: kept bytes, pair-kept, four-kept, long_kept; a part, drop-take; the head, head-kept, asked-kept; the record,
-- record-kept, record-room. Assumes nothing.
use mathlib.Core.Path.{◌≡◌, refl, sym, ap, ap₂, ◌∙◌}
use mathlib.Core.Bool.{Bool, true, false, ◌&&◌, cond}
use mathlib.Core.Logic.{◌⊎◌, inl, inr}
use mathlib.Core.List.{List, [], ◌∷◌}
use Prim.Native.Nat.{ℕ, zero, suc, ◌+◌, ◌*◌, ◌≤◌, ◌<◌}
use native.Mathlib.Omega.{arith}
use lib.Dec.{leb, eqb}
use lib.ListN.{length, take, drop, length-take}
use lib.Seq.{get_or-take, take-take}
use borrow.Author.Tests.{le-leb, lt-leb}
use Rattle.laws.proofs.Bools.{le-or-lt}
use Rattle.laws.specs.Check.{or_refuse}
use Rattle.tray.specs.Record.{pair_at, four_at, width_of, height_of, is_tray_side, check_record, is_head, asked}
use Rattle.tray.proofs.Records.{asked-yes, check-yes, check-no, head_of}

-- ---- bytes that are kept
module _ (l : List ℕ) (m : ℕ) where
  pair-kept : (i : ℕ) → i + 2 ≤ m → pair_at (take m l) i ≡ pair_at l i
  pair-kept i within =
      ap₂ (λ (a b : ℕ). a + 256 * b) (get_or-take m l i 0 (omega arith)) (get_or-take m l (i + 1) 0 (omega arith))

  four-kept : (i : ℕ) → i + 4 ≤ m → four_at (take m l) i ≡ four_at l i
  four-kept i within = ap₂ (λ (a b : ℕ). a + 65536 * b) (pair-kept i (omega arith)) (pair-kept (i + 2) (omega arith))

  pub long_kept : (n : ℕ) → n ≤ m → leb n (length (take m l)) ≡ leb n (length l)
  long_kept n within = go (le-or-lt n (length l))
    where
      go : (n ≤ length l) ⊎ (length l < n) → leb n (length (take m l)) ≡ leb n (length l)
      go (inl a) = le-leb n (length (take m l)) (simp length-take (omega arith)) ∙ sym (le-leb n (length l) a)
      go (inr a) = lt-leb n (length (take m l)) (simp length-take (omega arith)) ∙ sym (lt-leb n (length l) a)

pub drop-take : (k n m : ℕ) (l : List ℕ) → m ≡ k + n → take n (drop k (take m l)) ≡ take n (drop k l)
drop-take zero n m l e = take-take n m l (omega (arith, e))
drop-take (suc k) n zero l e = absurd (omega (arith, e))
drop-take (suc k) n (suc m) [] e = refl
drop-take (suc k) n (suc m) (x ∷ l) e = drop-take k n m l (omega (arith, e))

-- ---- the head
abbrev head_by : Bool → ℕ → ℕ → ℕ → ℕ → Bool
head_by b kind w h long = b && (eqb kind 1 && (is_tray_side w && (is_tray_side h && eqb long (6 + w * h))))

module _ (l : List ℕ) (m : ℕ) (ten : 10 ≤ m) where
  pub wide-kept : width_of (take m l) ≡ width_of l
  wide-kept = pair-kept l m 6 (omega arith)

  pub high-kept : height_of (take m l) ≡ height_of l
  high-kept = pair-kept l m 8 (omega arith)

  pub area-kept : width_of (take m l) * height_of (take m l) ≡ width_of l * height_of l
  area-kept = ap₂ (λ (a b : ℕ). a * b) wide-kept high-kept

  head-kept : is_head (take m l) ≡ is_head l
  head-kept =
      ap₂ (λ (b : Bool) (kind : ℕ). head_by b kind (width_of (take m l)) (height_of (take m l)) (four_at (take m l) 0))
      (long_kept l m 10 ten) (pair-kept l m 4 (omega arith))
      ∙ ap₂ (λ (w h : ℕ). head_by (leb 10 (length l)) (pair_at l 4) w h (four_at (take m l) 0)) wide-kept high-kept
      ∙ ap (λ (long : ℕ). head_by (leb 10 (length l)) (pair_at l 4) (width_of l) (height_of l) long) (four-kept l m 0 (omega arith))

  pub asked-kept : asked (take m l) ≡ asked l
  asked-kept = ap₂ (λ (b : Bool) (n : ℕ). cond b n 0) head-kept area-kept

-- ---- the record
abbrev head_room : List ℕ → ℕ
head_room l = 10 + asked (take 10 l)

room-yes : (l : List ℕ) → is_head l ≡ true → head_room l ≡ 10 + width_of l * height_of l
room-yes l good = ap (λ (n : ℕ). 10 + n) (asked-kept l 10 (omega arith) ∙ asked-yes l good)

pub record-kept : (l : List ℕ) → check_record (take (head_room l) l) ≡ check_record l
record-kept l = go (is_head l) refl
  where
    m : ℕ
    m = head_room l

    ten : 10 ≤ m
    ten = omega arith

    go : (b : Bool) → is_head l ≡ b → check_record (take m l) ≡ check_record l
    go false bad = check-no (take m l) (head-kept l m ten ∙ bad) ∙ sym (check-no l bad)
    go true good =
        check-yes (take m l) (head-kept l m ten ∙ good)
        ∙ ap (λ (n : ℕ). or_refuse (leb (10 + n) (length (take m l))) 13 0) (area-kept l m ten)
        ∙ ap (λ (b : Bool). or_refuse b 13 0) (long_kept l m (10 + width_of l * height_of l) (omega (arith, room-yes l good)))
        ∙ sym (check-yes l good)

pub record-room : (l : List ℕ) → check_record l ≡ 0 → head_room l ≡ 10 + width_of l * height_of l
record-room l e = room-yes l (head_of l e)
