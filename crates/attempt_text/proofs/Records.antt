-- The record's checks one by one: refuse-short, refuse-many, refuse-pixels, refuse-numbers, check-passes; what an accepted record has:
-- Accepted, accepted. Its numbers: read-begin, read-turn, read-end. Assumes nothing.
use mathlib.Core.Path.{◌≡◌, sym, ap, ◌∙◌}
use mathlib.Core.List.{List, [], ◌∷◌, ◌++◌, append-nil}
use Prim.Native.Nat.{ℕ, ◌+◌, ◌*◌, ◌≤◌, ◌<◌}
use native.Mathlib.Omega.{arith}
use borrow.Author.Tests.{leb-true, le-leb, lt-leb}
use lib.Dec.{leb}
use lib.Ieee.{Float, binary32, of_bits}
use lib.ListN.{length, set, drop_of_length-le}
use Rattle.laws.specs.Fold.{joined}
use Rattle.laws.specs.Lent.{Stored}
use Rattle.laws.proofs.Joined.{joined-more}
use Rattle.laws.proofs.Stores.{stored-none, stored_one, stored-append, stored-ext, stored-laid}
use Rattle.picture_checks.proofs.Checked.{check-step}
use Rattle.word_bytes.specs.Words.{word_at}
use Rattle.attempt_text.specs.Attempt.{pixel_count, number_count, check_attempt, floats_at}

-- ---- the checks
module _ (s : List ℕ) where
  pub refuse-short : length s < 20 → 13 ≡ check_attempt s
  refuse-short l = rw (lt-leb 20 (length s) l)

  module _ (long : 20 ≤ length s) where
    pub refuse-many : 1048576 < pixel_count s → 13 ≡ check_attempt s
    refuse-many l = rw (le-leb 20 (length s) long, lt-leb (pixel_count s) 1048576 l)

    module _ (few : pixel_count s ≤ 1048576) where
      pub refuse-pixels : length s < 20 + pixel_count s → 13 ≡ check_attempt s
      refuse-pixels l =
          rw (le-leb 20 (length s) long, le-leb (pixel_count s) 1048576 few, lt-leb (20 + pixel_count s) (length s) l)

      module _ (there : 20 + pixel_count s ≤ length s) where
        pub refuse-numbers : length s < 20 + pixel_count s + 4 * number_count s → 13 ≡ check_attempt s
        refuse-numbers l =
            rw (
              le-leb 20 (length s) long,
              le-leb (pixel_count s) 1048576 few,
              le-leb (20 + pixel_count s) (length s) there,
              lt-leb (20 + pixel_count s + 4 * number_count s) (length s) l,
            )

        pub check-passes : 20 + pixel_count s + 4 * number_count s ≤ length s → 0 ≡ check_attempt s
        check-passes l =
            rw (
              le-leb 20 (length s) long,
              le-leb (pixel_count s) 1048576 few,
              le-leb (20 + pixel_count s) (length s) there,
              le-leb (20 + pixel_count s + 4 * number_count s) (length s) l,
            )

-- ---- an accepted record
pub record Accepted (s : List ℕ) : Type 0 where
  pub few : pixel_count s ≤ 1048576
  pub there : 20 + pixel_count s ≤ length s

pub accepted : (s : List ℕ) → check_attempt s ≡ 0 → Accepted s
accepted s e =
    let a = check-step (leb 20 (length s)) 13 _ (lib.Dec.lit< tt) e in
    let b = check-step (leb (pixel_count s) 1048576) 13 _ (lib.Dec.lit< tt) a.1 in
    let c = check-step (leb (20 + pixel_count s) (length s)) 13 _ (lib.Dec.lit< tt) b.1 in
    record { few = leb-true _ _ b.0; there = leb-true _ _ c.0 }

-- ---- the numbers, read one by one
module _ (s : List ℕ) (from : ℕ) where
  pub read-begin : (l : List Float) → Stored 0 (floats_at s from 0) l l 0
  unfolding floats_at joined
  read-begin l = stored-none 0 l

  pub read-turn : {l l' : List Float} (k word : ℕ) (x : Float) → word ≡ word_at s (from + 4 * k) → x ≡ of_bits binary32 word
      → Stored 0 (floats_at s from k) l l' k → Stored 0 (floats_at s from (k + 1)) l (set l' k x) (k + 1)
  unfolding floats_at
  read-turn {l} {l'} k word x same is v =
      stored-ext (floats_at s from k ++ (x ∷ [])) (floats_at s from (k + 1))
      (ap (λ (y : Float). floats_at s from k ++ (y ∷ [])) (is ∙ ap (of_bits binary32) same)
      ∙ sym (joined-more k (λ i. of_bits binary32 (word_at s (from + 4 * i)) ∷ [])))
      (stored-append v (stored_one k x l'))

  pub read-end : {l l' : List Float} (k : ℕ) → length l ≤ k → k ≤ length l → Stored 0 (floats_at s from k) l l' k
      → l' ≡ floats_at s from (length l)
  read-end {l} {l'} k all within v =
      let z : k ≡ length l = omega arith in
      let n : length (floats_at s from k) ≡ length l = omega (arith, v.next) in
      stored-laid v (omega (arith, n))
      ∙ ap (λ (t : List Float). floats_at s from k ++ t) (drop_of_length-le l {i = length (floats_at s from k)} (omega (arith, n)))
      ∙ append-nil (floats_at s from k)
      ∙ ap (floats_at s from) z
