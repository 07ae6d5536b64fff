-- The text of a record. The door's answer to what a record says: answer-said. The record's parts: pixels-part, points-part. Its text:
-- text-accepted, text-refused; in its place, filled_is. Assumes nothing.
use mathlib.Core.Path.{◌≡◌, refl, sym, ap, ap₂, ◌∙◌}
use mathlib.Core.List.{List, [], ◌∷◌, ◌++◌}
use Prim.Native.Nat.{ℕ, zero, suc, ◌+◌, ◌-◌, ◌≤◌}
use native.Mathlib.Omega.{arith}
use lib.Ieee.{Float}
use lib.ListN.{length, take, drop, replicate, length-replicate}
use lib.Seq.{take_at}
use Rattle.laws.specs.Lent.{Stored}
use Rattle.laws.proofs.Stores.{stored-laid}
use Rattle.word_bytes.specs.Words.{word_at}
use Rattle.word_bytes.proofs.Places.{front}
use Rattle.text.specs.Text.{line_of, refused_word}
use Rattle.ring.specs.Door.{answer_of}
use Rattle.ring.specs.declared.quads.Trace.{Trace}
use Rattle.laws.specs.Said.{Said}
use Rattle.attempt_text.specs.Attempt.{pixel_count, number_count, check_attempt, record_pixels, floats_at, points_of}
use Rattle.attempt_text.specs.Traced.{answer_text, text_by, text_of, filled}

-- ---- the door's answer
module _ (s gray : List ℕ) (points : List Float) where
  abbrev answer_to : ℕ → ℕ → ℕ → ℕ → ℕ → ℕ → Said Trace
  answer_to w h most a b c = answer_of gray w h points most a b c

  pub answer-said : (z : Said Trace) (w h most a b c : ℕ) → w ≡ word_at s 0 → h ≡ word_at s 4 → most ≡ word_at s 8 → 32770 ≡ a → 32770 ≡ b
      → 32770 ≡ c → z ≡ answer_of gray w h points most a b c
      → z ≡ answer_of gray (word_at s 0) (word_at s 4) points (word_at s 8) 32770 32770 32770
  answer-said z w h most a b c ew eh em ea eb ec e =
      e
      ∙ ap₂ (λ (x y : ℕ). answer_to x y most a b c) ew eh
      ∙ ap₂ (λ (x y : ℕ). answer_to (word_at s 0) (word_at s 4) x y b c) em (sym ea)
      ∙ ap₂ (λ (x y : ℕ). answer_to (word_at s 0) (word_at s 4) (word_at s 8) 32770 x y) (sym eb) (sym ec)

-- ---- the parts
pub pixels-part : (s : List ℕ) (n : ℕ) → n ≡ pixel_count s → take (20 + n - 20) (drop 20 s) ≡ record_pixels s
pixels-part s n e =
    let z : 20 + n - 20 ≡ pixel_count s = omega (arith, e) in
    ap (λ (k : ℕ). take k (drop 20 s)) z

pub points-part : (s : List ℕ) (n m : ℕ) (room last : List Float) → n ≡ pixel_count s → m ≡ number_count s → m ≤ length room
    → m ≡ length last → last ≡ floats_at s (20 + n) (length (take m room)) → take m (last ++ drop m room) ≡ points_of s
points-part s n m room last en em within held is =
    take_at last (drop m room) m (sym held)
    ∙ is
    ∙ ap₂ (λ (i k : ℕ). floats_at s (20 + i) k) en (sym (front m room within) ∙ em)

-- ---- the text
pub text-accepted : (s gray : List ℕ) (points : List Float) → check_attempt s ≡ 0 → gray ≡ record_pixels s → points ≡ points_of s
    → answer_text (answer_of gray (word_at s 0) (word_at s 4) points (word_at s 8) 32770 32770 32770) ≡ text_of s
text-accepted s gray points z eg ep =
    ap₂ (λ (g : List ℕ) (p : List Float). answer_text (answer_of g (word_at s 0) (word_at s 4) p (word_at s 8) 32770 32770 32770)) eg ep
    ∙ given
    ∙ ap (λ (n : ℕ). text_by n s) (sym z)
    ∙ whole
  where
    given : answer_text (answer_of (record_pixels s) (word_at s 0) (word_at s 4) (points_of s) (word_at s 8) 32770 32770 32770) ≡ text_by 0 s
    given = unfold text_by in refl

    whole : text_by (check_attempt s) s ≡ text_of s
    whole = unfold text_of in refl

pub text-refused : (s : List ℕ) (n : ℕ) → n ≡ check_attempt s → (n ≡ 0 → ⊥) → line_of refused_word (n ∷ []) ≡ text_of s
unfolding text_of
text-refused s n e some = refused n some ∙ ap (λ (m : ℕ). text_by m s) e
  where
    refused : (n : ℕ) → (n ≡ 0 → ⊥) → line_of refused_word (n ∷ []) ≡ text_by n s
    refused zero some = absurd (some refl)
    refused (suc n) some = unfold text_by in refl

-- a text that begins 4,096 bytes of zeros
pub filled_is : {r : ℕ} {old new : List ℕ} (u v : List ℕ) → u ≡ v → old ≡ replicate 4096 0 → r ≤ 3360 → Stored 0 u old new r
    → (new ≡ filled v) × ((r ≡ length v) × (r ≤ 4096))
filled_is {r} {old} {new} u v e zeros within w =
    let m : length old ≡ 4096 = ap length zeros ∙ length-replicate {A = ℕ} 4096 0 in
    let n : r ≡ length u = w.next ∙ zero-sum (length u) in (
      stored-laid w (omega (arith, n, m, within))
          ∙ ap₂ (λ (t l : List ℕ). t ++ drop (length t) l) e zeros,
      (n ∙ ap length e, omega arith),
    )
  where
    zero-sum : (n : ℕ) → 0 + n ≡ n
    zero-sum n = omega arith
