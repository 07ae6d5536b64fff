-- A written picture reads back, a file is rewritten once, bytes after the pixels do not matter: the claims reads-back, rewritten-once and
-- pixels-last.
--     reads-back, rewritten-once, pixels-last
-- Assumes nothing.
use mathlib.Core.Path.{◌≡◌, refl, ap, ◌∙◌}
use mathlib.Core.Bool.{true}
use mathlib.Core.List.{List, ◌++◌}
use Prim.Native.Nat.{ℕ, suc, ◌+◌, ◌*◌}
use native.Mathlib.Nat.{le_refl}
use native.Mathlib.Omega.{arith}
use lib.Dec.{eqb, lit<, lit≤}
use lib.ListN.{length, take, drop}
use lib.Seq.{take_all, drop_at}
use borrow.Author.Tests.{le-leb, eq-eqb, eqb-true}
use Rattle.picture_checks.specs.Picture.{is_side}
use Rattle.picture_checks.proofs.Checked.{check-step, side-in}
use Rattle.pgm.specs.Form.{has_form, file_width, file_height, file_maximum, file_start}
use Rattle.text.specs.Text.{decimal}
use Rattle.pgm.specs.Doors.{file_pixels, header_text, file_text, check_write, file_after, rewritten}
use Rattle.pgm.specs.Claims.{Holds, ReadsBack, RewrittenOnce, Rewritten, PixelsLast}
use Rattle.pgm.proofs.Longer.{header-append}
use Rattle.pgm.proofs.Accepted.{Accepted, accepted, answered, accepted-pixels, accepted-append, same_answer, same-pixels}
use Rattle.pgm.proofs.Back.{text-is, file-form, file-width, file-height, file-maximum, file-start}
use Rattle.pgm.proofs.Numbers.{size-three, size_few}
use Rattle.pgm.proofs.Writes.{header-length, text-length}

-- ---- a written picture
module _ (w h : ℕ) (s : List ℕ) where
  text-width : file_width (file_text w h s) ≡ w
  text-width = ap file_width (text-is w h s) ∙ file-width w h s

  text-height : file_height (file_text w h s) ≡ h
  text-height = ap file_height (text-is w h s) ∙ file-height w h s

  text-start : file_start (file_text w h s) ≡ length (header_text w h)
  text-start =
      ap file_start (text-is w h s) ∙ file-start w h s
      ∙ count (length (decimal w)) (length (decimal h)) (length (decimal 255)) (size-three 255 (lit≤ tt) (lit< tt)) (length (header_text w
      h))
      (header-length w h)
    where
      count : (a b c : ℕ) → c ≡ 3 → (n : ℕ) → n ≡ 9 + a + b → suc (2 + (1 + a) + (1 + b) + (1 + c)) ≡ n
      count a b c e n f = omega arith

  module _ (wide : is_side w ≡ true) (high : is_side h ≡ true) (count : length s ≡ w * h) where
    text-accepted : Accepted (file_text w h s)
    text-accepted =
        let sw = side-in w wide in
        let sh = side-in h high in
        let dw = size_few w (omega arith) in
        let dh = size_few h (omega arith) in
        record {
          has = ap has_form (text-is w h s) ∙ file-form w h s;
          near = le-leb (file_start (file_text w h s)) 4096 (omega (arith, text-start, header-length w h));
          maximum = eq-eqb (file_maximum (file_text w h s)) 255 (ap file_maximum (text-is w h s) ∙ file-maximum w h s);
          wide = ap (λ (n : ℕ). is_side n) text-width ∙ wide;
          high = ap (λ (n : ℕ). is_side n) text-height ∙ high;
          enough = rw (text-start, text-width, text-height, text-length w h s, count) (le_refl (length (header_text w h) + w * h));
        }

    text-pixels : file_pixels (file_text w h s) ≡ s
    unfolding file_pixels
    text-pixels =
        let after : drop (length (header_text w h)) (file_text w h s) ≡ s =
        unfold file_text in drop_at (header_text w h) s (length (header_text w h)) refl in
        rw (text-start, text-width, text-height) (ap (take (w * h)) after ∙ take_all (w * h) s (omega arith))

    text-holds : Holds (file_text w h s) w h s
    text-holds = record {
      answer = answered (file_text w h s) text-accepted ∙ rw (text-width, text-height);
      pixels = text-pixels;
    }

    text-longer : (more : List ℕ) → Holds (file_text w h s ++ more) w h s
    text-longer more =
        let a = text-accepted in
        let e = header-append (file_text w h s) more a.has in
        record {
          answer = answered (file_text w h s ++ more) (accepted-append (file_text w h s) more a) ∙ rw (
            e.width,
            e.height,
            text-width,
            text-height,
          );
          pixels = same-pixels (file_text w h s) more a ∙ text-pixels;
        }

record Writable (w h : ℕ) (s : List ℕ) : Type 0 where
  wide : is_side w ≡ true
  high : is_side h ≡ true
  count : length s ≡ w * h

writable : (w h : ℕ) (s : List ℕ) (room : ℕ) → check_write w h s room ≡ 0 → Writable w h s
unfolding check_write
writable w h s room e =
    let a = check-step (is_side w) 1 _ (lit< tt) e in
    let b = check-step (is_side h) 1 _ (lit< tt) a.1 in
    let c = check-step (eqb (length s) (w * h)) 2 _ (lit< tt) b.1 in
    record { wide = a.0; high = b.0; count = eqb-true (length s) (w * h) c.0 }

lent-holds : (w h : ℕ) (s old : List ℕ) → Writable w h s → Holds (file_after 0 (file_text w h s) old) w h s
unfolding file_after
lent-holds w h s old a = text-longer w h s a.wide a.high a.count (drop (length (file_text w h s)) old)

pub reads-back : ReadsBack
reads-back = record {
  file = λ w h s old e. let a = writable w h s (length old) e in text-holds w h s a.wide a.high a.count;
  lent = λ w h s old e. lent-holds w h s old (writable w h s (length old) e);
}

write-accepts : (w h : ℕ) (s : List ℕ) → is_side w ≡ true → is_side h ≡ true → length s ≡ w * h
    → check_write w h s (length (file_text w h s)) ≡ 0
unfolding check_write
write-accepts w h s wide high count =
    rw (
      wide,
      high,
      eq-eqb (length s) (w * h) count,
      le-leb (length (file_text w h s)) (length (file_text w h s)) (le_refl (length (file_text
          w h s))),
    )

text-again : (w h : ℕ) (s : List ℕ) → is_side w ≡ true → is_side h ≡ true → length s ≡ w * h → rewritten (file_text w h s) ≡ file_text w h s
unfolding rewritten
text-again w h s wide high count = rw (text-width w h s, text-height w h s, text-pixels w h s wide high count)

rewritten-is : (s : List ℕ) → Accepted s → RewrittenOnce s
unfolding rewritten
rewritten-is s a =
    let count = accepted-pixels s a in
    record {
      accepted = write-accepts (file_width s) (file_height s) (file_pixels s) a.wide a.high count;
      same = text-holds (file_width s) (file_height s) (file_pixels s) a.wide a.high count;
      once = unfold rewritten in text-again (file_width s) (file_height s) (file_pixels s) a.wide a.high count;
    }

pub rewritten-once : Rewritten
unfolding Rewritten
rewritten-once s e = rewritten-is s (accepted s e)

pub pixels-last : PixelsLast
pixels-last = record {
  answer = λ s more e. same_answer s more (accepted s e);
  pixels = λ s more e. same-pixels s more (accepted s e);
}
