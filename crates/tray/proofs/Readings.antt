-- What is read of an input.
--   part-alike, file-kept, file-room     of a file: it has the header, the checks, sides and place of the whole file
--   reads-file, reads-record             how much it is, by the kind
--   Kept, input-kept                     it has the checks, sides and pixels of the whole input
--   reads_whole                          the claim: of an accepted input it ends with the pixels
-- Assumes nothing.
use mathlib.Core.Path.{◌≡◌, refl, sym, ap, ap₂, ◌∙◌, subst}
use mathlib.Core.Bool.{Bool, true, false, ◌&&◌}
use mathlib.Core.Logic.{◌⊎◌, inl, inr}
use mathlib.Core.List.{List}
use Prim.Native.Nat.{ℕ, zero, suc, ◌+◌, ◌-◌, ◌*◌, ◌≤◌, ◌<◌}
use native.Mathlib.Omega.{arith}
use lib.Dec.{leb, lit≤}
use lib.ListN.{length, take, drop, length-take, length-drop}
use lib.Seq.{get_or-take, take_all}
use Rattle.laws.proofs.Bools.{le-or-lt, which, falsely}
use Rattle.laws.specs.Check.{or_refuse}
use Rattle.picture_checks.proofs.Checked.{Gate, gate-zero}
use Rattle.pgm.specs.Form.{has_letters, has_form, file_width, file_height, file_start}
use Rattle.pgm.specs.Doors.{check_header, check_pixels}
use Rattle.pgm.specs.Steps.{begun, is_ended, is_whole, steps_over}
use Rattle.pgm.specs.Head.{check_head}
use Rattle.pgm.specs.declared.steps.Reading.{Reading}
use Rattle.pgm.proofs.Beside.{Outcome, steps-header}
use Rattle.pgm.proofs.Counted.{at-grows, at_all, whole-later, told}
use Rattle.pgm.proofs.Heads.{Fits, fits, header-gate}
use Rattle.tray.specs.Record.{width_of, height_of, check_record, asked}
use Rattle.tray.specs.Input.{check_sides, check_file_to, check_tray_file, check_input, input_width, input_height, input_start, input_pixels}
use Rattle.tray.specs.Input.{head_read, asked_by, reads}
use Rattle.tray.specs.Claims.{ReadsWhole}
use Rattle.tray.proofs.Files.{sides-gate, sides-same, asked-some}
use Rattle.tray.proofs.Headers.{head-through, ended-through, not-whole}
use Rattle.tray.proofs.Kept as kept

-- ---- a file
abbrev file_room : List ℕ → ℕ
file_room s = (head_read s).at + asked_by (head_read s)

pub at-two : (s : List ℕ) → 2 ≤ (head_read s).at
at-two s = at-grows begun (drop 2 s)

-- the part that is read leads to the same header, or neither leads to one
data Alike (r t : Reading) : Type 0 where
  same : t ≡ r → Alike r t
  neither : is_whole r.stage ≡ false → is_whole t.stage ≡ false → Alike r t

part-alike : (s : List ℕ) → Alike (head_read s) (head_read (take (file_room s) s))
part-alike s = go (which (is_ended part.stage))
  where
    k : ℕ
    k = file_room s

    two : 2 ≤ k
    two = omega (arith, at-two s)

    part : Reading
    part = head_read (take k s)

    rest : List ℕ
    rest = drop (k - 2) (drop 2 s)

    all : head_read s ≡ steps_over part rest
    all = head-through s k two

    late : is_ended part.stage ≡ false → (length s ≤ k) ⊎ (k < length s) → Alike (head_read s) part
    late e (inl l) = same (ap (λ (t : List ℕ). head_read t) (take_all k s l))
    late e (inr l) =
        let n : part.at ≡ 2 + length (drop 2 (take k s)) = at_all begun (drop 2 (take k s)) (e) in
        let m : length (drop 2 (take k s)) ≡ k - 2 = simp (length-drop, length-take) (omega (arith, two)) in
        let g : part.at ≤ (head_read s).at = subst (λ (r : Reading). part.at ≤ r.at) (sym all) (at-grows part rest) in
        neither
        (falsely (is_whole (head_read s).stage) (λ w.
        let u : part.at < (head_read s).at = subst (λ (r : Reading). part.at < r.at) (sym all)
        (whole-later part rest e (subst (λ (r : Reading). is_whole r.stage ≡ true) all w)) in
        omega (arith, u, n, m, two, le-room)))
        (not-whole part e)
      where
        le-room : (head_read s).at ≤ file_room s
        le-room = omega arith

    go : (is_ended part.stage ≡ true) ⊎ (is_ended part.stage ≡ false) → Alike (head_read s) part
    go (inl e) = same (sym (ended-through s k two (e)))
    go (inr e) = late e (le-or-lt (length s) k)

pub letters-kept : (s : List ℕ) (m : ℕ) → 2 ≤ m → has_letters (take m s) ≡ has_letters s
unfolding has_letters
letters-kept s m two = rw (get_or-take m s 0 0 (omega arith), get_or-take m s 1 0 (omega arith))

-- what is read of a file
record FileKept (s t : List ℕ) : Type 0 where
  check : check_tray_file t ≡ check_tray_file s
  width : check_tray_file s ≡ 0 → file_width t ≡ file_width s
  height : check_tray_file s ≡ 0 → file_height t ≡ file_height s
  start : check_tray_file s ≡ 0 → file_start t ≡ file_start s
  room : check_tray_file s ≡ 0 → file_room s ≡ file_start s + file_width s * file_height s

no-form : (s : List ℕ) → (has_form s && leb (file_start s) 4096) ≡ false → check_tray_file s ≡ 14
unfolding check_file_to check_header
no-form s e = rw e

-- the checks of a file behind its header
abbrev behind : List ℕ → ℕ → ℕ
behind s rest = check_header s (check_sides (file_width s) (file_height s) rest)

behind-gate : (s : List ℕ) → Gate (behind s)
behind-gate s = header-gate s (sides-gate 160 (file_width s) (file_height s))

file-behind : (s : List ℕ) → check_tray_file s ≡ behind s (check_pixels s)
unfolding check_file_to
file-behind s = refl

pixels-by : (s : List ℕ) → check_pixels s ≡ or_refuse (leb (file_start s + file_width s * file_height s) (length s)) 2 0
unfolding check_pixels
pixels-by s = refl

module _ (s : List ℕ) (letters : has_letters s ≡ true) where
  head-outcome : Outcome s (head_read s)
  head-outcome = steps-header s letters

  head-check : check_head (head_read s) (check_sides (head_read s).width (head_read s).height 0) ≡ behind s 0
  head-check = sides-same 160 (lit≤ tt) s (head_read s) head-outcome

  module _ (on : behind s 0 ≡ 0) where
    head-fits : Fits s (head_read s)
    head-fits = fits s (head_read s) head-outcome (check_sides (file_width s) (file_height s) 0) on

    room-is : file_room s ≡ file_start s + file_width s * file_height s
    room-is =
        let f = head-fits in
        ap₂ (λ (a b : ℕ). a + b) f.at
        (sym (asked-some 160 (head_read s) 0 (sym (head-check ∙ on)) refl) ∙ ap₂ (λ (a b : ℕ). a * b) f.width f.height)

  pub file-room : check_tray_file s ≡ 0 → file_room s ≡ file_start s + file_width s * file_height s
  file-room e = room-is (gate-zero (behind-gate s) (check_pixels s) (sym (file-behind s) ∙ e))

-- two files with the same header
module _ (s : List ℕ) (letters : has_letters s ≡ true) where
  abbrev part : List ℕ
  part = take (file_room s) s

  part-letters : has_letters part ≡ true
  part-letters = letters-kept s (file_room s) (omega (arith, at-two s)) ∙ letters

  part-neither : is_whole (head_read s).stage ≡ false → is_whole (head_read part).stage ≡ false → FileKept s part
  part-neither a b =
      let x = no-form s (sym (told s (head_read s) (head-outcome s letters)).whole ∙ a) in
      let y = no-form part (sym (told part (head_read part) (head-outcome part part-letters)).whole ∙ b) in
      let z : check_tray_file s ≡ 0 → ⊥ = λ e. omega (arith, x, e) in
      record {
        check = y ∙ sym x;
        width = λ e. absurd (z e);
        height = λ e. absurd (z e);
        start = λ e. absurd (z e);
        room = λ e. absurd (z e);
      }

  module _ (alike : head_read part ≡ head_read s) where
    behind-same : behind part 0 ≡ behind s 0
    behind-same =
        sym (head-check part part-letters)
        ∙ ap (λ (r : Reading). check_head r (check_sides r.width r.height 0)) alike
        ∙ head-check s letters

    part-on : behind s 0 ≡ 0 → FileKept s part
    part-on on =
        let f = head-fits s letters on in
        let g = head-fits part part-letters (behind-same ∙ on) in
        let w : file_width part ≡ file_width s = sym g.width ∙ ap (λ (r : Reading). r.width) alike ∙ f.width in
        let h : file_height part ≡ file_height s = sym g.height ∙ ap (λ (r : Reading). r.height) alike ∙ f.height in
        let a : file_start part ≡ file_start s = sym g.at ∙ ap (λ (r : Reading). r.at) alike ∙ f.at in
        let k = room-is s letters on in
        let p : check_pixels part ≡ check_pixels s = pixels w h a k in
        record {
          check =
              file-behind part ∙ (behind-gate part).on (behind-same ∙ on) (check_pixels part) ∙ p
              ∙ sym (file-behind s ∙ (behind-gate s).on on (check_pixels s));
          width = λ _. w;
          height = λ _. h;
          start = λ _. a;
          room = λ _. k;
        }
      where
        pixels : file_width part ≡ file_width s → file_height part ≡ file_height s → file_start part ≡ file_start s
            → file_room s ≡ file_start s + file_width s * file_height s → check_pixels part ≡ check_pixels s
        pixels w h a k =
            let e : file_start part + file_width part * file_height part ≡ file_start s + file_width s * file_height s =
            ap₂ (λ (x y : ℕ). x + y) a (ap₂ (λ (x y : ℕ). x * y) w h) in
            pixels-by part
            ∙ ap (λ (n : ℕ). or_refuse (leb n (length part)) 2 0) e
            ∙ ap (λ (b : Bool). or_refuse b 2 0)
            (kept.long_kept s (file_room s) (file_start s + file_width s * file_height s) (omega (arith, k)))
            ∙ sym (pixels-by s)

    part_off : (behind s 0 ≡ 0 → ⊥) → FileKept s part
    part_off off =
        let x = file-behind s ∙ (behind-gate s).off off (check_pixels s) in
        let y = file-behind part ∙ (behind-gate part).off (λ e. off (sym behind-same ∙ e)) (check_pixels part) in
        let z : check_tray_file s ≡ 0 → ⊥ = λ e. off (sym x ∙ e) in
        record {
          check = y ∙ behind-same ∙ sym x;
          width = λ e. absurd (z e);
          height = λ e. absurd (z e);
          start = λ e. absurd (z e);
          room = λ e. absurd (z e);
        }

  file-kept : FileKept s part
  file-kept = go (part-alike s)
    where
      which-way : head_read part ≡ head_read s → (n : ℕ) → behind s 0 ≡ n → FileKept s part
      which-way a zero e = part-on a e
      which-way a (suc n) e = part_off a (λ z. omega (arith, z, e))

      go : Alike (head_read s) (head_read part) → FileKept s part
      go (same e) = which-way e (behind s 0) refl
      go (neither a b) = part-neither a b

-- ---- an input of either kind
pub record Kept (s t : List ℕ) : Type 0 where
  pub check : check_input t ≡ check_input s
  pub width : check_input s ≡ 0 → input_width t ≡ input_width s
  pub height : check_input s ≡ 0 → input_height t ≡ input_height s
  pub pixels : check_input s ≡ 0 → input_pixels t ≡ input_pixels s

module _ (s : List ℕ) (e : has_letters s ≡ true) where
  pub reads-file : reads s ≡ file_room s
  unfolding reads
  reads-file = rw e

  file-input : check_input s ≡ check_tray_file s
  unfolding check_input
  file-input = rw e

  width-file : input_width s ≡ file_width s
  unfolding input_width
  width-file = rw e

  height-file : input_height s ≡ file_height s
  unfolding input_height
  height-file = rw e

  start-file : input_start s ≡ file_start s
  unfolding input_start
  start-file = rw e

module _ (s : List ℕ) (e : has_letters s ≡ false) where
  pub reads-record : reads s ≡ 10 + asked (take 10 s)
  unfolding reads
  reads-record = rw e

  record-input : check_input s ≡ check_record s
  unfolding check_input
  record-input = rw e

  width-record : input_width s ≡ width_of s
  unfolding input_width
  width-record = rw e

  height-record : input_height s ≡ height_of s
  unfolding input_height
  height-record = rw e

  start-record : input_start s ≡ 10
  unfolding input_start
  start-record = rw e

-- the pixels of a part that ends with them
pixels-kept : (s : List ℕ) (k : ℕ) → input_width (take k s) ≡ input_width s → input_height (take k s) ≡ input_height s
    → input_start (take k s) ≡ input_start s → k ≡ input_start s + input_width s * input_height s → input_pixels (take k s) ≡ input_pixels s
unfolding input_pixels
pixels-kept s k w h a e =
    ap₂ (λ (n m : ℕ). take n (drop m (take k s))) (ap₂ (λ (x y : ℕ). x * y) w h) a
    ∙ kept.drop-take (input_start s) (input_width s * input_height s) k s e

input-file : (s : List ℕ) → has_letters s ≡ true → Kept s (take (file_room s) s)
input-file s e =
    let f = file-kept s e in
    let t = part s e in
    let d = part-letters s e in
    let back : check_input s ≡ 0 → check_tray_file s ≡ 0 = λ z. sym (file-input s e) ∙ z in
    let w : check_input s ≡ 0 → input_width t ≡ input_width s = λ z. width-file t d ∙ f.width (back z) ∙ sym (width-file s e) in
    let h : check_input s ≡ 0 → input_height t ≡ input_height s = λ z. height-file t d ∙ f.height (back z) ∙ sym (height-file s e) in
    let a : check_input s ≡ 0 → input_start t ≡ input_start s = λ z. start-file t d ∙ f.start (back z) ∙ sym (start-file s e) in
    record {
      check = file-input t d ∙ f.check ∙ sym (file-input s e);
      width = w;
      height = h;
      pixels = λ z. pixels-kept s (file_room s) (w z) (h z) (a z)
          (f.room (back z) ∙ sym (ap₂ (λ (x y : ℕ). x + y) (start-file s e) (ap₂ (λ (x y : ℕ). x * y) (width-file s e) (height-file s e))));
    }

input-record : (s : List ℕ) → has_letters s ≡ false → Kept s (take (10 + asked (take 10 s)) s)
input-record s e =
    let k = 10 + asked (take 10 s) in
    let t = take k s in
    let ten : 10 ≤ k = omega arith in
    let d = letters-kept s k (omega arith) ∙ e in
    let w : input_width t ≡ input_width s = width-record t d ∙ kept.wide-kept s k ten ∙ sym (width-record s e) in
    let h : input_height t ≡ input_height s = height-record t d ∙ kept.high-kept s k ten ∙ sym (height-record s e) in
    let a : input_start t ≡ input_start s = start-record t d ∙ sym (start-record s e) in
    record {
      check = record-input t d ∙ kept.record-kept s ∙ sym (record-input s e);
      width = λ _. w;
      height = λ _. h;
      pixels = λ z. pixels-kept s k w h a
          (kept.record-room s (sym (record-input s e) ∙ z)
          ∙ sym (ap₂ (λ (x y : ℕ). x + y) (start-record s e) (ap₂ (λ (x y : ℕ). x * y) (width-record s e) (height-record s e))));
    }

pub input-kept : (s : List ℕ) → Kept s (take (reads s) s)
input-kept s = go (which (has_letters s))
  where
    go : (has_letters s ≡ true) ⊎ (has_letters s ≡ false) → Kept s (take (reads s) s)
    go (inl e) = subst (λ (k : ℕ). Kept s (take k s)) (sym (reads-file s e)) (input-file s e)
    go (inr e) = subst (λ (k : ℕ). Kept s (take k s)) (sym (reads-record s e)) (input-record s e)

pub reads_whole : ReadsWhole
unfolding ReadsWhole
reads_whole s z = go (which (has_letters s))
  where
    go : (has_letters s ≡ true) ⊎ (has_letters s ≡ false) → reads s ≡ input_start s + input_width s * input_height s
    go (inl e) =
        reads-file s e ∙ file-room s e (sym (file-input s e) ∙ z)
        ∙ sym (ap₂ (λ (x y : ℕ). x + y) (start-file s e) (ap₂ (λ (x y : ℕ). x * y) (width-file s e) (height-file s e)))
    go (inr e) =
        reads-record s e ∙ kept.record-room s (sym (record-input s e) ∙ z)
        ∙ sym (ap₂ (λ (x y : ℕ). x + y) (start-record s e) (ap₂ (λ (x y : ℕ). x * y) (width-record s e) (height-record s e)))
