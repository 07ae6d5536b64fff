-- What is read of a file, part by part.
--   HeaderRead, header-begin, header-same, header-more     a header so far; before its first byte; after other bytes behind it; after one
--                                                          byte more
--   file-few                                               no more bytes than the file asks for
--   stays, letters-same                                    the first bytes and the letters stay
--   few-read, others-read, all_read                        what is read of a file: fewer than two bytes; other letters; all
--   pictured                                               what the answer of a picture tells
-- Assumes nothing.
use mathlib.Core.Path.{◌≡◌, refl, sym, ap, ◌∙◌, subst}
use mathlib.Core.Bool.{Bool, true, false, ◌&&◌}
use mathlib.Core.Logic.{◌⊎◌, inl, inr}
use mathlib.Core.List.{List, [], ◌∷◌}
use Prim.Native.Nat.{ℕ, zero, suc, ◌+◌, ◌-◌, ◌≤◌, ◌<◌}
use native.Mathlib.Omega.{arith}
use lib.Dec.{eqb}
use lib.ListN.{length, get_or, take, drop, length-take}
use lib.Seq.{take-take}
use Rattle.laws.proofs.Bools.{which}
use Rattle.pgm.specs.Form.{has_letters, has_form}
use Rattle.pgm.specs.Doors.{check_header, found}
use Rattle.pgm.specs.Steps.{begun, is_ended, stepped, steps_over}
use Rattle.pgm.specs.declared.steps.Reading.{Reading}
use Rattle.pgm.proofs.Counted.{step_counts}
use Rattle.pgm.specs.declared.Image.{Image}
use Rattle.laws.specs.Said.{Said, refuse}
use Rattle.tray.specs.Input.{head_read, asked_to, check_file_to, file_to}
use Rattle.tray.proofs.Headers.{after_letters, head-through, head_more, asked-grows}
use Rattle.tray.proofs.Readings.{letters-kept, at-two}
use Rattle.tray.proofs.Inputs.{file-picture}
use Rattle.input.specs.Input.{reads_to, FileRead, FilePictured}

-- the first two places stay where more of them do
pub stays : (n : ℕ) (l l' : List ℕ) → 2 ≤ n → take n l' ≡ take n l → take 2 l' ≡ take 2 l
stays n l l' two e = sym (take-take 2 n l' two) ∙ ap (take 2) e ∙ take-take 2 n l two

-- ---- a file's header
-- From the list l₀ to l a header has been read as far as h: the bytes up to its place lead to it, and the first two stay.
pub record HeaderRead (l₀ l : List ℕ) (h : Reading) : Type 0 where
  pub from : 2 ≤ h.at
  pub upto : h.at ≤ 4096
  pub room : length l ≡ length l₀
  pub is : h ≡ head_read (take h.at l)
  pub letters : take 2 l ≡ take 2 l₀

pub header-begin : (l : List ℕ) (h : Reading) → h ≡ begun → HeaderRead l l h
header-begin l h e =
    subst (λ (r : Reading). HeaderRead l l r) (sym e)
    (record {
      from = omega arith;
      upto = omega arith;
      room = refl;
      is = sym (ap (steps_over begun) (after_letters 0 l) ∙ unfold steps_over in refl);
      letters = refl;
    })

module _ {l₀ l : List ℕ} {h : Reading} (r : HeaderRead l₀ l h) (l' : List ℕ) (same : take h.at l' ≡ take h.at l)
    (long : length l' ≡ length l) where
  head-is : head_read (take h.at l') ≡ h
  head-is = ap (λ (t : List ℕ). head_read t) same ∙ sym r.is

  pub header-same : HeaderRead l₀ l' h
  header-same = record {
    from = r.from;
    upto = r.upto;
    room = long ∙ r.room;
    is = sym head-is;
    letters = stays h.at l l' r.from same ∙ r.letters;
  }

  module _ (goes : is_ended h.stage ≡ false) (near : h.at < 4096) (fits : 4096 ≤ length l₀) where
    pub header-more : (h' : Reading) → h' ≡ stepped h (get_or l' h.at 0) → HeaderRead l₀ l' h'
    header-more h' e =
        let at : h'.at ≡ h.at + 1 = ap (λ (q : Reading). q.at) e ∙ step_counts h (get_or l' h.at 0) goes near in
        let z : h.at < length l' = omega (arith, long, r.room) in
        record {
          from = omega (arith, r.from, at);
          upto = omega (arith, at);
          room = long ∙ r.room;
          is =
              e ∙ ap (λ (q : Reading). stepped q (get_or l' h.at 0)) (sym head-is)
              ∙ sym (head_more l' h.at r.from z) ∙ ap (λ (n : ℕ). head_read (take n l')) (sym at);
          letters = stays h.at l l' r.from same ∙ r.letters;
        }

-- ---- no more bytes than are asked for: a file's header and so many pixels
pub file-few : (most : ℕ) (l l' : List ℕ) (h : Reading) (more got : ℕ) → 2 ≤ h.at → h ≡ head_read (take h.at l) → more ≡ asked_to most h
    → got ≤ more → take h.at l' ≡ take h.at l → h.at + got ≤ (head_read l').at + asked_to most (head_read l')
file-few most l l' h more got two e asks few same =
    let q : head_read (take h.at l') ≡ h = ap (λ (t : List ℕ). head_read t) same ∙ sym e in
    let rest = drop (h.at - 2) (drop 2 l') in
    let all : head_read l' ≡ steps_over h rest = head-through l' h.at two ∙ ap (λ (r : Reading). steps_over r rest) q in
    subst (λ (r : Reading). h.at + got ≤ r.at + asked_to most r) (sym all) (omega (arith, asks, few, asked-grows most h rest))

-- ---- the letters
pub letters-same : (l l' : List ℕ) → take 2 l' ≡ take 2 l → has_letters l' ≡ has_letters l
letters-same l l' e =
    sym (letters-kept l' 2 (omega arith)) ∙ ap has_letters e ∙ letters-kept l 2 (omega arith)

-- a list of fewer than two bytes does not begin with them
short-letters : (n : ℕ) (l : List ℕ) → n < 2 → has_letters (take n l) ≡ false
unfolding has_letters
short-letters zero l few = refl
short-letters (suc zero) [] few = refl
short-letters (suc zero) (b ∷ l) few = off (eqb b 80)
  where
    off : (b : Bool) → (b && false) ≡ false
    off true = refl
    off false = refl
short-letters (suc (suc n)) l few = absurd (omega arith)

-- ---- what is read of a file
module _ (most : ℕ) where
  letters-off : (s : List ℕ) → has_letters s ≡ false → refuse 14 ≡ file_to most s
  unfolding file_to check_file_to check_header has_form found
  letters-off s e = rw e

  reads_on : (s : List ℕ) → has_letters s ≡ true → reads_to most s ≡ (head_read s).at + asked_to most (head_read s)
  unfolding reads_to
  reads_on s e = rw e

  reads-off : (s : List ℕ) → has_letters s ≡ false → reads_to most s ≡ 2
  unfolding reads_to
  reads-off s e = rw e

  reads_two : (s : List ℕ) → 2 ≤ reads_to most s
  reads_two s = go (which (has_letters s))
    where
      go : (has_letters s ≡ true) ⊎ (has_letters s ≡ false) → 2 ≤ reads_to most s
      go (inl e) = omega (arith, reads_on s e, at-two s)
      go (inr e) = omega (arith, reads-off s e)

  pub few-read : (s : List ℕ) (n : ℕ) → n < 2 → 2 ≤ length s → FileRead most s (refuse 14)
  few-read s n few long = record {
    count = n;
    within = omega arith;
    few = omega (arith, reads_two s);
    answer = letters-off (take n s) (short-letters n s few);
  }

  pub others-read : (s : List ℕ) → has_letters s ≡ false → 2 ≤ length s → FileRead most s (refuse 14)
  others-read s e long = record {
    count = 2;
    within = long;
    few = reads_two s;
    answer = letters-off (take 2 s) (letters-kept s 2 (omega arith) ∙ e);
  }

  pub all_read : (s : List ℕ) (n : ℕ) (r : Said Image) → has_letters s ≡ true → n ≤ length s → n ≤ (head_read s).at + asked_to most (head_read s)
      → r ≡ file_to most (take n s) → FileRead most s r
  all_read s n r letters within few e = record {
    count = n;
    within = within;
    few = omega (arith, reads_on s letters, few);
    answer = e;
  }

  pub pictured : (s : List ℕ) (r : Said Image) → FileRead most s r → FilePictured most s r
  pictured s r f w h at e =
      let p = file-picture most (take f.count s) w h at (sym f.answer ∙ e) in
      let n : length (take f.count s) ≤ length s = simp length-take (omega arith) in
      record {
        some_wide = p.some_wide;
        wide = p.wide;
        some_high = p.some_high;
        high = p.high;
        near = p.near;
        within = omega (arith, p.within, n);
      }
