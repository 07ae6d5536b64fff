-- Marks read back from a drawn ring.
--     read-light, read-moved    the mark read at the map's value is the sequence's: the sequence moved
--     read-back, read-back-all  agreement at the drawn pose and at the others, and what `correlate` answers
-- Assumes nothing.
use mathlib.Core.Path.{◌∙◌, ◌≡◌, ap, refl, sym}
use mathlib.Core.Bool.{Bool, ◌&&◌, false, true}
use mathlib.Core.List.{List}
use Prim.Native.Nat.{◌%◌, ◌*◌, ◌<◌, ◌≤◌, suc, zero, ℕ}
use native.Mathlib.Nat.{mod-lt}
use native.Mathlib.Omega.{arith}
use lib.Dec.{eqb, leb}
use lib.Ieee.{Float, binary32, of_bits}
use lib.ListN.{get_or, length}
use borrow.Author.Tests.{eq-eqb, leb-true}
use Rattle.lcr_core.proofs.Versions.{version-passes}
use Rattle.picture_checks.proofs.Checked.{check-step}
use Rattle.picture_checks.specs.Picture.{check_picture, is_side}
use Rattle.laws.proofs.Bools.{and_left}
use Rattle.laws.specs.Check.{or_refuse}
use Rattle.laws.proofs.Planes.{plane-drawn}
use Rattle.laws.specs.Plane.{drawn}
use Rattle.lcr_core.specs.Border.{outer_x, outer_y}
use Rattle.lcr_core.specs.Mark.{mark}
use Rattle.lcr_core.proofs.Round.{outer-within}
use Rattle.lcr_core.proofs.DoorLaws.{is-version, refuse-yes}
use Rattle.lcr_core.specs.Version.{IsVersion, is_version, positions_of, quarter_of}
use Rattle.marks.proofs.Greatest.{best-only, place-back, place-corner, place-count, place-few, place-reversed, place_of_pose}
use Rattle.marks.proofs.MarkLists.{marks-at, marks-length}
use Rattle.marks.proofs.PoseMoves.{Source, move-corner, move-maps, move-reversed, move_to, source}
use Rattle.marks.proofs.Poses.{counts-moved, pose-within}
use Rattle.marks.proofs.Rises.{score-full}
use Rattle.marks.specs.Classify.{marks_of}
use Rattle.marks.specs.Correlate.{best_pose, score}
use Rattle.marks.specs.Doors.{correlate_answer, marked_pose, pose_and_counts}
use Rattle.marks.specs.Pose.{MarksMoved, agreement, corner_to, counts_of, pose_at, reversed_to}
use Rattle.marks.specs.declared.correlate.Pose.{Pose}
use Rattle.marks.specs.declared.correlate.Correlated.{Correlated}
use Rattle.laws.specs.Said.{Said, give, refuse}
use Rattle.proof_ring.specs.Claims.{ReadBack, ReadBackAt, SamePose, marks_back, sequence}
use Rattle.proof_ring.specs.Doors.{answer_of, check_drawing, check_plan, draw_answer, least_side}
use Rattle.proof_ring.specs.Picture.{grey_of, posed, ring_pixel, ring_square, square_side}
use Rattle.proof_ring.specs.Reading.{centre, light_read, marks_read}
use Rattle.proof_ring.proofs.Boxes.{framed_at}
use Rattle.proof_ring.proofs.Centres.{centre-cell, centre-in}
use Rattle.proof_ring.proofs.Squares.{square-mark}
use Rattle.proof_ring.proofs.Turning.{posed-outer}
use Rattle.proof_ring.proofs.Sequences.{others-less, own-agrees}

light-grey : (b : Bool) → leb 128 (grey_of b) ≡ b
light-grey true = refl
light-grey false = refl

module _ (v pitch r : ℕ) (reversed : Bool) (old : List ℕ) (w h : ℕ) (some : 1 ≤ pitch) (wide : least_side v pitch ≤ w)
    (high : least_side v pitch ≤ h) where
  read-light : (p : ℕ) → p < positions_of v
      → light_read v pitch (drawn w h (ring_pixel v pitch r reversed) old) w (pose_at v r reversed p) ≡ mark v p
  unfolding light_read ring_pixel
  read-light p k =
      ap (λ (b : ℕ). leb 128 b)
      (plane-drawn w h (ring_pixel v pitch r reversed) old (centre pitch (outer_x (quarter_of v) at)) (centre pitch (outer_y (quarter_of v) at))
      (omega (arith, wide, centre-in v pitch (outer_x (quarter_of v) at) some in-square.0))
      (omega (arith, high, centre-in v pitch (outer_y (quarter_of v) at) some in-square.1))
      ∙ framed_at (square_side v) pitch (posed (square_side v) r reversed (ring_square v))
      (centre pitch (outer_x (quarter_of v) at)) (centre pitch (outer_y (quarter_of v) at)) (outer_x (quarter_of v) at) (outer_y (quarter_of v) at)
      (centre-cell pitch (outer_x (quarter_of v) at) some) (centre-cell pitch (outer_y (quarter_of v) at) some)
      (omega (arith, in-square.0)) (omega (arith, in-square.1))
      ∙ posed-outer v (ring_square v) r reversed p k
      ∙ square-mark v p k)
      ∙ light-grey (mark v p)
    where
      at : ℕ
      at = pose_at v r reversed p

      in-square : (outer_x (quarter_of v) at ≤ quarter_of v) × (outer_y (quarter_of v) at ≤ quarter_of v)
      in-square = outer-within (quarter_of v) (omega arith) at (omega (arith, pose-within v r reversed p))

  read-moved : MarksMoved v (move_to r reversed) (sequence v) (marks_back v pitch r reversed old w h)
  unfolding marks_read
  read-moved = record {
    many =
        marks-length (positions_of v) (light_read v pitch (drawn w h (ring_pixel v pitch r reversed) old) w)
        ∙ sym (marks-length (positions_of v) (mark v));
    each = λ p k.
        ap (λ (j : ℕ). get_or (marks_of (positions_of v) (light_read v pitch (drawn w h (ring_pixel v pitch r reversed) old) w)) j false)
        (move-maps v r reversed p)
        ∙ marks-at (positions_of v) (light_read v pitch (drawn w h (ring_pixel v pitch r reversed) old) w) (pose_at v r reversed p) false
        (pose-within v r reversed p)
        ∙ read-light p k
        ∙ sym (marks-at (positions_of v) (mark v) p false k);
  }

-- ---- together

read_back : (v pitch r : ℕ) (reversed : Bool) (old : List ℕ) (w h : ℕ) → IsVersion v → 1 ≤ pitch → r ≤ 3
    → least_side v pitch ≤ w → least_side v pitch ≤ h → ReadBackAt v pitch r reversed old w h
read_back v pitch r reversed old w h is some few wide high = record { agrees = agrees; other = other; best = best }
  where
    marks : List Bool
    marks = marks_back v pitch r reversed old w h

    moved : MarksMoved v (move_to r reversed) (sequence v) marks
    moved = read-moved v pitch r reversed old w h some wide high

    few4 : r < 4
    few4 = omega arith

    agrees : agreement v marks r reversed ≡ positions_of v
    agrees =
        ap (λ (k : ℕ). agreement v marks k reversed) (sym (move-corner r reversed few4))
        ∙ ap (λ (b : Bool). agreement v marks (corner_to (move_to r reversed) 0) b) (sym (move-reversed r reversed))
        ∙ counts-moved v (move_to r reversed) (sequence v) marks moved 0 false (omega arith)
        ∙ own-agrees v

    other : (s : ℕ) (b : Bool) → s < 4 → (SamePose s r b reversed → ⊥) → agreement v marks s b < positions_of v
    other s b hs apart = go (source r reversed s b few4 hs)
      where
        go : Source r reversed s b → agreement v marks s b < positions_of v
        go f =
            let e : agreement v marks s b ≡ agreement v (sequence v) f.from f.flipped =
            ap (λ (k : ℕ). agreement v marks k b) (sym f.corner)
            ∙ ap (λ (c : Bool). agreement v marks (corner_to (move_to r reversed) f.from) c) (sym f.turned)
            ∙ counts-moved v (move_to r reversed) (sequence v) marks moved f.from f.flipped f.few in
            let l = others-less v is f.from f.flipped f.few (λ same. apart (back f same)) in
            omega arith
          where
            back : (f : Source r reversed s b) → SamePose f.from 0 f.flipped false → SamePose s r b reversed
            back f same = record {
              corner =
                  sym f.corner ∙ ap (λ (k : ℕ). corner_to (move_to r reversed) k) same.corner ∙ move-corner r reversed few4;
              reversed =
                  sym f.turned ∙ ap (λ (c : Bool). reversed_to (move_to r reversed) c) same.reversed ∙ move-reversed r reversed;
            }

    at : ℕ
    at = place_of_pose r reversed

    top : get_or (counts_of v marks) at 0 ≡ positions_of v
    top =
        place-count v marks at (place-few r reversed few4)
        ∙ ap (λ (k : ℕ). agreement v marks k (leb 4 at)) (place-corner r reversed few4)
        ∙ ap (λ (b : Bool). agreement v marks r b) (place-reversed r reversed few4)
        ∙ agrees

    lower : (i : ℕ) → i ≤ 7 → (i ≡ at → ⊥) → get_or (counts_of v marks) i 0 < positions_of v
    lower i hi ne =
        let l = other (i % 4) (leb 4 i) (mod-lt i (omega arith))
        (λ same. ne (place-back i r reversed hi same.corner same.reversed)) in
        omega (arith, place-count v marks i hi)

    winner : best_pose (counts_of v marks) ≡ at
    winner = best-only (counts_of v marks) at (positions_of v) top lower (place-few r reversed few4)

    posed-as : Float → ℕ → Bool → Pose
    posed-as x k b = record { score = x; corner = k; reversed = b }

    answer : marked_pose v marks ≡ posed-as (score v (positions_of v)) r reversed
    answer =
        ap (λ (k : ℕ). posed-as (score v (get_or (counts_of v marks) k 0)) (k % 4) (leb 4 k)) winner
        ∙ ap (λ (n : ℕ). posed-as (score v n) (at % 4) (leb 4 at)) top
        ∙ ap (λ (k : ℕ). posed-as (score v (positions_of v)) k (leb 4 at)) (place-corner r reversed few4)
        ∙ ap (λ (b : Bool). posed-as (score v (positions_of v)) r b) (place-reversed r reversed few4)

    many : length marks ≡ positions_of v
    many = unfold marks_read in (marks-length (positions_of v) (light_read v pitch (drawn w h (ring_pixel v pitch r reversed) old) w))

    given : Pose → Said Correlated
    given b = give (record { best = b; counts = counts_of v marks })

    best : correlate_answer v marks ≡ given (posed-as (of_bits binary32 1065353216) r reversed)
    best =
        sym (refuse-yes (is_version v) (refuse 8) (or_refuse (eqb (length marks) (positions_of v)) (refuse 11)
        (give (pose_and_counts v marks)))
        (version-passes v is))
        ∙ sym (refuse-yes (eqb (length marks) (positions_of v)) (refuse 11) (give (pose_and_counts v marks))
        (eq-eqb (length marks) (positions_of v) many))
        ∙ ap given answer
        ∙ ap (λ (x : Float). given (posed-as x r reversed)) (score-full v is)

-- what an accepted drawing's checks told
taken : (v pitch r : ℕ) (reversed : Bool) (old : List ℕ) (w h : ℕ) → draw_answer v pitch r old w h ≡ give tt
    → ReadBackAt v pitch r reversed old w h
taken v pitch r reversed old w h done =
    let s1 = check-step (is_version v) 8 (check_picture w h (length old) (check_plan v pitch r w h 0)) (omega arith)
    (none-refused (check_drawing v pitch r w h (length old)) done) in
    let s2 = check-step (is_side w) 1 _ (omega arith) s1.1 in
    let s3 = check-step (is_side h) 1 _ (omega arith) s2.1 in
    let s4 = check-step (eqb (length old) (w * h)) 2 _ (omega arith) s3.1 in
    let s5 = check-step (leb 1 pitch && leb pitch 16) 16 _ (omega arith) s4.1 in
    let s6 = check-step (leb r 3) 16 _ (omega arith) s5.1 in
    let s7 = check-step (leb (least_side v pitch) w) 16 _ (omega arith) s6.1 in
    let s8 = check-step (leb (least_side v pitch) h) 16 _ (omega arith) s7.1 in
    read_back v pitch r reversed old w h (is-version v s1.0) (leb-true 1 pitch (and_left (leb 1 pitch) (leb pitch 16) s5.0))
    (leb-true r 3 s6.0) (leb-true (least_side v pitch) w s7.0) (leb-true (least_side v pitch) h s8.0)
  where
    none-refused : (n : ℕ) → answer_of n ≡ give tt → n ≡ 0
    none-refused zero e = refl
    none-refused (suc n) e = absurd (let z : ◌≡◌ {A = ℕ} 0 1 = cc in omega arith)

pub read-back-all : ReadBack
read-back-all = record { all = taken }
