-- The ring door's checks and its answer. Assumes nothing.
--   room_in, version-by, version-in   what a check that passes tells
--   Passed, passed, passed-photo      what an accepted call knows
--   given_is, refused-is              the answer of an accepted call, and of a refused one
use mathlib.Core.Path.{◌≡◌, refl, sym, ap, ◌∙◌}
use mathlib.Core.Bool.{true, ◌&&◌}
use mathlib.Core.List.{List}
use Prim.Native.Nat.{ℕ, zero, suc, ◌*◌, ◌≤◌}
use borrow.Author.Tests.{leb-true, eqb-true}
use lib.Dec.{leb, eqb}
use lib.ListN.{length}
use lib.Ieee.{Float}
use Rattle.laws.proofs.Bools.{and_left, and_right}
use Rattle.picture_checks.specs.Picture.{is_side}
use Rattle.picture_checks.specs.Points.{is_points}
use Rattle.picture_checks.proofs.Checked.{check-step, side-in, points-in}
use Rattle.lcr_core.specs.Version.{is_version, version_answer}
use Rattle.search.specs.Samples.{Photo}
use Rattle.ring.specs.Checks.{has_room, coordinates_of, check_ring}
use Rattle.ring.specs.Trace.{attempt_of}
use Rattle.ring.specs.Door.{answer_by, answer_of}
use Rattle.ring.specs.declared.quads.Trace.{Trace}
use Rattle.std.specs.Prelude.{Result, Ok, Err, is_ok}
use Rattle.laws.specs.Said.{refuse, give}
use Rattle.refusal.specs.declared.Refusal.{Refusal}
use Rattle.refusal.specs.Numbers.{number_of, said}
use Rattle.refusal.proofs.Numbers.{number-none}
use Rattle.lcr_core.proofs.DoorLaws.{version-known, version-refused}

-- ---- what a check that passes tells
pub room_in : (n a b c : ℕ) → has_room n a b c ≡ true → (n ≤ a) × (n ≤ b) × (n ≤ c)
room_in n a b c e =
    let rest = and_right (leb n a) (leb n b && leb n c) e in (
      leb-true n a (and_left (leb n a) (leb n b && leb n c) e),
      leb-true n b (and_left (leb n b) (leb n c) rest),
      leb-true n c (and_right (leb n b) (leb n c) rest),
    )

pub version-by : (v : ℕ) (r : Result ℕ Refusal) → said r ≡ version_answer v → is_ok r ≡ is_version v
version-by v (Ok w) e = sym (version-known v w (Ok w) e refl).0
version-by v (Err x) e = sym (version-refused v x (Err x) e refl).0

pub version-in : (v : ℕ) → is_version v ≡ true → v ≤ 64
version-in v e = leb-true v 64 (and_right (leb 1 v) (leb v 64) e)

-- ---- what an accepted call knows
pub record Passed (w h bytes n a b c most : ℕ) : Type 0 where
  pub wide : (1 ≤ w) × (w ≤ 4096)
  pub high : (1 ≤ h) × (h ≤ 4096)
  pub whole : bytes ≡ w * h
  pub few : n ≤ 32768
  pub room : (n ≤ a) × (n ≤ b) × (n ≤ c)
  pub version : most ≤ 64

pub passed : (w h bytes : ℕ) (s : List Float) (a b c most : ℕ) → check_ring w h bytes s a b c most ≡ 0
    → Passed w h bytes (length s) a b c most
passed w h bytes s a b c most e =
    let p = check-step (is_side w) 1 _ (lib.Dec.lit< tt) e in
    let q = check-step (is_side h) 1 _ (lib.Dec.lit< tt) p.1 in
    let r = check-step (eqb bytes (w * h)) 2 _ (lib.Dec.lit< tt) q.1 in
    let t = check-step (is_points (length s)) 6 _ (lib.Dec.lit< tt) r.1 in
    let u = check-step (has_room (length s) a b c) 3 _ (lib.Dec.lit< tt) t.1 in
    let x = check-step (coordinates_of s) 7 _ (lib.Dec.lit< tt) u.1 in
    let y = check-step (is_version most) 8 _ (lib.Dec.lit< tt) x.1 in
    record {
      wide = side-in w p.0;
      high = side-in h q.0;
      whole = eqb-true bytes (w * h) r.0;
      few = (points-in (length s) t.0).1;
      room = room_in (length s) a b c u.0;
      version = version-in most y.0;
    }

pub passed-photo : {w h n a b c most : ℕ} (gray : List ℕ) → Passed w h (length gray) n a b c most → Photo gray w h
passed-photo gray p = record { wide = p.wide; high = p.high; bytes = p.whole }

-- ---- the answer
module _ (gray : List ℕ) (w h : ℕ) (s : List Float) (most a b c : ℕ) where
  pub given_is : (t : Trace) → check_ring w h (length gray) s a b c most ≡ 0 → t ≡ attempt_of gray w h s most
      → give t ≡ answer_of gray w h s most a b c
  unfolding answer_of answer_by
  given_is t z e = ap (λ (t : Trace). give t) e ∙ sym (ap (λ (n : ℕ). answer_by n gray w h s most) z)

  pub refused-is : (r : Refusal) → number_of r ≡ check_ring w h (length gray) s a b c most
      → refuse (number_of r) ≡ answer_of gray w h s most a b c
  unfolding answer_of
  refused-is r e = go (number_of r) refl ∙ ap (λ (n : ℕ). answer_by n gray w h s most) e
    where
      go : (n : ℕ) → number_of r ≡ n → refuse n ≡ answer_by n gray w h s most
      go zero z = absurd (number-none r z)
      go (suc n) z = unfold answer_by in refl
