-- Transforms of a ring, and the poses that are read. Assumes nothing.
--   lens_none, lens-some      a transform without a lens, and with one
--   map-none, map-some        no transform of a quad, and one
--   place-back                the position of an inner cell, as read back
--   marked, marked-long       marks written by `classify`, and as many as lumas
--   not-refused               `classify` does not refuse them
--   front-room, front_long, pose-is, pose-never   the marks at the beginning of a longer list, and their pose
use Rattle.std.proofs.Common.{◌≡◌, ℕ, ◌<◌, ◌≤◌, Bool, true, false, cond, List, ◌++◌, length, take, sym, refl, ap, ◌∙◌, subst, arith, length-append, take_at, w32, to_z, of_z, eq-eqb}
use Rattle.std.specs.Prelude.{Option, Some, None, Result, Ok, Err}
use lib.Ieee.{Float, eq}
use Rattle.ieee.specs.Constants.{0f}
use Rattle.lcr_core.proofs.Versions.{version-passes}
use Rattle.transform.specs.Mapping.{from_quad, with_radial}
use Rattle.transform.specs.declared.Transform.{Transform}
use Rattle.lcr_core.specs.Version.{IsVersion, positions_of}
use Rattle.lcr_core.specs.Border.{position_at, inner_cell}
use Rattle.lcr_core.specs.declared.border.Cell.{Cell}
use Rattle.lcr_core.proofs.DoorLaws.{place_at}
use Rattle.marks.specs.Classify.{lights, light_at}
use Rattle.marks.specs.Doors.{classify_answer, marks_after, correlate_answer, pose_and_counts}
use Rattle.marks.specs.declared.correlate.Correlated.{Correlated}
use Rattle.marks.specs.declared.correlate.Pose.{Pose}
use Rattle.laws.specs.Said.{give}
use Rattle.refusal.specs.declared.Refusal.{Refusal}
use Rattle.refusal.specs.Numbers.{said}
use Rattle.refusal.proofs.Numbers.{said-give}
use Rattle.marks.proofs.MarkLists.{marks-length}
use Rattle.hull.specs.declared.points.Quad.{Quad}
use Rattle.lens.specs.declared.straight.Lens.{Lens}
use Rattle.search.specs.Geometry.{ring_numbers, corner_numbers, lensed, lensed_map, transform_of}
use Rattle.search.specs.Samples.{NearCell}
use Rattle.search.specs.Versions.{pose_of}
use Rattle.search.proofs.Pixels.{inner-near}

-- ---- transforms
lens-by : (l : Lens) (t : Transform) (b : Bool) → eq l.k 0f ≡ b → cond b t (with_radial t l.x l.y l.k) ≡ lensed l t
unfolding lensed
lens-by l t b e = sym (ap (λ (b : Bool). cond b t (with_radial t l.x l.y l.k)) e)

pub lens_none : (l : Lens) (t : Transform) → eq l.k 0f ≡ true → t ≡ lensed l t
lens_none l t e = lens-by l t true e

pub lens-some : (l : Lens) (t r : Transform) → eq l.k 0f ≡ false → r ≡ with_radial t l.x l.y l.k → r ≡ lensed l t
lens-some l t r e er = er ∙ lens-by l t false e

module _ (q : Quad) (side : ℕ) (l : Lens) (a b : List Float) (m : Option Transform) (ea : a ≡ ring_numbers side) (eb : b ≡ corner_numbers q)
    (em : m ≡ from_quad a b) where
  map_is : lensed_map l m ≡ transform_of q side l
  unfolding transform_of
  map_is =
      ap (lensed_map l)
      (em ∙ ap (λ (a : List Float). from_quad a b) ea ∙ ap (from_quad (ring_numbers side)) eb)

  pub map-none : m ≡ None → None ≡ transform_of q side l
  unfolding lensed_map
  map-none e = sym (ap (lensed_map l) e) ∙ map_is

  pub map-some : {t : Transform} (r : Transform) → m ≡ Some t → r ≡ lensed l t → Some r ≡ transform_of q side l
  unfolding lensed_map
  map-some r e er = ap (λ (t : Transform). Some t) er ∙ sym (ap (lensed_map l) e) ∙ map_is

-- ---- the position of an inner cell
pub place-back : (v p : ℕ) (cell : Cell) (place : Option ℕ) → v < 256 → cell ≡ inner_cell v p
    → place ≡ position_at v (to_z w32 (of_z w32 cell.x)) (to_z w32 (of_z w32 cell.y))
    → place ≡ position_at v (inner_cell v p).x (inner_cell v p).y
place-back v p cell place few ec ep =
    let near : NearCell cell = subst NearCell (sym ec) (inner-near v p few) in
    ep
    ∙ place_at v v cell.x cell.y refl near.across near.down
    ∙ ap (λ (c : Cell). position_at v c.x c.y) ec

-- ---- marks and their pose
module _ (v : ℕ) (lumas : List Float) (i : IsVersion v) (long : length lumas ≡ positions_of v) where
  passes : (old : List Bool) → length old ≡ length lumas → classify_answer v lumas old ≡ give tt
  passes old same =
      rw (version-passes v i, eq-eqb (length lumas) (positions_of v) long, eq-eqb (length old) (positions_of v) (same ∙ long))

  pub marked : (old new : List Bool) (r : Result (Unit {0}) Refusal) → length old ≡ length lumas → said r ≡ classify_answer v lumas old
      → new ≡ marks_after (said r) lumas old → new ≡ lights lumas
  marked old new r same er en = en ∙ ap (λ r. marks_after r lumas old) (er ∙ passes old same)

  pub not-refused : (old : List Bool) {e : Refusal} (r : Result (Unit {0}) Refusal) → length old ≡ length lumas
      → said r ≡ classify_answer v lumas old → r ≡ Err e → ⊥
  not-refused old r same er ee = let f = said-give _ _ (er ∙ passes old same) in let z : ⊥ = cc in z

  lights-long : length (lights lumas) ≡ length lumas
  unfolding lights
  lights-long = marks-length (length lumas) (light_at lumas)

  module _ (new rest : List Bool) (is : new ≡ lights lumas) where
    pub marked-long : length new ≡ length lumas
    marked-long = ap length is ∙ lights-long

    pub front-room : length lumas ≤ length (new ++ rest)
    front-room = let z = marked-long in let a = length-append new rest in omega arith

    front : take (length lumas) (new ++ rest) ≡ new
    front = take_at new rest (length lumas) marked-long

    pub front_long : length lumas ≡ length (take (length lumas) (new ++ rest))
    front_long = sym (ap length front ∙ marked-long)

    reads : correlate_answer v (take (length lumas) (new ++ rest)) ≡ give (pose_and_counts v (lights lumas))
    reads =
        ap (correlate_answer v) (front ∙ is)
        ∙ rw (version-passes v i, eq-eqb (length (lights lumas)) (positions_of v) (lights-long ∙ long))

    read-ok : (r : Result Correlated Refusal) → said r ≡ correlate_answer v (take (length lumas) (new ++ rest))
        → r ≡ Ok (pose_and_counts v (lights lumas))
    read-ok r er = said-give _ _ (er ∙ reads)

    pub pose-is : {c : Correlated} (r : Result Correlated Refusal) → said r ≡ correlate_answer v (take (length lumas) (new ++ rest))
        → r ≡ Ok c → ◌≡◌ {A = Result Pose Refusal} (Ok c.best) (Ok (pose_of v lumas))
    unfolding pose_of
    pose-is {c} r er eo =
        let f = read-ok r er in
        let q : c ≡ pose_and_counts v (lights lumas) = cc in
        ap (λ (c : Correlated). Ok c.best) q

    pub pose-never : {e : Refusal} (r : Result Correlated Refusal)
        → said r ≡ correlate_answer v (take (length lumas) (new ++ rest)) → r ≡ Err e → ⊥
    pose-never r er ee = let f = read-ok r er in let z : ⊥ = cc in z
