-- One version read: its lumas in a longer list, and their pose as a score. Assumes nothing.
--   never-refused                        a version is not refused
--   room_for                             the lists for lumas and marks are long enough
--   lumas-long                           as many lumas as positions
--   lumas-room, lumas-part, lumas-fit    the lumas at the beginning of a longer list
--   read_is                              their pose as a score
use Rattle.std.proofs.Common.{◌≡◌, ℕ, zero, suc, ◌≤◌, leb, List, [], ◌∷◌, ◌++◌, length, take, sym, refl, ap, ◌∙◌, arith, length-append, take_at, le-leb}
use lib.Ieee.{Float}
use Rattle.laws.proofs.Bools.{both, clash}
use Rattle.transform.specs.declared.Transform.{Transform}
use Rattle.lcr_core.specs.Version.{IsVersion, version_answer, positions_of}
use Rattle.lcr_core.proofs.DoorLaws.{version-refused}
use Rattle.marks.specs.declared.correlate.Pose.{Pose}
use Rattle.refusal.specs.declared.Refusal.{Refusal}
use Rattle.refusal.specs.Numbers.{said}
use Rattle.std.specs.Prelude.{Result, Ok, Err}
use Rattle.search.specs.Lumas.{luma_at, lumas_listed, lumas_of}
use Rattle.search.specs.Versions.{score_by, pose_of, read_of}
use Rattle.search.specs.declared.versions.Score.{Score}

pub never-refused : (v : ℕ) {e : Refusal} (r : Result ℕ Refusal) → IsVersion v → said r ≡ version_answer v → r ≡ Err e → ⊥
never-refused v r i e f =
    clash (both (leb 1 v) (leb v 64) (le-leb 1 v i.least) (le-leb v 64 i.greatest)) (version-refused v _ r e f).0

pub room_for : (k v n m : ℕ) → k ≡ v → n ≡ positions_of k → 1112 ≡ m → v ≤ 64 → n ≤ m
room_for k v n m a b c d = omega arith

listed-long : (n : ℕ) (f : ℕ → Float) → length (lumas_listed n f) ≡ n
unfolding lumas_listed
listed-long zero f = refl
listed-long (suc n) f = length-append (lumas_listed n f) (f n ∷ []) ∙ (let e = listed-long n f in omega arith)

module _ (gray : List ℕ) (w h : ℕ) (t : Transform) (k : ℕ) where
  pub lumas-long : length (lumas_of gray w h t k) ≡ positions_of k
  unfolding lumas_of
  lumas-long = listed-long (positions_of k) (luma_at gray w h t k)

  module _ (n : ℕ) (new rest : List Float) (en : n ≡ positions_of k) (is : new ≡ lumas_of gray w h t k) where
    long : length new ≡ n
    long = ap length is ∙ lumas-long ∙ sym en

    pub lumas-room : n ≤ length (new ++ rest)
    lumas-room = let z = long in let a = length-append new rest in omega arith

    pub lumas-part : take n (new ++ rest) ≡ new
    lumas-part = take_at new rest n long

    pub lumas-fit : n ≡ length (take n (new ++ rest))
    lumas-fit = sym (ap length lumas-part ∙ long)

    pub read_is : (version : ℕ) {b : Pose} (p : Result Pose Refusal) (r : Score) → k ≡ version
        → p ≡ Ok (pose_of version (take n (new ++ rest))) → p ≡ Ok b → r ≡ score_by version b → r ≡ read_of gray w h t version
    unfolding read_of
    read_is version {b} p r ek ep eo er =
        let eb : b ≡ pose_of version (take n (new ++ rest)) = cc in
        er
        ∙ ap (score_by version)
        (eb ∙ ap (pose_of version) (lumas-part ∙ is) ∙ ap (λ (k : ℕ). pose_of version (lumas_of gray w h t k)) ek)
