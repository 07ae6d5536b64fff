-- The ring door's checks of the points of a try: half-good, floats-good, that they are coordinates; even; region-taken, tries-taken.
-- Assumes nothing.
use mathlib.Core.Path.{◌≡◌, refl, ◌∙◌, subst}
use mathlib.Core.Bool.{true, false}
use mathlib.Core.List.{List, [], ◌∷◌, Memᴰ}
use Prim.Native.Nat.{ℕ, ◌*◌, ◌^◌, ◌%◌, ◌≤◌}
use native.Mathlib.Omega.{arith}
use lib.Dec.{lit≤}
use lib.IntN.{pos}
use lib.Ieee.{Float, nan, inf, fin, binary32, le, lt, eq, of_bits}
use lib.Ieee.Exact.{HasValue}
use lib.ListN.{length}
use borrow.Author.Tests.{lt-ltb, le-leb, eq-eqb}
use Rattle.hull.proofs.Floats.{length-floats}
use Rattle.laws.specs.Move.{Box}
use Rattle.laws.specs.Plane.{plane}
use Rattle.laws.proofs.Bools.{both, or_left}
use Rattle.lcr_core.specs.Version.{is_version}
use Rattle.ieee.specs.Inner.{Val}
use Rattle.ieee.specs.Ops.{abs, finite}
use Rattle.ieee.proofs.Vals.{exact, lt_val}
use Rattle.hull.specs.Points.{half_of, numbers_of, floats_of}
use Rattle.boundary.specs.Boundary.{is_member}
use Rattle.boundary.proofs.Boundary.{Within}
use Rattle.boundary.proofs.Outlines.{boundary-within}
use Rattle.regions.specs.Regions.{kept_regions, box_in}
use Rattle.regions.specs.declared.answer.Region.{Region}
use Rattle.search.specs.Samples.{Photo}
use Rattle.ring.specs.Checks.{coordinate_of, coordinates_of, check_ring}
use Rattle.region_outline.specs.Region.{need_of, Boxed, region_points}
use Rattle.finder.specs.Inner.{region_by}
use Rattle.finder.specs.Claims.{TriesTaken}
use Rattle.region_outline.proofs.Points.{points-few}
use Rattle.finder.proofs.Regions.{photo-sides, region-boxed, region-tried}

-- ---- coordinates
far-val : Val (of_bits binary32 0x4700_0000) 1 (pos 65536)
unfolding of_bits
far-val = record { minus = false; size = 65536; has = (refl, refl); is = refl }

value-good : (n : ℕ) (x : Float) → n ≤ 8192 → HasValue x false n 2 → coordinate_of x ≡ true
unfolding coordinate_of finite abs le
value-good n nan l v = absurd v
value-good n (inf s) l v = absurd v
value-good n (fin s m e) l v =
    let w : Val (fin false m e) 1 (pos n) = record { minus = false; size = n; has = (refl, v.1); is = refl } in
    or_left (lt (fin false m e) (of_bits binary32 0x4700_0000)) (eq (fin false m e) (of_bits binary32 0x4700_0000))
    (lt_val w far-val ∙ lt-ltb n 65536 (omega arith))

half-good : (n : ℕ) → n ≤ 8192 → coordinate_of (half_of n) ≡ true
unfolding half_of
half-good n l = value-good n (half_of n) l (exact binary32 false n 1 (few n l) (lit≤ tt))
  where
    few : (n : ℕ) → n ≤ 8192 → n ≤ 2 ^ 24
    few n l = omega arith

floats-good : (L : List (ℕ × ℕ)) → ((q : ℕ × ℕ) → Memᴰ q L → (q.0 ≤ 8192) × (q.1 ≤ 8192)) → coordinates_of (floats_of L) ≡ true
unfolding floats_of numbers_of
floats-good [] s = refl
floats-good (q ∷ L) s =
    let few = s q (Memᴰ.head refl) in
    both (coordinate_of (half_of q.0)) _ (half-good q.0 few.0)
    (both (coordinate_of (half_of q.1)) _ (half-good q.1 few.1) (floats-good L (λ r m. s r (Memᴰ.tail m))))

-- ---- a region's points
even : (n m : ℕ) → n ≡ 2 * m → n % 2 ≡ 0
even n m e = omega arith

module _ (gray : List ℕ) (w h : ℕ) (t : Photo gray w h) (r : Region) (g : Boxed w h r) (a b c most : ℕ) (room_a : need_of w h ≤ a)
    (room_b : need_of w h ≤ b) (room_c : need_of w h ≤ c) (version : is_version most ≡ true) where
  abbrev points : List (ℕ × ℕ)
  points = region_points (plane w gray) w h r

  abbrev box : Box
  box = box_in r

  within : Within box w h
  within = record { across' = omega (arith, g.across); down' = omega (arith, g.down); wide = g.right; high = g.bottom }

  near : (q : ℕ × ℕ) → Memᴰ q points → (q.0 ≤ 8192) × (q.1 ≤ 8192)
  near q m =
      let z = boundary-within 4 w h (is_member (plane w gray) w h r.label) box within q m in
      (omega (arith, z.0, t.wide.1), omega (arith, z.1, t.high.1))

  pub region-taken : check_ring w h (length gray) (floats_of points) a b c most ≡ 0
  region-taken =
      let long = length-floats points in
      let few = points-few gray w h (photo-sides gray w h t) r g in
      let n = length (floats_of points) in
      let small : n ≤ need_of w h = omega (arith, long, few) in
      rw (
        le-leb 1 w t.wide.0,
        le-leb w 4096 t.wide.1,
        le-leb 1 h t.high.0,
        le-leb h 4096 t.high.1,
        eq-eqb (length gray) (w * h) t.bytes,
        eq-eqb (n % 2) 0 (even n (length points) long),
        le-leb n 32768 (omega (arith, small, t.wide.1, t.high.1)),
        le-leb n a (omega (arith, small, room_a)),
        le-leb n b (omega (arith, small, room_b)),
        le-leb n c (omega (arith, small, room_c)),
        floats-good points near,
        version,
      )

pub tries-taken : TriesTaken
unfolding TriesTaken
tries-taken gray w h i a b c most s room_a room_b room_c version =
    let p = plane w gray in
    let k = kept_regions p w h in
    let r = region_by k i w h in
    let t : Photo gray w h = record { wide = (s.w-low, s.w-high); high = (s.h-low, s.h-high); bytes = s.count } in
    let g = region-boxed p w h k refl i r refl s.w-low s.h-low in
    subst (λ (L : List (ℕ × ℕ)). check_ring w h (length gray) (floats_of L) a b c most ≡ 0) (region-tried p w h k refl i r refl)
    (region-taken gray w h t r g a b c most room_a room_b room_c version)
