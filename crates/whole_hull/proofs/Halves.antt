-- The way round, stored in two halves.
--     run-begin, run_step, run-place     the first vertices, one more
--     half-run, half-corner, half_is     a run and the last vertex;  corner-yes, corner-no  that vertex alone
--     first-room, second-room, one-room  there is room
--     lay-two, lay-one                   both halves; one point alone
--     above-yes, above-no                where the way goes straight down or up
--     some_of, chain-some, places_of, hull-none   what the caller knows
--     round-fits, round-end              the way round is the hull, and fits the lent list
-- Assumes nothing.
use mathlib.Core.Path.{◌≡◌, refl, sym, ap, ap₂, ◌∙◌, subst}
use mathlib.Core.Logic.{◌⊎◌, inl, inr}
use mathlib.Core.Bool.{Bool, true, false}
use mathlib.Core.List.{List, [], ◌∷◌, ◌++◌, append_assoc}
use Prim.Native.Nat.{ℕ, zero, suc, ◌+◌, ◌-◌, ◌*◌, ◌/◌, ◌≤◌, ◌<◌}
use native.Mathlib.Omega.{arith}
use lib.Dec.{ltb}
use lib.ListN.{length, length-append}
use lib.Seq.{sets}
use Rattle.laws.specs.Lists.{stack_of}
use Rattle.laws.specs.Plane.{value_at}
use Rattle.hull.proofs.Floats.{numbers-append, length-numbers}
use Rattle.laws.specs.Lent.{Stored, laid}
use Rattle.laws.proofs.Stores.{stored-none, stored-append, stored-ext, stored-laid}
use Rattle.whole.specs.Walk.{hull_with, walk_with}
use Rattle.hull.specs.Points.{numbers_of, many}
use Rattle.doubled.specs.Points.{pairs_of, x_at, Bounded}
use Rattle.doubled.specs.Outline.{hull_whole}
use Rattle.doubled.proofs.Points.{length_pairs}
use Rattle.doubled.proofs.Accepted.{fewer}
use Rattle.doubled.proofs.Exact.{hull-pts, pts-inj}
use Rattle.whole_hull.specs.Inner.{Full, Chain, seen, Tops, list_up_to, vertex, over_vertex, under_vertex, corner_if, half_round, round_of, or_one, ChainPlaces}
use Rattle.whole_hull.proofs.Ways.{full_at}
use Rattle.whole_hull.proofs.Numbered.{links-full}
use Rattle.whole_hull.proofs.Closed.{round-hull}

-- ---- a run
length-up_to : {B : Type 0} (f : ℕ → B) (n : ℕ) → length (list_up_to f n) ≡ n
unfolding list_up_to
length-up_to f zero = refl
length-up_to f (suc n) = length-append (list_up_to f n) (f n ∷ []) ∙ (let e = length-up_to f n in omega arith)

pub run-begin : (f : ℕ → ℕ × ℕ) (i : ℕ) (l : List ℕ) → Stored i (numbers_of (list_up_to f 0)) l l i
unfolding list_up_to numbers_of
run-begin f i l = stored-none i l

up_to-more : (f : ℕ → ℕ × ℕ) (n : ℕ) → list_up_to f n ++ (f n ∷ []) ≡ list_up_to f (n + 1)
unfolding list_up_to
up_to-more f n = let z : suc n ≡ n + 1 = omega arith in ap (list_up_to f) z

pub run_step : (f : ℕ → ℕ × ℕ) (n i : ℕ) {l l' l'' : List ℕ} {r r' : ℕ} → Stored i (numbers_of (list_up_to f n)) l l' r
    → Stored r (numbers_of (f n ∷ [])) l' l'' r' → Stored i (numbers_of (list_up_to f (n + 1))) l l'' r'
run_step f n i {l} {l'} {l''} {r} {r'} a b =
    stored-ext (numbers_of (list_up_to f n) ++ numbers_of (f n ∷ [])) (numbers_of (list_up_to f (n + 1)))
    (sym (numbers-append (list_up_to f n) (f n ∷ [])) ∙ ap numbers_of (up_to-more f n)) (stored-append a b)

pub run-place : (f : ℕ → ℕ × ℕ) (n i : ℕ) {l l' : List ℕ} {r : ℕ} → Stored i (numbers_of (list_up_to f n)) l l' r → r ≡ i + 2 * n
run-place f n i s =
    let e = s.next in
    let k = length-numbers (list_up_to f n) in
    let j = length-up_to f n in
    omega arith

-- ---- a half
module _ (o : Bool) (a s : List ℕ) (k : ℕ) where
  half_length : (z : Bool) → length (half_round o a s k z) ≡ k + length (corner_if (vertex o a s k) z)
  unfolding half_round
  half_length z =
      length-append (list_up_to (vertex o a s) k) (corner_if (vertex o a s k) z) ∙ (let e = length-up_to (vertex o a s) k in omega arith)

  pub half-run : (z : Bool) (i n : ℕ) → i + 2 * length (half_round o a s k z) ≤ n → i + 2 * k ≤ n
  half-run z i n l = let e = half_length z in omega arith

  pub half-corner : (z : Bool) (i n r : ℕ) → i + 2 * length (half_round o a s k z) ≤ n → r ≡ i + 2 * k → z ≡ true → r + 2 ≤ n
  half-corner true i n r l q e = let h = half_length true in omega arith
  half-corner false i n r l q e = absurd (mathlib.Core.Bool.false≢true e)

  pub half_is : (z : Bool) (i : ℕ) {l l' l'' : List ℕ} {r r' : ℕ} → Stored i (numbers_of (list_up_to (vertex o a s) k)) l l' r
      → Stored r (numbers_of (corner_if (vertex o a s k) z)) l' l'' r' → Stored i (numbers_of (half_round o a s k z)) l l'' r'
  unfolding half_round
  half_is z i u w =
      stored-ext (numbers_of (list_up_to (vertex o a s) k) ++ numbers_of (corner_if (vertex o a s k) z)) (numbers_of (half_round o a s k z))
      (sym (numbers-append (list_up_to (vertex o a s) k) (corner_if (vertex o a s k) z))) (stored-append u w)

pub corner-no : (q : ℕ × ℕ) (z : Bool) (i : ℕ) (l : List ℕ) → z ≡ false → Stored i (numbers_of (corner_if q z)) l l i
unfolding numbers_of
corner-no q false i l e = stored-none i l
corner-no q true i l e = absurd (mathlib.Core.Bool.true≢false e)

pub corner-yes : (q : ℕ × ℕ) (z : Bool) (i : ℕ) {l l' : List ℕ} {r : ℕ} → z ≡ true → Stored i (numbers_of (q ∷ [])) l l' r
    → Stored i (numbers_of (corner_if q z)) l l' r
corner-yes q true i e w = w
corner-yes q false i e w = absurd (mathlib.Core.Bool.false≢true e)

-- ---- both halves
module _ (a s : List ℕ) (k : ℕ) (b t : List ℕ) (j : ℕ) (d u : Bool) (ed : d ≡ ltb (over_vertex a s k).1 (under_vertex b t 0).1)
    (eu : u ≡ ltb (over_vertex a s 0).1 (under_vertex b t j).1) where
  round_is : half_round false a s k d ++ half_round true b t j u ≡ round_of a s k b t j
  unfolding half_round round_of
  round_is =
      ap₂ (λ (d u : Bool). (list_up_to (over_vertex a s) k ++ corner_if (over_vertex a s k) d) ++ (list_up_to (under_vertex b t) j ++ corner_if (under_vertex b t j) u)) ed eu
      ∙ append_assoc (list_up_to (over_vertex a s) k) (corner_if (over_vertex a s k) (ltb (over_vertex a s k).1 (under_vertex b t 0).1))
      (list_up_to (under_vertex b t) j ++ corner_if (under_vertex b t j) (ltb (over_vertex a s 0).1 (under_vertex b t j).1))

  or-length : (q : ℕ × ℕ) (l : List (ℕ × ℕ)) → length l ≤ length (or_one q l)
  or-length q [] = omega arith
  or-length q (r ∷ l) = omega arith

  or_some : (q : ℕ × ℕ) (l : List (ℕ × ℕ)) → 1 ≤ length (or_one q l)
  or_some q [] = omega arith
  or_some q (r ∷ l) = omega arith

  both-length : length (round_of a s k b t j) ≡ length (half_round false a s k d) + length (half_round true b t j u)
  both-length = ap length (sym round_is) ∙ length-append (half_round false a s k d) (half_round true b t j u)

  pub first-room : (n : ℕ) → 2 * length (or_one (over_vertex a s 0) (round_of a s k b t j)) ≤ n → 0 + 2 * length (half_round false a s k d) ≤ n
  first-room n l = let e = both-length in let f = or-length (over_vertex a s 0) (round_of a s k b t j) in omega arith

  pub second-room : (n r : ℕ) {x y : List ℕ} → 2 * length (or_one (over_vertex a s 0) (round_of a s k b t j)) ≤ n
      → Stored 0 (numbers_of (half_round false a s k d)) x y r → r + 2 * length (half_round true b t j u) ≤ n
  second-room n r l w =
      let e = both-length in
      let f = or-length (over_vertex a s 0) (round_of a s k b t j) in
      let g = w.next in
      let h = length-numbers (half_round false a s k d) in
      omega arith

  pub one-room : (n : ℕ) → 2 * length (or_one (over_vertex a s 0) (round_of a s k b t j)) ≤ n → 0 + 2 ≤ n
  one-room n l = let f = or_some (over_vertex a s 0) (round_of a s k b t j) in omega arith

  all-stored : {x y z : List ℕ} {r e : ℕ} → Stored 0 (numbers_of (half_round false a s k d)) x y r
      → Stored r (numbers_of (half_round true b t j u)) y z e → Stored 0 (numbers_of (round_of a s k b t j)) x z e
  all-stored v w =
      stored-ext (numbers_of (half_round false a s k d) ++ numbers_of (half_round true b t j u)) (numbers_of (round_of a s k b t j))
      (sym (numbers-append (half_round false a s k d) (half_round true b t j u)) ∙ ap numbers_of round_is) (stored-append v w)

  same_or : (q : ℕ × ℕ) (l : List (ℕ × ℕ)) (e : ℕ) → e ≡ 0 + length (numbers_of l) → (e ≡ 0 → ⊥) → l ≡ or_one q l
  same_or q [] e h some = absurd (some (unfold numbers_of in h))
  same_or q (r ∷ l) e h some = refl

  empty-or : (q : ℕ × ℕ) (l : List (ℕ × ℕ)) (e : ℕ) → e ≡ 0 + length (numbers_of l) → e ≡ 0 → l ≡ []
  empty-or q [] e h z = refl
  empty-or q (r ∷ l) e h z = absurd (let k = length-numbers (r ∷ l) in omega arith)

  pub lay-two : {x y z : List ℕ} {r e : ℕ} → Stored 0 (numbers_of (half_round false a s k d)) x y r
      → Stored r (numbers_of (half_round true b t j u)) y z e → (e ≡ 0 → ⊥)
      → Stored 0 (numbers_of (or_one (over_vertex a s 0) (round_of a s k b t j))) x z e
  lay-two {x} {y} {z} {r} {e} v w some =
      let h = all-stored v w in
      stored-ext (numbers_of (round_of a s k b t j)) (numbers_of (or_one (over_vertex a s 0) (round_of a s k b t j)))
      (ap numbers_of (same_or (over_vertex a s 0) (round_of a s k b t j) e h.next some)) h

  pub lay-one : {x y z o : List ℕ} {r e g : ℕ} → Stored 0 (numbers_of (half_round false a s k d)) x y r
      → Stored r (numbers_of (half_round true b t j u)) y z e → e ≡ 0 → Stored 0 (numbers_of (over_vertex a s 0 ∷ [])) z o g
      → Stored 0 (numbers_of (or_one (over_vertex a s 0) (round_of a s k b t j))) x o g
  lay-one {x} {y} {z} {o} {r} {e} {g} v w none q =
      let h = all-stored v w in
      let n : round_of a s k b t j ≡ [] = empty-or (over_vertex a s 0) (round_of a s k b t j) e h.next none in
      let same : z ≡ x = h.list ∙ ap (λ (l : List (ℕ × ℕ)). sets x 0 (numbers_of l)) n ∙ unfold numbers_of in refl in
      stored-ext (numbers_of (over_vertex a s 0 ∷ [])) (numbers_of (or_one (over_vertex a s 0) (round_of a s k b t j)))
      (ap (λ (l : List (ℕ × ℕ)). numbers_of (or_one (over_vertex a s 0) l)) (sym n))
      (subst (λ (l : List ℕ). Stored 0 (numbers_of (over_vertex a s 0 ∷ [])) l o g) same q)

pub above-yes : (y z Y Z : ℕ) → y ≡ Y → z ≡ Z → y < z → true ≡ ltb Y Z
above-yes y z Y Z ey ez l = sym (borrow.Author.Tests.lt-ltb Y Z (omega arith))

pub above-no : (y z Y Z : ℕ) → y ≡ Y → z ≡ Z → z ≤ y → false ≡ ltb Y Z
above-no y z Y Z ey ez l = sym (borrow.Author.Tests.le-ltb Y Z (omega arith))

-- ---- what the caller knows
none-there : (A : ℕ → ℕ) (e : ℕ) (s : List ℕ) → Chain A e (stack_of s 0) → (w : ℕ) → w < e → Full A w → ⊥
unfolding stack_of
none-there A e s c w l f = c.links w l f

module _ {p : List ℕ} (bd : Bounded p) (some : 0 < many p) {o : Bool} {a : List ℕ} (s : List ℕ) (r : ℕ) (ta : Tops o p (many p) a)
    (cs : Chain (value_at a) 8193 (stack_of s r)) where
  pub chain-some : 0 < r
  chain-some = go (Rattle.laws.proofs.Bools.le-or-lt r 0)
    where
      go : (r ≤ 0) ⊎ (0 < r) → 0 < r
      go (inl l) =
          let z : r ≡ 0 = omega arith in
          let c : Chain (value_at a) 8193 (stack_of s 0) = subst (λ (n : ℕ). Chain (value_at a) 8193 (stack_of s n)) z cs in
          let f = full_at p bd o a ta 0 some in
          absurd (none-there (value_at a) 8193 s c (seen o (x_at p 0)) f.0 f)
      go (inr l) = l

  chain-suc : Chain (value_at a) 8193 (stack_of s (suc (r - 1)))
  chain-suc =
      let l = chain-some in
      let z : r ≡ suc (r - 1) = omega arith in
      subst (λ (n : ℕ). Chain (value_at a) 8193 (stack_of s n)) z cs

  pub places_of : r ≤ 8193 → length s ≡ 8193 → ChainPlaces a s (r - 1)
  places_of most long =
      let l = chain-some in
      record { size = ta.size; room = omega arith; points = links-full (value_at a) 8193 s (r - 1) chain-suc.links }

-- some points, or none
pub some_of : (n : ℕ) → (n ≡ 0 → ⊥) → 0 < n
some_of zero some = absurd (some refl)
some_of (suc n) some = omega arith

pub hull-none : (p old : List ℕ) → many p ≡ 0 → length p ≡ 2 * many p
    → (0 ≡ length (hull_whole (pairs_of p))) × (old ≡ laid (numbers_of (hull_whole (pairs_of p))) old)
unfolding hull_whole pairs_of numbers_of hull_with walk_with
hull-none [] old none even = (refl, refl)
hull-none (x ∷ p) old none even = absurd (omega arith)

-- both halves of the way round; m places above, n below
module _ {p : List ℕ} (even : length p ≡ 2 * many p) (bd : Bounded p) (some : 0 < many p) {a b : List ℕ} (s t : List ℕ) (m n : ℕ)
    (ta : Tops false p (many p) a) (tb : Tops true p (many p) b) (cs : Chain (value_at a) 8193 (stack_of s m))
    (ct : Chain (value_at b) 8193 (stack_of t n)) where
  abbrev Round : List (ℕ × ℕ)
  Round = or_one (over_vertex a s 0) (round_of a s (m - 1) b t (n - 1))

  round_whole : Round ≡ hull_whole (pairs_of p)
  round_whole =
      pts-inj Round (hull_whole (pairs_of p))
      (round-hull p bd some a b s t (m - 1) (n - 1) ta tb (chain-suc bd some s m ta cs)
      (chain-suc bd some t n tb ct) ∙ sym (hull-pts (pairs_of p)))

  pub round-fits : (room : ℕ) → length p ≤ room → 2 * length Round ≤ room
  round-fits room l =
      let e = ap length round_whole in
      let f = fewer (pairs_of p) in
      let g = length_pairs p in
      omega arith

  pub round-end : {old new : List ℕ} {e : ℕ} → length p ≤ length old → Stored 0 (numbers_of Round) old new e
      → (e / 2 ≡ length (hull_whole (pairs_of p))) × (new ≡ laid (numbers_of (hull_whole (pairs_of p))) old)
  round-end {old} {new} {e} l w =
      let v : Stored 0 (numbers_of (hull_whole (pairs_of p))) old new e =
      subst (λ (q : List (ℕ × ℕ)). Stored 0 (numbers_of q) old new e) round_whole w in
      let n = length-numbers (hull_whole (pairs_of p)) in
      let f = fewer (pairs_of p) in
      let k = length_pairs p in
      let g = v.next in
      (omega arith, stored-laid v (omega arith))
