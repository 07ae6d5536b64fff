-- Laws of the finite lumas round the ring and of windows as parts of them.
--     keep-yes, keep-no                      one luma further
--     gathered-append                        places from a on, in two parts
--     gathered-begin, gathered-turn          the invariant of the loop that gathers
--     window-part                            a window is a part of what is gathered
--     light-far, light-few, light-many       whether a luma is light, in the three cases of the code
--     Lighting                               the invariant of the loop over positions: begin, turn, end
-- Assumes nothing.
use mathlib.Core.Path.{◌≡◌, refl, sym, ap, ◌∙◌}
use mathlib.Core.Bool.{Bool, true, false, cond}
use mathlib.Core.List.{List, [], ◌∷◌, ◌++◌, append_assoc, append-nil}
use Prim.Native.Nat.{ℕ, zero, suc, ◌+◌, ◌-◌, ◌<◌, ◌≤◌}
use native.Mathlib.Omega.{arith}
use native.Mathlib.Numerals.{add-one}
use borrow.Author.Tests.{lt-ltb, le-ltb}
use lib.Ieee.{Float, nan, lt}
use lib.ListN.{length, get_or, take, drop, set, length-append, length-set, take-append-drop}
use lib.Seq.{take-suc-set, take_at, drop_at, length-take-le}
use Rattle.laws.specs.Fold.{bit}
use Rattle.ieee.specs.Ops.{finite}
use Rattle.marks.specs.Split.{split}
use Rattle.marks.proofs.MarkLists.{marks-none, marks-turn, marks-done}
use Rattle.marks.specs.Classify.{place_around, luma_around, kept, gathered, window, light_in, light_at, marks_of, lights, Gathered, Around}

-- ---- gathering

pub keep-yes : (l : List Float) (len : ℕ) (x : Float) → len < length l → finite x ≡ true
    → take (len + 1) (set l len x) ≡ kept (take len l) x
unfolding kept
keep-yes l len x h e = rw (e, add-one) (take-suc-set l len x h)

pub keep-no : (l : List Float) (len : ℕ) (x : Float) → finite x ≡ false → take len l ≡ kept (take len l) x
unfolding kept
keep-no l len x e = rw e

kept_append : (l w : List Float) (x : Float) → kept (l ++ w) x ≡ l ++ kept w x
unfolding kept
kept_append l w x = go (finite x)
  where
    go : (b : Bool) → cond b ((l ++ w) ++ (x ∷ [])) (l ++ w) ≡ l ++ cond b (w ++ (x ∷ [])) w
    go true = append_assoc l w (x ∷ [])
    go false = refl

kept-length : (w : List Float) (x : Float) → length (kept w x) ≡ length w + bit (finite x)
unfolding kept
kept-length w x = go (finite x)
  where
    go : (b : Bool) → length (cond b (w ++ (x ∷ [])) w) ≡ length w + bit b
    go true = length-append w (x ∷ [])
    go false = omega arith

gathered_next : (s : List Float) (a k : ℕ) → gathered s a (k + 1) ≡ kept (gathered s a k) (luma_around s (a + k))
unfolding gathered
gathered_next s a k = rw add-one

pub gathered-append : (s : List Float) (a j k : ℕ) → gathered s a (j + k) ≡ gathered s a j ++ gathered s (a + j) k
gathered-append s a j zero = unfold gathered in ap (gathered s a) (let z : j + 0 ≡ j = omega arith in z) ∙ sym (append-nil (gathered s a j))
gathered-append s a j (suc k) =
    let z : j + suc k ≡ j + k + 1 = omega arith in
    let y : a + (j + k) ≡ a + j + k = omega arith in
    let x : suc k ≡ k + 1 = omega arith in
    ap (gathered s a) z ∙ gathered_next s a (j + k)
    ∙ ap (λ (w : List Float). kept w (luma_around s (a + (j + k)))) (gathered-append s a j k)
    ∙ kept_append (gathered s a j) (gathered s (a + j) k) (luma_around s (a + (j + k)))
    ∙ ap (λ (i : ℕ). gathered s a j ++ kept (gathered s (a + j) k) (luma_around s i)) y
    ∙ sym (ap (λ (i : ℕ). gathered s a j ++ gathered s (a + j) i) x
    ∙ ap (λ (w : List Float). gathered s a j ++ w) (gathered_next s (a + j) k))

-- the same from place 0 on
first_next : (s : List Float) (j : ℕ) → gathered s 0 (j + 1) ≡ kept (gathered s 0 j) (luma_around s j)
first_next s j =
    let z : 0 + j ≡ j = omega arith in
    gathered_next s 0 j ∙ ap (λ (i : ℕ). kept (gathered s 0 j) (luma_around s i)) z

first-append : (s : List Float) (j k : ℕ) → gathered s 0 (j + k) ≡ gathered s 0 j ++ gathered s j k
first-append s j k =
    let z : 0 + j ≡ j = omega arith in
    gathered-append s 0 j k ∙ ap (λ (i : ℕ). gathered s 0 j ++ gathered s i k) z

gathered-few : (s : List Float) (a k : ℕ) → length (gathered s a k) ≤ k
unfolding gathered
gathered-few s a zero = omega arith
gathered-few s a (suc k) =
    let e = kept-length (gathered s a k) (luma_around s (a + k)) in
    let h = gathered-few s a k in
    let b = bit-few (finite (luma_around s (a + k))) in
    omega arith
  where
    bit-few : (b : Bool) → bit b ≤ 1
    bit-few true = omega arith
    bit-few false = omega arith

pub luma-at : (s : List Float) (j at : ℕ) → at ≡ place_around (length s) j → get_or s at nan ≡ luma_around s j
unfolding luma_around
luma-at s j at e = ap (λ (i : ℕ). get_or s i nan) e

-- k, and one more where the luma at place j is finite
pub passed-yes : (s : List Float) (j k at : ℕ) → at ≡ place_around (length s) j → finite (get_or s at nan) ≡ true
    → k + 1 ≡ k + bit (finite (luma_around s j))
unfolding luma_around
passed-yes s j k at e t = rw (← e, t)

pub passed-no : (s : List Float) (j k at : ℕ) → at ≡ place_around (length s) j → finite (get_or s at nan) ≡ false
    → k ≡ k + bit (finite (luma_around s j))
unfolding luma_around
passed-no s j k at e t = rw (← e, t) (omega arith)

-- how many there are, one place further
pub passed-more : (s : List Float) (j k r : ℕ) → k ≡ length (gathered s 0 j) → r ≡ k + bit (finite (luma_around s j))
    → r ≡ length (gathered s 0 (j + 1))
passed-more s j k r e er =
    let n = ap length (first_next s j) ∙ kept-length (gathered s 0 j) (luma_around s j) in
    omega arith

pub gathered-begin : (s l : List Float) → Gathered s 0 0 l
gathered-begin s l = unfold gathered in record { many = refl; are = refl }

pub gathered-turn : (s l l' : List Float) (j k r : ℕ) (x : Float) → x ≡ luma_around s j → take r l' ≡ kept (take k l) x
    → length l' ≡ length l
    → j < length l → r ≤ k + 1 → Gathered s j k l → Gathered s (j + 1) r l'
gathered-turn s l l' j k r x ex e same room few g =
    let t : take r l' ≡ gathered s 0 (j + 1) =
    e ∙ ap (λ (w : List Float). kept w x) g.are ∙ ap (λ (y : Float). kept (gathered s 0 j) y) ex ∙ sym (first_next s j) in
    let m = gathered-few s 0 j in
    let q = g.many in
    record { many = sym (length-take-le r l' (omega arith)) ∙ ap length t; are = t }

-- no more than the places passed
pub gathered-room : (s l : List Float) (j k : ℕ) → Gathered s j k l → k ≤ j
gathered-room s l j k g = let e = g.many in let m = gathered-few s 0 j in omega arith

-- ---- windows

module _ (s l : List Float) (p lo hi : ℕ) (below : p < length s) (held : Around s l) (start : lo ≡ length (gathered s 0 p))
    (end : hi ≡ length (gathered s 0 (p + 33))) where
  -- what is behind the window
  rest : List Float
  rest = gathered s (p + 33) (length s - p - 1) ++ drop (length (gathered s 0 (length s + 32))) l

  parts : l ≡ gathered s 0 p ++ (window s p ++ rest)
  unfolding rest
  parts =
      let z : length s + 32 ≡ p + 33 + (length s - p - 1) = omega arith in
      let all = gathered s 0 (length s + 32) in
      let tail = gathered s (p + 33) (length s - p - 1) in
      let behind = drop (length (gathered s 0 (length s + 32))) l in
      sym (take-append-drop (length all) l) ∙ ap (λ (w : List Float). w ++ behind) held.are
      ∙ ap (λ (w : List Float). w ++ behind) (ap (gathered s 0) z ∙ first-append s (p + 33) (length s - p - 1))
      ∙ ap (λ (w : List Float). (w ++ tail) ++ behind) (first-append s p 33)
      ∙ append_assoc (gathered s 0 p ++ window s p) tail behind
      ∙ append_assoc (gathered s 0 p) (window s p) (tail ++ behind)

  long : hi ≡ lo + length (window s p)
  long = end ∙ ap length (first-append s p 33) ∙ length-append (gathered s 0 p) (window s p)
      ∙ ap (λ (k : ℕ). k + length (window s p)) (sym start)

  pub window-part : take (hi - lo) (drop lo l) ≡ window s p
  window-part =
      let k : length (window s p) ≡ hi - lo = (let e = long in omega arith) in
      ap (λ (w : List Float). take (hi - lo) (drop lo w)) parts
      ∙ ap (take (hi - lo)) (drop_at (gathered s 0 p) (window s p ++ rest) lo (sym start))
      ∙ take_at (window s p) rest (hi - lo) k

  window-ends : (lo ≤ hi) × (hi ≤ length l)
  window-ends =
      let e = long in
      let n : length l ≡ lo + (length (window s p) + length rest) =
      ap length parts ∙ length-append (gathered s 0 p) (window s p ++ rest)
      ∙ ap (λ (k : ℕ). k + length (window s p ++ rest)) (sym start) ∙ ap (λ (k : ℕ). lo + k) (length-append (window s p) rest) in
      (omega arith, omega arith)

-- ---- light or dark

pub light-far : (w : List Float) (x : Float) → finite x ≡ false → false ≡ light_in w x
unfolding light_in
light-far w x e = rw e

pub light-few : (w : List Float) (x : Float) → finite x ≡ true → length w < 4 → false ≡ light_in w x
unfolding light_in
light-few w x e h = rw (e, lt-ltb (length w) 4 h)

pub light-many : (w : List Float) (x t : Float) → finite x ≡ true → 4 ≤ length w → t ≡ split w → lt t x ≡ light_in w x
unfolding light_in
light-many w x t e h et = rw (e, le-ltb (length w) 4 h) (ap (λ (z : Float). lt z x) et)

pub light-is : (s l : List Float) (p lo hi : ℕ) (x : Float) (r : Bool) → p < length s → Around s l → lo ≡ length (gathered s 0 p)
    → hi ≡ length (gathered s 0 (p + 33)) → x ≡ get_or s p nan → r ≡ light_in (take (hi - lo) (drop lo l)) x → r ≡ light_at s p
unfolding light_at
light-is s l p lo hi x r below held start end ex er =
    er ∙ ap (λ (w : List Float). light_in w x) (window-part s l p lo hi below held start end) ∙ ap (light_in (window s p)) ex

-- What holds at position p of the loop over positions: the window's part, and the marks written.
pub record Lighting (s : List Float) (m : List Bool) (lo hi p : ℕ) : Type 0 where
  pub within : p ≤ length s
  pub same : length m ≡ length s
  pub start : lo ≡ length (gathered s 0 p)
  pub end : hi ≡ length (gathered s 0 (p + 33))
  pub low : lo ≤ p
  pub high : hi ≤ p + 33
  pub so_far : take p m ≡ marks_of p (light_at s)

pub lighting-begin : (s : List Float) (m : List Bool) (first : ℕ) → length m ≡ length s → first ≡ length (window s 0)
    → Lighting s m 0 first 0
lighting-begin s m first same e =
    let f = gathered-few s 0 33 in
    record {
      within = omega arith;
      same = same;
      start = unfold gathered in refl;
      end = e;
      low = omega arith;
      high = omega arith;
      so_far = marks-none (light_at s) m;
    }

pub lighting-turn : (s l : List Float) (m : List Bool) (lo hi p lo' hi' : ℕ) (b : Bool) → p < length s → Around s l
    → b ≡ light_in (take (hi - lo) (drop lo l)) (get_or s p nan) → lo' ≡ lo + bit (finite (luma_around s p))
    → hi' ≡ hi + bit (finite (luma_around s (p + 33))) → Lighting s m lo hi p → Lighting s (set m p b) lo' hi' (p + 1)
lighting-turn s l m lo hi p lo' hi' b below held eb el eh at =
    let z : p + 33 + 1 ≡ p + 1 + 33 = omega arith in
    let k : lo' ≡ length (gathered s 0 (p + 1)) = passed-more s p lo lo' at.start el in
    let e : hi' ≡ length (gathered s 0 (p + 1 + 33)) =
    passed-more s (p + 33) hi hi' at.end eh ∙ ap (λ (i : ℕ). length (gathered s 0 i)) z in
    record {
      within = omega arith;
      same = simp length-set at.same;
      start = k;
      end = e;
      low = (let f = gathered-few s 0 (p + 1) in omega arith);
      high = (let f = gathered-few s 0 (p + 1 + 33) in omega arith);
      so_far = marks-turn (light_at s) m p b (let f = at.same in omega arith)
          (light-is s l p lo hi (get_or s p nan) b below held at.start at.end refl eb) at.so_far;
    }

-- the part of the window at p: it lies inside the list, and is no longer than a window
pub lighting-part : (s l : List Float) (m : List Bool) (lo hi p : ℕ) → p < length s → Around s l → Lighting s m lo hi p
    → (lo ≤ hi) × (hi ≤ length l) × (length (take (hi - lo) (drop lo l)) ≤ 33)
lighting-part s l m lo hi p below held at =
    let e = window-ends s l p lo hi below held at.start at.end in
    let w = ap length (window-part s l p lo hi below held at.start at.end) in
    let f = gathered-few s p 33 in
    (e.0, e.1, omega arith)

pub lighting-end : (s : List Float) (m : List Bool) (lo hi p : ℕ) → length s ≤ p → Lighting s m lo hi p → m ≡ lights s
lighting-end s m lo hi p h at =
    let w = at.within in unfold lights in marks-done (light_at s) m p (length s) (omega arith) at.same at.so_far
