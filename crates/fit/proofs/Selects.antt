-- A selection in progress, and what its caller makes of it. Assumes nothing.
--   Selecting                                          after k points: how many are held, what they are, and what is untouched
--   selecting-begin, selecting-turn, selecting-end     at the beginning, with one point more, at the end
--   kept_half, kept-front, kept_same, kept-past        of a selection that is done: how many, which, the list's length, its rest
use mathlib.Core.Path.{◌≡◌, refl, sym, ap, ◌∙◌, subst}
use mathlib.Core.Bool.{Bool, true, false, cond}
use mathlib.Core.List.{List, [], ◌∷◌, ◌++◌, append_assoc, append-nil}
use Prim.Native.Nat.{ℕ, suc, ◌+◌, ◌-◌, ◌*◌, ◌≤◌, ◌<◌}
use native.Mathlib.Nat.{sub-zero}
use native.Mathlib.Omega.{arith}
use lib.ListN.{length, set, take, drop, length-set, length-append, length-drop, take-append-drop}
use lib.Seq.{take-suc-set, drop-set-lt, length-take-le, take_at}
use lib.Ieee.{Float}
use Rattle.laws.proofs.Past.{drop_more, past-front}
use Rattle.laws.proofs.Steps.{one_less, none_left}
use Rattle.hull.specs.Points.{many}
use Rattle.fit.specs.F32.{x_of, y_of}
use Rattle.fit.specs.Select.{HeldPoints, put_of, Rule, kept_on, points_by, KeptIn}
use Rattle.laws.specs.Lent.{UntouchedPast}

-- After k points of s the list holds m of them, and the rest of the definition is what is still to be kept.
pub record Selecting (r : Rule) (s old list : List Float) (k m : ℕ) : Type 0 where
  pub few : m ≤ k
  pub passed : k ≤ many s
  pub long : length list ≡ length old
  pub front : take (2 * m) list ++ kept_on r s (many s - k) k ≡ points_by r s
  pub rest : drop (2 * m) list ≡ drop (2 * m) old

pub selecting-begin : (r : Rule) (s old : List Float) → Selecting r s old old 0 0
selecting-begin r s old = record {
  few = omega arith;
  passed = omega arith;
  long = refl;
  front = ap (λ (d : ℕ). kept_on r s d 0) (sub-zero (many s));
  rest = refl;
}

-- ---- one point more
-- two places more, one after the other
push-take : (l : List Float) (i : ℕ) (x y : Float) → i + 1 < length l
    → take (i + 2) (set (set l i x) (i + 1) y) ≡ take i l ++ (x ∷ y ∷ [])
push-take l i x y h =
    let one : i + 2 ≡ suc (i + 1) = omega arith in
    let two : i + 1 ≡ suc i = omega arith in
    let less : i < length l = omega arith in
    let more : i + 1 < length (set l i x) = simp length-set (omega arith) in
    ap (λ (n : ℕ). take n (set (set l i x) (i + 1) y)) one
    ∙ take-suc-set (set l i x) (i + 1) y more
    ∙ ap (λ (n : ℕ). take n (set l i x) ++ (y ∷ [])) two
    ∙ ap (λ (t : List Float). t ++ (y ∷ [])) (take-suc-set l i x less)
    ∙ append_assoc (take i l) (x ∷ []) (y ∷ [])

push-drop : (l : List Float) (i : ℕ) (x y : Float) → drop (i + 2) (set (set l i x) (i + 1) y) ≡ drop (i + 2) l
push-drop l i x y = drop-set-lt (i + 2) (set l i x) (i + 1) y (omega arith) ∙ drop-set-lt (i + 2) l i x (omega arith)

module _ (r : Rule) (s : List Float) (k : ℕ) where
  -- point k as the rule keeps it, and what is kept after it
  abbrev x : Float
  x = r.first (x_of s k) (y_of s k)

  abbrev y : Float
  y = r.second (x_of s k) (y_of s k)

  abbrev after : ℕ → List Float
  after n = kept_on r s (n - (k + 1)) (k + 1)

  kept_on_lem : (n : ℕ) (b : Bool) → k < n → r.keep (x_of s k) (y_of s k) ≡ b → kept_on r s (n - k) k ≡ cond b (x ∷ y ∷ after n) (after n)
  unfolding kept_on
  kept_on_lem n b h e =
      ap (λ (d : ℕ). kept_on r s d k) (one_less n k h) ∙ ap (λ (b : Bool). cond b (x ∷ y ∷ after n) (after n)) e

  turn_by : (old list : List Float) (m : ℕ) (b : Bool) → r.keep (x_of s k) (y_of s k) ≡ b → k < many s → length s ≤ length old
      → Selecting r s old list k m → (h : HeldPoints) → h ≡ put_of b x y record { list = list; held = m }
      → Selecting r s old h.list (k + 1) h.held
  turn_by old list m true t more room q h e =
      let f = q.few in
      let fit : 2 * m + 1 < length list = (let z = q.long in omega arith) in
      let two : 2 * (m + 1) ≡ 2 * m + 2 = omega arith in
      subst (λ (h : HeldPoints). Selecting r s old h.list (k + 1) h.held) (sym e) record {
        few = omega arith;
        passed = omega arith;
        long = simp length-set q.long;
        front =
            ap (λ (n : ℕ). take n (set (set list (2 * m) x) (2 * m + 1) y) ++ after (many s)) two
            ∙ ap (λ (t : List Float). t ++ after (many s)) (push-take list (2 * m) x y fit)
            ∙ append_assoc (take (2 * m) list) (x ∷ y ∷ []) (after (many s))
            ∙ ap (λ (l : List Float). take (2 * m) list ++ l) (sym (kept_on_lem (many s) true more t))
            ∙ q.front;
        rest =
            ap (λ (n : ℕ). drop n (set (set list (2 * m) x) (2 * m + 1) y)) two
            ∙ push-drop list (2 * m) x y
            ∙ drop_more (2 * m) (2 * m + 2) list old (omega arith) q.rest
            ∙ ap (λ (n : ℕ). drop n old) (sym two);
      }
  turn_by old list m false t more room q h e =
      let f = q.few in
      subst (λ (h : HeldPoints). Selecting r s old h.list (k + 1) h.held) (sym e) record {
        few = omega arith;
        passed = omega arith;
        long = q.long;
        front = ap (λ (l : List Float). take (2 * m) list ++ l) (sym (kept_on_lem (many s) false more t)) ∙ q.front;
        rest = q.rest;
      }

-- b, u and v are what the rule says of point k
pub selecting-turn : (r : Rule) (s old list list' : List Float) (k m m' : ℕ) (b : Bool) (u v : Float)
    → b ≡ r.keep (x_of s k) (y_of s k) → u ≡ r.first (x_of s k) (y_of s k) → v ≡ r.second (x_of s k) (y_of s k)
    → k < many s → length s ≤ length old → Selecting r s old list k m
    → record { list = list'; held = m' } ≡ put_of b u v record { list = list; held = m } → Selecting r s old list' (k + 1) m'
selecting-turn r s old list list' k m m' b u v eb eu ev more room q e =
    turn_by r s k old list m b (sym eb) more room q record { list = list'; held = m' }
    (e
    ∙ ap (λ (u : Float). put_of b u v record { list = list; held = m }) eu
    ∙ ap (λ (v : Float). put_of b (x r s k) v record { list = list; held = m }) ev)

-- ---- the end
kept-none : (r : Rule) (s : List Float) (n k : ℕ) → n ≤ k → kept_on r s (n - k) k ≡ []
unfolding kept_on
kept-none r s n k h = ap (λ (d : ℕ). kept_on r s d k) (none_left n k h)

pub selecting-end : (r : Rule) (s old list : List Float) (k m : ℕ) → many s ≤ k → length s ≤ length old → Selecting r s old list k m
    → KeptIn (length s) (points_by r s) old list m
selecting-end r s old list k m over room q =
    let f = q.few in
    let p = q.passed in
    let g = q.long in
    let short : 2 * m ≤ length list = omega arith in
    let all : take (2 * m) list ≡ points_by r s =
    sym (append-nil (take (2 * m) list))
    ∙ ap (λ (l : List Float). take (2 * m) list ++ l) (sym (kept-none r s (many s) k over))
    ∙ q.front in
    record {
      few = omega arith;
      list =
          sym (take-append-drop (2 * m) list)
          ∙ ap (λ (l : List Float). l ++ drop (2 * m) list) all
          ∙ ap (λ (l : List Float). points_by r s ++ l) q.rest;
      count = ap length (sym all) ∙ length-take-le (2 * m) list short;
    }

-- ---- what a caller makes of a selection
module _ {n : ℕ} {kept old new : List Float} {m : ℕ} (q : KeptIn n kept old new m) where
  pub kept_half : many kept ≡ m
  kept_half = let z = q.count in omega arith

  pub kept-front : take (2 * m) new ≡ kept
  kept-front = ap (take (2 * m)) q.list ∙ take_at kept (drop (2 * m) old) (2 * m) q.count

  pub kept_same : n ≤ length old → length new ≡ length old
  kept_same h =
      let z = q.count in
      let f = q.few in
      ap length q.list ∙ simp (length-append, length-drop) (omega arith)

  -- a part of the list that is lent on has as many numbers as it says
  pub kept-long : n ≤ length old → length (take (2 * m) new) ≡ 2 * m
  kept-long h =
      let f = q.few in
      let z = kept_same h in
      length-take-le (2 * m) new (omega arith)

  pub kept-past : n ≤ length old → UntouchedPast n old new
  kept-past h = let f = q.few in past-front n (2 * m) kept old q.few (omega arith) q.count q.list
