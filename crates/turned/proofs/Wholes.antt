-- What calls of `doubled`, and of `convex_hull` and `quad` by whole numbers, leave and answer, for the numbers of points in doubled
-- coordinates up to 8,192.
--     stored_is, few                     the numbers that `doubled` stored, and how many points they are at most
--     count-is, vertices-is              the vertices that `convex_hull` listed
--     hull-accepted, quad-accepted       the calls after it are accepted
--     corners-is, none_both              the corners that `quad` answered; none in both, or in neither
--     by-wholes                          all of these of a picture and of the moved one
-- Assumes nothing.
use mathlib.Core.Path.{◌≡◌, refl, sym, ap, ap₂, ◌∙◌, subst}
use mathlib.Core.Logic.{◌↔◌}
use mathlib.Core.List.{List, [], ◌∷◌}
use Prim.Native.Nat.{ℕ, ◌*◌, ◌≤◌}
use native.Mathlib.Omega.{arith}
use native.Mathlib.Nat.{le_trans}
use lib.Ieee.{Float}
use lib.ListN.{length, take, drop}
use lib.Seq.{take_at}
use Rattle.hull.proofs.Floats.{length-floats, length-numbers}
use Rattle.laws.specs.Lent.{laid}
use Rattle.laws.specs.Move.{Move}
use Rattle.hull.specs.Points.{numbers_of, floats_of, UpTo}
use Rattle.doubled.specs.Points.{pairs_of}
use Rattle.doubled.specs.Outline.{hull_whole, quad_whole}
use Rattle.doubled.specs.Checks.{check_hull, check_quad}
use Rattle.doubled.specs.Doubled.{twices, doubled_after}
use Rattle.doubled.specs.Claims.{DoubledIs}
use Rattle.doubled.proofs.Points.{pairs-numbers}
use Rattle.doubled.proofs.Checks.{hull-passed}
use Rattle.doubled.proofs.Accepted.{hull-good, quad-good, fewer}
use Rattle.doubled.proofs.Twices.{doubled-is}
use Rattle.whole_hull.specs.Door.{hull_after}
use Rattle.std.proofs.Common.{Option, Some, None, Result, Ok, Err}
use Rattle.std.proofs.lemmas.Option.{none-some}
use Rattle.laws.specs.Said.{Said, give}
use Rattle.refusal.specs.declared.Refusal.{Refusal}
use Rattle.refusal.specs.Numbers.{said, said_some, answered}
use Rattle.refusal.proofs.Numbers.{said-give}
use Rattle.whole_quad.specs.Door.{quad_of_pairs, quad_by}
use Rattle.whole_quad.specs.declared.corners.Quad.{Quad}
use Rattle.turned.specs.Taken.{in_wholes}
use Rattle.turned.specs.Calls.{DoubledCall, stored_by, WholeHullCall, count_of, whole_vertices, WholeQuadCall}
use Rattle.turned.specs.Accepts.{WholeAccepted}
use Rattle.turned.specs.Outlines.{ShapesAlike, ByWholes}
use Rattle.turned.proofs.Shapes.{hull-within}
use Rattle.turned.proofs.Turned.{wholes-exact}
use Rattle.turned.proofs.Answers.{as_many}

-- what a call says tells the call's answer
said-some : {A : Type 0} (r : Result (Option A) Refusal) (o : Option A) → said_some r ≡ said_some (Ok o) → r ≡ Ok o
said-some (Ok (Some a)) (Some b) e = cc
said-some (Ok (Some a)) None e = cc
said-some (Ok None) (Some b) e = cc
said-some (Ok None) None e = refl
said-some (Err r) (Some b) e = cc
said-some (Err r) None e = cc

abbrev quad_some : List (ℕ × ℕ) → Said Quad
quad_some L = said_some (Ok (quad_of_pairs L))

module _ (L : List (ℕ × ℕ)) (l : List Float) (e : l ≡ floats_of L) (up : UpTo 8192 L) where
  twices-is : twices l ≡ numbers_of L
  unfolding DoubledIs
  twices-is = ap twices e ∙ doubled-is L up

  as_long : length (numbers_of L) ≡ length l
  as_long = length-numbers L ∙ sym (ap length e ∙ length-floats L)

  abbrev K : List (ℕ × ℕ)
  K = hull_whole L

  module _ (d : DoubledCall l) where
    list-is : d.list ≡ laid (numbers_of L) d.lent
    unfolding doubled_after
    list-is =
        d.list-is ∙ ap (λ (n : ℕ). doubled_after n l d.lent) d.accepted ∙ ap (λ (x : List ℕ). laid x d.lent) twices-is

    pub stored_is : stored_by l d ≡ numbers_of L
    stored_is = ap (take (length l)) list-is ∙ take_at (numbers_of L) (drop (length (numbers_of L)) d.lent) (length l) as_long

    few : length L ≤ 16384
    few =
        let r = (hull-passed (twices l) (length d.lent) (sym d.answer-is ∙ d.accepted)).0.few in
        omega (arith, r, ap length twices-is, length-numbers L)

    pub hull-accepted : (room : ℕ) → length l ≤ room → check_hull (stored_by l d) room ≡ 0
    hull-accepted room fit =
        subst (λ (p : List ℕ). check_hull p room ≡ 0) (sym stored_is)
        (hull-good L up few room (omega (arith, fit, as_long, length-numbers L)))

    module _ (k : WholeHullCall (stored_by l d)) where
      pairs_is : pairs_of (stored_by l d) ≡ L
      pairs_is = ap pairs_of stored_is ∙ pairs-numbers L

      told : said k.answer ≡ give (length K)
      unfolding answered
      told =
          k.answer-is ∙ ap (λ (n : ℕ). answered n (length (hull_whole (pairs_of (stored_by l d))))) k.accepted
          ∙ ap (λ (x : List (ℕ × ℕ)). give (length (hull_whole x))) pairs_is

      pub count-is : count_of k.answer ≡ length K
      count-is = ap count_of (said-give k.answer (length K) told)

      pub vertices-is : whole_vertices (stored_by l d) k ≡ numbers_of K
      vertices-is =
          ap₂ (λ (n : ℕ) (x : List ℕ). take (2 * n) x) count-is
          (k.list-is ∙ ap (λ (a : Said ℕ). hull_after a (stored_by l d) k.lent) told
          ∙ ap (λ (x : List (ℕ × ℕ)). laid (numbers_of (hull_whole x)) k.lent) pairs_is)
          ∙ take_at (numbers_of K) (drop (length (numbers_of K)) k.lent) (2 * length K) (length-numbers K)

      pub quad-accepted : check_quad (whole_vertices (stored_by l d) k) ≡ 0
      quad-accepted =
          ap check_quad vertices-is
          ∙ quad-good K (hull-within 8192 in_wholes wholes-exact L up) (le_trans (fewer L) few)

      pub corners-is : (q : WholeQuadCall (whole_vertices (stored_by l d) k)) → q.answer ≡ Ok (quad_of_pairs (quad_whole K))
      unfolding quad_by
      corners-is q =
          said-some q.answer (quad_of_pairs (quad_whole K))
          (q.answer-is
          ∙ ap (λ (n : ℕ). quad_by n (quad_whole (pairs_of (whole_vertices (stored_by l d) k)))) quad-accepted
          ∙ ap (λ (v : List ℕ). quad_some (quad_whole (pairs_of v))) vertices-is
          ∙ ap (λ (x : List (ℕ × ℕ)). quad_some (quad_whole x)) (pairs-numbers K))

  pub whole-accepted : length L ≤ 16384 → WholeAccepted l
  whole-accepted few = record {
    doubled = λ room fit.
        subst (λ (p : List ℕ). check_hull p room ≡ 0) (sym twices-is)
        (hull-good L up few room (omega (arith, fit, as_long, length-numbers L)));
    hull = hull-accepted;
    quad = quad-accepted;
  }

-- ---- none
none-empty : (L : List (ℕ × ℕ)) → (quad_of_pairs L ≡ None → length L ≡ 0) × (length L ≡ 0 → quad_of_pairs L ≡ None)
unfolding quad_of_pairs
none-empty [] = (λ n. refl, λ n. refl)
none-empty (q ∷ L) = (λ n. absurd (none-some _ (sym n)), λ n. absurd (omega (arith, n)))

-- an answer's value
ok-same : {A : Type 0} (a b : A) → ◌≡◌ {A = Result A Refusal} (Ok a) (Ok b) → a ≡ b
ok-same a b e = cc

none_both : (a a' : Result (Option Quad) Refusal) (L L' : List (ℕ × ℕ)) → a ≡ Ok (quad_of_pairs L) → a' ≡ Ok (quad_of_pairs L')
    → length L' ≡ length L → (a ≡ Ok None) ↔ (a' ≡ Ok None)
none_both a a' L L' e e' same =
    let z = none-empty L in
    let z' = none-empty L' in
    let empty : a ≡ Ok None → length L ≡ 0 = λ n. z.0 (ok-same _ _ (sym e ∙ n)) in
    let empty' : a' ≡ Ok None → length L' ≡ 0 = λ n. z'.0 (ok-same _ _ (sym e' ∙ n)) in
    (λ n. e' ∙ ap Ok (z'.1 (same ∙ empty n)), λ n. e ∙ ap Ok (z.1 (sym same ∙ empty' n)))

-- ---- a picture and the moved one
pub by-wholes : (m : Move) (w h : ℕ) (L L' : List (ℕ × ℕ)) (l l' : List Float) → l ≡ floats_of L → l' ≡ floats_of L' → UpTo 8192 L → UpTo 8192 L'
    → ShapesAlike m w h L L' (hull_whole L) (hull_whole L') (quad_whole (hull_whole L)) (quad_whole (hull_whole L')) → ByWholes m w h l l'
unfolding ByWholes
by-wholes m w h L L' l l' e e' up up' shapes d d' k k' q q' = record {
  points = L;
  points' = L';
  vertices = hull_whole L;
  vertices' = hull_whole L';
  corners = quad_whole (hull_whole L);
  corners' = quad_whole (hull_whole L');
  stored = (e, e');
  doubled = (stored_is L l e up d, stored_is L' l' e' up' d');
  hulled = (vertices-is L l e up d k, vertices-is L' l' e' up' d' k');
  cornered = (corners-is L l e up d k q, corners-is L' l' e' up' d' k' q');
  count = count-is L' l' e' up' d' k' ∙ as_many m w h (hull_whole L) (hull_whole L') shapes.hull.0 ∙ sym (count-is L l e up d k);
  alike = shapes;
  none = λ a b far one other.
      none_both q.answer q'.answer (quad_whole (hull_whole L)) (quad_whole (hull_whole L')) (corners-is L l e up d k q)
      (corners-is L' l' e' up' d' k' q')
      (as_many m w h (quad_whole (hull_whole L)) (quad_whole (hull_whole L')) (shapes.quad a b far one other).0);
}
