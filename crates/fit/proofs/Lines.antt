-- The cases of a pass, and corners without a line. Assumes nothing.
--   pass-none, pass-few, pass-fit      a pass around no line, with fewer than 8 points, with a fit
--   after_none, after_line_lem             the line of an edge after one that is none, and after one that is some
--   refined-after, edges-after         lines that are looked for only after a line that is some give the same corners
use mathlib.Core.Path.{◌≡◌, refl, sym, ap, ◌∙◌}
use mathlib.Core.Bool.{Bool, true, false, cond}
use mathlib.Core.List.{List}
use Prim.Native.Nat.{ℕ, ◌*◌, ◌≤◌, ◌<◌}
use lib.ListN.{length, take}
use lib.Dec.{ltb}
use lib.Ieee.{Float}
use borrow.Author.Tests.{lt-ltb, le-ltb}
use Rattle.std.specs.Prelude.{Option, None}
use Rattle.hull.specs.declared.points.Point.{Point}
use Rattle.hull.specs.declared.points.Quad.{Quad}
use Rattle.fit.specs.Select.{KeptIn}
use Rattle.fit.specs.Line.{tls_of, middle_points, line_pass, cross_of}
use Rattle.fit.specs.Corner.{near_corner, corners_of, after_line, refined_at}
use Rattle.fit.specs.Consensus.{keep_corner, limit_of, edge_at}
use Rattle.fit.specs.declared.line.Edge.{Edge}
use Rattle.fit.specs.declared.line.Line.{Line}
use Rattle.fit.specs.declared.line.Line.TheVariants.{Along, NoLine}
use Rattle.fit.specs.declared.line.Crossing.{Crossing}
use Rattle.fit.specs.declared.line.Crossing.TheVariants.{At, NoCrossing}
use Rattle.fit.proofs.Selects.{kept_half, kept-front}

-- ---- a pass
pub pass-none : (s : List Float) (e : Edge) (tol : Float) (line : Line) → line ≡ NoLine → NoLine ≡ line_pass s e tol line
unfolding line_pass
pass-none s e tol line h = sym (ap (line_pass s e tol) h)

module _ (s : List Float) (e : Edge) (tol : Float) (line : Line) {x y u v : Float} {old new : List Float} {m : ℕ}
    (h : line ≡ Along x y u v) (q : KeptIn (length s) (middle_points e x y u v tol s) old new m) where
  fit-by : (b : Bool) → ltb m 8 ≡ b → line_pass s e tol line ≡ cond b NoLine (tls_of (middle_points e x y u v tol s))
  unfolding line_pass
  fit-by b t =
      ap (line_pass s e tol) h
      ∙ ap (λ (n : ℕ). cond (ltb n 8) NoLine (tls_of (middle_points e x y u v tol s))) (kept_half q)
      ∙ ap (λ (b : Bool). cond b NoLine (tls_of (middle_points e x y u v tol s))) t

  pub pass-few : m < 8 → NoLine ≡ line_pass s e tol line
  pass-few t = sym (fit-by true (lt-ltb m 8 t))

  pub pass-fit : (r : Line) → 8 ≤ m → r ≡ tls_of (take (2 * m) new) → r ≡ line_pass s e tol line
  pass-fit r t z = z ∙ ap tls_of (kept-front q) ∙ sym (fit-by false (le-ltb m 8 t))

-- ---- a line that is none makes every corner none, whatever the lines after it
cross-none : (l : Line) → cross_of l NoLine ≡ NoCrossing
unfolding cross_of
cross-none (Along x y u v) = refl
cross-none NoLine = refl

none_1 : (a b c d : Crossing) → a ≡ NoCrossing → corners_of a b c d ≡ None
unfolding corners_of
none_1 a b c d h = ap (λ (a : Crossing). corners_of a b c d) h

none_2 : (a b c d : Crossing) → b ≡ NoCrossing → corners_of a b c d ≡ None
unfolding corners_of
none_2 (At x y) b c d h = ap (λ (b : Crossing). corners_of (At x y) b c d) h
none_2 NoCrossing b c d h = refl

none-3 : (a b c d : Crossing) → c ≡ NoCrossing → corners_of a b c d ≡ None
unfolding corners_of
none-3 (At x y) (At u v) c d h = ap (λ (c : Crossing). corners_of (At x y) (At u v) c d) h
none-3 (At x y) NoCrossing c d h = refl
none-3 NoCrossing b c d h = refl

-- the lines one after the other, each looked for only where the one before it is some
module _ (q : Quad) (keep : Crossing → Point → Crossing) (lost : (p : Point) → keep NoCrossing p ≡ NoCrossing) where
  abbrev crossings : Line → Line → Line → Line → Option Quad
  crossings ab bc cd da =
      corners_of (keep (cross_of da ab) q.a) (keep (cross_of ab bc) q.b) (keep (cross_of bc cd) q.c) (keep (cross_of cd da) q.d)

  lose : (l m : Line) (p : Point) → m ≡ NoLine → keep (cross_of l m) p ≡ NoCrossing
  lose l m p h = ap (λ (m : Line). keep (cross_of l m) p) h ∙ ap (λ (c : Crossing). keep c p) (cross-none l) ∙ lost p

  first-none : (bc cd da : Line) → crossings NoLine bc cd da ≡ None
  first-none bc cd da =
      none_1 (keep (cross_of da NoLine) q.a) (keep (cross_of NoLine bc) q.b) (keep (cross_of bc cd) q.c) (keep (cross_of cd da) q.d)
      (lose da NoLine q.a refl)

  second_none : (ab cd da : Line) → crossings ab NoLine cd da ≡ None
  second_none ab cd da =
      none_2 (keep (cross_of da ab) q.a) (keep (cross_of ab NoLine) q.b) (keep (cross_of NoLine cd) q.c) (keep (cross_of cd da) q.d)
      (lose ab NoLine q.b refl)

  third-none : (ab bc da : Line) → crossings ab bc NoLine da ≡ None
  third-none ab bc da =
      none-3 (keep (cross_of da ab) q.a) (keep (cross_of ab bc) q.b) (keep (cross_of bc NoLine) q.c) (keep (cross_of NoLine da) q.d)
      (lose bc NoLine q.c refl)

  after-some : (ab bc cd da : Line)
      → crossings ab (after_line ab bc) (after_line (after_line ab bc) cd) (after_line (after_line (after_line ab bc) cd) da)
      ≡ crossings ab bc cd da
  after-some NoLine bc cd da = first-none NoLine NoLine NoLine ∙ sym (first-none bc cd da)
  after-some (Along x y u v) NoLine cd da = second_none (Along x y u v) NoLine NoLine ∙ sym (second_none (Along x y u v) cd da)
  after-some (Along x y u v) (Along x' y' u' v') NoLine da =
      third-none (Along x y u v) (Along x' y' u' v') NoLine ∙ sym (third-none (Along x y u v) (Along x' y' u' v') da)
  after-some (Along x y u v) (Along x' y' u' v') (Along x'' y'' u'' v'') da = refl

-- the line after one that is none, and after one that is some
pub after_none : (before line : Line) → before ≡ NoLine → NoLine ≡ after_line before line
after_none before line h = sym (ap (λ (l : Line). after_line l line) h)

pub after_line_lem : (before line r : Line) {x y u v : Float} → before ≡ Along x y u v → r ≡ line → r ≡ after_line before line
after_line_lem before line r h q = q ∙ sym (ap (λ (l : Line). after_line l line) h)

-- bc, cd and da as the code finds them
module _ (q : Quad) (ab bc cd da bc₀ cd₀ da₀ : Line) (eb : bc ≡ after_line ab bc₀) (ec : cd ≡ after_line bc cd₀)
    (ed : da ≡ after_line cd da₀) where
  chain : (at : Line → Line → Line → Line → Option Quad)
      → at ab bc cd da ≡ at ab (after_line ab bc₀) (after_line (after_line ab bc₀) cd₀) (after_line (after_line (after_line ab bc₀) cd₀) da₀)
  chain at =
      ap (at ab bc cd) ed
      ∙ ap (λ (cd : Line). at ab bc cd (after_line cd da₀)) ec
      ∙ ap (λ (bc : Line). at ab bc (after_line bc cd₀) (after_line (after_line bc cd₀) da₀)) eb

  pub refined-after : refined_at q ab bc cd da ≡ refined_at q ab bc₀ cd₀ da₀
  refined-after = chain (refined_at q) ∙ after-some q near_corner (λ p. unfold near_corner in refl) ab bc₀ cd₀ da₀

  pub edges-after : edge_at q ab bc cd da ≡ edge_at q ab bc₀ cd₀ da₀
  edges-after =
      chain (edge_at q) ∙ after-some q (λ c p. keep_corner c p (limit_of q)) (λ p. unfold keep_corner in refl) ab bc₀ cd₀ da₀
