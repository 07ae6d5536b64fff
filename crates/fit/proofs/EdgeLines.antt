-- The ways of an edge's line, by what the code finds on its way. Assumes nothing.
--   hull-short, hull-fit                     a hull edge under 16, and its line
--   edge-short, edge_few, edge-fit           an edge under 16, with fewer than 8 points, and its line by consensus
--   no-trial, no-support, supported          no trial line, too few that agree, and the line refitted
--   refined-by, edges_by                     the refined quad and the quad of the edges, by their four lines
use mathlib.Core.Path.{◌≡◌, sym, ap, ◌∙◌}
use mathlib.Core.Bool.{Bool, true, false, cond}
use mathlib.Core.List.{List}
use Prim.Native.Nat.{ℕ, ◌*◌, ◌≤◌, ◌<◌}
use lib.ListN.{length, take}
use lib.Dec.{ltb, eqb}
use lib.Ieee.{Float, lt}
use borrow.Author.Tests.{lt-ltb, le-ltb, eq-eqb, ne_eqb}
use Rattle.std.specs.Prelude.{Option}
use Rattle.ieee.specs.Ops.{max}
use Rattle.ieee.specs.Constants.{0·02, 0·35, 2f}
use Rattle.hull.specs.Points.{many}
use Rattle.hull.specs.declared.points.Point.{Point}
use Rattle.hull.specs.declared.points.Quad.{Quad}
use Rattle.fit.specs.F32.{◌⊗◌, whole_float, 1·5, 3f, 16f}
use Rattle.fit.specs.Select.{KeptIn}
use Rattle.fit.specs.Line.{refit_of}
use Rattle.fit.specs.Corner.{edge_from, hull_line, after_line, or_quad, refined_at, refined_of}
use Rattle.fit.specs.Consensus.{search_range, trials_of, consensus_of, edge_line, edge_at, edge_quad}
use Rattle.fit.specs.declared.line.Edge.{Edge}
use Rattle.fit.specs.declared.line.Line.{Line}
use Rattle.fit.specs.declared.line.Line.TheVariants.{Along, NoLine}
use Rattle.fit.specs.declared.consensus.Trial.{Trial}
use Rattle.fit.proofs.Selects.{kept_half, kept-front}
use Rattle.fit.proofs.Lines.{refined-after, edges-after}

-- ---- an edge of the hull
module _ (s : List Float) (a b : Point) (e : Edge) (is : e ≡ edge_from a b) where
  abbrev refitted : Edge → Line
  refitted e = refit_of s e (max (e.len ⊗ 0·02) 2f) 1·5 (Along a.x a.y e.ux e.uy)

  hull-by : (t : Bool) → lt e.len 16f ≡ t → cond t NoLine (refitted e) ≡ hull_line s a b
  unfolding hull_line
  hull-by t h =
      ap (λ (t : Bool). cond t NoLine (refitted e)) (sym h)
      ∙ ap (λ (e : Edge). cond (lt e.len 16f) NoLine (refitted e)) is

  pub hull-short : lt e.len 16f ≡ true → NoLine ≡ hull_line s a b
  hull-short h = hull-by true h

  pub hull-fit : (r : Line) (w : Float) → lt e.len 16f ≡ false → w ≡ max (e.len ⊗ 0·02) 2f
      → r ≡ refit_of s e w 1·5 (Along a.x a.y e.ux e.uy) → r ≡ hull_line s a b
  hull-fit r w h ew q =
      q ∙ ap (λ (w : Float). refit_of s e w 1·5 (Along a.x a.y e.ux e.uy)) ew ∙ hull-by false h

-- ---- an edge by consensus
module _ (s : List Float) (a b : Point) (e : Edge) (is : e ≡ edge_from a b) where
  abbrev found : Edge → Line
  found e = cond (ltb (many (search_range e s)) 8) NoLine (consensus_of (search_range e s) e)

  edge_by : (t : Bool) → lt e.len 16f ≡ t → cond t NoLine (found e) ≡ edge_line s a b
  unfolding edge_line
  edge_by t h =
      ap (λ (t : Bool). cond t NoLine (found e)) (sym h) ∙ ap (λ (e : Edge). cond (lt e.len 16f) NoLine (found e)) is

  pub edge-short : lt e.len 16f ≡ true → NoLine ≡ edge_line s a b
  edge-short h = edge_by true h

  module _ {old new : List Float} {m : ℕ} (long : lt e.len 16f ≡ false) (q : KeptIn (length s) (search_range e s) old new m) where
    held_by : (t : Bool) → ltb m 8 ≡ t → cond t NoLine (consensus_of (search_range e s) e) ≡ edge_line s a b
    held_by t h =
        ap (λ (t : Bool). cond t NoLine (consensus_of (search_range e s) e)) (sym h)
        ∙ sym (ap (λ (n : ℕ). cond (ltb n 8) NoLine (consensus_of (search_range e s) e)) (kept_half q))
        ∙ edge_by false long

    pub edge_few : m < 8 → NoLine ≡ edge_line s a b
    edge_few h = held_by true (lt-ltb m 8 h)

    pub edge-fit : (r : Line) → 8 ≤ m → r ≡ consensus_of (take (2 * m) new) e → r ≡ edge_line s a b
    edge-fit r h z = z ∙ ap (λ (l : List Float). consensus_of l e) (kept-front q) ∙ held_by false (le-ltb m 8 h)

-- ---- a consensus
module _ (s : List Float) (e : Edge) (best : Trial) (is : best ≡ trials_of s e.len) where
  abbrev around : Trial → Line
  around best = refit_of s e 3f 1·5 (Along best.x best.y best.u best.v)

  abbrev backed : Trial → Line
  backed best = cond (lt (whole_float best.count) (0·35 ⊗ e.len)) NoLine (around best)

  consensus-by : (t : Bool) → eqb best.count 0 ≡ t → cond t NoLine (backed best) ≡ consensus_of s e
  unfolding consensus_of
  consensus-by t h =
      ap (λ (t : Bool). cond t NoLine (backed best)) (sym h) ∙ ap (λ (b : Trial). cond (eqb b.count 0) NoLine (backed b)) is

  pub no-trial : best.count ≡ 0 → NoLine ≡ consensus_of s e
  no-trial h = consensus-by true (eq-eqb best.count 0 h)

  module _ (some : best.count ≡ 0 → ⊥) where
    support-by : (t : Bool) → lt (whole_float best.count) (0·35 ⊗ e.len) ≡ t → cond t NoLine (around best) ≡ consensus_of s e
    support-by t h =
        ap (λ (t : Bool). cond t NoLine (around best)) (sym h) ∙ consensus-by false (ne_eqb best.count 0 some)

    pub no-support : lt (whole_float best.count) (0·35 ⊗ e.len) ≡ true → NoLine ≡ consensus_of s e
    no-support h = support-by true h

    pub supported : (r : Line) → lt (whole_float best.count) (0·35 ⊗ e.len) ≡ false
        → r ≡ refit_of s e 3f 1·5 (Along best.x best.y best.u best.v) → r ≡ consensus_of s e
    supported r h q = q ∙ support-by false h

-- ---- four edges
module _ (s : List Float) (q : Quad) (ab bc cd da : Line) where
  pub refined-by : (f : Option Quad) (r : Quad) → ab ≡ hull_line s q.a q.b → bc ≡ after_line ab (hull_line s q.b q.c)
      → cd ≡ after_line bc (hull_line s q.c q.d) → da ≡ after_line cd (hull_line s q.d q.a)
      → f ≡ refined_at q ab bc cd da → r ≡ or_quad f q → r ≡ refined_of s q
  unfolding refined_of
  refined-by f r ea eb ec ed ef er =
      let bc₀ = hull_line s q.b q.c in
      let cd₀ = hull_line s q.c q.d in
      let da₀ = hull_line s q.d q.a in
      er
      ∙ ap (λ (f : Option Quad). or_quad f q) (ef ∙ refined-after q ab bc cd da bc₀ cd₀ da₀ eb ec ed)
      ∙ ap (λ (ab : Line). or_quad (refined_at q ab bc₀ cd₀ da₀) q) ea

  pub edges_by : (r : Option Quad) → ab ≡ edge_line s q.a q.b → bc ≡ after_line ab (edge_line s q.b q.c)
      → cd ≡ after_line bc (edge_line s q.c q.d) → da ≡ after_line cd (edge_line s q.d q.a)
      → r ≡ edge_at q ab bc cd da → r ≡ edge_quad s q
  unfolding edge_quad
  edges_by r ea eb ec ed er =
      let bc₀ = edge_line s q.b q.c in
      let cd₀ = edge_line s q.c q.d in
      let da₀ = edge_line s q.d q.a in
      er ∙ edges-after q ab bc cd da bc₀ cd₀ da₀ eb ec ed ∙ ap (λ (ab : Line). edge_at q ab bc₀ cd₀ da₀) ea
