-- The search has ended: of a run with enough steps left. Assumes nothing.
--   scored-next, scored-open      a version tried moves the search on by one, and leaves it open
--   steps-ended                   an open search with a step for each version left, and one more, has ended after them
--   search-ends                   65 steps are enough for 64 versions
use Rattle.std.proofs.Common.{◌≡◌, ℕ, zero, suc, ◌+◌, ◌≤◌, Bool, true, false, List, sym, refl, ap, ◌∙◌, ⊎_elim, arith}
use Rattle.std.specs.Prelude.{Option, Some, None}
use Rattle.transform.specs.declared.Transform.{Transform}
use Rattle.laws.proofs.Bools.{le-or-lt}
use Rattle.lcr_core.specs.Version.{side_of}
use Rattle.search.specs.Geometry.{transform_of}
use Rattle.search.specs.Versions.{none_tried, too_small, ended_of, scored_of, step_of, steps_on}
use Rattle.search.specs.Claims.{SearchEnds}
use Rattle.search.specs.declared.versions.Search.{Search}
use Rattle.search.specs.declared.versions.Goal.{Goal}
use Rattle.search.proofs.Searches.{step_past, step_small, step-tried, steps-stay}

module _ (gray : List ℕ) (w h : ℕ) where
  pub scored-next : (s : Search) (m : Option Transform) → (scored_of gray w h s m).next ≡ s.next + 1
  unfolding scored_of
  scored-next s (Some t) = refl
  scored-next s None = refl

  pub scored-open : (s : Search) (m : Option Transform) → (scored_of gray w h s m).ended ≡ false
  unfolding scored_of
  scored-open s (Some t) = refl
  scored-open s None = refl

  module _ (g : Goal) where
    -- An ended search stays ended.
    stays : (d k : ℕ) (s s' : Search) → s.ended ≡ true → s ≡ s' → (steps_on gray w h g d k s').ended ≡ true
    stays d k s s' e q =
        ap (λ (z : Search). (steps_on gray w h g d k z).ended) (sym q)
        ∙ ap (λ (z : Search). z.ended) (sym (steps-stay gray w h g d k s e))
        ∙ e

    -- d steps from step k on end every open search for which they are more than the versions left: those from the next to the greatest.
    abbrev Ending : ℕ → ℕ → Type 0
    Ending d k =
        (s : Search) → s.ended ≡ false → s.next ≤ g.most + 1 → g.most + 2 ≤ s.next + d → (steps_on gray w h g d k s).ended ≡ true

    module _ (d k : ℕ) (rest : Ending d (k + 1)) (s : Search) (open' : s.ended ≡ false) (more : g.most + 2 ≤ s.next + suc d) where
      abbrev After : Type 0
      After = (steps_on gray w h g d (k + 1) (step_of gray w h g s)).ended ≡ true

      -- A version tried: the next one is within the greatest and one more, and one step fewer is left.
      on : (m : Option Transform) → s.next ≤ g.most → scored_of gray w h s m ≡ step_of gray w h g s → After
      on m less q =
          let n = scored-next s m in
          ap (λ (z : Search). (steps_on gray w h g d (k + 1) z).ended) (sym q)
          ∙ rest (scored_of gray w h s m) (scored-open s m) (omega arith) (omega arith)

      sized : s.next ≤ g.most → (b : Bool) → too_small g.span s.next ≡ b → After
      sized less true e = stays d (k + 1) (ended_of s) (step_of gray w h g s) refl (step_small gray w h g s open' less _ refl e)
      sized less false e =
          on (transform_of g.quad (side_of s.next) g.lens) less (step-tried gray w h g s open' less _ refl e)

      turn : After
      turn =
          ⊎_elim (λ less. sized less (too_small g.span s.next) refl)
          (λ over. stays d (k + 1) (ended_of s) (step_of gray w h g s) refl (step_past gray w h g s open' over))
          (le-or-lt s.next g.most)

    pub steps-ended : (d k : ℕ) → Ending d k
    unfolding steps_on
    steps-ended zero k s open' within more = absurd (omega arith)
    steps-ended (suc d) k s open' within more = turn d k (steps-ended d (k + 1)) s open' more

pub search-ends : SearchEnds
unfolding none_tried SearchEnds
search-ends gray w h g few = steps-ended gray w h g 65 0 none_tried refl (omega arith) (omega arith)
