-- A search by one step more. Assumes nothing.
--   start-held, ended_held, scored-held        what holds of a search between steps
--   skipped, scored                            a version without a transform, and one with
--   step-ended, step_past, step_small, step-tried   the ways of a step
--   steps-step, steps-stay, steps-end          one step more of a run, a run of an ended search, and its end
use Rattle.std.proofs.Common.{◌≡◌, ℕ, zero, suc, ◌+◌, ◌-◌, ◌<◌, ◌≤◌, Bool, true, false, cond, ltb, List, sym, refl, ap, ◌∙◌, arith, le-ltb, lt-ltb}
use Rattle.std.specs.Prelude.{Option, Some, None}
use Rattle.laws.proofs.Steps.{on, done}
use Rattle.lcr_core.specs.Version.{side_of}
use Rattle.transform.specs.declared.Transform.{Transform}
use Rattle.search.specs.Geometry.{transform_of}
use Rattle.search.specs.Versions.{read_of, none_tried, push_of, too_small, ended_of, scored_of, next_tried, step_of, steps_on, ScoreRoom}
use Rattle.search.specs.declared.versions.Score.{Score}
use Rattle.search.specs.declared.versions.Scores.{Scores}
use Rattle.search.specs.declared.versions.Search.{Search}
use Rattle.search.specs.declared.versions.Goal.{Goal}

pub start-held : ScoreRoom none_tried
unfolding none_tried
start-held = record { some = omega arith; few = omega arith; room = omega arith }

pub ended_held : {s : Search} → ScoreRoom s → ScoreRoom (ended_of s)
ended_held q = record { some = q.some; few = q.few; room = q.room }

module _ (gray : List ℕ) (w h : ℕ) where
  pub scored-held : {s : Search} (m : Option Transform) → s.next ≤ 64 → ScoreRoom s → ScoreRoom (scored_of gray w h s m)
  unfolding scored_of
  scored-held (Some t) l q =
      let a = q.some in let b = q.room in record { some = omega arith; few = omega arith; room = omega arith }
  scored-held None l q =
      let a = q.some in let b = q.room in record { some = omega arith; few = q.few; room = omega arith }

  -- ---- a version
  module _ (g : Goal) (s : Search) (n : ℕ) (m : Option Transform) (en : n ≡ side_of s.next) (em : m ≡ transform_of g.quad n g.lens) where
    mapped : m ≡ transform_of g.quad (side_of s.next) g.lens
    mapped = em ∙ ap (λ (n : ℕ). transform_of g.quad n g.lens) en

    pub skipped : m ≡ None → record { next = s.next + 1; ended = false; scores = s.scores } ≡ next_tried gray w h g s
    unfolding scored_of
    skipped e = sym (ap (scored_of gray w h s) (sym mapped ∙ e))

    pub scored : {t : Transform} (x : Score) (z : Scores) → m ≡ Some t → x ≡ read_of gray w h t s.next → z ≡ push_of s.scores x
        → record { next = s.next + 1; ended = false; scores = z } ≡ next_tried gray w h g s
    unfolding scored_of
    scored {t} x z e ex ez =
        ap (λ (z : Scores). record { next = s.next + 1; ended = false; scores = z }) (ez ∙ ap (push_of s.scores) ex)
        ∙ sym (ap (scored_of gray w h s) (sym mapped ∙ e))

  -- ---- a step
  module _ (g : Goal) (s : Search) where
    abbrev small : Bool → Search
    small b = cond b (ended_of s) (next_tried gray w h g s)

    abbrev past : Bool → Search
    past b = cond b (ended_of s) (small (too_small g.span s.next))

    abbrev going : Bool → Search
    going b = cond b s (past (ltb g.most s.next))

    pub step-ended : s.ended ≡ true → s ≡ step_of gray w h g s
    unfolding step_of
    step-ended e = sym (ap going e)

    module _ (on : s.ended ≡ false) where
      open_by : past (ltb g.most s.next) ≡ step_of gray w h g s
      unfolding step_of
      open_by = sym (ap going on)

      pub step_past : g.most < s.next → ended_of s ≡ step_of gray w h g s
      step_past e = sym (ap past (lt-ltb g.most s.next e)) ∙ open_by

      module _ (inside : s.next ≤ g.most) (b : Bool) (eb : b ≡ too_small g.span s.next) where
        size-by : (t : Bool) → b ≡ t → small t ≡ step_of gray w h g s
        size-by t e = ap small (sym e ∙ eb) ∙ sym (ap past (le-ltb g.most s.next inside)) ∙ open_by

        pub step_small : b ≡ true → ended_of s ≡ step_of gray w h g s
        step_small e = size-by true e

        pub step-tried : b ≡ false → next_tried gray w h g s ≡ step_of gray w h g s
        step-tried e = size-by false e

  -- ---- a run
  pub steps-stay : (g : Goal) (d k : ℕ) (s : Search) → s.ended ≡ true → s ≡ steps_on gray w h g d k s
  unfolding steps_on
  steps-stay g zero k s e = refl
  steps-stay g (suc d) k s e = steps-stay g d (k + 1) s e ∙ ap (steps_on gray w h g d (k + 1)) (step-ended g s e)

  module _ (g : Goal) (n k : ℕ) (s z : Search) where
    pub steps-step : (s' : Search) → k < n → s' ≡ step_of gray w h g s → steps_on gray w h g (n - k) k s ≡ z
        → steps_on gray w h g (n - (k + 1)) (k + 1) s' ≡ z
    unfolding steps_on
    steps-step s' more e q =
        ap (steps_on gray w h g (n - (k + 1)) (k + 1)) e
        ∙ sym (on (steps_on gray w h g) (λ k s. step_of gray w h g s) n (λ d k s. refl) k s more)
        ∙ q

    pub steps-end : n ≤ k → steps_on gray w h g (n - k) k s ≡ z → s ≡ z
    unfolding steps_on
    steps-end over q = sym (done (steps_on gray w h g) (λ k s. step_of gray w h g s) n (λ k s. refl) k s over) ∙ q
