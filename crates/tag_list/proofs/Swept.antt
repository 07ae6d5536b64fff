-- What is known between tries: standing-first, standing-more of two traces; after-begin, after_next, after-few. Assumes nothing.
use mathlib.Core.Path.{◌≡◌, refl, sym, ap, ◌∙◌}
use mathlib.Core.Bool.{Bool, cond}
use mathlib.Core.List.{List, ◌++◌}
use Prim.Native.Nat.{ℕ, ◌+◌, ◌<◌}
use native.Mathlib.Omega.{arith}
use borrow.Author.Tests.{eq-eqb, ne_eqb}
use Rattle.ring.specs.Trace.{first_of, short_trace}
use Rattle.ring.specs.declared.quads.Trace.{Trace}
use Rattle.finder.specs.Find.{try_of, best_trace}
use Rattle.finder.proofs.Standing.{best-begin, best-first, best-more}
use Rattle.tag_list.specs.declared.tag.Tags.{Tags}
use Rattle.tag_list.specs.declared.sweep.Swept.{Swept}
use Rattle.tag_list.specs.Tags.{fix_tags, own_tags, four_tags, no_tags}
use Rattle.tag_list.specs.Inner.{with_fix, standing_of, After}
use Rattle.tag_list.proofs.Listed.{with-fix-is, many_is, own-few, own-next}

-- ---- two traces
module _ (best t : Trace) (i : ℕ) where
  pub standing-first : i ≡ 0 → t ≡ standing_of best t i
  unfolding standing_of
  standing-first e = sym (ap (λ (b : Bool). cond b t (first_of best t)) (eq-eqb i 0 e))

  pub standing-more : (i ≡ 0 → ⊥) → (r : Trace) → r ≡ first_of best t → r ≡ standing_of best t i
  unfolding standing_of
  standing-more z r er = er ∙ sym (ap (λ (b : Bool). cond b t (first_of best t)) (ne_eqb i 0 z))

best-next : (f : ℕ → Trace) (i : ℕ) (best t : Trace) → best ≡ best_trace f i → t ≡ f i → standing_of best t i ≡ best_trace f (i + 1)
best-next f i best t eb et = go (native.Mathlib.Decide.ℕ_discrete i 0)
  where
    go : Dec (i ≡ 0) → standing_of best t i ≡ best_trace f (i + 1)
    go (yes z) = sym (standing-first best t i z) ∙ best-first f i t z et
    go (no z) = sym (standing-more best t i z (first_of best t) refl) ∙ best-more f i best t (first_of best t) z eb et refl

-- ---- between tries
module _ (gray : List ℕ) (w h most : ℕ) where
  pub after-begin : (t : Trace) (g : Tags) → t ≡ short_trace 0 → g ≡ no_tags → After gray w h most 0 (record { best = t; tags = g })
  after-begin t g et eg =
      record { best = best-begin (try_of gray w h most) t et; tags = eg ∙ ap four_tags (unfold own_tags in refl) }

  module _ (i : ℕ) (s : Swept) (q : After gray w h most i s) where
    pub after-few : i < 4 → s.tags.many < 4
    after-few l =
        omega (arith, many_is (own_tags (try_of gray w h most) i) s.tags q.tags, own-few (try_of gray w h most) i, l)

    pub after_next : i < 4 → (t u : Trace) (g : Tags) → t ≡ try_of gray w h most i → u ≡ standing_of s.best t i
        → g ≡ with_fix s.tags t.fix → After gray w h most (i + 1) (record { best = u; tags = g })
    after_next l t u g et eu eg = record {
      best = eu ∙ best-next (try_of gray w h most) i s.best t q.best et;
      tags =
          eg ∙ ap (λ (a : Tags). with_fix a t.fix) q.tags
          ∙ with-fix-is (own_tags (try_of gray w h most) i) t.fix (omega (arith, own-few (try_of gray w h most) i, l))
          ∙ ap (λ (t : Trace). four_tags (own_tags (try_of gray w h most) i ++ fix_tags t.fix)) et
          ∙ ap four_tags (own-next (try_of gray w h most) i);
    }
