-- What the steps over the bytes of a header tell, and how many bytes they count.
--   Told, told                  whether the header is whole, and the place of the pixels
--   steps-append                steps over two lists
--   step-at, at-grows, at_all   how many bytes have been counted
--   whole-ended, whole-later    a header that is whole has ended; before it had counted fewer bytes
--   step_counts                 a byte more
-- Assumes nothing.
use mathlib.Core.Path.{◌≡◌, refl, sym, ap, ◌∙◌, subst}
use mathlib.Core.Logic.{◌⊎◌, inl, inr}
use mathlib.Core.Bool.{Bool, true, false, not, cond, ◌&&◌}
use mathlib.Core.List.{List, [], ◌∷◌, ◌++◌}
use Prim.Native.Nat.{ℕ, suc, ◌+◌, ◌≤◌, ◌<◌}
use native.Mathlib.Omega.{arith}
use lib.Dec.{eqb, leb}
use lib.ListN.{length}
use borrow.Author.Tests.{lt-leb}
use Rattle.laws.proofs.Bools.{which, clash}
use Rattle.pgm.specs.Form.{is_line_end, has_form, file_start}
use Rattle.pgm.specs.Steps.{is_ended, is_whole, next_stage, in_comment, moved_to, one_more, cut_short, stepped, steps_over}
use Rattle.pgm.specs.declared.steps.Reading.{Reading}
use Rattle.pgm.specs.declared.steps.Stage.{Stage}
use Rattle.pgm.specs.declared.steps.Stage.TheVariants.{Letters, BeforeWidth, Width, BeforeHeight, Height, BeforeMaximum, Maximum, Whole, Wrong}
use Rattle.pgm.proofs.Beside.{Outcome, whole, refused, steps-stay}

-- ---- what they tell
pub record Told (s : List ℕ) (r : Reading) : Type 0 where
  pub whole : is_whole r.stage ≡ (has_form s && leb (file_start s) 4096)
  pub start : is_whole r.stage ≡ true → r.at ≡ file_start s

pub told : (s : List ℕ) (r : Reading) → Outcome s r → Told s r
told s r (whole q e) = record {
  whole = ap (λ (r : Reading). is_whole r.stage) e ∙ unfold is_whole in sym q;
  start = λ _. ap (λ (r : Reading). r.at) e;
}
told s r (refused q f) = record {
  whole = f ∙ sym q;
  start = λ t. absurd (clash t f);
}

-- ---- how many bytes have been counted
pub steps-append : (r : Reading) (s t : List ℕ) → steps_over r (s ++ t) ≡ steps_over (steps_over r s) t
unfolding steps_over
steps-append r [] t = refl
steps-append r (b ∷ s) t = steps-append (stepped r b) s t

moved_at : (h : Reading) (k : Stage) (b : ℕ) → (moved_to h k b).at ≡ h.at + 1
unfolding moved_to
moved_at h Letters b = refl
moved_at h BeforeWidth b = refl
moved_at h Width b = refl
moved_at h BeforeHeight b = refl
moved_at h Height b = refl
moved_at h BeforeMaximum b = refl
moved_at h Maximum b = refl
moved_at h Whole b = refl
moved_at h Wrong b = refl

more-at : (h : Reading) (b : ℕ) → (one_more h b).at ≡ h.at + 1
unfolding one_more
more-at h b = go h.comment (eqb b 35)
  where
    go : (c d : Bool)
        → (cond c (in_comment h (not (is_line_end b))) (cond d (in_comment h true) (moved_to h (next_stage h.stage b) b))).at ≡ h.at + 1
    go true d = refl
    go false true = refl
    go false false = moved_at h (next_stage h.stage b) b

step-at : (h : Reading) (b : ℕ) → is_ended h.stage ≡ false → (stepped h b ≡ cut_short h) ⊎ ((stepped h b).at ≡ h.at + 1)
unfolding stepped
step-at h b e = subst (λ (x : Bool). Goal (cond x h (cond (leb 4096 h.at) (cut_short h) (one_more h b)))) (sym e) (go (leb 4096 h.at))
  where
    Goal : Reading → Type 0
    Goal r = (r ≡ cut_short h) ⊎ (r.at ≡ h.at + 1)

    go : (x : Bool) → Goal (cond x (cut_short h) (one_more h b))
    go true = inl refl
    go false = inr (more-at h b)

late-ended : (h : Reading) → is_ended (cut_short h).stage ≡ true
unfolding is_ended
late-ended h = refl

-- where a step leads: it stays, is too long, or counts a byte
data Steps (h : Reading) (b : ℕ) : Type 0 where
  stays : is_ended h.stage ≡ true → Steps h b
  late : is_ended h.stage ≡ false → stepped h b ≡ cut_short h → Steps h b
  counts : is_ended h.stage ≡ false → (stepped h b).at ≡ h.at + 1 → Steps h b

steps_of : (h : Reading) (b : ℕ) → Steps h b
steps_of h b = go (which (is_ended h.stage))
  where
    next : is_ended h.stage ≡ false → (stepped h b ≡ cut_short h) ⊎ ((stepped h b).at ≡ h.at + 1) → Steps h b
    next e (inl t) = late e t
    next e (inr t) = counts e t

    go : (is_ended h.stage ≡ true) ⊎ (is_ended h.stage ≡ false) → Steps h b
    go (inl e) = stays e
    go (inr e) = next e (step-at h b e)

-- one step too long, and all after it
late-steps : (h : Reading) (b : ℕ) (s : List ℕ) → stepped h b ≡ cut_short h → steps_over (stepped h b) s ≡ cut_short h
late-steps h b s t = ap (λ (r : Reading). steps_over r s) t ∙ steps-stay (cut_short h) s (late-ended h)

at-is : {r t : Reading} → r ≡ t → r.at ≡ t.at
at-is e = ap (λ (r : Reading). r.at) e

pub at-grows : (h : Reading) (s : List ℕ) → h.at ≤ (steps_over h s).at
unfolding steps_over
at-grows h [] = omega arith
at-grows h (b ∷ s) = go (steps_of h b) (at-grows (stepped h b) s)
  where
    go : Steps h b → (stepped h b).at ≤ (steps_over (stepped h b) s).at → h.at ≤ (steps_over (stepped h b) s).at
    go (stays e) ih = omega (arith, at-is (steps-stay h (b ∷ s) e))
    go (late e t) ih = omega (arith, at-is (late-steps h b s t))
    go (counts e t) ih = omega arith

pub at_all : (h : Reading) (s : List ℕ) → is_ended (steps_over h s).stage ≡ false → (steps_over h s).at ≡ h.at + length s
unfolding steps_over
at_all h [] f = omega arith
at_all h (b ∷ s) f = go (steps_of h b) (at_all (stepped h b) s f)
  where
    go : Steps h b → (steps_over (stepped h b) s).at ≡ (stepped h b).at + length s → (steps_over (stepped h b) s).at ≡ h.at + suc (length s)
    go (stays e) ih = absurd (clash (ap (λ (r : Reading). is_ended r.stage) (steps-stay h (b ∷ s) e) ∙ e) f)
    go (late e t) ih = absurd (clash (ap (λ (r : Reading). is_ended r.stage) (late-steps h b s t) ∙ late-ended h) f)
    go (counts e t) ih = omega arith

-- a header that is whole has ended
pub whole-ended : (k : Stage) → is_whole k ≡ true → is_ended k ≡ true
unfolding is_whole is_ended
whole-ended Letters e = e
whole-ended BeforeWidth e = e
whole-ended Width e = e
whole-ended BeforeHeight e = e
whole-ended Height e = e
whole-ended BeforeMaximum e = e
whole-ended Maximum e = e
whole-ended Whole e = refl
whole-ended Wrong e = refl

-- a reading that has not ended, and whose header is whole after more bytes, has counted fewer bytes
pub whole-later : (h : Reading) (s : List ℕ) → is_ended h.stage ≡ false → is_whole (steps_over h s).stage ≡ true → h.at < (steps_over h s).at
unfolding steps_over
whole-later h [] e w = absurd (clash (whole-ended h.stage w) e)
whole-later h (b ∷ s) e w = go (steps_of h b)
  where
    go : Steps h b → h.at < (steps_over (stepped h b) s).at
    go (stays f) = absurd (clash f e)
    go (late f t) = absurd (clash w (ap (λ (r : Reading). is_whole r.stage) (late-steps h b s t) ∙ unfold is_whole in refl))
    go (counts f t) = omega (arith, at-grows (stepped h b) s)

-- a byte more, where the header has not ended and is not too long
pub step_counts : (h : Reading) (b : ℕ) → is_ended h.stage ≡ false → h.at < 4096 → (stepped h b).at ≡ h.at + 1
unfolding stepped
step_counts h b e l = rw (e, lt-leb 4096 h.at l) (more-at h b)
