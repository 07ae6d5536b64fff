-- Bytes after the pixels: a header that is whole stays as it is whatever follows.
--   Keeps, walk-keeps            what the automaton finds in a list, it finds in a longer one
--   letters-long, letters-append the letters
--   SameHeader, header-append    the header of a longer file
-- Assumes nothing.
use mathlib.Core.Path.{◌≡◌, refl, sym, ◌∙◌, subst}
use mathlib.Core.Logic.{◌⊎◌, inl, inr}
use mathlib.Core.Bool.{Bool, true, false, not, cond}
use mathlib.Core.List.{List, [], ◌∷◌, ◌++◌}
use Prim.Native.Nat.{ℕ, suc, ◌+◌, ◌-◌, ◌*◌, ◌≤◌, ◌<◌}
use native.Mathlib.Omega.{arith}
use lib.Dec.{eqb}
use lib.ListN.{length, drop, get_or-append}
use lib.Seq.{drop-append-le}
use Rattle.laws.proofs.Bools.{le-or-lt, clash, and_left}
use Rattle.pgm.specs.Form.{is_line_end, bare, has_letters, has_form, from_width, file_width, file_height, file_maximum, file_start}
use Rattle.pgm.specs.Steps.{next_stage}
use Rattle.pgm.specs.declared.steps.Stage.{Stage}
use Rattle.pgm.specs.declared.steps.Stage.TheVariants.{Letters, BeforeWidth, Width, BeforeHeight, Height, BeforeMaximum, Maximum, Whole, Wrong}
use Rattle.pgm.proofs.Walk.{Form, no_form, form, arrive, walk}
use Rattle.pgm.proofs.Chain.{walk-chain}
use Rattle.pgm.proofs.Beside.{header_form, chain-header}
use Rattle.pgm.proofs.Refusals.{letters-short}

unfoldable pub Keeps : Form → Form → Type 0
Keeps no_form g = Unit {0}
Keeps (form w h m at) g = g ≡ form w h m at

arrive-keeps : (rest rest' : Stage → ℕ → ℕ → ℕ → Form) → ((k : Stage) (w h m : ℕ) → Keeps (rest k w h m) (rest' k w h m))
    → (k : Stage) (w h m b i : ℕ) → Keeps (arrive rest k w h m b i) (arrive rest' k w h m b i)
unfolding arrive
arrive-keeps rest rest' a Letters w h m b i = a Letters w h m
arrive-keeps rest rest' a BeforeWidth w h m b i = a BeforeWidth w h m
arrive-keeps rest rest' a Width w h m b i = a Width (10 * w + (b - 48)) h m
arrive-keeps rest rest' a BeforeHeight w h m b i = a BeforeHeight w h m
arrive-keeps rest rest' a Height w h m b i = a Height w (10 * h + (b - 48)) m
arrive-keeps rest rest' a BeforeMaximum w h m b i = a BeforeMaximum w h m
arrive-keeps rest rest' a Maximum w h m b i = a Maximum w h (10 * m + (b - 48))
arrive-keeps rest rest' a Whole w h m b i = unfold Keeps in refl
arrive-keeps rest rest' a Wrong w h m b i = unfold Keeps in tt

walk-keeps : (s t : List ℕ) (c : Bool) (i : ℕ) (k : Stage) (w h m : ℕ) → Keeps (walk (bare c i s) k w h m) (walk (bare c i (s ++ t)) k w h
    m)
unfolding walk bare
walk-keeps [] t c i k w h m = unfold Keeps in tt
walk-keeps (b ∷ s) t true i k w h m = walk-keeps s t (not (is_line_end b)) (suc i) k w h m
walk-keeps (b ∷ s) t false i k w h m = go (eqb b 35) (walk-keeps s t true (suc i) k w h m) (walk-keeps s t false (suc i))
  where
    go : (x : Bool) → Keeps (walk (bare true (suc i) s) k w h m) (walk (bare true (suc i) (s ++ t)) k w h m)
        → ((k : Stage) (w h m : ℕ) → Keeps (walk (bare false (suc i) s) k w h m) (walk (bare false (suc i) (s ++ t)) k w h m))
        → Keeps (walk (cond x (bare true (suc i) s) ((b, i) ∷ bare false (suc i) s)) k w h m)
        (walk (cond x (bare true (suc i) (s ++ t)) ((b, i) ∷ bare false (suc i) (s ++ t))) k w h m)
    go true y z = y
    go false y z =
        unfold walk in arrive-keeps (walk (bare false (suc i) s)) (walk (bare false (suc i) (s ++ t))) z (next_stage k b) w h m b i

-- ---- the letters
pub letters-long : (s : List ℕ) → has_letters s ≡ true → 2 ≤ length s
letters-long s e = go (le-or-lt 2 (length s))
  where
    go : (2 ≤ length s) ⊎ (length s < 2) → 2 ≤ length s
    go (inl l) = l
    go (inr l) = absurd (clash e (sym (letters-short s l)))

pub letters-append : (s t : List ℕ) → has_letters s ≡ true → has_letters (s ++ t) ≡ true
letters-append s t e = same (letters-long s e) ∙ e
  where
    same : 2 ≤ length s → has_letters (s ++ t) ≡ has_letters s
    same l = unfold has_letters in rw (get_or-append s t 0 0 (omega arith), get_or-append s t 0 1 (omega arith))

-- ---- the header
pub record SameHeader (s t : List ℕ) : Type 0 where
  pub has : has_form t ≡ true
  pub width : file_width t ≡ file_width s
  pub height : file_height t ≡ file_height s
  pub maximum : file_maximum t ≡ file_maximum s
  pub start : file_start t ≡ file_start s

pub form-letters : (s : List ℕ) → has_form s ≡ true → has_letters s ≡ true
unfolding has_form
form-letters s e = and_left (has_letters s) _ e

pub header-append : (s t : List ℕ) → has_form s ≡ true → SameHeader s (s ++ t)
header-append s t e =
    let letters = form-letters s e in
    let long = letters-long s letters in
    let here : walk (from_width s) Letters 0 0 0 ≡ header_form s = walk-chain (from_width s) ∙ chain-header s letters ∙ rw e in
    let there : walk (from_width (s ++ t)) Letters 0 0 0 ≡ header_form s =
    kept here (subst (λ (d : List ℕ). Keeps (walk (from_width s) Letters 0 0 0) (walk (bare false 2 d) Letters 0 0 0))
    (sym (drop-append-le 2 s t long)) (walk-keeps (drop 2 s) t false 2 Letters 0 0 0)) in
    go (has_form (s ++ t)) refl
    (sym (walk-chain (from_width (s ++ t)) ∙ chain-header (s ++ t) (letters-append s t letters)) ∙ there)
  where
    kept : {f g : Form} → f ≡ header_form s → Keeps f g → g ≡ header_form s
    kept {f} {g} x y = unfold Keeps in subst (λ (f : Form). Keeps f g) x y

    go : (b : Bool) → has_form (s ++ t) ≡ b → cond b (header_form (s ++ t)) no_form ≡ header_form s → SameHeader s (s ++ t)
    go true x y = record { has = x; width = cc; height = cc; maximum = cc; start = cc }
    go false x y = absurd (let z : ◌≡◌ {A = ℕ} 0 1 = cc in omega arith)
