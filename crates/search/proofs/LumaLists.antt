-- Lumas written one after the other, and a position's cells. Assumes nothing.
--   listed-none, listed-turn, listed-done   a list of numbers as a loop writes it
--   inner-yes, inner-no                     the test for a position's inner cell
--   luma-two, luma-one                      the luma of both cells, and of the outer one
use Rattle.std.proofs.Common.{◌≡◌, ℕ, ◌+◌, ◌<◌, Bool, true, false, cond, ◌&&◌, List, [], ◌∷◌, ◌++◌, length, take, set, sym, refl, ap, ◌∙◌, add-one, arith, take_all, take-suc-set}
use Rattle.std.specs.Prelude.{Option, Some, None, eqb}
use Rattle.std.specs.Option.{option_eq}
use lib.Ieee.{Float}
use Rattle.transform.specs.declared.Transform.{Transform}
use Rattle.lcr_core.specs.Border.{position_at, inner_cell, is_two_deep}
use Rattle.lcr_core.specs.declared.border.Cell.{Cell}
use Rattle.search.specs.Samples.{sample_cell, mean_luma}
use Rattle.search.specs.Lumas.{is_at, has_inner, outer_sum, luma_at, lumas_listed}
use Rattle.search.specs.declared.samples.Sum.{Sum}

pub listed-none : (f : ℕ → Float) (m : List Float) → take 0 m ≡ lumas_listed 0 f
unfolding lumas_listed
listed-none f m = refl

pub listed-turn : (f : ℕ → Float) (m : List Float) (p : ℕ) (b : Float) → p < length m → b ≡ f p → take p m ≡ lumas_listed p f
    → take (p + 1) (set m p b) ≡ lumas_listed (p + 1) f
unfolding lumas_listed
listed-turn f m p b h eb e =
    rw add-one (take-suc-set m p b h ∙ ap (λ (z : List Float). z ++ (b ∷ [])) e ∙ ap (λ (z : Float). lumas_listed p f ++ (z ∷ [])) eb)

pub listed-done : (f : ℕ → Float) (m : List Float) (p n : ℕ) → p ≡ n → length m ≡ n → take p m ≡ lumas_listed p f → m ≡ lumas_listed n f
listed-done f m p n ep el e = sym (take_all p m (omega arith)) ∙ e ∙ ap (λ (k : ℕ). lumas_listed k f) ep

-- ---- a position's inner cell
at-is : (place : Option ℕ) (p : ℕ) → option_eq eqb place (Some p) ≡ is_at place p
unfolding is_at
at-is (Some k) p = refl
at-is None p = refl

module _ (v p : ℕ) (deep : Bool) (is : deep ≡ is_two_deep p) where
  pub inner-no : deep ≡ false → false ≡ has_inner v p
  unfolding has_inner
  inner-no e = sym (ap (λ (b : Bool). b && is_at (position_at v (inner_cell v p).x (inner_cell v p).y) p) (sym is ∙ e))

  pub inner-yes : (r : Bool) (place : Option ℕ) → deep ≡ true → place ≡ position_at v (inner_cell v p).x (inner_cell v p).y → r ≡ option_eq eqb place (Some p)
      → r ≡ has_inner v p
  unfolding has_inner
  inner-yes r place e ep er =
      er ∙ at-is place p ∙ ap (λ (z : Option ℕ). is_at z p) ep
      ∙ sym (ap (λ (b : Bool). b && is_at (position_at v (inner_cell v p).x (inner_cell v p).y) p) (sym is ∙ e))

-- ---- a position's luma
module _ (gray : List ℕ) (w h : ℕ) (t : Transform) (v p : ℕ) (outer : Sum) (eo : outer ≡ outer_sum gray w h t v p) (b : Bool)
    (eb : b ≡ has_inner v p) where
  abbrev both : Bool → Sum → Float
  both b o = mean_luma (cond b (sample_cell gray w h t (inner_cell v p) o) o)

  luma-by : (c : Bool) → b ≡ c → both c outer ≡ luma_at gray w h t v p
  unfolding luma_at
  luma-by c e =
      ap (λ (c : Bool). both c outer) (sym e ∙ eb) ∙ ap (λ (o : Sum). both (has_inner v p) o) eo

  pub luma-two : (cell : Cell) (s : Sum) (r : Float) → b ≡ true → cell ≡ inner_cell v p → s ≡ sample_cell gray w h t cell outer
      → r ≡ mean_luma s → r ≡ luma_at gray w h t v p
  luma-two cell s r e ec es er =
      er ∙ ap mean_luma (es ∙ ap (λ (c : Cell). sample_cell gray w h t c outer) ec) ∙ luma-by true e

  pub luma-one : (r : Float) → b ≡ false → r ≡ mean_luma outer → r ≡ luma_at gray w h t v p
  luma-one r e er = er ∙ luma-by false e
