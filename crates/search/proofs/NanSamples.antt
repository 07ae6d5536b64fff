-- Samples with a NaN coordinate, and all others. Assumes nothing.
--   nan-skipped    a sum with a place that has a NaN coordinate
--   number-out     a place with two numbers is outside by the Rust's four tests
use Rattle.std.proofs.Common.{◌≡◌, ℕ, ◌≤◌, Bool, true, false, not, ◌&&◌, ◌||◌, ◌⊎◌, List, sym, refl, ap, ◌∙◌, inl, inr, arith}
use lib.Ieee.{Float, nan, inf, fin, binary32, lt, le, is_nan, round, of_int, of_bits}
use lib.Ieee.Exact.{HasValue}
use lib.Ieee.Back.{round_whole}
use Rattle.laws.proofs.Bools.{either, clash, falsely}
use Rattle.fit.specs.F32.{whole_float}
use Rattle.ieee.specs.Constants.{0f}
use Rattle.transform.specs.declared.Pixel.{Pixel}
use Rattle.search.specs.Samples.{along, outside, add_sample}
use Rattle.search.specs.declared.samples.Sum.{Sum}
use Rattle.fit.proofs.Bands.{at-most-is}
use Rattle.search.proofs.Pixels.{along-no-nan}
use Rattle.search.proofs.Sampled.{sample_out}

-- ---- a NaN coordinate
nan-apart : (n : ℕ) (x : Float) → is_nan x ≡ true → along n x ≡ false
nan-apart n x e = falsely (along n x) (λ a. clash e (along-no-nan n x a))

nan-out : (w h : ℕ) (p : Pixel) → (is_nan p.x || is_nan p.y) ≡ true → true ≡ outside w h p
unfolding outside
nan-out w h p e = go (along w p.x) (along h p.y) refl refl (either (is_nan p.x) (is_nan p.y) e)
  where
    go : (a b : Bool) → along w p.x ≡ a → along h p.y ≡ b → (is_nan p.x ≡ true) ⊎ (is_nan p.y ≡ true)
        → true ≡ not (along w p.x && along h p.y)
    go false b ea eb n = rw ea
    go true false ea eb n = rw (ea, eb)
    go true true ea eb (inl n) = absurd (clash ea (nan-apart w p.x n))
    go true true ea eb (inr n) = absurd (clash eb (nan-apart h p.y n))

pub nan-skipped : (gray : List ℕ) (w h : ℕ) (s : Sum) (p : Pixel) → (is_nan p.x || is_nan p.y) ≡ true → add_sample gray w h s p ≡ s
nan-skipped gray w h s p e = sym (sample_out gray w h s p true (nan-out w h p e) refl)

-- ---- numbers only
value-number : (x : Float) (n : ℕ) → HasValue x false n 1 → is_nan x ≡ false
unfolding is_nan
value-number nan n h = absurd h
value-number (inf s) n h = absurd h
value-number (fin s m e) n h = refl

whole-number : (n : ℕ) → n ≤ 4096 → is_nan (whole_float n) ≡ false
unfolding of_int
whole-number n few = value-number (round binary32 false n 1) n (round_whole binary32 false n (omega arith))

zero_number : is_nan 0f ≡ false
unfolding is_nan of_bits
zero_number = refl

twice : (a b : Bool) → a ≡ not b → b ≡ not a
twice true true e = absurd (clash refl e)
twice true false e = refl
twice false true e = refl
twice false false e = absurd (clash e refl)

along-is : (n : ℕ) (x : Float) → n ≤ 4096 → is_nan x ≡ false → along n x ≡ (not (lt x 0f) && not (le (whole_float n) x))
unfolding along
along-is n x few e =
    ap (λ (b : Bool). b && lt x (whole_float n)) (at-most-is 0f x zero_number e)
    ∙ ap (λ (b : Bool). not (lt x 0f) && b) (twice (le (whole_float n) x) (lt x (whole_float n)) (at-most-is (whole_float n) x (whole-number n few) e))

four-tests : (a b c d : Bool) → not ((not a && not c) && (not b && not d)) ≡ (a || (b || (c || d)))
four-tests true b c d = refl
four-tests false true true d = refl
four-tests false true false d = refl
four-tests false false true d = refl
four-tests false false false true = refl
four-tests false false false false = refl

pub number-out : (w h : ℕ) (p : Pixel) → w ≤ 4096 → h ≤ 4096 → is_nan p.x ≡ false → is_nan p.y ≡ false
    → outside w h p ≡ (lt p.x 0f || (lt p.y 0f || (le (whole_float w) p.x || le (whole_float h) p.y)))
unfolding outside
number-out w h p wide high ex ey =
    ap (λ (b : Bool). not (b && along h p.y)) (along-is w p.x wide ex)
    ∙ ap (λ (b : Bool). not ((not (lt p.x 0f) && not (le (whole_float w) p.x)) && b)) (along-is h p.y high ey)
    ∙ four-tests (lt p.x 0f) (lt p.y 0f) (le (whole_float w) p.x) (le (whole_float h) p.y)
