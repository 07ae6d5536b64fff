-- Laws of the split of a window.
--     sides-none, sides-turn                 the two sides, one number further
--     total_first, total-turn                the sum, one number further
--     between-low, between-high, between-both  the threshold between two sides, in the three cases of the code
--     round_is, mean-is, round-next, split-from-mean, split-is  a round, the mean before the first, the split after one round
--                                            more, after four from the mean, and from the sum
--     same_none, same_turn                   numbers on one side of two thresholds, one number further
--     stays                                  a round after which no number changes sides is the last that moves the threshold
-- Assumes nothing.
use mathlib.Core.Path.{◌≡◌, refl, sym, ap, ◌∙◌, subst}
use mathlib.Core.Bool.{Bool, true, false, cond, ◌||◌}
use mathlib.Core.List.{List}
use Prim.Native.Nat.{ℕ, zero, suc, ◌+◌, ◌-◌, ◌≤◌}
use native.Mathlib.Omega.{arith}
use native.Mathlib.Decide.{ℕ_discrete}
use native.Mathlib.Numerals.{add-one}
use lib.IntN.{pos}
use lib.Ieee.{Float, nan, binary32, add, div, lt, eq, of_int}
use lib.ListN.{length, get_or}
use Rattle.marks.specs.declared.split.Sides.{Sides}
use Rattle.marks.specs.Split.{0·0, total_to, split_mean, put_side, no_sides, sides_to, between, split_round, rounds, split_after, split, SameSides}
use Rattle.ieee.specs.Constants.{2f}

pub sides-none : (t : Float) (w : List Float) → no_sides ≡ sides_to t w 0
unfolding sides_to
sides-none t w = refl

pub sides-turn : (t : Float) (w : List Float) (i : ℕ) (s r : Sides) → s ≡ sides_to t w i → r ≡ put_side t (get_or w i nan) s
    → r ≡ sides_to t w (i + 1)
unfolding sides_to
sides-turn t w i s r e er = rw add-one (er ∙ ap (λ (z : Sides). put_side t (get_or w i nan) z) e)

pub total_first : (w : List Float) → get_or w 0 nan ≡ total_to w 0
unfolding total_to
total_first w = refl

pub total-turn : (w : List Float) (i : ℕ) (s : Float) → 1 ≤ i → s ≡ total_to w (i - 1)
    → add binary32 s (get_or w i nan) ≡ total_to w (i + 1 - 1)
unfolding total_to
total-turn w i s h e =
    let z : i + 1 - 1 ≡ suc (i - 1) = omega arith in
    let y : i ≡ suc (i - 1) = omega arith in
    ap (λ (x : Float). add binary32 x (get_or w i nan)) e ∙ ap (λ (k : ℕ). add binary32 (total_to w (i - 1)) (get_or w k nan)) y
    ∙ ap (λ (k : ℕ). total_to w k) (sym z)

pub between-low : (t : Float) (s : Sides) → eq s.ln 0·0 ≡ true → t ≡ between t s
unfolding between
between-low t s e = rw e

pub between-high : (t : Float) (s : Sides) → eq s.ln 0·0 ≡ false → eq s.hn 0·0 ≡ true → t ≡ between t s
unfolding between
between-high t s e f = rw (e, f)

pub between-both : (t : Float) (s : Sides) → eq s.ln 0·0 ≡ false → eq s.hn 0·0 ≡ false
    → div binary32 (add binary32 (div binary32 s.lo s.ln) (div binary32 s.hi s.hn)) 2f ≡ between t s
unfolding between
between-both t s e f = rw (e, f)

pub round_is : (w : List Float) (t r : Float) (s : Sides) → s ≡ sides_to t w (length w) → r ≡ between t s → r ≡ split_round w t
unfolding split_round
round_is w t r s e f = f ∙ ap (λ (z : Sides). between t z) e

pub mean-is : (w : List Float) (total : Float) (n : ℕ) → n ≡ length w → total ≡ total_to w (length w - 1)
    → div binary32 total (of_int binary32 (pos n)) ≡ split_after w 0
unfolding split_after rounds split_mean
mean-is w total n en et =
    ap (λ (x : Float). div binary32 x (of_int binary32 (pos n))) et
    ∙ ap (λ (k : ℕ). div binary32 (total_to w (length w - 1)) (of_int binary32 (pos k))) en

pub round-next : (w : List Float) (k : ℕ) {t a : Float} → t ≡ split_after w k → a ≡ split_round w t → a ≡ split_after w (suc k)
unfolding split_after rounds
round-next w k et ea = ea ∙ ap (split_round w) et

pub split-from-mean : (w : List Float) {m a b c d : Float} → m ≡ split_after w 0 → a ≡ split_round w m → b ≡ split_round w a
    → c ≡ split_round w b → d ≡ split_round w c → d ≡ split w
unfolding split split_after
split-from-mean w em ea eb ec ed = round-next w 3 (round-next w 2 (round-next w 1 (round-next w 0 em ea) eb) ec) ed

pub split-is : (w : List Float) (total m a b c d : Float) (n : ℕ) → n ≡ length w → total ≡ total_to w (length w - 1)
    → m ≡ div binary32 total (of_int binary32 (pos n))
    → a ≡ split_round w m → b ≡ split_round w a → c ≡ split_round w b → d ≡ split_round w c → d ≡ split w
split-is w total m a b c d n en et em ea eb ec ed = split-from-mean w (em ∙ mean-is w total n en et) ea eb ec ed

-- ---- a round after which no number changes sides
pub same_none : (w : List Float) (a b : Float) → SameSides w a b 0
unfolding SameSides
same_none w a b i l = absurd (omega arith)

pub same_turn : (w : List Float) (a b : Float) (n : ℕ) → SameSides w a b n → lt a (get_or w n nan) ≡ lt b (get_or w n nan)
    → SameSides w a b (n + 1)
unfolding SameSides
same_turn w a b n q e i l = go (ℕ_discrete i n)
  where
    go : Dec (i ≡ n) → lt a (get_or w i nan) ≡ lt b (get_or w i nan)
    go (yes z) = subst (λ (k : ℕ). lt a (get_or w k nan) ≡ lt b (get_or w k nan)) (sym z) e
    go (no z) = q i (omega arith)

same-put : (a b x : Float) (s : Sides) → lt a x ≡ lt b x → put_side a x s ≡ put_side b x s
unfolding put_side
same-put a b x s e = rw e

same-sides : (w : List Float) (a b : Float) (n : ℕ) → SameSides w a b n → sides_to a w n ≡ sides_to b w n
unfolding sides_to SameSides
same-sides w a b zero q = refl
same-sides w a b (suc n) q =
    same-put a b (get_or w n nan) (sides_to a w n) (q n (omega arith))
    ∙ ap (put_side b (get_or w n nan)) (same-sides w a b n (λ i l. q i (omega arith)))

between_stays : (t a : Float) (s : Sides) → a ≡ between t s → a ≡ between a s
unfolding between
between_stays t a s e = go (eq s.ln 0·0 || eq s.hn 0·0) e
  where
    go : (c : Bool)
        → a ≡ cond c t (div binary32 (add binary32 (div binary32 s.lo s.ln) (div binary32 s.hi s.hn)) 2f)
        → a ≡ cond c a (div binary32 (add binary32 (div binary32 s.lo s.ln) (div binary32 s.hi s.hn)) 2f)
    go true e = refl
    go false e = e

pub stays : (w : List Float) (t a : Float) → a ≡ split_round w t → SameSides w t a (length w) → a ≡ split_round w a
unfolding split_round
stays w t a e q =
    between_stays t a (sides_to t w (length w)) e ∙ ap (between a) (same-sides w t a (length w) q)
