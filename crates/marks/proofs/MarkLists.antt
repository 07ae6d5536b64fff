-- Laws of lists of marks written from a function.
--     marks-length, marks-at              how long the list is, and what it has at a position
--     marks-none, marks-turn, marks-done  the list one position further, as a loop writes it
-- Assumes nothing.
use mathlib.Core.Path.{◌≡◌, refl, sym, ap, ◌∙◌}
use mathlib.Core.Bool.{Bool}
use mathlib.Core.Logic.{⊎_elim}
use mathlib.Core.List.{List, [], ◌∷◌, ◌++◌}
use Prim.Native.Nat.{ℕ, zero, suc, ◌+◌, ◌<◌}
use native.Mathlib.Omega.{arith}
use native.Mathlib.Numerals.{add-one}
use lib.ListN.{length, get_or, take, set, length-append, get_or-append}
use lib.Seq.{take-suc-set, take_all, get_or_at}
use Rattle.laws.proofs.Bools.{at-or-below}
use Rattle.marks.specs.Classify.{marks_of}

pub marks-length : (n : ℕ) (f : ℕ → Bool) → length (marks_of n f) ≡ n
unfolding marks_of
marks-length zero f = refl
marks-length (suc n) f = length-append (marks_of n f) (f n ∷ []) ∙ (let e = marks-length n f in omega arith)

pub marks-at : (n : ℕ) (f : ℕ → Bool) (i : ℕ) (d : Bool) → i < n → get_or (marks_of n f) i d ≡ f i
unfolding marks_of
marks-at zero f i d l = absurd (omega arith)
marks-at (suc n) f i d l = ⊎_elim last (λ b. earlier b (marks-at n f i d b)) (at-or-below i n l)
  where
    last : i ≡ n → get_or (marks_of n f ++ (f n ∷ [])) i d ≡ f i
    last e = get_or_at (marks_of n f) (f n) [] d i (marks-length n f ∙ sym e) ∙ ap f (sym e)

    earlier : i < n → get_or (marks_of n f) i d ≡ f i → get_or (marks_of n f ++ (f n ∷ [])) i d ≡ f i
    earlier b e = get_or-append (marks_of n f) (f n ∷ []) d i (let k = marks-length n f in omega arith) ∙ e

pub marks-none : (f : ℕ → Bool) (m : List Bool) → take 0 m ≡ marks_of 0 f
unfolding marks_of
marks-none f m = refl

pub marks-turn : (f : ℕ → Bool) (m : List Bool) (p : ℕ) (b : Bool) → p < length m → b ≡ f p → take p m ≡ marks_of p f
    → take (p + 1) (set m p b) ≡ marks_of (p + 1) f
unfolding marks_of
marks-turn f m p b h eb e =
    rw add-one (take-suc-set m p b h ∙ ap (λ (z : List Bool). z ++ (b ∷ [])) e ∙ ap (λ (z : Bool). marks_of p f ++ (z ∷ [])) eb)

pub marks-done : (f : ℕ → Bool) (m : List Bool) (p n : ℕ) → p ≡ n → length m ≡ n → take p m ≡ marks_of p f → m ≡ marks_of n f
marks-done f m p n ep el e = sym (take_all p m (omega arith)) ∙ e ∙ ap (λ (k : ℕ). marks_of k f) ep
