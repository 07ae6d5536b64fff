-- Numbers below 100,000 in decimal: decimal-short. Numbers with spaces: spaced-append,
-- spaced-none, spaced-more,
-- spaced-short. Lines: line-short. Assumes nothing.
use mathlib.Core.Path.{◌≡◌, refl, sym, ap, ◌∙◌}
use mathlib.Core.List.{List, [], ◌∷◌, ◌++◌, append_assoc, append-nil}
use Prim.Native.Nat.{ℕ, zero, suc, ◌+◌, ◌*◌, ◌≤◌, ◌<◌}
use native.Mathlib.Numerals.{add-one}
use native.Mathlib.Omega.{arith}
use lib.ListN.{length, get_or, take, length-append}
use lib.Seq.{take-suc}
use Rattle.text.specs.Text.{decimal, spaced, line_of}
use Rattle.text.proofs.Decimals.{decimal-tens}
use Rattle.traylist_text.specs.Inner.{Short}

pub decimal-short : (n : ℕ) → n < 100000 → length (decimal n) ≤ 5
decimal-short n l = decimal-tens 4 n l

-- ---- numbers with a space before each
pub spaced-append : (a b : List ℕ) → spaced (a ++ b) ≡ spaced a ++ spaced b
unfolding spaced
spaced-append [] b = refl
spaced-append (n ∷ a) b =
    ap (λ (l : List ℕ). (32 ∷ decimal n) ++ l) (spaced-append a b) ∙ sym (append_assoc (32 ∷ decimal n) (spaced a) (spaced b))

pub spaced-none : (ns : List ℕ) → [] ≡ spaced (take 0 ns)
unfolding spaced
spaced-none ns = refl

spaced-one : (n : ℕ) → spaced (n ∷ []) ≡ 32 ∷ decimal n
unfolding spaced
spaced-one n = append-nil (32 ∷ decimal n)

pub spaced-more : (ns : List ℕ) (i : ℕ) → i < length ns → spaced (take i ns) ++ (32 ∷ decimal (get_or ns i 0)) ≡ spaced (take (i + 1) ns)
spaced-more ns i l =
    ap (λ (t : List ℕ). spaced (take i ns) ++ t) (sym (spaced-one (get_or ns i 0)))
    ∙ sym (spaced-append (take i ns) (get_or ns i 0 ∷ []))
    ∙ ap spaced (sym (rw (add-one i) (take-suc ns i 0 l)))

pub short-tail : (n : ℕ) (ns : List ℕ) → Short (n ∷ ns) → Short ns
short-tail n ns s i l = s (suc i) (omega arith)

pub spaced-short : (ns : List ℕ) → Short ns → length (spaced ns) ≤ 6 * length ns
unfolding spaced
spaced-short [] s = omega arith
spaced-short (n ∷ ns) s =
    rw (length-append (32 ∷ decimal n) (spaced ns))
    (omega (arith, decimal-short n (s 0 (omega arith)), spaced-short ns (short-tail n ns s)))

pub line-short : (word ns : List ℕ) → Short ns → length (line_of word ns) ≤ length word + (6 * length ns + 1)
unfolding line_of
line-short word ns s =
    rw (length-append word (spaced ns ++ (10 ∷ [])), length-append (spaced ns) (10 ∷ [])) (omega (arith, spaced-short ns s))

-- room for one number more
pub spaced-room : (ns : List ℕ) → Short ns → (i : ℕ) → i ≤ length ns → length (spaced (take i ns)) ≤ 6 * i
spaced-room ns s zero l = unfold spaced in omega arith
spaced-room ns s (suc i) l =
    let e : spaced (take (suc i) ns) ≡ spaced (take i ns) ++ (32 ∷ decimal (get_or ns i 0)) = rw (← add-one i) (sym (spaced-more ns i
    (omega arith))) in
    rw (e, length-append (spaced (take i ns)) (32 ∷ decimal (get_or ns i 0)))
    (omega (arith, spaced-room ns s i (omega arith), decimal-short (get_or ns i 0) (s i (omega arith))))
