-- A header of a file byte by byte.
--   after_letters, head-through, head_more, ended-through     the steps over a list, its parts, and one byte more
--   not-whole, refused-asks                                   a header that is not whole asks for nothing
--   asked-grows                                               a header asks for no less than a part of it
-- Assumes nothing.
use mathlib.Core.Path.{◌≡◌, refl, sym, ap, ◌∙◌, subst}
use mathlib.Core.Bool.{true, false}
use mathlib.Core.Logic.{◌⊎◌, inl, inr}
use mathlib.Core.List.{List, [], ◌∷◌, ◌++◌}
use Prim.Native.Nat.{ℕ, zero, suc, ◌+◌, ◌-◌, ◌≤◌, ◌<◌}
use native.Mathlib.Numerals.{add-one}
use native.Mathlib.Omega.{arith}
use lib.ListN.{length, get_or, take, drop, length-take, take-append-drop}
use lib.Seq.{take-suc, drop-append-le}
use Rattle.laws.proofs.Bools.{which, clash, falsely}
use Rattle.pgm.specs.Steps.{begun, is_ended, is_whole, stepped, steps_over}
use Rattle.pgm.specs.Head.{check_head}
use Rattle.pgm.specs.declared.steps.Reading.{Reading}
use Rattle.pgm.proofs.Beside.{steps-stay}
use Rattle.pgm.proofs.Counted.{steps-append, at-grows, whole-ended}
use Rattle.tray.specs.Input.{head_read, asked_to}

-- ---- the steps over a list
-- the list of the bytes after the letters
pub after_letters : (n : ℕ) (l : List ℕ) → drop 2 (take (suc (suc n)) l) ≡ take n (drop 2 l)
after_letters n [] = none n
  where
    none : (n : ℕ) → ◌≡◌ {A = List ℕ} [] (take n [])
    none zero = refl
    none (suc n) = refl
after_letters n (a ∷ []) = none n
  where
    none : (n : ℕ) → ◌≡◌ {A = List ℕ} [] (take n [])
    none zero = refl
    none (suc n) = refl
after_letters n (a ∷ b ∷ l) = refl

two-more : (n : ℕ) → 2 ≤ n → n ≡ suc (suc (n - 2))
two-more n two = omega arith

pub head-through : (l : List ℕ) (n : ℕ) → 2 ≤ n → head_read l ≡ steps_over (head_read (take n l)) (drop (n - 2) (drop 2 l))
head-through l n two =
    ap (steps_over begun) (sym (take-append-drop (n - 2) (drop 2 l)))
    ∙ steps-append begun (take (n - 2) (drop 2 l)) (drop (n - 2) (drop 2 l))
    ∙ ap (λ (t : List ℕ). steps_over (steps_over begun t) (drop (n - 2) (drop 2 l)))
    (sym (after_letters (n - 2) l) ∙ ap (λ (k : ℕ). drop 2 (take k l)) (sym (two-more n two)))

pub head_more : (l : List ℕ) (n : ℕ) → 2 ≤ n → n < length l → head_read (take (n + 1) l) ≡ stepped (head_read (take n l)) (get_or l n 0)
head_more l n two within =
    ap (λ (t : List ℕ). steps_over begun (drop 2 t)) one_more
    ∙ ap (steps_over begun) (drop-append-le 2 (take n l) (get_or l n 0 ∷ []) (simp length-take (omega arith)))
    ∙ steps-append begun (drop 2 (take n l)) (get_or l n 0 ∷ [])
    ∙ unfold steps_over in refl
  where
    one_more : take (n + 1) l ≡ take n l ++ (get_or l n 0 ∷ [])
    one_more = rw (add-one n) (take-suc l n 0 within)

-- what has ended in a part is all
pub ended-through : (l : List ℕ) (n : ℕ) → 2 ≤ n → is_ended (head_read (take n l)).stage ≡ true → head_read l ≡ head_read (take n l)
ended-through l n two e = head-through l n two ∙ steps-stay (head_read (take n l)) (drop (n - 2) (drop 2 l)) e

-- ---- what a header asks for
pub not-whole : (h : Reading) → is_ended h.stage ≡ false → is_whole h.stage ≡ false
not-whole h e = falsely (is_whole h.stage) (λ w. clash (whole-ended h.stage w) e)

-- a header that is not whole
refused-asks : (most : ℕ) (h : Reading) → is_whole h.stage ≡ false → asked_to most h ≡ 0
unfolding asked_to check_head
refused-asks most h e = rw e

pub asked-grows : (most : ℕ) (h : Reading) (t : List ℕ)
    → h.at + asked_to most h ≤ (steps_over h t).at + asked_to most (steps_over h t)
asked-grows most h t = go (which (is_ended h.stage))
  where
    same : (r : Reading) → r ≡ h → h.at + asked_to most h ≤ r.at + asked_to most r
    same r e = subst (λ (q : Reading). h.at + asked_to most h ≤ q.at + asked_to most q) (sym e) (omega arith)

    go : (is_ended h.stage ≡ true) ⊎ (is_ended h.stage ≡ false) → h.at + asked_to most h ≤ (steps_over h t).at + asked_to most (steps_over h t)
    go (inl e) = same (steps_over h t) (steps-stay h t e)
    go (inr e) = omega (arith, refused-asks most h (not-whole h e), at-grows h t)
