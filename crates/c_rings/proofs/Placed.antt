-- The numbers of scores and tags in a list.
--     four-stored   four numbers stored one after the other
--     eleven-stored eleven numbers stored one after the other
--     rows_whole    those of all places, stored in a list that has no others
-- Assumes nothing.
use Rattle.std.proofs.Common.{◌≡◌, ℕ, suc, ◌+◌, ◌≤◌, List, [], ◌∷◌, length, set, refl, ◌∙◌, append-nil, arith}
use lib.Seq.{drop-length}
use lib.Ieee.{Float}
use Rattle.laws.specs.Lent.{Stored}
use Rattle.laws.proofs.Stores.{stored-laid}

pub four-stored : (at : ℕ) (a b c d x y : Float) (l : List Float) → x ≡ c → y ≡ d
    → Stored at (a ∷ b ∷ c ∷ d ∷ []) l (set (set (set (set l at a) (at + 1) b) (at + 2) x) (at + 3) y) (at + 4)
four-stored at a b c d x y l ec ed =
    let one : at + 1 ≡ suc at = omega arith in
    let two : at + 2 ≡ suc (suc at) = omega arith in
    let three : at + 3 ≡ suc (suc (suc at)) = omega arith in
    record { list = rw (ec, ed, one, two, three) refl; next = refl }

pub eleven-stored : (at : ℕ) (a b c d e f g h i j k x : Float) (l : List Float) → x ≡ c
    → Stored at (a ∷ b ∷ c ∷ d ∷ e ∷ f ∷ g ∷ h ∷ i ∷ j ∷ k ∷ []) l
    (set (set (set (set (set (set (set (set (set (set (set l at a) (at + 1) b) (at + 2) x) (at + 3) d) (at + 4) e) (at + 5) f) (at + 6) g)
    (at + 7) h) (at + 8) i) (at + 9) j) (at + 10) k) (at + 11)
eleven-stored at a b c d e f g h i j k x l ec =
    let p1 : at + 1 ≡ suc at = omega arith in
    let p2 : at + 2 ≡ suc (suc at) = omega arith in
    let p3 : at + 3 ≡ suc (suc (suc at)) = omega arith in
    let p4 : at + 4 ≡ suc (suc (suc (suc at))) = omega arith in
    let p5 : at + 5 ≡ suc (suc (suc (suc (suc at)))) = omega arith in
    let p6 : at + 6 ≡ suc (suc (suc (suc (suc (suc at))))) = omega arith in
    let p7 : at + 7 ≡ suc (suc (suc (suc (suc (suc (suc at)))))) = omega arith in
    let p8 : at + 8 ≡ suc (suc (suc (suc (suc (suc (suc (suc at))))))) = omega arith in
    let p9 : at + 9 ≡ suc (suc (suc (suc (suc (suc (suc (suc (suc at)))))))) = omega arith in
    let p10 : at + 10 ≡ suc (suc (suc (suc (suc (suc (suc (suc (suc (suc at))))))))) = omega arith in
    record { list = rw (ec, p1, p2, p3, p4, p5, p6, p7, p8, p9, p10) refl; next = refl }

pub rows_whole : (n : ℕ) (us old new : List Float) → length old ≡ n → Stored 0 us old new n → new ≡ us
rows_whole n us old new whole a =
    let same : length us ≡ length old = omega (arith, a.next) in
    let room : length us ≤ length old = omega (arith, same) in
    stored-laid a room ∙ rw (same, drop-length old) (append-nil us)
