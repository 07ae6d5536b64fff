-- A row of 14 level cells, 224 by 16 pixels: its thresholds by the levels of its cells, through lists that are computed once each.
--     iter, iter-is            the passes over a grid in a list
--     row-dark-first           the first cell with dark 0, the others with 248, all with light 255: 204 up to cell 11, then 0
--     row-light                all cells with dark 248 and light 255: 0 everywhere
--     row-to-11, row-12        the row of 14 cells of rule 49
-- Assumes nothing.
use mathlib.Core.Bool.{cond}
use mathlib.Core.List.{List, [], ◌∷◌}
use mathlib.Core.Path.{◌∙◌, ◌≡◌, ap, refl, sym}
use Prim.Native.Nat.{◌*◌, ◌+◌, ◌<◌, ◌≤◌, suc, zero, ℕ}
use native.Mathlib.Omega.{arith}
use lib.Dec.{eqb}
use lib.Ieee
use lib.ListN.{get_or}
use borrow.Author.Tests.{ne_eqb}
use Rattle.laws.proofs.Planes.{plane-drawn}
use Rattle.laws.specs.Fold.{fold, tab}
use Rattle.laws.specs.Plane.{Alike, Plane, box, box_row, drawn, plane}
use Rattle.threshold.specs.Threshold.{margin, share, threshold}
use Rattle.levels.proofs.Reach.{fill-ext, passes-ext, sharp-ext}
use Rattle.levels.specs.Level.{dark, east, fill_at, least_near, level, light, mean, most_near, north, passes, sharp, south, west}
use Rattle.levels.proofs.Spots.{flat-spotted, spot-dark-few, spot-light-few}
use Rattle.levels.specs.Spots.{RowOf14, Spotted}

-- passes as lists
iter : ℕ → ℕ → ℕ → List ℕ → List ℕ
iter W H zero l = l
iter W H (suc k) l = let m = iter W H k l in drawn W H (fill_at W H (plane W m)) []

iter-is : (W H k : ℕ) (l : List ℕ) → Alike W H (passes W H k (plane W l)) (plane W (iter W H k l))
unfolding passes iter
iter-is W H zero l x y lx ly = refl
iter-is W H (suc k) l x y lx ly =
    fill-ext W H (passes W H k (plane W l)) (plane W (iter W H k l)) (iter-is W H k l) x y lx ly
    ∙ sym (plane-drawn W H (fill_at W H (plane W (iter W H k l))) [] x y lx ly)

-- the levels of the row by those of its cells, and the lists before and after the passes
row_of : (p d l : Plane) (before after : List ℕ) → Alike 14 1 (dark p 224 16) d → Alike 14 1 (light p 224 16) l
    → drawn 14 1 (sharp 14 1 d l) [] ≡ before → iter 14 1 8 before ≡ after
    → (x : ℕ) → x < 14 → level p 224 16 x 0 ≡ get_or after x 0
unfolding level
row_of p d l before after sd sl sharpened filled x lx =
    let z : 0 * 14 + x ≡ x = omega arith in
    let old = drawn 14 1 (sharp 14 1 d l) [] in
    let same : Alike 14 1 (sharp 14 1 (dark p 224 16) (light p 224 16)) (plane 14 old) =
    λ a b la lb. sharp-ext 14 1 (dark p 224 16) d (light p 224 16) l sd sl a b la lb
    ∙ sym (plane-drawn 14 1 (sharp 14 1 d l) [] a b la lb) in
    passes-ext 14 1 8 (sharp 14 1 (dark p 224 16) (light p 224 16)) (plane 14 old) same x 0 lx (omega arith)
    ∙ iter-is 14 1 8 old x 0 lx (omega arith)
    ∙ ap (λ (t : List ℕ). get_or (iter 14 1 8 t) (0 * 14 + x) 0) sharpened
    ∙ ap (λ (t : List ℕ). get_or t (0 * 14 + x) 0) filled
    ∙ ap (λ (k : ℕ). get_or after k 0) z

-- ---- the first cell with dark 0
abbrev row_dark : Plane
row_dark x y = cond (eqb x 0) 0 248

abbrev sharpened : List ℕ
sharpened = 204 ∷ 204 ∷ 204 ∷ 204 ∷ 0 ∷ 0 ∷ 0 ∷ 0 ∷ 0 ∷ 0 ∷ 0 ∷ 0 ∷ 0 ∷ 0 ∷ []

abbrev filled : List ℕ
filled = 204 ∷ 204 ∷ 204 ∷ 204 ∷ 204 ∷ 204 ∷ 204 ∷ 204 ∷ 204 ∷ 204 ∷ 204 ∷ 204 ∷ 0 ∷ 0 ∷ []

sharp-row : drawn 14 1 (sharp 14 1 row_dark (λ x y. 255)) [] ≡ sharpened
unfolding tab sharp least_near most_near box box_row fold threshold share margin Ieee.to_unsigned Ieee.sub Ieee.mul Ieee.of_int Ieee.of_bits
sharp-row = refl

filled_row : iter 14 1 8 sharpened ≡ filled
unfolding iter tab fill_at west east north south mean
filled_row = refl

row-dark-is : (p : Plane) → dark p 224 16 0 0 ≡ 0 → ((x : ℕ) → 1 ≤ x → x < 14 → dark p 224 16 x 0 ≡ 248)
    → Alike 14 1 (dark p 224 16) row_dark
row-dark-is p first others zero zero lx ly = first
row-dark-is p first others (suc x) zero lx ly = rw (ne_eqb (suc x) 0 (λ e. omega arith)) (others (suc x) (omega arith) lx)
row-dark-is p first others x (suc y) lx ly = absurd (omega arith)

row-light-is : (p : Plane) → ((x : ℕ) → x < 14 → light p 224 16 x 0 ≡ 255) → Alike 14 1 (light p 224 16) (λ x y. 255)
row-light-is p all x zero lx ly = all x lx
row-light-is p all x (suc y) lx ly = absurd (omega arith)

pub row-dark-first : (p : Plane) → dark p 224 16 0 0 ≡ 0 → ((x : ℕ) → 1 ≤ x → x < 14 → dark p 224 16 x 0 ≡ 248)
    → ((x : ℕ) → x < 14 → light p 224 16 x 0 ≡ 255) → (x : ℕ) → x < 14 → level p 224 16 x 0 ≡ get_or filled x 0
row-dark-first p first others lights x lx =
    row_of p row_dark (λ x y. 255) sharpened filled (row-dark-is p first others) (row-light-is p lights) sharp-row filled_row x lx

-- ---- no cell with dark 0
abbrev none : List ℕ
none = 0 ∷ 0 ∷ 0 ∷ 0 ∷ 0 ∷ 0 ∷ 0 ∷ 0 ∷ 0 ∷ 0 ∷ 0 ∷ 0 ∷ 0 ∷ 0 ∷ []

sharp-none : drawn 14 1 (sharp 14 1 (λ x y. 248) (λ x y. 255)) [] ≡ none
unfolding tab sharp least_near most_near box box_row fold threshold share margin Ieee.to_unsigned Ieee.sub Ieee.mul Ieee.of_int Ieee.of_bits
sharp-none = refl

filled_none : iter 14 1 8 none ≡ none
unfolding iter tab fill_at west east north south mean
filled_none = refl

pub row-light : (p : Plane) → ((x : ℕ) → x < 14 → dark p 224 16 x 0 ≡ 248) → ((x : ℕ) → x < 14 → light p 224 16 x 0 ≡ 255)
    → (x : ℕ) → x < 14 → level p 224 16 x 0 ≡ get_or none x 0
row-light p darks lights x lx =
    row_of p (λ x y. 248) (λ x y. 255) none none flat (row-light-is p lights) sharp-none filled_none x lx
  where
    flat : Alike 14 1 (dark p 224 16) (λ x y. 248)
    flat x zero l m = darks x l
    flat x (suc y) l m = absurd (omega arith)

-- ---- the row of 14 cells of rule 49
to-11 : (x : ℕ) → x ≤ 11 → get_or filled x 0 ≡ 204
to-11 zero l = refl
to-11 (suc zero) l = refl
to-11 (suc (suc zero)) l = refl
to-11 (suc (suc (suc zero))) l = refl
to-11 (suc (suc (suc (suc zero)))) l = refl
to-11 (suc (suc (suc (suc (suc zero))))) l = refl
to-11 (suc (suc (suc (suc (suc (suc zero)))))) l = refl
to-11 (suc (suc (suc (suc (suc (suc (suc zero))))))) l = refl
to-11 (suc (suc (suc (suc (suc (suc (suc (suc zero)))))))) l = refl
to-11 (suc (suc (suc (suc (suc (suc (suc (suc (suc zero))))))))) l = refl
to-11 (suc (suc (suc (suc (suc (suc (suc (suc (suc (suc zero)))))))))) l = refl
to-11 (suc (suc (suc (suc (suc (suc (suc (suc (suc (suc (suc zero))))))))))) l = refl
to-11 (suc (suc (suc (suc (suc (suc (suc (suc (suc (suc (suc (suc x)))))))))))) l = absurd (omega arith)

flat-cell : (p : Plane) → RowOf14 p → (x : ℕ) → 1 ≤ x → x < 14 → Spotted p 224 16 x 0 0
flat-cell p r x low lx =
    flat-spotted p 224 16 x 0 (omega arith) (omega arith)
    (λ i j li lj. r.flat (16 * x + i) (16 * 0 + j) (omega arith) (omega arith) (omega arith))

row-of-14 : (p : Plane) → RowOf14 p → (x : ℕ) → x < 14 → level p 224 16 x 0 ≡ get_or filled x 0
row-of-14 p r =
    row-dark-first p r.first-dark (λ x low lx. spot-dark-few p 224 16 x 0 0 (flat-cell p r x low lx) (omega arith)) lights
  where
    lights : (x : ℕ) → x < 14 → light p 224 16 x 0 ≡ 255
    lights zero lx = r.first-light
    lights (suc x) lx = spot-light-few p 224 16 (suc x) 0 0 (flat-cell p r (suc x) (omega arith) lx) (omega arith)

pub row-to-11 : (p : Plane) → RowOf14 p → (x : ℕ) → x ≤ 11 → level p 224 16 x 0 ≡ 204
row-to-11 p r x l = row-of-14 p r x (omega arith) ∙ to-11 x l

pub row-12 : (p : Plane) → RowOf14 p → level p 224 16 12 0 ≡ 0
row-12 p r = row-of-14 p r 12 (omega arith)
