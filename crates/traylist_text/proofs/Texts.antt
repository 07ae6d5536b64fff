-- The text of a picture and of an input. Kept regions: first-none, first_more, first-room. The picture: picture-taken, kept-few,
-- text-stored, text-short. The input: text-refused, refused-short, input-tray, text-accepted; a text in its place, filled_is. Assumes
-- nothing.
use mathlib.Core.Path.{◌≡◌, refl, sym, ap, ◌∙◌, subst}
use mathlib.Core.List.{List, [], ◌∷◌, ◌++◌}
use Prim.Native.Nat.{ℕ, zero, suc, ◌+◌, ◌-◌, ◌*◌, ◌≤◌, ◌<◌}
use native.Mathlib.Numerals.{add-one}
use native.Mathlib.Omega.{arith}
use lib.ListN.{length, get_or, take, drop, replicate, length-take, length-drop, length-append, length-replicate}
use Rattle.laws.specs.Plane.{Plane, plane}
use Rattle.labels.specs.Cells.{groups_of}
use Rattle.regions.specs.Kept.{kept_count}
use Rattle.picture.specs.Door.{answer_by, picture_answer}
use Rattle.regions.specs.Regions.{no_region, region, kept_regions}
use Rattle.regions.specs.declared.answer.Region.{Region}
use Rattle.regions.specs.declared.answer.Kept.{Kept}
use Rattle.std.proofs.Common.{Result, Ok}
use Rattle.refusal.specs.Numbers.{said}
use Rattle.refusal.specs.declared.Refusal.{Refusal}
use Rattle.refusal.proofs.Numbers.{said-give}
use Rattle.laws.specs.Fold.{joined}
use Rattle.laws.proofs.Joined.{joined-more}
use Rattle.text.specs.Text.{line_of, refused_word}
use Rattle.pgm.specs.Doors.{image}
use Rattle.laws.specs.Said.{give, refuse}
use Rattle.tray.specs.Input.{input_pixels, input_answer}
use Rattle.tray.proofs.Inputs.{picture-same, input-picture, input-number}
use Rattle.traylist_text.specs.Listing.{regions_word, region_lines, first_lines, picture_text, text_by, text_of, filled}
use Rattle.laws.specs.Lent.{Stored}
use Rattle.traylist_text.specs.Inner.{TrayPicture, TrayRegion}
use Rattle.laws.proofs.Stores.{stored-none, stored-append, stored-ext, stored-length, stored-laid}
use Rattle.traylist_text.proofs.Numbers.{line-short}
use Rattle.traylist_text.proofs.Pieces.{one-short, two-short}
use Rattle.regions.proofs.Inside.{groups-le}
use Rattle.traylist_text.proofs.Pictures.{cells-few, picture-passes, tray-region, region-lines-short}
use Rattle.region_outline.proofs.Points.{count-four, listed}

-- ---- the first kept regions
module _ (p : Plane) (w h : ℕ) where
  abbrev nth : ℕ → Region
  nth i = get_or (kept_regions p w h).list i no_region

  pub region-nth : (k : Kept) → k ≡ kept_regions p w h → (i : ℕ)
      → get_or k.list i no_region ≡ nth i
  region-nth k e i = ap (λ (z : Kept). get_or z.list i no_region) e

  pub first-none : (at : ℕ) (l : List ℕ) → Stored at (first_lines p w h 0) l l at
  unfolding first_lines joined
  first-none at l = stored-none at l

  pub first_next : (i : ℕ) → first_lines p w h (i + 1) ≡ first_lines p w h i ++ region_lines p w h (nth i)
  unfolding first_lines
  first_next i = joined-more i (λ j. region_lines p w h (nth j))

  pub first_more : {at r r' : ℕ} {l l' l'' : List ℕ} (i : ℕ) (q : Region) → q ≡ nth i → Stored at (first_lines p w h i) l l' r
      → Stored r (region_lines p w h q) l' l'' r' → Stored at (first_lines p w h (i + 1)) l l'' r'
  first_more i q e v u =
      stored-ext (first_lines p w h i ++ region_lines p w h q) (first_lines p w h (i + 1))
      (ap (λ (z : Region). first_lines p w h i ++ region_lines p w h z) e ∙ sym (first_next i)) (stored-append v u)

module _ (s : List ℕ) (w h : ℕ) (t : TrayPicture s w h) where
  abbrev p : Plane
  p = plane w s

  first_short : (i : ℕ) → i ≤ kept_count p w h → length (first_lines p w h i) ≤ 116 * i
  first_short zero l = unfold first_lines joined in omega arith
  first_short (suc i) l =
      let g = tray-region s w h t i l in
      let e : region_lines p w h (nth p w h i) ≡ region_lines p w h (region p w h i) = ap (region_lines p w h) (listed p w h i l) in
      let f : first_lines p w h (suc i) ≡ first_lines p w h i ++ region_lines p w h (nth p w h i) = rw (← add-one i) (first_next p w h i) in
      omega (
        arith,
        ap length f,
        length-append (first_lines p w h i) (region_lines p w h (nth p w h i)),
        ap length e,
        region-lines-short s w h t (region p w h i) g,
        first_short i (omega arith),
      )

  -- room for the lines of one region more
  pub first-room : {at r : ℕ} {l l' : List ℕ} (i n : ℕ) → n ≡ kept_count p w h → i < n → at + 464 ≤ length l → Stored at (first_lines p w h
      i) l l' r
      → r + 116 ≤ length l'
  first-room i n e b fit v =
      omega (arith, b, e, fit, v.next, stored-length v, first_short i (omega arith), count-four p w h)

  -- ---- the picture
  pub kept-count : (k : Kept) → k ≡ kept_regions p w h → k.kept ≡ kept_count p w h
  kept-count k e = ap (λ (z : Kept). z.kept) e ∙ unfold kept_regions in refl

  pub tray-nth : (k : Kept) → k ≡ kept_regions p w h → (i : ℕ) → i < k.kept
      → TrayRegion w h (get_or k.list i no_region)
  tray-nth k e i l =
      let b : i < kept_count p w h = subst (λ (n : ℕ). i < n) (kept-count k e) l in
      subst (λ (z : Region). TrayRegion w h z) (sym (region-nth p w h k e i ∙ listed p w h i b)) (tray-region s w h t i b)

  pub kept-few : (k : Kept) → k ≡ kept_regions p w h → (k.all < 100000) × (k.kept < 100000)
  kept-few k e =
      let a : k.all ≡ groups_of p w h = ap (λ (z : Kept). z.all) e ∙ unfold kept_regions in refl in
      let b : k.kept ≡ kept_count p w h = ap (λ (z : Kept). z.kept) e ∙ unfold kept_regions in refl in
      (omega (arith, a, groups-le p w h, (cells-few w h t.wide t.high).1), omega (arith, b, count-four p w h))

  pub text-stored : {n e : ℕ} {l l' l'' : List ℕ} (k : Kept) → k ≡ kept_regions p w h
      → Stored 0 (line_of regions_word (k.all ∷ k.kept ∷ [])) l l' n → Stored n (first_lines p w h k.kept) l' l'' e → Stored 0
      (picture_text p w h) l l'' e
  unfolding picture_text
  text-stored k q v u =
      stored-append
      (stored-ext (line_of regions_word (k.all ∷ k.kept ∷ [])) (line_of regions_word ((kept_regions p w h).all ∷ (kept_regions p w h).kept ∷
      []))
      (ap (λ (z : Kept). line_of regions_word (z.all ∷ z.kept ∷ [])) q) v)
      (stored-ext (first_lines p w h k.kept) (first_lines p w h (kept_regions p w h).kept) (ap (λ (z : Kept). first_lines p w h z.kept) q) u)

  pub text-short : length (picture_text p w h) ≤ 484
  unfolding picture_text
  text-short =
      let k = kept_regions p w h in
      let f = kept-few k refl in
      let b : k.kept ≡ kept_count p w h = unfold kept_regions in refl in
      omega (
        arith,
        length-append (line_of regions_word (k.all ∷ k.kept ∷ [])) (first_lines p w h k.kept),
        line-short regions_word (k.all ∷ k.kept ∷ []) (two-short k.all k.kept f.0 f.1),
        first_short k.kept (omega (arith, b)),
        b,
        count-four p w h,
      )

-- the picture door never refuses it
pub picture-taken : (s : List ℕ) (w h : ℕ) → TrayPicture s w h → (a : Result Kept Refusal) → said a ≡ picture_answer s w h 100 400 400
    → a ≡ Ok (kept_regions (plane w s) w h)
picture-taken s w h t a e =
    said-give a (kept_regions (plane w s) w h)
    (e ∙ ap (λ (n : ℕ). answer_by n (kept_regions (plane w s) w h))
    (picture-passes s w h t 100 400 400 (omega arith) (omega arith) (omega arith)))

-- the regions in its answer
pub picture-kept : (s : List ℕ) (w h : ℕ) → TrayPicture s w h → (a : Result Kept Refusal) → said a ≡ picture_answer s w h 100 400 400
    → (k : Kept) → a ≡ Ok k → k ≡ kept_regions (plane w s) w h
picture-kept s w h t a e k f = let g = picture-taken s w h t a e in cc

-- ---- the input
pub text-refused : (s : List ℕ) (n : ℕ) → input_answer s ≡ refuse n → line_of refused_word (n ∷ []) ≡ text_of s
unfolding text_of
text-refused s n e = let q = input-number s n e in refused n q.1.0 ∙ ap (λ (m : ℕ). text_by m s) q.0
  where
    refused : (n : ℕ) → (n ≡ 0 → ⊥) → line_of refused_word (n ∷ []) ≡ text_by n s
    refused zero z = absurd (z refl)
    refused (suc n) z = unfold text_by in refl

pub refused-short : (s : List ℕ) (n : ℕ) → input_answer s ≡ refuse n → (n < 100000) × (length (line_of refused_word (n ∷ [])) ≤ 512)
refused-short s n e =
    let few : n < 100000 = omega (arith, (input-number s n e).1.1) in
    (few, omega (arith, line-short refused_word (n ∷ []) (one-short n few)))

-- the pixels of an input as a part of it
module _ (s : List ℕ) (w h at : ℕ) (e : input_answer s ≡ give (image w h at)) where
  abbrev pub part_of : List ℕ
  part_of = take (at + w * h - at) (drop at s)

  part-is : part_of ≡ take (w * h) (drop at s)
  part-is = let z : at + w * h - at ≡ w * h = omega arith in ap (λ (k : ℕ). take k (drop at s)) z

  pub input-tray : TrayPicture part_of w h
  input-tray =
      let a = input-picture s w h at e in
      record {
        bytes = ap length part-is ∙ part (w * h) a.within;
        some_wide = a.some_wide;
        wide = a.wide;
        some_high = a.some_high;
        high = a.high;
      }
    where
      part : (n : ℕ) → at + n ≤ length s → length (take n (drop at s)) ≡ n
      part n l = simp (length-take, length-drop) (omega arith)

  pub text-accepted : picture_text (plane w part_of) w h ≡ text_of s
  unfolding text_of
  text-accepted =
      let q = picture-same s w h at e in
      ap (λ (l : List ℕ). picture_text (plane w l) w h) part-is
      ∙ rw (q.w-is, q.h-is, q.at-is) (unfold text_by input_pixels in refl)
      ∙ ap (λ (m : ℕ). text_by m s) (sym q.no-refusal)

-- a text that begins 512 bytes of zeros
pub filled_is : {l' : List ℕ} {r : ℕ} (u v : List ℕ) → u ≡ v → length u ≤ 512 → Stored 0 u (replicate 512 0) l' r
    → (l' ≡ filled v) × ((r ≡ length v) × (r ≤ 512))
filled_is {l'} {r} u v e fit w =
    let q : length u ≤ length {A = ℕ} (replicate 512 0) = omega (arith, fit, length-replicate {A = ℕ} 512 0) in
    (stored-laid w q ∙ ap (λ (l : List ℕ). filled l) e, (w.next ∙ zero-sum (length u) ∙ ap length e, omega (arith, w.next)))
  where
    zero-sum : (n : ℕ) → 0 + n ≡ n
    zero-sum n = omega arith
