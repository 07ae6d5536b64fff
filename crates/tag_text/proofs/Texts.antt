-- The lines of tags, stored piece by piece.
--   yes-stored, no-stored               whether a tag is mirrored
--   point-stored, corners-stored        corners
--   ring-stored, pose-stored, tag-stored     a tag
--   list-begin, list-turn               tags one after the other
--   none-stored, some_stored            the tags of a picture
--   refused-stored                      a refusal
--   given-text, refused-text            an answer
--   filled_is                           a text that begins 1,024 bytes of zeros
-- Assumes nothing.
use Rattle.std.proofs.Common.{◌≡◌, ℕ, zero, suc, ◌+◌, ◌<◌, ◌≤◌, min, Bool, true, false, List, [], ◌∷◌, ◌++◌, length, get_or, drop, replicate, sym, refl, ap, ◌∙◌, append-nil, arith}
use lib.Ieee.{Float, nan}
use lib.ListN.{length-replicate}
use Rattle.std.proofs.Common.{Result, Ok, Err}
use Rattle.refusal.specs.Numbers.{number_of, said}
use Rattle.refusal.specs.declared.Refusal.{Refusal}
use Rattle.laws.specs.Fold.{joined}
use Rattle.laws.specs.Lent.{Stored}
use Rattle.laws.proofs.Joined.{joined-more}
use Rattle.laws.proofs.Stores.{stored-none, stored-append, stored-ext, stored-length, stored-laid, get_d_any}
use Rattle.text.specs.Text.{decimal, spaced, line_of, refused_word}
use Rattle.hull.specs.declared.points.Point.{Point}
use Rattle.hull.specs.declared.points.Quad.{Quad}
use Rattle.tag_list.specs.Tags.{no_tag}
use Rattle.tag_list.specs.declared.tag.Tag.{Tag}
use Rattle.tag_list.specs.declared.tag.Tags.{Tags}
use Rattle.tag_text.specs.Decimal.{fixed}
use Rattle.tag_text.specs.Lines.{none_text, version_word, agreement_word, mirrored_word, yes_word, no_word, corners_word, end, yes_or_no}
use Rattle.tag_text.specs.Lines.{point_text, corners_text, ring_text, pose_text, tag_line, tag_lines, some_lines, tags_text}
use Rattle.tag_text.specs.Lines.{answer_text, filled}

-- ---- a tag
module _ {at r : ℕ} {l l' : List ℕ} (b : Bool) where
  pub yes-stored : b ≡ true → Stored at yes_word l l' r → Stored at (yes_or_no b) l l' r
  yes-stored e v = stored-ext yes_word (yes_or_no b) (ap yes_or_no (sym e)) v

  pub no-stored : b ≡ false → Stored at no_word l l' r → Stored at (yes_or_no b) l l' r
  no-stored e v = stored-ext no_word (yes_or_no b) (ap yes_or_no (sym e)) v

pub point-stored : {at a b : ℕ} {l l' l'' : List ℕ} (p : Point) → Stored at (fixed 1 p.x) l l' a → Stored a (fixed 1 p.y) l' l'' b
    → Stored at (point_text p) l l'' b
unfolding point_text
point-stored p v u = stored-append v u

pub corners-stored : {at r1 r2 r3 r4 : ℕ} {l l1 l2 l3 l4 : List ℕ} (q : Quad) → Stored at (point_text q.a) l l1 r1
    → Stored r1 (point_text q.b) l1 l2 r2 → Stored r2 (point_text q.c) l2 l3 r3 → Stored r3 (point_text q.d) l3 l4 r4
    → Stored at (corners_text q) l l4 r4
unfolding corners_text
corners-stored q a b c d = stored-append a (stored-append b (stored-append c d))

module _ {at r1 r2 r3 r4 : ℕ} {l l1 l2 l3 l4 : List ℕ} where
  pub ring-stored : (n : ℕ) (x : Float) → Stored at version_word l l1 r1 → Stored r1 (32 ∷ decimal n) l1 l2 r2
      → Stored r2 agreement_word l2 l3 r3 → Stored r3 (fixed 3 x) l3 l4 r4 → Stored at (ring_text n x) l l4 r4
  unfolding ring_text
  ring-stored n x a b c d = stored-append a (stored-append b (stored-append c d))

  pub pose-stored : {r5 : ℕ} {l5 : List ℕ} (b : Bool) (q : Quad) → Stored at mirrored_word l l1 r1 → Stored r1 (yes_or_no b) l1 l2 r2
      → Stored r2 corners_word l2 l3 r3 → Stored r3 (corners_text q) l3 l4 r4 → Stored r4 end l4 l5 r5 → Stored at (pose_text b q) l l5 r5
  unfolding pose_text
  pose-stored b q v w x y z = stored-append v (stored-append w (stored-append x (stored-append y z)))

pub tag-stored : {at a b : ℕ} {l l' l'' : List ℕ} (t : Tag) → Stored at (ring_text t.version t.agreement) l l' a
    → Stored a (pose_text t.mirrored t.corners) l' l'' b → Stored at (tag_line t) l l'' b
unfolding tag_line
tag-stored t v u = stored-append v u

-- ---- tags
-- what the code reads past the places of a list
abbrev past_point : Point
past_point = record { x = nan; y = nan }

abbrev pub past_tag : Tag
past_tag = record {
  version = 0;
  agreement = nan;
  mirrored = false;
  corners = record { a = past_point; b = past_point; c = past_point; d = past_point };
}

module _ (list : List Tag) where
  pub list-begin : (at : ℕ) (l : List ℕ) → Stored at (tag_lines list 0) l l at
  unfolding tag_lines joined
  list-begin at l = stored-none at l

  pub list-turn : {at r r' : ℕ} {l l' l'' : List ℕ} (k : ℕ) → k < length list → Stored at (tag_lines list k) l l' r
      → Stored r (tag_line (get_or list k past_tag)) l' l'' r' → Stored at (tag_lines list (k + 1)) l l'' r'
  unfolding tag_lines
  list-turn k within v u =
      stored-ext (tag_lines list k ++ tag_line (get_or list k past_tag)) (tag_lines list (k + 1))
      (ap (λ (t : Tag). tag_lines list k ++ tag_line t) (get_d_any list k past_tag no_tag within)
      ∙ sym (joined-more k (λ i. tag_line (get_or list i no_tag)))) (stored-append v u)

module _ (t : Tags) (n : ℕ) (is : n ≡ min t.many 4) where
  text-is : some_lines t.list n ≡ tags_text t
  unfolding tags_text
  text-is = ap (some_lines t.list) is

  pub none-stored : {r : ℕ} {l l' : List ℕ} → n ≡ 0 → Stored 0 (none_text ++ end) l l' r → Stored 0 (tags_text t) l l' r
  none-stored e v = stored-ext (none_text ++ end) (tags_text t) (none ∙ ap (some_lines t.list) (sym e) ∙ text-is) v
    where
      none : none_text ++ end ≡ some_lines t.list 0
      none = unfold some_lines in refl

  pub some_stored : {r : ℕ} {l l' : List ℕ} → (n ≡ 0 → ⊥) → Stored 0 (tag_lines t.list n) l l' r → Stored 0 (tags_text t) l l' r
  some_stored some v = stored-ext (tag_lines t.list n) (tags_text t) (lines n some ∙ text-is) v
    where
      lines : (n : ℕ) → (n ≡ 0 → ⊥) → tag_lines t.list n ≡ some_lines t.list n
      lines zero some = absurd (some refl)
      lines (suc n) some = unfold some_lines in refl

-- ---- an answer
pub refused-stored : {at a b e : ℕ} {l l' l'' l''' : List ℕ} (n m : ℕ) → n ≡ m → Stored at refused_word l l' a
    → Stored a (32 ∷ decimal n) l' l'' b → Stored b end l'' l''' e → Stored at (line_of refused_word (m ∷ [])) l l''' e
refused-stored n m same v u x =
    stored-ext (refused_word ++ ((32 ∷ decimal n) ++ end)) (line_of refused_word (m ∷ []))
    (one ∙ ap (λ (k : ℕ). line_of refused_word (k ∷ [])) same) (stored-append v (stored-append u x))
  where
    one : refused_word ++ ((32 ∷ decimal n) ++ end) ≡ line_of refused_word (n ∷ [])
    one = unfold line_of spaced in ap (λ (m : List ℕ). refused_word ++ (m ++ end)) (sym (append-nil (32 ∷ decimal n)))

module _ {e : ℕ} {l l' : List ℕ} (a : Result Tags Refusal) where
  pub given-text : (t : Tags) → a ≡ Ok t → Stored 0 (tags_text t) l l' e → Stored 0 (answer_text (said a)) l l' e
  unfolding answer_text
  given-text t z v =
      stored-ext (tags_text t) (answer_text (said a)) (ap (λ (r : Result Tags Refusal). answer_text (said r)) (sym z)) v

  pub refused-text : (r : Refusal) → a ≡ Err r → Stored 0 (line_of refused_word (number_of r ∷ [])) l l' e
      → Stored 0 (answer_text (said a)) l l' e
  unfolding answer_text
  refused-text r z v =
      stored-ext (line_of refused_word (number_of r ∷ [])) (answer_text (said a))
      (ap (λ (r : Result Tags Refusal). answer_text (said r)) (sym z)) v

pub filled_is : {r : ℕ} {old new : List ℕ} (u : List ℕ) → old ≡ replicate 1024 0 → r ≤ 712 → Stored 0 u old new r
    → (new ≡ filled u) × ((r ≡ length u) × (r ≤ length new))
filled_is {r} {old} {new} u zeros within w =
    let m : length old ≡ 1024 = ap length zeros ∙ length-replicate {A = ℕ} 1024 0 in
    let n : r ≡ length u = w.next ∙ zero-sum (length u) in (
      stored-laid w (omega (arith, n, m, within)) ∙ ap (λ (l : List ℕ). u ++ drop (length u) l) zeros,
      (n, omega (arith, m, within, stored-length w)),
    )
  where
    zero-sum : (n : ℕ) → 0 + n ≡ n
    zero-sum n = omega arith
