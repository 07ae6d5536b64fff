-- The lines of a trace, stored piece by piece: counted-stored; found-quad, no-quad; score-stored; list-begin, list-turn; scores-stored;
-- ring-fixed, no-ring; trace-stored; given-text, refused-text. Assumes nothing.
use mathlib.Core.Path.{◌≡◌, refl, sym, ap, ◌∙◌}
use mathlib.Core.List.{List, [], ◌∷◌, ◌++◌, append-nil}
use Prim.Native.Nat.{ℕ, ◌+◌}
use Rattle.std.proofs.Common.{Option, Some, None, Result, Ok, Err}
use Rattle.laws.specs.Fold.{joined, bit}
use Rattle.refusal.specs.Numbers.{number_of, said}
use Rattle.refusal.specs.declared.Refusal.{Refusal}
use Rattle.laws.specs.Lent.{Stored}
use Rattle.laws.proofs.Joined.{joined-more}
use Rattle.laws.proofs.Stores.{stored-none, stored-append, stored-ext}
use Rattle.text.specs.Text.{spaced, line_of, refused_word, quad_word, none_word}
use Rattle.hull.specs.Quad.{values_of}
use Rattle.hull.specs.declared.points.Quad.{Quad}
use Rattle.search.specs.declared.versions.Score.{Score}
use Rattle.search.specs.declared.versions.Scores.{Scores}
use Rattle.accept.specs.Accept.{place_at}
use Rattle.accept.specs.declared.Fix.{Fix}
use Rattle.ring.specs.declared.quads.Trace.{Trace}
use Rattle.attempt_text.specs.Traced.{hull_word, scores_word, score_word, fix_word, fallback_word, no_fix_word, number, single, each, end}
use Rattle.attempt_text.specs.Traced.{quad_text, score_line, score_lines, scores_text, ring_text, fix_text, trace_text}
use Rattle.attempt_text.specs.Traced.{answer_text}

-- ---- a word and a number
pub counted-stored : {at a b e : ℕ} {l l' l'' l''' : List ℕ} (word : List ℕ) (n : ℕ) → Stored at word l l' a → Stored a (number n) l' l'' b
    → Stored b end l'' l''' e → Stored at (line_of word (n ∷ [])) l l''' e
counted-stored word n v u x =
    stored-ext (word ++ (number n ++ end)) (line_of word (n ∷ [])) one (stored-append v (stored-append u x))
  where
    one : word ++ (number n ++ end) ≡ line_of word (n ∷ [])
    one = unfold line_of spaced in ap (λ (m : List ℕ). word ++ (m ++ end)) (sym (append-nil (number n)))

-- ---- a quad
pub found-quad : {at a b e : ℕ} {l l' l'' l''' : List ℕ} (q : Quad) → Stored at quad_word l l' a
    → Stored a
    (each single (q.a.x ∷ q.a.y ∷ q.b.x ∷ q.b.y ∷ q.c.x ∷ q.c.y ∷ q.d.x ∷ q.d.y ∷ [])) l' l'' b
    → Stored b end l'' l''' e → Stored at (quad_text (Some q)) l l''' e
unfolding quad_text values_of
found-quad q v u x = stored-append v (stored-append u x)

module _ {at e : ℕ} {l l' : List ℕ} (c : Option Quad) where
  pub some-corners : (q : Quad) → c ≡ Some q → Stored at (quad_text (Some q)) l l' e → Stored at (quad_text c) l l' e
  some-corners q z v = stored-ext (quad_text (Some q)) (quad_text c) (ap quad_text (sym z)) v

  pub no-corners : c ≡ None → Stored at (none_word ++ end) l l' e → Stored at (quad_text c) l l' e
  no-corners z v = stored-ext (none_word ++ end) (quad_text c) (none ∙ ap quad_text (sym z)) v
    where
      none : none_word ++ end ≡ quad_text None
      none = unfold quad_text line_of spaced in refl

-- ---- scores
pub score-stored : {at r1 r2 r3 r4 r5 e : ℕ} {l l1 l2 l3 l4 l5 l6 : List ℕ} (s : Score) (m : ℕ) → m ≡ bit s.mirrored
    → Stored at score_word l l1 r1 → Stored r1 (number s.version) l1 l2 r2 → Stored r2 (single s.agreement) l2 l3 r3
    → Stored r3 (number s.corner) l3 l4 r4 → Stored r4 (number m) l4 l5 r5 → Stored r5 end l5 l6 e → Stored at (score_line s) l l6 e
unfolding score_line
score-stored s m same a b c d f g =
    stored-append a (stored-append b (stored-append c (stored-append d
    (stored-append (stored-ext (number m) (number (bit s.mirrored)) (ap (λ (n : ℕ). number n) same) f) g))))

module _ (list : List Score) where
  pub list-begin : (at : ℕ) (l : List ℕ) → Stored at (score_lines list 0) l l at
  unfolding score_lines joined
  list-begin at l = stored-none at l

  pub list-turn : {at r r' : ℕ} {l l' l'' : List ℕ} (k : ℕ) → Stored at (score_lines list k) l l' r
      → Stored r (score_line (place_at list k)) l' l'' r' → Stored at (score_lines list (k + 1)) l l'' r'
  unfolding score_lines
  list-turn k v u =
      stored-ext (score_lines list k ++ score_line (place_at list k)) (score_lines list (k + 1))
      (sym (joined-more k (λ i. score_line (place_at list i)))) (stored-append v u)

pub scores-stored : {at a e : ℕ} {l l' l'' : List ℕ} (s : Scores) → Stored at (line_of scores_word (s.many ∷ [])) l l' a
    → Stored a (score_lines s.list s.many) l' l'' e → Stored at (scores_text s) l l'' e
unfolding scores_text
scores-stored s v u = stored-append v u

-- ---- a ring or none
module _ {at a e : ℕ} {l l' l'' : List ℕ} (word : List ℕ) (f : Option Fix) (v : Stored at word l l' a) where
  pub some-ring : (x : Fix) → f ≡ Some x → Stored a (ring_text x) l' l'' e → Stored at (fix_text word f) l l'' e
  some-ring x z u =
      stored-ext (word ++ ring_text x) (fix_text word f) (unfold fix_text in refl ∙ ap (fix_text word) (sym z)) (stored-append v u)

  pub no-ring : f ≡ None → Stored a (no_fix_word ++ end) l' l'' e → Stored at (fix_text word f) l l'' e
  no-ring z u = stored-ext (word ++ (no_fix_word ++ end)) (fix_text word f) (none ∙ ap (fix_text word) (sym z)) (stored-append v u)
    where
      none : word ++ (no_fix_word ++ end) ≡ fix_text word None
      none = unfold fix_text in refl

-- ---- a trace and an answer
pub trace-stored : {r1 r2 r3 r4 e : ℕ} {l l1 l2 l3 l4 l5 : List ℕ} (t : Trace) → Stored 0 (line_of hull_word (t.hull ∷ [])) l l1 r1
    → Stored r1 (quad_text t.quad) l1 l2 r2 → Stored r2 (scores_text t.scores) l2 l3 r3 → Stored r3 (fix_text fix_word t.fix) l3 l4 r4
    → Stored r4 (fix_text fallback_word t.fallback) l4 l5 e → Stored 0 (trace_text t) l l5 e
unfolding trace_text
trace-stored t a b c d f = stored-append a (stored-append b (stored-append c (stored-append d f)))

module _ {e : ℕ} {l l' : List ℕ} (a : Result Trace Refusal) where
  pub given-text : (t : Trace) → a ≡ Ok t → Stored 0 (trace_text t) l l' e → Stored 0 (answer_text (said a)) l l' e
  unfolding answer_text
  given-text t z v =
      stored-ext (trace_text t) (answer_text (said a)) (ap (λ (r : Result Trace Refusal). answer_text (said r)) (sym z)) v

  pub refused-text : (r : Refusal) → a ≡ Err r → Stored 0 (line_of refused_word (number_of r ∷ [])) l l' e
      → Stored 0 (answer_text (said a)) l l' e
  unfolding answer_text
  refused-text r z v =
      stored-ext (line_of refused_word (number_of r ∷ [])) (answer_text (said a))
      (ap (λ (r : Result Trace Refusal). answer_text (said r)) (sym z)) v
