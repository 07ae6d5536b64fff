-- An attempt as text, over the ring door's definition: `refused N`, or the lines of the trace, by rules 33 to 36. Floats
-- are the hex of their bits, or `nan`. Definitions only. Assumes nothing.
use Rattle.std.specs.Prelude.{cond, List, [], ◌∷◌, ◌++◌, ℕ, zero, suc, Option, Some, None, Float, length, drop, replicate}
use Rattle.std.specs.Float.{Format, binary32, binary64}
use Rattle.std.specs.Float.Ieee.{is_nan, to_bits}
use Rattle.transform.specs.Mapping.{eleven_of}
use Rattle.laws.specs.Fold.{joined, bit}
use Rattle.laws.specs.Said.{Said, refuse, none, give}
use Rattle.text.specs.Text.{decimal, hex, line_of, refused_word, quad_word, none_word}
use Rattle.hull.specs.Quad.{values_of}
use Rattle.hull.specs.declared.points.Quad.{Quad}
use Rattle.search.specs.declared.versions.Score.{Score}
use Rattle.search.specs.declared.versions.Scores.{Scores}
use Rattle.accept.specs.Accept.{place_at}
use Rattle.accept.specs.declared.Fix.{Fix}
use Rattle.ring.specs.Door.{answer_of}
use Rattle.ring.specs.declared.quads.Trace.{Trace}
use Rattle.attempt_text.specs.Attempt.{width_of, height_of, greatest_of, record_pixels, points_of, check_attempt}

-- ---- the words
-- hull
abbrev pub hull_word : List ℕ
hull_word = 104 ∷ 117 ∷ 108 ∷ 108 ∷ []

-- scores
abbrev pub scores_word : List ℕ
scores_word = 115 ∷ 99 ∷ 111 ∷ 114 ∷ 101 ∷ 115 ∷ []

-- score
abbrev pub score_word : List ℕ
score_word = 115 ∷ 99 ∷ 111 ∷ 114 ∷ 101 ∷ []

-- fix
abbrev pub fix_word : List ℕ
fix_word = 102 ∷ 105 ∷ 120 ∷ []

-- fallback
abbrev pub fallback_word : List ℕ
fallback_word = 102 ∷ 97 ∷ 108 ∷ 108 ∷ 98 ∷ 97 ∷ 99 ∷ 107 ∷ []

-- nan
abbrev pub nan_word : List ℕ
nan_word = 110 ∷ 97 ∷ 110 ∷ []

-- none, with a space before it
abbrev pub no_fix_word : List ℕ
no_fix_word = 32 ∷ 110 ∷ 111 ∷ 110 ∷ 101 ∷ []

-- ---- what stands in a line, a space before each
-- A number in decimal.
abbrev pub number : ℕ → List ℕ
number n = 32 ∷ decimal n

-- A float: so many hex digits of its bits, or `nan`.
abbrev pub float : Format → ℕ → Float → List ℕ
float f digits x = 32 ∷ cond (is_nan x) nan_word (hex digits (to_bits f x))

-- An f32 and an f64.
unfoldable pub single : Float → List ℕ
single x = float binary32 8 x

unfoldable pub double : Float → List ℕ
double x = float binary64 16 x

-- Floats one after the other, each as the function has it.
unfoldable pub each : (Float → List ℕ) → List Float → List ℕ
each f [] = []
each f (x ∷ xs) = f x ++ each f xs

-- The end of a line.
abbrev pub end : List ℕ
end = 10 ∷ []

-- ---- the lines
-- The quad's corners, or none.
unfoldable pub quad_text : Option Quad → List ℕ
quad_text (Some q) = quad_word ++ (each single (values_of (Some q)) ++ end)
quad_text None = line_of none_word []

-- A score: version, agreement, corner, and 1 where it is mirrored.
unfoldable pub score_line : Score → List ℕ
score_line s =
    score_word ++ (number s.version ++ (single s.agreement ++ (number s.corner ++ (number (bit s.mirrored) ++ end))))

-- How many scores there are, then their lines.
unfoldable pub score_lines : List Score → ℕ → List ℕ
score_lines list n = joined n (λ i. score_line (place_at list i))

unfoldable pub scores_text : Scores → List ℕ
scores_text s = line_of scores_word (s.many ∷ []) ++ score_lines s.list s.many

-- A transform's eleven numbers: its matrix, the lens's centre and its coefficient.
-- A ring: version, agreement and transform.
abbrev pub ring_text : Fix → List ℕ
ring_text f = number f.version ++ (single f.agreement ++ (each double (eleven_of f.map) ++ end))

-- A word, and a ring or none.
unfoldable pub fix_text : List ℕ → Option Fix → List ℕ
fix_text word (Some f) = word ++ ring_text f
fix_text word None = word ++ (no_fix_word ++ end)

-- A trace: hull vertices, the quad, the scores, the accepted ring, the one under the relaxed rule.
unfoldable pub trace_text : Trace → List ℕ
trace_text t =
    line_of hull_word (t.hull ∷ [])
    ++ (quad_text t.quad
    ++ (scores_text t.scores
    ++ (fix_text fix_word t.fix
    ++ fix_text fallback_word t.fallback)))

-- ---- the text
-- The ring door's answer: its refusal, or its trace; the door says nothing else.
unfoldable pub answer_text : Said Trace → List ℕ
answer_text (give t) = trace_text t
answer_text (refuse n) = line_of refused_word (n ∷ [])
answer_text none = []

-- A record that is refused with the number n, or the door's answer where n is 0; its working lists have 32,770 places.
unfoldable pub text_by : ℕ → List ℕ → List ℕ
text_by zero s =
    answer_text (answer_of (record_pixels s) (width_of s) (height_of s) (points_of s) (greatest_of s) 32770 32770 32770)
text_by (suc n) s = line_of refused_word (suc n ∷ [])

unfoldable pub text_of : List ℕ → List ℕ
text_of s = text_by (check_attempt s) s

-- 4,096 bytes that begin with a text, zeros after it.
abbrev pub filled : List ℕ → List ℕ
filled t = t ++ drop (length t) (replicate 4096 0)
