-- Text in ASCII, by rules 43 and 44: numbers in decimal and in hex, and lines of a word, of numbers with a space before
-- each and of a line feed. Definitions only. Assumes nothing.
use Rattle.std.specs.Prelude.{cond, List, [], ◌∷◌, ◌++◌, ℕ, zero, suc, ◌+◌, ◌/◌, ◌%◌, ltb}

-- The digits of n, the most significant first, where there are at most as many as the first number says.
unfoldable pub spelt : ℕ → ℕ → List ℕ
spelt zero n = []
spelt (suc most) n = cond (ltb n 10) ((48 + n) ∷ []) (spelt most (n / 10) ++ ((48 + n % 10) ∷ []))

-- n in decimal: it has at most n + 1 digits.
unfoldable pub decimal : ℕ → List ℕ
decimal n = spelt (suc n) n

-- The last so many decimal digits of n, the most significant first.
unfoldable pub last_digits : ℕ → ℕ → List ℕ
last_digits zero n = []
last_digits (suc digits) n = last_digits digits (n / 10) ++ ((48 + n % 10) ∷ [])

-- The hex digit of a number below 16: 0 to 9, then a to f.
unfoldable pub hex_digit : ℕ → ℕ
hex_digit d = cond (ltb d 10) (48 + d) (87 + d)

-- The last so many hex digits of n, the most significant first.
unfoldable pub hex : ℕ → ℕ → List ℕ
hex zero n = []
hex (suc digits) n = hex digits (n / 16) ++ (hex_digit (n % 16) ∷ [])

-- The numbers of a list, a space before each.
unfoldable pub spaced : List ℕ → List ℕ
spaced [] = []
spaced (n ∷ ns) = (32 ∷ decimal n) ++ spaced ns

-- A line: a word, numbers, a line feed.
unfoldable pub line_of : List ℕ → List ℕ → List ℕ
line_of word ns = word ++ (spaced ns ++ (10 ∷ []))

-- ---- the words of more than one text
-- refused
abbrev pub refused_word : List ℕ
refused_word = 114 ∷ 101 ∷ 102 ∷ 117 ∷ 115 ∷ 101 ∷ 100 ∷ []

-- quad
abbrev pub quad_word : List ℕ
quad_word = 113 ∷ 117 ∷ 97 ∷ 100 ∷ []

-- quad none
abbrev pub none_word : List ℕ
none_word = 113 ∷ 117 ∷ 97 ∷ 100 ∷ 32 ∷ 110 ∷ 111 ∷ 110 ∷ 101 ∷ []
