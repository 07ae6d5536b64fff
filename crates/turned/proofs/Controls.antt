-- Why demand 3 has its condition on equal counts. Of two groups of 16 cells the one with the lower label comes first, whichever it is, and
-- a move numbers the groups anew, by the first cell in row order: a picture of two such squares has after a half turn the other square
-- first, with the first one's box. The stored calls of area picture hold that picture in all eight positions. The control for the quad's
-- conditions is `square-mirrored` of crate boundary. Assumes nothing.
use mathlib.Core.Path.{◌≡◌, refl}
use Rattle.laws.specs.Count.{count, least}
use Rattle.regions.specs.Kept.{ahead, ahead_by, kept_at, kept_of, nth, place, want}

both-kept : kept_of (λ i. 16) 2 ≡ 2
unfolding kept_of count want
both-kept = refl

lower-first : (kept_at (λ i. 16) 2 0 ≡ 0) × (kept_at (λ i. 16) 2 1 ≡ 1)
unfolding kept_at nth place ahead ahead_by want count least
lower-first = (refl, refl)
