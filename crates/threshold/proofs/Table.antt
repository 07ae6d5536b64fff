-- The f32 rule of the margin is a quotient of whole numbers, at every contrast from 80 and every light: one test that antt computes over
-- all 15,576 pairs, a contrast after the other, in eight parts of about as many pairs each.
--
-- In order: the test of one pair, of a contrast, of a run of contrasts; the eight parts;
-- margin-is. Assumes nothing.
use mathlib.Core.Path.{◌≡◌, refl}
use mathlib.Core.Bool.{Bool, true}
use Prim.Native.Nat.{ℕ, ◌+◌, ◌-◌, ◌*◌, ◌/◌, ◌≤◌, ◌<◌}
use native.Mathlib.Omega.{arith}
use native.Mathlib.Decide.{dec_lt}
use lib.Dec.{eqb}
use lib.IntN.{pos}
use lib.Ieee
use lib.Ieee.{Float, binary32}
use borrow.Author.Tests.{eqb-true}
use Rattle.laws.proofs.Bools.{holds, holds_at}
use Rattle.threshold.specs.Threshold.{share, margin}

-- one pair, with 0.2 × contrast handed in; every light from c on; n contrasts from a on
pair : Float → ℕ → ℕ → Bool
pair fifths c l = eqb (Ieee.to_unsigned 8 (Ieee.sub binary32 (Ieee.of_int binary32 (pos l)) fifths)) ((5 * l - c) / 5)

contrast : ℕ → Bool
contrast c = let fifths = share c in holds (256 - c) (λ j. pair fifths c (c + j))

contrasts : ℕ → ℕ → Bool
contrasts a n = holds n (λ i. contrast (a + i))

at-contrast : (c l : ℕ) → contrast c ≡ true → c ≤ l → l ≤ 255 → margin c l ≡ (5 * l - c) / 5
unfolding contrast pair margin
at-contrast c l test low high =
    let back : c + (l - c) ≡ l = omega arith in
    rw back at (eqb-true (margin c (c + (l - c))) ((5 * (c + (l - c)) - c) / 5)
    (holds_at (256 - c) (λ j. pair (share c) c (c + j)) test (l - c) (omega arith)))

-- A contrast of this part has its pairs; a later one goes on to the next part.
at_part : (a n c l : ℕ) → contrasts a n ≡ true → a ≤ c → c ≤ l → l ≤ 255 → (a + n ≤ c → margin c l ≡ (5 * l - c) / 5)
    → margin c l ≡ (5 * l - c) / 5
unfolding contrasts
at_part a n c l test from low high next = go (dec_lt c (a + n))
  where
    go : Dec (c < a + n) → margin c l ≡ (5 * l - c) / 5
    go (no past) = next (omega arith)
    go (yes within) =
        let back : a + (c - a) ≡ c = omega arith in
        at-contrast c l (rw back at (holds_at n (λ i. contrast (a + i)) test (c - a) (omega arith))) low high

part-80 : contrasts 80 14 ≡ true
unfolding contrasts contrast pair share holds Ieee.to_unsigned Ieee.sub Ieee.mul Ieee.of_int Ieee.of_bits
part-80 = refl

part-94 : contrasts 94 14 ≡ true
unfolding contrasts contrast pair share holds Ieee.to_unsigned Ieee.sub Ieee.mul Ieee.of_int Ieee.of_bits
part-94 = refl

part-108 : contrasts 108 15 ≡ true
unfolding contrasts contrast pair share holds Ieee.to_unsigned Ieee.sub Ieee.mul Ieee.of_int Ieee.of_bits
part-108 = refl

part-123 : contrasts 123 16 ≡ true
unfolding contrasts contrast pair share holds Ieee.to_unsigned Ieee.sub Ieee.mul Ieee.of_int Ieee.of_bits
part-123 = refl

part-139 : contrasts 139 18 ≡ true
unfolding contrasts contrast pair share holds Ieee.to_unsigned Ieee.sub Ieee.mul Ieee.of_int Ieee.of_bits
part-139 = refl

part-157 : contrasts 157 21 ≡ true
unfolding contrasts contrast pair share holds Ieee.to_unsigned Ieee.sub Ieee.mul Ieee.of_int Ieee.of_bits
part-157 = refl

part-178 : contrasts 178 26 ≡ true
unfolding contrasts contrast pair share holds Ieee.to_unsigned Ieee.sub Ieee.mul Ieee.of_int Ieee.of_bits
part-178 = refl

part-204 : contrasts 204 52 ≡ true
unfolding contrasts contrast pair share holds Ieee.to_unsigned Ieee.sub Ieee.mul Ieee.of_int Ieee.of_bits
part-204 = refl

-- (5 × light − contrast) / 5, which is (4 × light + dark) / 5
pub margin-is : (c l : ℕ) → 80 ≤ c → c ≤ l → l ≤ 255 → margin c l ≡ (5 * l - c) / 5
margin-is c l from low high =
    at_part 80 14 c l part-80 from low high (λ p1.
    at_part 94 14 c l part-94 p1 low high (λ p2.
    at_part 108 15 c l part-108 p2 low high (λ p3.
    at_part 123 16 c l part-123 p3 low high (λ p4.
    at_part 139 18 c l part-139 p4 low high (λ p5.
    at_part 157 21 c l part-157 p5 low high (λ p6.
    at_part 178 26 c l part-178 p6 low high (λ p7.
    at_part 204 52 c l part-204 p7 low high (λ p8. absurd (omega arith)))))))))
