-- Each constant is the value nearest to its decimal, by computation. Assumes nothing.
use Rattle.std.proofs.Common.{refl}
use lib.Ieee.{of_bits, round}
use Rattle.ieee.specs.Claims.{Decimals}

pub decimals : Decimals
unfolding Decimals of_bits round
decimals = (refl, refl, refl, refl, refl, refl, refl, refl, refl, refl, refl, refl, refl, refl, refl, refl, refl, refl)
