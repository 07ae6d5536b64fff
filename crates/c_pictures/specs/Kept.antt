-- The numbers that the C function of the picture door leaves in its out-parameter. Definitions only. Assumes nothing.
use Rattle.std.specs.Prelude.{List, ◌∷◌, ◌++◌, ℕ, ◌%◌, get_or}
use Rattle.regions.specs.declared.answer.Kept.{Kept}
use Rattle.regions.specs.Regions.{no_region, region_fields}

-- How many regions there are, how many are kept, and four regions. The remainder is of a number of 64 bits that goes into one of 32; no
-- picture has as many regions.
abbrev pub region_numbers : Kept → List ℕ
region_numbers k =
    k.all % 4294967296 ∷ k.kept % 4294967296 ∷ region_fields (get_or k.list 0 no_region) ++ region_fields (get_or k.list 1 no_region)
    ++ region_fields (get_or k.list 2 no_region) ++ region_fields (get_or k.list 3 no_region)
