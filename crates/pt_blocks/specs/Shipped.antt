-- The blocks that the program offers.
use Rattle.std.specs.Prelude.{pos, negsuc, List, [], ◌∷◌, codes}
use Rattle.pt_types.specs.declared.kind.Law.TheVariants.{Least, Greatest, Middle, Deadband, Weighted}
use Rattle.pt_blocks.specs.declared.blocks.Named.{Named}
use Rattle.pt_blocks.specs.Blocks.{named}

-- their names and laws, in the order of their numbers: `clip100` holds its first input between -100 and 100, `dead5` gives 0
-- where its inputs are at most 5 apart, and `mean` is half of their sum, rounded toward zero
abbrev pub shipped : List Named
shipped =
    named (codes "least") Least ∷
    named (codes "greatest") Greatest ∷
    named (codes "clip100") (Middle (negsuc 99) (pos 100)) ∷
    named (codes "dead5") (Deadband (pos 5)) ∷
    named (codes "mean") (Weighted (pos 1) (pos 2)) ∷ []
