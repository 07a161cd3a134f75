-- Definitions that fit blocks.
use Rattle.std.specs.Prelude.{◌≤◌, List, [], ◌∷◌, length, IsAscii}
use Rattle.pt_formula.specs.Lines.{Defined}

-- the name is ASCII, and the formula has at most 64 steps
abbrev pub IsFit : Defined → Type 0
IsFit d = IsAscii d.1 × (length d.2 ≤ 64)

-- so are all
abbrev pub AreFit : List Defined → Type 0
AreFit [] = Unit {0}
AreFit (d ∷ ds) = IsFit d × AreFit ds
