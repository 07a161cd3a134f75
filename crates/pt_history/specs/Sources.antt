-- The sources of results: those that are counted, those of which the claims' indices are stored, and those that are stored whole.
use Rattle.std.specs.Prelude.{◌++◌, ℕ, List, map}
use Rattle.pt_history.specs.declared.sources.Source.{Source}
use Rattle.pt_history.specs.declared.sources.Source.TheVariants.{Claim}
use Rattle.pt_history.specs.Numbers.{numbers_with}

-- the sources with these indices of claims, and the rest
abbrev pub sources_of : ℕ → List ℕ → List Source → List Source
sources_of in_order claims rest = map Claim (numbers_with in_order claims) ++ rest
