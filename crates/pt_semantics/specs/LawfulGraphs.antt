-- A theorem about lawful graphs.
use Rattle.pt_types.specs.declared.graph.Graph.{Graph}
use Rattle.pt_types.specs.Lawful.{IsLawful}
use Rattle.pt_semantics.specs.Wired.{IsWired}

-- a lawful graph is wired as the theorems about meanings and histories need it
abbrev pub LawfulGraphsAreWired : Type 0
LawfulGraphsAreWired = (g : Graph) → IsLawful g → IsWired g
