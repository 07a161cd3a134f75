-- Paths of wires, and least delays.
use Rattle.std.specs.Prelude.{◌≡◌, ◌∷◌, [], List}
use Rattle.pt_tags.specs.Tags.{AtMost}
use Rattle.pt_tags.specs.declared.tag.Delay.{Delay}
use Rattle.pt_types.specs.declared.graph.Graph.{Graph}
use Rattle.pt_types.specs.declared.graph.Unit.{Unit}
use Rattle.pt_semantics.specs.Edges.{Edge, wires}
use Rattle.pt_semantics.specs.Lists.{IsIn}
use Rattle.pt_semantics.specs.Units.{source, target}
use Rattle.pt_semantics.specs.Ranks.{sum_along}

-- these wires lead from unit x to unit a: each leaves the unit that the one before entered
abbrev pub Goes : Graph → Unit → List Edge → Unit → Type 0
Goes g x [] a = x ≡ a
Goes g x (e ∷ es) a = IsIn e (wires g) × (source g e ≡ x) × Goes g (target g e) es a

-- d is the least delay of all paths from x to a
pub record IsLeast (g : Graph) (x a : Unit) (d : Delay) : Type 0 where
  pub along : (path : List Edge) × Goes g x path a × (sum_along path ≡ d)
  pub least : (path : List Edge) → Goes g x path a → AtMost d (sum_along path)
