-- Theorems about paced readings.
use Rattle.std.specs.Prelude.{◌≤◌, ℕ, ℤ, List, Option}
use Rattle.pt_tags.specs.declared.tag.Tag.{Tag}
use Rattle.pt_tags.specs.Tags.{UpTo, plus}
use Rattle.pt_types.specs.declared.graph.Graph.{Graph}
use Rattle.pt_types.specs.declared.graph.Unit.{Unit}
use Rattle.pt_semantics.specs.Ranks.{sum_along}
use Rattle.pt_semantics.specs.Edges.{Edge}
use Rattle.pt_semantics.specs.Behaviours.{IsClosed}
use Rattle.pt_semantics.specs.Paths.{Goes}
use Rattle.pt_semantics.specs.Offsets.{HasOffset, IsFeasible}
use Rattle.pt_semantics.specs.Paced.{IsPaced, paced_test}
use Rattle.pt_semantics.specs.Wired.{IsWired}
use Rattle.pt_semantics.specs.Settled.{Passes}

-- if an event leads to tag t or before by a path, its paced reading isn't later than that of t
abbrev pub PacedAlongPaths : Type 0
PacedAlongPaths = (g : Graph) (x u : Unit) (w t : Tag) (path : List Edge) (c d : ℕ) → Goes g x path u → UpTo (plus w (sum_along path)) t → IsPaced g x w c → IsPaced g u t d → c ≤ d

-- in a graph that is admitted, what has its paced reading by c depends on nothing whose paced reading is later
abbrev pub PacedIsClosed : Type 0
PacedIsClosed = (g : Graph) (offset : Unit → Option ℤ) (c : ℕ) → IsWired g → IsFeasible g → ((u : Unit) → HasOffset g u (offset u)) → IsClosed g (Passes (paced_test offset c))
