-- Offsets of units, and graphs whose messages can be sent in time.
use Rattle.std.specs.Prelude.{◌≡◌, ◌≤◌, ◌-ℤ◌, ◌+◌, ◌≤ℤ◌, ℕ, ℤ, List, None, Option, Some, pos}
use Rattle.pt_types.specs.declared.graph.Graph.{Graph}
use Rattle.pt_types.specs.declared.graph.Unit.{Unit}
use Rattle.pt_types.specs.declared.kind.Kind.TheVariants.{Send}
use Rattle.pt_semantics.specs.Edges.{Edge}
use Rattle.pt_types.specs.Lookups.{kind_of}
use Rattle.pt_semantics.specs.Bounds.{Feeds}
use Rattle.pt_semantics.specs.Units.{at_output}
use Rattle.pt_semantics.specs.Ranks.{sum_along}

-- the offset of a unit: the greatest of bound minus delay, over the sensors and receivers that reach it
pub record IsOffset (g : Graph) (a : Unit) (o : ℤ) : Type 0 where
  pub some : (s b : ℕ) × (path : List Edge) × Feeds g s b path a × (pos b -ℤ pos (sum_along path).time ≡ o)
  pub greatest : (s b : ℕ) (path : List Edge) → Feeds g s b path a → (pos b -ℤ pos (sum_along path).time) ≤ℤ o

-- the offset of a unit; none if no sensor and no receiver reaches it
abbrev pub HasOffset : Graph → Unit → Option ℤ → Type 0
HasOffset g u None = (a b : ℕ) (path : List Edge) → Feeds g a b path u → ⊥
HasOffset g u (Some o) = IsOffset g u o

-- each message can be sent within its sender's slack, by each path
-- from a sensor or receiver; admission refuses all other graphs
abbrev pub IsFeasible : Graph → Type 0
IsFeasible g = (a slack s b : ℕ) (path : List Edge) → kind_of g a ≡ Send slack → Feeds g s b path (at_output g a 0) → b + 1 ≤ slack + (sum_along path).time
