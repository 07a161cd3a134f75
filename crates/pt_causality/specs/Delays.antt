-- The least delays between the units of a graph.
pub use Rattle.pt_causality.specs.Units.{IsUnit}
use Rattle.std.specs.Prelude.{ℕ, ◌<◌, ◌^◌, IfSome, IsSome, List, None, Option, Some}
use Rattle.pt_tags.specs.declared.tag.Delay.{Delay}
use Rattle.pt_types.specs.declared.graph.Graph.{Graph}
use Rattle.pt_types.specs.declared.graph.Unit.{Unit}
use Rattle.pt_semantics.specs.Edges.{Edge}
use Rattle.pt_semantics.specs.Paths.{Goes, IsLeast}
use Rattle.pt_causality.specs.declared.least.Least.{Least}
use Rattle.pt_causality.specs.Before.{MayHave}
use Rattle.pt_causality.specs.Cells.{number_in, delay_at, delay_row_at}

-- the least delay from x to a; none exactly if no path leads from x to a
abbrev pub HasLeast : Graph → Unit → Unit → Option Delay → Type 0
HasLeast g x a None = (path : List Edge) → Goes g x path a → ⊥
HasLeast g x a (Some d) = IsLeast g x a d

-- these are the least delays between all units of a graph
abbrev pub AreLeast : Graph → (Unit → Unit → Option Delay) → Type 0
AreLeast g least = (x a : Unit) → IsUnit g x → IsUnit g a → HasLeast g x a (least x a)

-- each delay is small enough to add bounds and times to it
abbrev pub AreSmall : (Unit → Unit → Option Delay) → Type 0
AreSmall least = (x a : Unit) → IfSome (least x a) (λ (d : Delay). (d.time < 2 ^ 62) × (d.step < 2 ^ 62))

-- the number of a unit in a table of least delays
abbrev pub number_of : Least → Unit → ℕ
number_of l x = number_in l.numbers.firsts.items x

-- the delays in a table of least delays
abbrev pub least_of : Least → Unit → Unit → Option Delay
least_of l x a = delay_at (delay_row_at l.rows.items (number_in l.numbers.firsts.items x)) (number_in l.numbers.firsts.items a)

-- of each unit from which a path leads to a the bit is set, if it has one in these words
abbrev pub HasAllBefore : Least → Unit → List ℕ → Type 0
HasAllBefore l a words = (x : Unit) → IsSome (least_of l x a) → MayHave words x
