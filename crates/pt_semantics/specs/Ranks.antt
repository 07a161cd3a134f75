-- Ranks and levels: the longest paths that add no delay, or no time.
use Rattle.std.specs.Prelude.{◌≡◌, ℕ, ◌≤◌, List, [], ◌∷◌, length}
use Rattle.pt_tags.specs.declared.tag.Delay.{Delay}
use Rattle.pt_tags.specs.Tags.{then, zero_delay}
use Rattle.pt_types.specs.declared.graph.Graph.{Graph}
use Rattle.pt_semantics.specs.Lists.{IsIn}
use Rattle.pt_semantics.specs.Edges.{Edge, edges}

-- the sum of the weights along a path; zero for the empty path
abbrev pub sum_along : List Edge → Delay
sum_along [] = zero_delay
sum_along (e ∷ es) = then e.weight (sum_along es)

-- these edges, wires and links, lead from actor a to actor b
abbrev pub Leads : Graph → ℕ → List Edge → ℕ → Type 0
Leads g a [] b = a ≡ b
Leads g a (e ∷ es) b = IsIn e (edges g) × (e.from ≡ a) × Leads g e.to es b

-- n is the number of edges on the longest path that ends at a, of the paths whose sum satisfies `such`
pub record IsLongest (g : Graph) (such : Delay → Type 0) (a n : ℕ) : Type 0 where
  pub one : (b : ℕ) × (path : List Edge) × Leads g b path a × such (sum_along path) × (length path ≡ n)
  pub longest : (b : ℕ) (path : List Edge) → Leads g b path a → such (sum_along path) → length path ≤ n

abbrev pub NoDelay : Delay → Type 0
NoDelay d = (d.time ≡ 0) × (d.step ≡ 0)

abbrev pub NoTime : Delay → Type 0
NoTime d = d.time ≡ 0

-- the rank of each actor: its longest path of no delay
abbrev pub AreRanks : Graph → (ℕ → ℕ) → Type 0
AreRanks g rank = (a : ℕ) → IsLongest g NoDelay a (rank a)

-- the level of each actor: its longest path of no time
abbrev pub AreLevels : Graph → (ℕ → ℕ) → Type 0
AreLevels g level = (a : ℕ) → IsLongest g NoTime a (level a)
