-- Cycles: which graphs are admitted.
use Rattle.std.specs.Prelude.{◌≡◌, ◌<◌, ◌∷◌, ◌≢◌, [], ℕ, List}
use Rattle.pt_types.specs.declared.graph.Graph.{Graph}
use Rattle.pt_semantics.specs.Lists.{Each, IsIn}
use Rattle.pt_semantics.specs.Edges.{Edge, edges}
use Rattle.pt_semantics.specs.Ranks.{Leads, sum_along}

-- the edges leave different actors
abbrev pub Differ : List Edge → Type 0
Differ [] = Unit {0}
Differ (e ∷ es) = Each (λ (d : Edge). e.from ≢ d.from) es × Differ es

-- the edge e and then this path are a cycle through actor a
pub record IsCycle (g : Graph) (a : ℕ) (e : Edge) (path : List Edge) : Type 0 where
  pub leads : Leads g a (e ∷ path) a
  pub differ : Differ (e ∷ path)

-- each cycle takes time; admission refuses all other graphs
abbrev pub NoFreeCycle : Graph → Type 0
NoFreeCycle g = (a : ℕ) (e : Edge) (path : List Edge) → IsCycle g a e path → (sum_along (e ∷ path)).time ≢ 0

-- a number for each actor that grows along each edge of no time
abbrev pub HasLevels : Graph → (ℕ → ℕ) → Type 0
HasLevels g level = (e : Edge) → IsIn e (edges g) → e.weight.time ≡ 0 → level e.from < level e.to

-- a number for each actor that grows along each edge of no delay
abbrev pub GrowsAlong : Graph → (ℕ → ℕ) → Type 0
GrowsAlong g rank = (e : Edge) → IsIn e (edges g) → (e.weight.time ≡ 0) → (e.weight.step ≡ 0) → rank e.from < rank e.to
