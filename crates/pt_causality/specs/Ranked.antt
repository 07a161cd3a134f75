-- The ranks and levels of a graph, and cycles that take no time.
use Rattle.std.specs.Prelude.{◌≡◌, ◌≤◌, ◌∷◌, ℕ, List, map, slice_index}
use Rattle.pt_types.specs.declared.graph.Graph.{Graph}
use Rattle.pt_semantics.specs.Lists.{Each}
use Rattle.pt_semantics.specs.Edges.{Edge}
use Rattle.pt_semantics.specs.Ranks.{sum_along}
use Rattle.pt_semantics.specs.Cycles.{IsCycle}
use Rattle.pt_causality.specs.declared.cycle.CycleFault.{CycleFault}
use Rattle.pt_causality.specs.declared.cycle.CycleFault.TheVariants.{Memory, Cycle}
use Rattle.pt_causality.specs.declared.ranks.Ranks.{Ranks}

-- the rank of an actor
abbrev pub rank_of : Ranks → ℕ → ℕ
rank_of r a = slice_index r.ranks a

-- the level of an actor
abbrev pub level_of : Ranks → ℕ → ℕ
level_of r a = slice_index r.levels a

-- these actors, each with an edge to the next and the last with one to the
-- first, are a cycle that takes no time; the first has the least number
pub record IsFreeCycle (g : Graph) (actors : List ℕ) : Type 0 where
  pub first : ℕ
  pub edge : Edge
  pub path : List Edge
  pub cycle : IsCycle g first edge path
  pub free : (sum_along (edge ∷ path)).time ≡ 0
  pub actors_are : actors ≡ map (λ (e : Edge). e.from) (edge ∷ path)
  pub least : Each (λ (a : ℕ). first ≤ a) actors

-- why a graph has no ranks: the cycle of the fault is one that takes no time; of memory the definition says nothing
abbrev pub CauseOfCycle : CycleFault → Graph → Type 0
CauseOfCycle Memory g = Unit {0}
CauseOfCycle (Cycle actors) g = IsFreeCycle g actors
