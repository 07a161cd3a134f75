-- The wires of each actor, as chains of indices.
use Rattle.std.specs.Prelude.{◌≡◌, ℕ, ◌<◌, ◌≤◌, ◌+◌, List, Some, length, slice_get, slice_index_or}
use Rattle.pt_types.specs.declared.graph.Graph.{Graph}
use Rattle.pt_types.specs.declared.graph.Wire.{Wire}
use Rattle.pt_causality.specs.declared.branches.Branches.{Branches}

-- no wire at index j or later, and before k, leaves actor a
abbrev pub NoneFrom : List Wire → ℕ → ℕ → ℕ → Type 0
NoneFrom ws a j k = (i : ℕ) (w : Wire) → j ≤ i → i < k → slice_get ws i ≡ Some w → w.from ≡ a → ⊥

-- k is the index of actor a's first wire at index j or later, or no such wire exists
pub record IsNextWire (ws : List Wire) (a j k : ℕ) : Type 0 where
  pub later : j ≤ k
  pub none : NoneFrom ws a j k
  pub is : (w : Wire) → slice_get ws k ≡ Some w → w.from ≡ a

-- the chains are those of the graph: each actor's first wire, and for each wire the next one from the same actor
pub record AreBranches (g : Graph) (b : Branches) : Type 0 where
  pub actors : length b.first.items ≡ length g.actors
  pub wires : length b.next.items ≡ length g.wires
  pub first : (a : ℕ) → a < length g.actors → IsNextWire g.wires a 0 (slice_index_or b.first.items a 0)
  pub next : (i : ℕ) (w : Wire) → slice_get g.wires i ≡ Some w → IsNextWire g.wires w.from (i + 1) (slice_index_or b.next.items i 0)
