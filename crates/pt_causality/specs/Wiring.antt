-- The kinds of actors by their numbers, and the edges as lists.
use Rattle.std.specs.Prelude.{◌≡◌, ◌<◌, ℕ, List, [], filter, length, map, slice_index_or}
use Rattle.std.specs.Global.{Vec}
use Rattle.pt_types.specs.declared.graph.Graph.{Graph}
use Rattle.pt_types.specs.declared.graph.Actor.{Actor}
use Rattle.pt_types.specs.declared.graph.Edge.{Edge}
use Rattle.pt_types.specs.declared.kind.Kind.{Kind}
use Rattle.pt_semantics.specs.Edges.{edges}
use Rattle.pt_types.specs.Groups.{no_actor}
use Rattle.pt_semantics.specs.Meaning.{leaves_actor}

-- the kind of the actor with this number
abbrev pub kind_at : List Actor → ℕ → Kind
kind_at actors a = (slice_index_or actors a no_actor).kind

-- these are the edges of the graph
abbrev pub AreEdges : Graph → List Edge → Type 0
AreEdges g es = es ≡ edges g

-- these lists have the edges that leave each actor
abbrev pub IsWiring : Graph → List (List Edge) → Type 0
IsWiring g outgoing = (a : ℕ) → a < length g.actors → slice_index_or outgoing a [] ≡ filter (leaves_actor a) (edges g)

-- the lists as contracts see them
abbrev pub by_actor : List (Vec Edge) → List (List Edge)
by_actor lists = map (λ (v : Vec Edge). v.items) lists
