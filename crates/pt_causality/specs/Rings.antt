-- Cycles that a walk meets.
use Rattle.std.specs.Prelude.{◌≡◌, ◌==◌, ◌++◌, ℕ, List, drop, length, nat_lt, not, take}
use Rattle.std.specs.List.{IsFirstBest, take_while}
use Rattle.pt_types.specs.declared.graph.Edge.{Edge}
use Rattle.pt_semantics.specs.Lists.{IsIn}
use Rattle.pt_causality.specs.Incoming.{into}
use Rattle.pt_causality.specs.Ranking.{Apart, EdgesLead, walked}

-- an edge in the lists leads from an actor along this trail to the top of the trail
pub record IsClosedBy (incoming : List (List Edge)) (trail : List Edge) (edge : Edge) : Type 0 where
  pub in_list : IsIn edge (into incoming edge.to)
  pub root : ℕ
  pub joined : EdgesLead incoming edge.to trail root
  pub apart : Apart (walked edge.to trail)
  pub from : IsIn edge.from (walked edge.to trail)

-- the edges along the trail, up to the actor that the given edge leaves
abbrev pub front_of : Edge → List Edge → List Edge
front_of edge trail = take_while (λ (e : Edge). not (e.from == edge.from)) trail

-- the numbers with their first ones moved to the end, so that the least comes first
pub record IsRotated (numbers turned : List ℕ) : Type 0 where
  pub place : ℕ
  pub least : IsFirstBest nat_lt numbers (length numbers) place
  pub are : turned ≡ drop place numbers ++ take place numbers
