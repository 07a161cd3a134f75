-- The edges that take no time, in a list for each actor to which they lead.
use Rattle.std.specs.Prelude.{◌≡◌, ◌<◌, ◌==◌, ◌&&◌, ◌++◌, ◌∷◌, Bool, ℕ, List, [], filter, length, slice_index_or, slice_set, if◌then◌else◌}
use Rattle.pt_types.specs.declared.graph.Edge.{Edge}

-- the list of an actor
abbrev pub into : List (List Edge) → ℕ → List Edge
into incoming a = slice_index_or incoming a []

-- the edge leads to this actor and takes no time
abbrev pub comes_to : ℕ → Edge → Bool
comes_to a e = e.to == a && e.weight.time == 0

-- these lists have, for each of `count` actors, the edges to it that take no time
pub record AreIncoming (edges : List Edge) (count : ℕ) (incoming : List (List Edge)) : Type 0 where
  pub len : length incoming ≡ count
  pub lists : (a : ℕ) → a < count → into incoming a ≡ filter (comes_to a) edges

-- the lists with one more edge, if it takes no time
abbrev pub with_edge : Edge → List (List Edge) → List (List Edge)
with_edge e lists = if e.weight.time == 0 then slice_set lists e.to (into lists e.to ++ e ∷ []) else lists
