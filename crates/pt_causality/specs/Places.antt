-- The state of the search for each actor.
use Rattle.std.specs.Prelude.{◌≡◌, ◌<◌, ◌+◌, ◌-◌, ◌==◌, ◌++◌, ℕ, List, [], ◌∷◌, length, take, slice_index_or, max, if◌then◌else◌}
use Rattle.pt_types.specs.declared.graph.Edge.{Edge}
use Rattle.pt_causality.specs.declared.places.SearchState.{SearchState}
use Rattle.pt_causality.specs.declared.places.SearchMark.{SearchMark}
use Rattle.pt_causality.specs.declared.places.SearchMark.TheVariants.{New}

-- the state of an actor before the search, with these edges to it
abbrev pub fresh_place : List Edge → SearchState
fresh_place edges = record { left = length edges; mark = New; level = 0; rank = 0 }

-- the state of an actor
abbrev pub place_at : List SearchState → ℕ → SearchState
place_at places a = slice_index_or places a (fresh_place [])

abbrev pub marked : SearchMark → SearchState → SearchState
marked m p = record { left = p.left; mark = m; level = p.level; rank = p.rank }

-- the state after one more edge was looked at: the level is above that of its source, and so is the rank if it adds no step
abbrev pub looked : SearchState → Edge → SearchState → SearchState
looked before e p = record {
  left = p.left - 1;
  mark = p.mark;
  level = max p.level (before.level + 1);
  rank = if e.weight.step == 0 then max p.rank (before.rank + 1) else p.rank;
}

-- the next edge: the last of those that are still to be looked at
pub record IsNextEdge (p : SearchState) (edges : List Edge) (e : Edge) : Type 0 where
  pub some : 0 < p.left
  pub last : take p.left edges ≡ take (p.left - 1) edges ++ e ∷ []
