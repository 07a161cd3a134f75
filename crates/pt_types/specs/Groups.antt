-- The units of an actor, and the clock error of two platforms.
use Rattle.std.specs.Prelude.{ℕ, suc, ◌-◌, ◌^◌, min, ◌==◌, ◌&&◌, ◌||◌, nat_lt, Bool, List, [], ◌∷◌, length, Option, Some, None, option_map, unwrap_or, find, slice_index_or, if◌then◌else◌}
use Rattle.pt_types.specs.declared.kind.Kind.{Kind}
use Rattle.pt_types.specs.declared.kind.Kind.TheVariants.{Receive, Lanes}
use Rattle.pt_types.specs.declared.graph.Actor.{Actor}
use Rattle.pt_types.specs.declared.graph.Graph.{Graph}
use Rattle.pt_types.specs.declared.graph.PairError.{PairError}
use Rattle.pt_types.specs.Kinds.{all_inputs}

-- a number, or the greatest of 32 bits if it is more; the numbers of a lawful graph are far below
abbrev pub held : ℕ → ℕ
held n = min n (2 ^ 32 - 1)

-- what a lookup gives for a number past the end of the list of actors
abbrev pub no_actor : Actor
no_actor = record { name = []; platform = 0; kind = Receive; inputs = 0; outputs = 0 }

abbrev pub actor_at : List Actor → ℕ → Actor
actor_at actors a = slice_index_or actors a no_actor

-- the number of groups of a kind: one for each cell of lanes, 1 for other kinds
abbrev pub groups_of : Kind → ℕ
groups_of (Lanes cells) = length cells
groups_of _ = 1

-- the cell of an input, if there is such an input; cells have the inputs in order
abbrev pub cell_at : List ℕ → ℕ → Option ℕ
cell_at [] input = None
cell_at (n ∷ ns) input = if nat_lt input n then Some 0 else option_map suc (cell_at ns (input - n))

-- the group of an input, hidden inputs counted, if there is such an input
abbrev pub group_at : Kind → ℕ → Option ℕ
group_at (Lanes cells) input = cell_at cells input
group_at kind input = if nat_lt input (all_inputs kind) then Some 0 else None

-- the cell of an input; past all inputs, the number of cells
abbrev pub cell_of : List ℕ → ℕ → ℕ
cell_of [] input = 0
cell_of (n ∷ ns) input = if nat_lt input n then 0 else suc (cell_of ns (input - n))

-- the group of an input: its cell in lanes, 0 for other kinds
abbrev pub input_group : Kind → ℕ → ℕ
input_group (Lanes cells) input = cell_of cells input
input_group _ input = 0

-- the group of an output: its cell in lanes, 0 for other kinds
abbrev pub output_group : Kind → ℕ → ℕ
output_group (Lanes cells) output = output
output_group _ output = 0

-- the pair is of these two platforms, in either order
abbrev pub is_pair_of : ℕ → ℕ → PairError → Bool
is_pair_of a b pair = pair.a == a && pair.b == b || pair.a == b && pair.b == a

-- the clock error of two platforms: the error that their pair states, or else the graph's
abbrev pub error_between : Graph → ℕ → ℕ → ℕ
error_between g a b = unwrap_or (option_map (λ (pair : PairError). pair.error) (find (is_pair_of a b) g.clock_errors)) g.clock_error
