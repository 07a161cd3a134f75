-- The start of a platform, actor by actor.
use Rattle.std.specs.Prelude.{ℕ, ◌==◌, ◌&&◌, nat_le, if◌then◌else◌, Option, Some, None, ℤ}
use Rattle.pt_types.specs.declared.graph.Graph.{Graph}
use Rattle.pt_types.specs.declared.graph.Actor.{Actor}
use Rattle.pt_types.specs.declared.kind.Kind.{Kind}
use Rattle.pt_types.specs.declared.kind.Kind.TheVariants.{Every}
use Rattle.pt_types.specs.Ports.{when}
use Rattle.pt_semantics.specs.Edges.{first_state}
use Rattle.pt_types.specs.Lookups.{kind_of, platform_of}
use Rattle.pt_semantics.specs.Meaning.{Values, start_at}

-- the state of an actor at the start
abbrev pub first_of_actor : Actor → ℤ
first_of_actor a = first_state a.kind

-- the time at which an actor of this kind begins by itself, if it does so up to the horizon
abbrev pub start_of : Kind → ℕ → Option ℕ
start_of (Every start period) until = if nat_le start until then Some start else None
start_of _ until = None

-- the starting event of an actor of this kind
abbrev pub starting_event : Graph → ℕ → Kind → Values
starting_event g actor kind a p t = when (actor == a && p == 0) (start_at g kind t)

-- the starting events of platform i
abbrev pub starting : Graph → ℕ → Values
starting g i a p t = when (platform_of g a == i && p == 0) (start_at g (kind_of g a) t)
