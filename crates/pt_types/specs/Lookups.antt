-- What a graph says about an actor or a platform, by its number.
use Rattle.std.specs.Prelude.{ℕ, List, [], slice_index_or}
use Rattle.pt_types.specs.declared.graph.Graph.{Graph}
use Rattle.pt_types.specs.declared.kind.Kind.{Kind}
use Rattle.pt_types.specs.declared.kind.Kind.TheVariants.{Send, Actuator}
use Rattle.pt_types.specs.Groups.{no_actor}

-- the kind of an actor
abbrev pub kind_of : Graph → ℕ → Kind
kind_of g a = (slice_index_or g.actors a no_actor).kind

-- the platform of an actor
abbrev pub platform_of : Graph → ℕ → ℕ
platform_of g a = (slice_index_or g.actors a no_actor).platform

-- the name of an actor
abbrev pub actor_name : Graph → ℕ → List ℕ
actor_name g a = (slice_index_or g.actors a no_actor).name

-- the name of a platform
abbrev pub platform_name : Graph → ℕ → List ℕ
platform_name g p = slice_index_or g.platforms p []

-- how long after its tag's time a sender or an actuator may act; 0 for other kinds
abbrev pub slack_of : Kind → ℕ
slack_of (Send slack) = slack
slack_of (Actuator slack) = slack
slack_of _ = 0
