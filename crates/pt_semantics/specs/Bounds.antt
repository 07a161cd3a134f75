-- Bounds: how much later than its time an event of a sensor or a receiver can come.
use Rattle.std.specs.Prelude.{◌≡◌, ◌==◌, ◌&&◌, ◌+◌, ◌||◌, ℕ, List, None, Option, Some, unwrap_or}
use Rattle.pt_types.specs.declared.graph.Graph.{Graph}
use Rattle.pt_types.specs.declared.kind.Kind.{Kind}
use Rattle.pt_types.specs.declared.graph.Link.{Link}
use Rattle.pt_types.specs.declared.graph.PairError.{PairError}
use Rattle.pt_types.specs.declared.graph.Unit.{Unit}
use Rattle.pt_types.specs.declared.kind.Kind.TheVariants.{Receive, Sensor}
use Rattle.pt_types.specs.Ports.{when}
use Rattle.pt_semantics.specs.Edges.{Edge}
use Rattle.pt_types.specs.Lookups.{kind_of, platform_of, slack_of}
use Rattle.pt_semantics.specs.Paths.{Goes}
use Rattle.pt_semantics.specs.Units.{at_output}
use Rattle.pt_semantics.specs.Lists.{first_of}

-- the clock error that this pair states, if the pair is of platforms p and q
abbrev pub of_pair : ℕ → ℕ → PairError → Option ℕ
of_pair p q e = when (e.a == p && e.b == q || e.a == q && e.b == p) (Some e.error)

-- the clock error of two platforms: that of their pair, or the graph's if no pair states it
abbrev pub error_of : Graph → ℕ → ℕ → ℕ
error_of g p q = unwrap_or (first_of (of_pair p q) g.clock_errors) g.clock_error

-- the bound of a link's receiver: the sender's slack, the delay of the network and the clock error
abbrev pub link_bound : Graph → Link → ℕ
link_bound g l = slack_of (kind_of g l.from) + l.delay + error_of g (platform_of g l.from) (platform_of g l.to)

-- the bound of a sensor or a receiver; other kinds have none
abbrev pub bound_by : Graph → ℕ → Kind → Option ℕ
bound_by g a (Sensor file bound) = Some bound
bound_by g a Receive = first_of (λ (l : Link). when (l.to == a) (Some (link_bound g l))) g.links
bound_by g a _ = None

-- the bound of an actor, if it is a sensor or a receiver
abbrev pub bound_of : Graph → ℕ → Option ℕ
bound_of g a = bound_by g a (kind_of g a)

-- a path leads from a sensor or receiver s with bound b to unit a
pub record Feeds (g : Graph) (s b : ℕ) (path : List Edge) (a : Unit) : Type 0 where
  pub bound : bound_of g s ≡ Some b
  pub goes : Goes g (at_output g s 0) path a
