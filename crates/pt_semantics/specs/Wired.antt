-- What theorems about meanings and histories need of a graph; every lawful graph has it.
use Rattle.std.specs.Prelude.{◌≡◌, ◌<◌, ℕ, List, None, Some, length, slice_get}
use Rattle.pt_types.specs.declared.kind.Kind.TheVariants.{Every, Receive, Send}
use Rattle.pt_types.specs.declared.graph.Graph.{Graph}
use Rattle.pt_types.specs.declared.graph.Link.{Link}
use Rattle.pt_semantics.specs.Edges.{Edge, edges, wires}
use Rattle.pt_types.specs.Lookups.{kind_of, platform_of}
use Rattle.pt_semantics.specs.Lists.{IsIn}
use Rattle.pt_semantics.specs.Units.{groups}
use Rattle.pt_types.specs.Groups.{input_group}
use Rattle.pt_semantics.specs.Bounds.{bound_of}

-- no two edges of the list lead to the same input
abbrev pub FedOnce : List Edge → Type 0
FedOnce along = (i j : ℕ) (e d : Edge) → slice_get along i ≡ Some e → slice_get along j ≡ Some d → e.to ≡ d.to → e.input ≡ d.input → i ≡ j

-- a graph with these facts; the reader of graphs accepts no other
pub record IsWired (g : Graph) : Type 0 where
  -- an input is fed at most once, by a wire or a link
  pub fed_once : FedOnce (edges g)
  -- edges join actors of the graph, and lead to one of eight inputs
  pub ends : (e : Edge) → IsIn e (edges g) → (e.from < length g.actors) × (e.to < length g.actors)
  pub ports : (e : Edge) → IsIn e (edges g) → e.input < 8
  -- an input that is fed belongs to a unit
  pub in_unit : (e : Edge) → IsIn e (edges g) → input_group (kind_of g e.to) e.input < groups (kind_of g e.to)
  -- a wire stays on its platform, and leads to no sensor and no receiver
  pub at_home : (e : Edge) → IsIn e (wires g) → platform_of g e.from ≡ platform_of g e.to
  pub inner : (e : Edge) → IsIn e (wires g) → bound_of g e.to ≡ None
  -- a link leads from a sender to a receiver, and a receiver has at most one link
  pub sends : (l : ℕ) (link : Link) → slice_get g.links l ≡ Some link → (slack : ℕ) × (kind_of g link.from ≡ Send slack)
  pub receives : (l : ℕ) (link : Link) → slice_get g.links l ≡ Some link → kind_of g link.to ≡ Receive
  pub one_link : (l k : ℕ) (link other : Link) → slice_get g.links l ≡ Some link → slice_get g.links k ≡ Some other → link.to ≡ other.to → l ≡ k
  -- an edge to an `every` comes from this actor itself, and takes time
  pub loops : (e : Edge) (start period : ℕ) → IsIn e (edges g) → kind_of g e.to ≡ Every start period → (e.from ≡ e.to) × (0 < e.weight.time)
  -- the platform of each actor is one of the graph
  pub homes : (a : ℕ) → platform_of g a < length g.platforms
