-- How the wires and links of a lawful graph join its actors.
use Rattle.std.proofs.Common.{◌≡◌, ℕ, ◌<◌, true, length, slice_get, Some, ◌⊎◌}
use Rattle.pt_types.specs.declared.graph.Graph.{Graph}
use Rattle.pt_types.specs.declared.graph.Wire.{Wire}
use Rattle.pt_types.specs.declared.graph.Link.{Link}
use Rattle.pt_types.specs.Kinds.{kind_is_lawful}
use Rattle.pt_types.specs.Groups.{actor_at}
use Rattle.pt_types.specs.Lawful.{IsLawful}
use Rattle.pt_types.proofs.Distinct.{Once}
use Rattle.pt_types.proofs.LawfulActors.{any_kind, any_home}
use Rattle.pt_types.proofs.LawfulWires.{IsOutward, IsOwn, wire_ends, wire_home, wire_leads, wires_once}
use Rattle.pt_types.proofs.LawfulLinks.{IsLink, link_at, links_once, links_once_out}

-- wires and links join actors of the graph, each input is fed once, wires stay at home, and links lead elsewhere
pub record IsJoined (g : Graph) : Type 0 where
  pub kinds : (a : ℕ) → kind_is_lawful (actor_at g.actors a).kind ≡ true
  pub homes : (a : ℕ) → (actor_at g.actors a).platform < length g.platforms
  pub ends : (i : ℕ) (w : Wire) → slice_get g.wires i ≡ Some w → (w.from < length g.actors) × (w.to < length g.actors)
  pub at_home : (i : ℕ) (w : Wire) → slice_get g.wires i ≡ Some w → (actor_at g.actors w.from).platform ≡ (actor_at g.actors w.to).platform
  pub leads : (i : ℕ) (w : Wire) → slice_get g.wires i ≡ Some w → IsOutward g w ⊎ IsOwn g w
  pub fed_once : Once (λ (w : Wire). w.to) (λ (w : Wire). w.input) g.wires
  pub linked : (i : ℕ) (l : Link) → slice_get g.links i ≡ Some l → IsLink g l
  pub one_link : (i j : ℕ) (l k : Link) → slice_get g.links i ≡ Some l → slice_get g.links j ≡ Some k → l.to ≡ k.to → i ≡ j
  pub one_link_out : (i j : ℕ) (l k : Link) → slice_get g.links i ≡ Some l → slice_get g.links j ≡ Some k → l.from ≡ k.from → i ≡ j

-- the wires and links of a lawful graph join its actors so
pub joined : (g : Graph) → IsLawful g → IsJoined g
joined g lawful = record {
  kinds = λ a. any_kind g a lawful;
  homes = λ a. any_home g a lawful;
  ends = λ i w h. wire_ends g i w lawful h;
  at_home = λ i w h. wire_home g i w lawful h;
  leads = λ i w h. wire_leads g i w lawful h;
  fed_once = wires_once g lawful;
  linked = λ i l h. link_at g i l lawful h;
  one_link = λ i j l k p q e. links_once g i j l k lawful p q e;
  one_link_out = λ i j l k p q e. links_once_out g i j l k lawful p q e;
}
