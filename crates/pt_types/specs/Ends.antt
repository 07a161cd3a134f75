-- Whether wires and links may join their two ends.
use Rattle.std.specs.Prelude.{ℕ, zero, suc, ◌+◌, ◌==◌, ◌&&◌, ◌||◌, nat_lt, Bool, true, false, not, List, [], ◌∷◌, ◌++◌, Option, Some, None, if◌then◌else◌}
use Rattle.std.specs.List.{list_any, count_by}
use Rattle.pt_types.specs.declared.kind.Kind.{Kind}
use Rattle.pt_types.specs.declared.kind.Kind.TheVariants.{Receive, Send, Every}
use Rattle.pt_types.specs.declared.graph.Actor.{Actor}
use Rattle.pt_types.specs.declared.graph.Wire.{Wire}
use Rattle.pt_types.specs.declared.graph.Link.{Link}
use Rattle.pt_types.specs.Groups.{actor_at, held}

-- both ends of a wire are visible ports
abbrev pub ends_fit : List Actor → Wire → Bool
ends_fit actors w = nat_lt w.output (actor_at actors w.from).outputs && nat_lt w.input (actor_at actors w.to).inputs

-- both ends of a wire are on one platform
abbrev pub stays_home : List Actor → Wire → Bool
stays_home actors w = (actor_at actors w.from).platform == (actor_at actors w.to).platform

-- the wire leads to this input of this actor
abbrev pub goes_to : ℕ → ℕ → Wire → Bool
goes_to actor input w = w.to == actor && w.input == input

-- one of the wires leads there
abbrev pub is_fed : List Wire → ℕ → ℕ → Bool
is_fed wires actor input = list_any (goes_to actor input) wires

-- the index of the first wire that leads to the same input as an earlier one
abbrev pub fed_twice_from : List Wire → ℕ → List Wire → Option ℕ
fed_twice_from seen i [] = None
fed_twice_from seen i (w ∷ ws) = if is_fed seen w.to w.input then Some i else fed_twice_from (seen ++ w ∷ []) (i + 1) ws

-- the first input that is not fed, of those from `port` on; the last number says how many these are
abbrev pub unfed_from : (ℕ → Bool) → ℕ → ℕ → Option ℕ
unfed_from fed port zero = None
unfed_from fed port (suc left) = if fed port then unfed_from fed (port + 1) left else Some port

abbrev pub or_next : ℕ → Option ℕ → Option (ℕ × ℕ) → Option (ℕ × ℕ)
or_next i None next = next
or_next i (Some port) next = Some (i, port)

-- the first actor with an unfed visible input, and its first such input
abbrev pub first_unfed : (ℕ → ℕ → Bool) → ℕ → List Actor → Option (ℕ × ℕ)
first_unfed fed i [] = None
first_unfed fed i (a ∷ actors) = or_next i (unfed_from (fed i) 0 a.inputs) (first_unfed fed (i + 1) actors)

abbrev pub is_send : Kind → Bool
is_send (Send slack) = true
is_send _ = false

abbrev pub is_receive : Kind → Bool
is_receive Receive = true
is_receive _ = false

-- a link leads from a sender to a receiver of another platform
abbrev pub link_fits : List Actor → Link → Bool
link_fits actors l = is_send (actor_at actors l.from).kind && is_receive (actor_at actors l.to).kind && not ((actor_at actors l.from).platform == (actor_at actors l.to).platform)

-- the link begins or ends at this actor
abbrev pub has_end : ℕ → Link → Bool
has_end actor l = l.from == actor || l.to == actor

-- a sender or receiver has exactly one link
abbrev pub links_fit : List Link → ℕ → Kind → Bool
links_fit links actor kind = not (is_send kind || is_receive kind) || count_by (has_end actor) links == 1

-- the index of the first actor for which that fails
abbrev pub misfit_from : List Link → ℕ → List Actor → Option ℕ
misfit_from links i [] = None
misfit_from links i (a ∷ actors) = if links_fit links i a.kind then misfit_from links (i + 1) actors else Some i

-- an `every` has a hidden wire from its output 1 to its input 0; other kinds have none
abbrev pub hidden_wire : ℕ → Kind → Option Wire
hidden_wire i (Every start period) = Some (record { from = held i; output = 1; to = held i; input = 0 })
hidden_wire i _ = None

abbrev pub then_wires : Option Wire → List Wire → List Wire
then_wires None ws = ws
then_wires (Some w) ws = w ∷ ws

-- the hidden wires, in actor order
abbrev pub hidden_wires : ℕ → List Actor → List Wire
hidden_wires i [] = []
hidden_wires i (a ∷ actors) = then_wires (hidden_wire i a.kind) (hidden_wires (i + 1) actors)
