-- Posting: the results of open claims come in.
use Rattle.std.specs.Prelude.{◌≡◌, ◌==◌, if◌then◌else◌, ◌∷◌, ◌++◌, [], ℕ, ℤ, List, None, Option, Some, slice_get}
use Rattle.pt_tags.specs.declared.message.Message.TheVariants.{Event}
use Rattle.pt_tags.specs.declared.message.Message.{Message}
use Rattle.pt_tags.specs.declared.tag.Tag.{Tag}
use Rattle.pt_types.specs.declared.firing.Done.{Done}
use Rattle.pt_types.specs.declared.graph.Graph.{Graph}
use Rattle.pt_types.specs.declared.graph.Link.{Link}
use Rattle.pt_types.specs.Ports.{at_port}
use Rattle.pt_semantics.specs.Platform.{State, put_busy}
use Rattle.pt_semantics.specs.Meaning.{added, going, put_state}
use Rattle.pt_semantics.specs.Firing.{fired}
use Rattle.pt_semantics.specs.Edges.{wires}
use Rattle.pt_types.specs.Lookups.{kind_of}
use Rattle.pt_semantics.specs.Units.{leaves_unit, unit_of}

-- the message that a sender sends for its output value, if there is one
abbrev pub as_message : Tag → Option ℤ → List Message
as_message t None = []
as_message t (Some v) = Event t v ∷ []

-- what is added to the outbox of a link when actor a gives these outputs: a message if a is the link's sender
abbrev pub message_from : Option Link → ℕ → Tag → List (Option ℤ) → List Message
message_from None a t outputs = []
message_from (Some link) a t outputs = if link.from == a then as_message t (at_port outputs 0) else []

-- the state after a result is posted: its claim is closed, the actor's state is set, the outputs go along the unit's wires,
-- and a sender's output is added to its outbox
abbrev pub after_post : Graph → State → Done → State
after_post g s d = record s {
  waits = added s.waits (going g (wires g) (leaves_unit g (unit_of g d.task)) d.task.tag d.fired.outputs);
  busy = put_busy s.busy (unit_of g d.task) None;
  states = put_state s.states d.task.actor d.fired.state;
  outbox = λ l. s.outbox l ++ message_from (slice_get g.links l) d.task.actor d.task.tag d.fired.outputs;
}

-- results of open claims are posted, each with the state and outputs for its task's kind
abbrev pub Posts : Graph → State → List Done → State → Type 0
Posts g s [] new = new ≡ s
Posts g s (d ∷ ds) new =
    (s.busy (unit_of g d.task) ≡ Some d.task) × (d.fired ≡ fired (kind_of g d.task.actor) d.task.state d.task.inputs) × Posts g (after_post g s d) ds new
