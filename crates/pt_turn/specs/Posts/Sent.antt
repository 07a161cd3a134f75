-- What posting a result requires, and what its outputs send along one wire and one link.
use Rattle.std.specs.Prelude.{◌≡◌, ℕ, suc, ◌==◌, ◌&&◌, nat_lt, List, [], Option, Some, ℤ, if◌then◌else◌}
use Rattle.pt_tags.specs.declared.tag.Tag.{Tag}
use Rattle.pt_tags.specs.declared.tag.Delay.{Delay}
use Rattle.pt_tags.specs.declared.message.Message.{Message}
use Rattle.pt_tags.specs.Tags.{same_tag, plus, Fits}
use Rattle.pt_types.specs.declared.graph.Wire.{Wire}
use Rattle.pt_types.specs.declared.graph.Link.{Link}
use Rattle.pt_types.specs.declared.graph.Graph.{Graph}
use Rattle.pt_types.specs.declared.graph.Unit.{Unit}
use Rattle.pt_types.specs.declared.firing.Task.{Task}
use Rattle.pt_types.specs.declared.firing.Done.{Done}
use Rattle.pt_types.specs.Ports.{at_port, when}
use Rattle.pt_semantics.specs.Edges.{Edge, weight, of_wire, wires}
use Rattle.pt_types.specs.Lookups.{kind_of}
use Rattle.pt_semantics.specs.Floor.{NothingThere}
use Rattle.pt_semantics.specs.Lists.{IsIn}
use Rattle.pt_semantics.specs.Meaning.{Values, going}
use Rattle.pt_semantics.specs.Posting.{as_message}
use Rattle.pt_semantics.specs.Units.{leaves_unit, unit_of}
use Rattle.pt_turn.specs.declared.state.fields.Fields.{Fields}
use Rattle.pt_turn.specs.Fields.State.{busy_in}
use Rattle.pt_queue.specs.Events.{waiting_in}

-- 64 bits hold a tag plus what each wire from an actor adds to it
abbrev pub SumsFit : Graph → ℕ → Tag → Type 0
SumsFit g a t = (e : Edge) → IsIn e (wires g) → e.from ≡ a → Fits (plus t e.weight)

-- a task is the open claim of its unit
abbrev pub IsOpenClaim : Graph → Fields → Task → Type 0
IsOpenClaim g f task = busy_in f.open_claims.items (unit_of g task) ≡ Some task

-- no event waits where the outputs of a result go
abbrev pub FindsNothing : Graph → Fields → Done → Type 0
FindsNothing g f d = NothingThere (waiting_in f.queue.events) (going g (wires g) (leaves_unit g (unit_of g d.task)) d.task.tag d.fired.outputs)

-- what an output at a tag brings to the end of a wire with this delay, up to the horizon
abbrev pub sent : Wire → Delay → ℕ → Tag → Option ℤ → Values
sent wire delay until t output a p u = when (nat_lt u.time (suc until)) (when (wire.to == a && wire.input == p) (when (same_tag (plus t delay) u) output))

-- what a unit's outputs send along one wire, if it leaves the unit
abbrev pub along : Graph → Unit → Tag → List (Option ℤ) → Wire → Values
along g u t outputs w a p x = when (leaves_unit g u (of_wire g w)) (sent w (weight (kind_of g w.from) w.output) g.until t (at_port outputs w.output) a p x)

-- the messages that an actor's output adds to the outbox of link l, if it is sent on link `number`
abbrev pub sent_on : ℕ → ℕ → Link → ℕ → Tag → Option ℤ → List Message
sent_on l number link a t output = if l == number then (if link.from == a then as_message t output else []) else []
