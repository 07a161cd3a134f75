-- Units that may hold up others.
use Rattle.std.specs.Prelude.{◌≡◌}
use Rattle.pt_types.specs.declared.graph.Graph.{Graph}
use Rattle.pt_semantics.specs.Meaning.{Values}
use Rattle.pt_semantics.specs.Units.{HasEvent}
use Rattle.pt_causality.specs.declared.least.Least.{Least}
use Rattle.pt_causality.specs.Delays.{number_of}
use Rattle.pt_turn.specs.declared.claim.ahead.Ahead.{Ahead}

-- the unit has an event at its tag, and its number is that of the table of least delays
abbrev pub HasEventAhead : Graph → Values → Least → Ahead → Type 0
HasEventAhead g waits least ahead = HasEvent g waits ahead.waiting.unit ahead.waiting.tag × (ahead.number ≡ number_of least ahead.waiting.unit)
