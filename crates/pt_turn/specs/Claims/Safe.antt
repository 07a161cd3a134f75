-- Safe units, as the program finds them.
use Rattle.std.specs.Prelude.{Bool, Option}
use Rattle.pt_tags.specs.declared.tag.Tag.{Tag}
use Rattle.pt_tags.specs.declared.tag.Delay.{Delay}
use Rattle.pt_types.specs.declared.graph.Unit.{Unit}
use Rattle.pt_queue.specs.Scans.{reaches}
use Rattle.pt_turn.specs.declared.state.fields.OpenClaim.{OpenClaim}

-- an open claim can lead to unit u at t or before
abbrev pub may_lead_to : (Unit → Unit → Option Delay) → Unit → Tag → OpenClaim → Bool
may_lead_to least u t c = reaches (least c.unit u) c.task.tag t
