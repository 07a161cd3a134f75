use Rattle.std.proofs.Common.{◌≡◌, ◌-◌}
use Rattle.pt_types.specs.Ends.{unfed_from}
use Rattle.pt_graph.specs.Index.{has_input}
use Rattle.pt_graph.proofs.ends.unfed_port.Given as goal

abbrev pub invariant-loop-port : goal.invariant-loop-port
invariant-loop-port l = unfed_from (has_input l.fed l.actor) l.port (l.inputs - l.port) ≡ unfed_from (has_input l.fed l.actor) 0 l.inputs
