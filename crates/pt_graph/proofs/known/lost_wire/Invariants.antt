use Rattle.std.proofs.Common.{◌≡◌, not, drop}
use Rattle.std.specs.List.{position_from}
use Rattle.pt_graph_text.specs.declared.document.WireText.{WireText}
use Rattle.pt_graph.specs.Known.{is_known}
use Rattle.pt_graph.specs.Index.{at_name}
use Rattle.pt_graph.proofs.known.lost_wire.Given as goal

abbrev pub invariant-loop-i : goal.invariant-loop-i
invariant-loop-i l = position_from (λ (x : WireText). not (is_known (at_name l.numbers) x.from x.to)) l.i (drop l.i l.wires) ≡ position_from (λ (x : WireText). not (is_known (at_name l.numbers) x.from x.to)) 0 l.wires
