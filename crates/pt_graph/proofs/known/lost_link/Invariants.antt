use Rattle.std.proofs.Common.{◌≡◌, not, drop}
use Rattle.std.specs.List.{position_from}
use Rattle.pt_graph_text.specs.declared.document.LinkText.{LinkText}
use Rattle.pt_graph.specs.Known.{is_known}
use Rattle.pt_graph.specs.Index.{at_name}
use Rattle.pt_graph.proofs.known.lost_link.Given as goal

abbrev pub invariant-loop-i : goal.invariant-loop-i
invariant-loop-i l = position_from (λ (x : LinkText). not (is_known (at_name l.numbers) x.from x.to)) l.i (drop l.i l.links) ≡ position_from (λ (x : LinkText). not (is_known (at_name l.numbers) x.from x.to)) 0 l.links
