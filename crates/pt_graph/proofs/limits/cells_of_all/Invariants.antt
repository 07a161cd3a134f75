use Rattle.std.proofs.Common.{◌≡◌, ◌-◌, ◌^◌, min, map, sum, take}
use Rattle.pt_graph.specs.Limits.{lane_cell_count}
use Rattle.pt_graph_text.specs.declared.document.ActorText.{ActorText}
use Rattle.pt_graph.proofs.limits.cells_of_all.Given as goal

abbrev pub invariant-loop-actor : goal.invariant-loop-actor
invariant-loop-actor l = l.total ≡ min (sum (map (λ (a : ActorText). lane_cell_count a.kind) (take l.actor-index l.actors))) (2 ^ 64 - 1)
