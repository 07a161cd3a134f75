use Rattle.std.proofs.Common.{◌∙◌, sym}
use Rattle.pt_graph.specs.Index.{has_input}
use Rattle.pt_graph.proofs.Feeding.{fed_step}
use Rattle.pt_graph.proofs.ends.unfed_port.Goals as goal

pub loop-port-preserved : goal.loop-port-preserved
loop-port-preserved c =
    sym (fed_step (has_input c.args.fed.now c.args.actor) c.loop-port.port c.args.inputs c.loop-port-test.true (sym c.contains.ensures ∙ c.if-not-contains.false)) ∙ c.loop-port.invariant
