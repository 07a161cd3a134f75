use Rattle.std.proofs.Common.{List, [], slice_get}
use Rattle.pt_tags.specs.declared.message.Message.{Message}
use Rattle.pt_history.proofs.Along.{grows}
use Rattle.pt_semantics.specs.Closing.{on_link}
use Rattle.pt_semantics.specs.Turn.{Turn}
use Rattle.pt_audit.proofs.Messages.{one_turn}
use Rattle.pt_audit.proofs.linking.sent_on.Goals as goal

pub loop-turn-preserved : goal.loop-turn-preserved
loop-turn-preserved c =
    let none : List Message = [] in
    grows (λ (t : Turn). on_link c.args.link t.sent) c.args.history.now.turns c.loop-turn.turn none c.loop-turn.messages.items c.push_on.new.messages.items c.loop-turn.invariant
    (one_turn (λ (t : Turn). t.sent) c.args.link (slice_get c.args.history.now.turns c.loop-turn.turn) c.sent.result.now c.loop-turn.messages.items c.push_on.new.messages.items c.sent.ensures c.in_ok-push_on.ensures)
