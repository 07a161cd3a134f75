use Rattle.pt_monitors.specs.Misses.{miss_of_message}
use Rattle.pt_monitors.proofs.Members.{filter_map_grows}
use Rattle.pt_monitors.proofs.turns.missed_messages.Goals as goal

pub loop-message-preserved : goal.loop-message-preserved
loop-message-preserved c =
    filter_map_grows (miss_of_message c.args.graph.now c.args.reading) c.args.sent.now c.loop-message.message-index _ c.args.misses.now.items c.loop-message.misses.items c.push.new.misses.items c.miss_of_message.result
    c.loop-message-test.true c.loop-message.invariant c.miss_of_message.ensures c.in_ok-push.ensures
