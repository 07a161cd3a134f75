use Rattle.pt_engine.proofs.Idle.{idle_to_next}
use Rattle.pt_engine.proofs.resting.idle_until.Goals as goal

pub returns-in-Some : goal.returns-in-Some
returns-in-Some c = idle_to_next c.args.platform.now c.sent_all.result c.in-Some.next c.sent_all.ensures c.if-not-sent_all.false c.in-Some.ensures.1
