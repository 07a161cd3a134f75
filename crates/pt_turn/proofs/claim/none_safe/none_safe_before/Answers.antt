use Rattle.pt_turn.proofs.Claims.NotDue.{none_safe, none_safe_up_to}
use Rattle.pt_turn.proofs.claim.none_safe.none_safe_before.Goals as goal

pub returns-then-claimed : goal.returns-then-claimed
returns-then-claimed c = none_safe_up_to c.args.plan.now.graph c.args.fields.now c.args.reading c.past.result c.requires.idle c.past.ensures

pub returns : goal.returns
returns c = none_safe c.args.plan.now.graph c.args.fields.now c.args.reading c.next_due.result c.requires.idle c.next_due.ensures
