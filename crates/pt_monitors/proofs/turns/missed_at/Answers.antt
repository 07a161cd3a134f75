use Rattle.std.proofs.Common.{slice_get}
use Rattle.std.proofs.lemmas.Result.{on_ok_weaker}
use Rattle.pt_history.specs.Turns.{posted_in}
use Rattle.pt_history.proofs.InTurn.{posted_is}
use Rattle.pt_monitors.proofs.Missing.{missed_turn}
use Rattle.pt_monitors.proofs.turns.missed_at.Goals as goal

pub returns : goal.returns
returns c =
    on_ok_weaker c.missed_after.result (λ sent.
    missed_turn c.args.graph.now (slice_get c.args.history.now.turns c.args.number) (posted_in c.args.history.now.turns c.args.number) c.args.misses.now.items c.missed_results.new.misses.items c.missed_after.new.misses.items
    (posted_is c.args.history.now.turns c.args.number c.requires) c.in_ok-missed_results.ensures sent) c.missed_after.ensures
