use Rattle.std.proofs.Common.{◌<◌, ◌≤◌, ◌+◌, sym, ◌∙◌, arith}
use Rattle.pt_turn.proofs.Enters.Due.{bound_due}
use Rattle.pt_turn.proofs.enter.due_from.sooner_due.Goals as goal

pub returns-in-Some-clause-due : goal.returns-in-Some-clause-due
returns-in-Some-clause-due c = λ g are.
    bound_due g c.args.offsets.now c.args.row c.in-Some.bound c.min.result (sym c.bound.ensures ∙ c.in-Some.is) (omega (arith, c.min.ensures, c.saturating_add.ensures, c.saturating_add-in-Some.ensures)) are
