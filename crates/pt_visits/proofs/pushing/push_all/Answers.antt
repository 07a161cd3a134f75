use Rattle.std.proofs.Common.{◌≡◌, length, sym, ◌∙◌, eqb-true}
use Rattle.std.proofs.lemmas.Bool.{false≢true}
use Rattle.pt_turn.proofs.Ends.{no_members}
use Rattle.pt_visits.proofs.Pushed.{nothing_pushed}
use Rattle.pt_visits.proofs.pushing.push_all.Goals as goal

pub returns-then-sent_all-clause-pushed : goal.returns-then-sent_all-clause-pushed
returns-then-sent_all-clause-pushed c =
    let none : length c.args.platform.now.outbox ≡ 0 = eqb-true (length c.args.platform.now.outbox) 0 (sym c.sent_all.ensures ∙ c.if-sent_all.true) in
    nothing_pushed c.args.platform.now c.args.pipes.now (no_members c.args.platform.now.outbox none)

pub returns-clause-none : goal.returns-clause-none
returns-clause-none c = λ e. absurd (false≢true (sym e))
