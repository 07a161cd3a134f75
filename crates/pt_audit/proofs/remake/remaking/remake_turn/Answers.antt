use Rattle.std.proofs.Common.{◌≡◌, true, sym, subst, ◌∙◌}
use Rattle.std.proofs.lemmas.Bool.{false≢true}
use Rattle.pt_audit.specs.Remaking.Steps.{CanSend, HasCounts, HasMade, claims_in}
use Rattle.pt_audit.proofs.Remaking.Histories.{running_tidy}
use Rattle.pt_audit.proofs.Remaking.Logged.{only_one}
use Rattle.pt_audit.proofs.Remaking.Turns.{counts_must, last_after, last_made, nothing_sent_yet, only_links, remade_from, sends_must}
use Rattle.pt_audit.proofs.remake.remaking.remake_turn.Goals as goal

pub returns-then-not-has_counts-clause-never : goal.returns-then-not-has_counts-clause-never
returns-then-not-has_counts-clause-never g c =
    let h : HasMade c.args.hints.now c.args.platform.now c.make_again.new.platform = c.in_ok-make_again.ensures.made c.if-not-branch.false in
    λ no turn logged follows.
    absurd (false≢true (sym c.if-not-has_counts.true ∙ (c.has_counts.ensures h.made.turn (last_made c.args.hints.now c.args.platform.now c.make_again.new.platform h c.history.result.now.turns c.history.ensures.turns)).1
    (counts_must c.args.hints.now c.args.platform.now c.make_again.new.platform h turn logged follows)))

pub send_all-requires-clause-nothing_sent : goal.send_all-requires-clause-nothing_sent
send_all-requires-clause-nothing_sent g c = nothing_sent_yet c.args.hints.now c.args.platform.now c.make_again.new.platform (c.in_ok-make_again.ensures.made c.if-not-branch.false)

pub send_all-requires-clause-only_links : goal.send_all-requires-clause-only_links
send_all-requires-clause-only_links g c = only_links c.args.hints.now c.args.platform.now c.make_again.new.platform (c.in_ok-make_again.ensures.made c.if-not-branch.false)

pub returns : goal.returns
returns g c =
    let v = c.args.platform.now in
    let h : HasMade c.args.hints.now v c.make_again.new.platform = c.in_ok-make_again.ensures.made c.if-not-branch.false in
    let counts : HasCounts c.args.hints.now h.made.turn = (c.has_counts.ensures h.made.turn (last_made c.args.hints.now v c.make_again.new.platform h c.history.result.now.turns c.history.ensures.turns)).0 c.if-not-has_counts.false in
    let remade = λ (yes : c.send_all.result ≡ true). remade_from c.args.hints.now v c.make_again.new.platform h counts c.send_all.new.platform c.as_slice.result.now c.as_slice.ensures.value (c.send_all.ensures.sent yes) in
    record {
      made = remade;
      one = λ yes. only_one c.args.hints.now v c.send_all.new.platform (claims_in v.turns) (running_tidy v h.running) (remade yes);
      never = λ no turn logged follows. c.send_all.ensures.never no (subst (CanSend c.make_again.new.platform.outbox) (sym c.as_slice.ensures.value) (sends_must c.args.hints.now v c.make_again.new.platform h turn logged follows));
      last = λ yes. last_after c.args.hints.now v c.send_all.new.platform c.make_again.new.last (remade yes) (c.in_ok-make_again.ensures.last c.if-not-branch.false);
      others = λ yes. c.in_ok-make_again.ensures.others c.if-not-branch.false;
    }
