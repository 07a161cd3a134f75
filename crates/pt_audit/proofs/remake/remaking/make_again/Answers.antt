use Rattle.std.proofs.Common.{rules, ◌≡◌, ◌++◌, List, None, subst, sym, ◌∙◌}
use Rattle.std.proofs.lemmas.Bool.{false≢true}
use Rattle.pt_semantics.specs.Lists.{IsIn}
use Rattle.pt_semantics.specs.Closing.{on_link}
use Rattle.pt_types.specs.declared.firing.OnLink.{OnLink}
use Rattle.pt_turn.specs.Platforms.{level_at, state_at}
use Rattle.pt_turn.specs.Turned.{MayCome}
use Rattle.pt_audit.specs.Remaking.Lasts.{AreLast}
use Rattle.pt_audit.specs.Remaking.Steps.{AreOf, IsInForm, MakesTurn, claims_in}
use Rattle.pt_audit.proofs.Remaking.Histories.{running_tidy}
use Rattle.pt_audit.proofs.Remaking.Passes.{known_hold, may_hold}
use Rattle.pt_audit.proofs.remake.remaking.make_again.Goals as goal

pub returns-then-not-may_come-clause-never : goal.returns-then-not-may_come-clause-never
returns-then-not-may_come-clause-never g c =
    let v = c.args.platform.now in
    λ no turn logged follows.
    absurd (false≢true (sym c.if-not-may_come.true ∙ c.may_come.ensures.may.1
    (subst (MayCome v.plan.graph (level_at v) v.number (state_at v)) (sym c.as_slice.ensures.value) (may_hold c.args.hints.now v (claims_in v.turns) turn (running_tidy v c.fault.ensures.runs) logged follows))))

pub returns-then-not-branch-clause-never : goal.returns-then-not-branch-clause-never
returns-then-not-branch-clause-never g c =
    let v = c.args.platform.now in
    let u = c.in_ok-fire_claims.ensures.unknown c.if-not-branch.true in
    λ no turn logged follows. known_hold c.args.hints.now v (claims_in v.turns) turn u.0 (running_tidy v c.fault.ensures.runs) logged follows (subst (IsIn u.0) c.as_slice-2.ensures.value u.1) u.2

pub returns : goal.returns
returns g c =
    let v = c.args.platform.now in
    let dones = c.fire_claims.new.dones.items in
    let no_fault : v.fault ≡ None = search rules in
    let form : IsInForm v.reading c.args.hints.now = search rules in
    let turned : MakesTurn c.args.hints.now dones v c.make_turn.new.platform = subst (λ ds. MakesTurn c.args.hints.now ds v c.make_turn.new.platform) c.as_slice-3.ensures.value c.in_ok-make_turn.ensures in
    record {
      made = λ yes. record {
        named = c.requires.named;
        no_fault = no_fault;
        running = c.fault.ensures.runs;
        form = form;
        dones = dones;
        are = subst (λ numbers. AreOf (claims_in v.turns) numbers dones) c.as_slice-2.ensures.value (c.in_ok-fire_claims.ensures.all c.if-not-branch.false);
        done = c.in_ok-fire_claims.ensures.done;
        made = turned.0;
        stays = turned.1;
      };
      never = λ no turn logged follows. absurd (false≢true (sym no));
      last = λ yes. subst (λ (ms : List OnLink). AreLast v.plan.graph v.number (λ l. (state_at v).taken l ++ on_link l ms) c.may_come.new.last) c.as_slice.ensures.value (c.may_come.ensures.last c.if-not-may_come.false);
      others = λ yes. c.may_come.ensures.others;
    }
