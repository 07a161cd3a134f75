use Rattle.std.proofs.Common.{◌≡◌, ◌++◌, ◌∷◌, [], false, refl, ap, sym, subst, inl, inr, ◌∙◌, arith, rules}
use Rattle.std.proofs.lemmas.List.{append-nil}
use Rattle.pt_types.specs.declared.graph.Graph.{Graph}
use Rattle.pt_semantics.specs.Claiming.{Claims, after_claim}
use Rattle.pt_semantics.specs.Platform.{State}
use Rattle.pt_queue.specs.Events.{waiting_in}
use Rattle.pt_turn.specs.Fields.State.{busy_in, state_of}
use Rattle.pt_turn.specs.Claims.Fronts.{AreFront}
use Rattle.pt_turn.proofs.Claims.Fronts.{front_claimed, front_first, nothing_left}
use Rattle.pt_turn.proofs.Claims.Making.{claims_push, is_next}
use Rattle.pt_turn.proofs.claim.claiming.claim_alone.Goals.{then-most-eq0-via-then-most-eq0, then-most-eq0-via-else-most-eq0+then-fields-graph}
use Rattle.pt_turn.proofs.claim.claiming.claim_alone.Goals as goal

pub returns-then-most-eq0-clause-claimed : goal.returns-then-most-eq0-clause-claimed
returns-then-most-eq0-clause-claimed c = record {
  claimed = [];
  appended = sym (append-nil c.args.tasks.now.items);
  claims = λ taken. refl;
  at_most = omega arith;
  count = omega arith;
  open_claims = omega arith;
  in_all = c.requires.claims;
  all_or = inr (elim c.then-most-eq0.branch [
    | then-most-eq0-via-then-most-eq0 w ↦ inl (omega (arith, w.if-most-eq0.true))
    | then-most-eq0-via-else-most-eq0+then-fields-graph w ↦ inr (omega (arith, w.if-fields-graph.true, ap (λ (g : Graph). g.claims) w.graph.ensures.value))
  ]);
}

pub returns-clause-claimed : goal.returns-clause-claimed
returns-clause-claimed c =
    let items : c.push_reserved.new.self.items ≡ c.args.tasks.now.items ++ c.claim-task.result ∷ [] = search rules in
    let front : AreFront c.args.plan.now.graph (waiting_in c.args.fields.now.queue.events) (busy_in c.args.fields.now.open_claims.items) c.args.reading false (c.args.next ∷ []) = c.requires.front in
    let left : AreFront c.args.plan.now.graph (waiting_in c.claim-task.new.fields.queue.events) (busy_in c.claim-task.new.fields.open_claims.items) c.args.reading false [] =
    subst (λ (new : State). AreFront c.args.plan.now.graph new.waits new.busy c.args.reading false []) (sym (c.claim-task.ensures.after []))
    (front_claimed c.args.plan.now.graph (state_of c.args.fields.now []) c.args.reading false c.args.next [] c.claim-task.result c.claim-task.ensures.task.tag front) in
    record {
      claimed = c.claim-task.result ∷ [];
      appended = items;
      claims = λ taken.
          subst (Claims c.args.plan.now.graph c.args.reading (state_of c.args.fields.now taken) (c.claim-task.result ∷ []))
          (ap (λ u. after_claim c.args.plan.now.graph (state_of c.args.fields.now taken) u c.claim-task.result) c.claim-task.ensures.task.unit ∙ sym (c.claim-task.ensures.after taken))
          (claims_push c.args.plan.now.graph c.args.reading (state_of c.args.fields.now taken) (state_of c.args.fields.now taken) [] c.claim-task.result refl
          (is_next c.args.plan.now.graph c.args.fields.now taken c.args.reading c.args.next.unit c.args.next.tag c.claim-task.result front.safe.0.safe
          (front_first c.args.plan.now.graph (waiting_in c.args.fields.now.queue.events) (busy_in c.args.fields.now.open_claims.items) c.args.reading false c.args.next [] front)
          c.claim-task.ensures.task));
      at_most = omega (arith, c.if-most-eq0.false);
      count = c.claim-task.ensures.claims;
      open_claims = c.claim-task.ensures.open_claims;
      in_all = omega (arith, c.claim-task.ensures.claims, c.if-fields-graph.false, ap (λ (g : Graph). g.claims) c.graph.ensures.value);
      all_or = inl (nothing_left c.args.plan.now.graph (waiting_in c.claim-task.new.fields.queue.events) (busy_in c.claim-task.new.fields.open_claims.items) c.args.reading false [] left refl refl);
    }

pub returns-clause-idle : goal.returns-clause-idle
returns-clause-idle c = λ e.
    let front : AreFront c.args.plan.now.graph (waiting_in c.args.fields.now.queue.events) (busy_in c.args.fields.now.open_claims.items) c.args.reading false (c.args.next ∷ []) = c.requires.front in
    let left : AreFront c.args.plan.now.graph (waiting_in c.claim-task.new.fields.queue.events) (busy_in c.claim-task.new.fields.open_claims.items) c.args.reading false [] =
    subst (λ (new : State). AreFront c.args.plan.now.graph new.waits new.busy c.args.reading false []) (sym (c.claim-task.ensures.after []))
    (front_claimed c.args.plan.now.graph (state_of c.args.fields.now []) c.args.reading false c.args.next [] c.claim-task.result c.claim-task.ensures.task.tag front) in
    nothing_left c.args.plan.now.graph (waiting_in c.claim-task.new.fields.queue.events) (busy_in c.claim-task.new.fields.open_claims.items) c.args.reading false [] left refl refl
