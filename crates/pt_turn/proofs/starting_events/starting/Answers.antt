use Rattle.std.proofs.Common.{◌≡◌, length, get_or, ap, sym, subst, ◌∙◌, arith}
use Rattle.pt_types.specs.declared.graph.Actor.{Actor}
use Rattle.pt_types.specs.Groups.{no_actor}
use Rattle.pt_semantics.specs.Meaning.{added}
use Rattle.pt_queue.specs.Events.{Queued, waiting_in}
use Rattle.pt_queue.specs.Groups.{AreGroups}
use Rattle.pt_turn.specs.Starting.{starting_event}
use Rattle.pt_turn.proofs.Beginning.{actor_read, starts_all, starts_free, starts_more, starts_none, starts_skip}
use Rattle.pt_turn.proofs.starting_events.starting.Goals.{then-actor-platform, else-actor-platform}
use Rattle.pt_turn.proofs.starting_events.starting.Goals as goal

pub begin-requires-clause-absent : goal.begin-requires-clause-absent
begin-requires-clause-absent c = λ t. starts_free c.args.graph.now c.args.platform c.loop-number.number (waiting_in c.loop-number.queue.events) t c.loop-number.invariant.waits

pub loop-number-init : goal.loop-number-init
loop-number-init c = record {
  groups = subst (AreGroups c.args.graph.now) (sym c.in-Ok.ensures.groups) c.in_ok-queue.ensures.groups;
  spare = omega (arith, c.in-Ok.ensures.spare, ap length c.as_slice.ensures);
  waits = starts_none c.args.graph.now c.args.platform (waiting_in c.reserve.new.self.events) (ap waiting_in (c.in-Ok.ensures.events ∙ c.in_ok-queue.ensures.empty));
}

pub loop-number-preserved : goal.loop-number-preserved
loop-number-preserved c =
    let g = c.args.graph.now in
    let n = c.loop-number.number in
    let was = c.loop-number.invariant in
    let read : c.actor-item.result ≡ get_or g.actors n no_actor = actor_read g c.as_slice-actor-items.result.now n c.actor-item.result c.as_slice-actor-items.ensures c.loop-number-test.true c.actor-item.is in
    elim c.if-actor-platform.branch [
      | then-actor-platform w ↦
          let spare : c.if-actor-platform.queue.spare ≡ w.begin.new.queue.spare = ap (λ (q : Queued). q.spare) w.queue-is in
          record {
            groups = subst (AreGroups g) (sym (ap (λ (q : Queued). q.groups) w.queue-is ∙ w.begin.ensures.groups)) was.groups;
            spare = omega (arith, spare, w.begin.ensures.spare, was.spare);
            waits =
                ap (λ (q : Queued). waiting_in q.events) w.queue-is ∙ w.begin.ensures.waits
                ∙ ap (λ x. added x (starting_event g n c.actor-item.result.kind)) was.waits
                ∙ starts_more g c.args.platform n c.actor-item.result.kind (ap (λ (x : Actor). x.kind) read) (sym (ap (λ (x : Actor). x.platform) read) ∙ w.if-actor-platform.true);
          }
      | else-actor-platform w ↦
          let spare : c.if-actor-platform.queue.spare ≡ c.loop-number.queue.spare = ap (λ (q : Queued). q.spare) w.queue-is in
          record {
            groups = subst (AreGroups g) (sym (ap (λ (q : Queued). q.groups) w.queue-is)) was.groups;
            spare = omega (arith, spare, was.spare);
            waits =
                ap (λ (q : Queued). waiting_in q.events) w.queue-is ∙ was.waits
                ∙ starts_skip g c.args.platform n (λ e. w.if-actor-platform.false (ap (λ (x : Actor). x.platform) read ∙ e));
          }
    ]

pub returns-clause-waits : goal.returns-clause-waits
returns-clause-waits c =
    let len : length c.as_slice-actor-items.result.now ≡ length c.args.graph.now.actors = ap length c.as_slice-actor-items.ensures in
    c.loop-number.invariant.waits ∙ starts_all c.args.graph.now c.args.platform c.loop-number.number (omega (arith, len, c.loop-number-test.false))
