use Rattle.std.proofs.Common.{[], false, refl, sym, subst, inl, arith}
use Rattle.std.proofs.lemmas.List.{append-nil}
use Rattle.pt_queue.specs.Events.{waiting_in}
use Rattle.pt_turn.specs.Fields.State.{busy_in}
use Rattle.pt_turn.specs.Claims.Fronts.{AreFront, one_of}
use Rattle.pt_turn.proofs.Claims.Fronts.{nothing_left}
use Rattle.pt_turn.proofs.claim.claiming.claim_safe.Goals as goal

pub returns-in-Ok-None-clause-idle : goal.returns-in-Ok-None-clause-idle
returns-in-Ok-None-clause-idle c = λ e. nothing_left c.args.plan.now.graph (waiting_in c.args.fields.now.queue.events) (busy_in c.args.fields.now.open_claims.items) c.args.reading false [] (subst (λ o. AreFront c.args.plan.now.graph (waiting_in c.args.fields.now.queue.events) (busy_in c.args.fields.now.open_claims.items) c.args.reading false (one_of o)) c.in-Ok-None.field-0-is c.in-Ok-None.ensures.alone) refl refl

pub returns-in-Ok-None-clause-claimed : goal.returns-in-Ok-None-clause-claimed
returns-in-Ok-None-clause-claimed c = record {
  claimed = [];
  appended = sym (append-nil c.args.tasks.now.items);
  claims = λ taken. refl;
  at_most = omega arith;
  count = omega arith;
  open_claims = omega arith;
  in_all = c.requires.claims;
  all_or = inl (nothing_left c.args.plan.now.graph (waiting_in c.args.fields.now.queue.events) (busy_in c.args.fields.now.open_claims.items) c.args.reading false [] (subst (λ o. AreFront c.args.plan.now.graph (waiting_in c.args.fields.now.queue.events) (busy_in c.args.fields.now.open_claims.items) c.args.reading false (one_of o)) c.in-Ok-None.field-0-is c.in-Ok-None.ensures.alone) refl refl);
}
