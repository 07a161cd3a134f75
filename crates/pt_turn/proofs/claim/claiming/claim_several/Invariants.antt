use Rattle.std.proofs.Common.{◌≡◌, ◌+◌, ◌≤◌, drop, vec_len, vec_capacity}
use Rattle.pt_queue.specs.Events.{waiting_in}
use Rattle.pt_turn.specs.Fields.State.{IsSound, busy_in}
use Rattle.pt_turn.specs.Claims.Claimed.{OthersStay}
use Rattle.pt_turn.specs.Claims.Fronts.{AreFront}
use Rattle.pt_turn.proofs.Claims.Making.{SoFar}
use Rattle.pt_turn.proofs.claim.claiming.claim_several.Given as goal

abbrev pub invariant-loop : goal.invariant-loop
invariant-loop l = record {
  sound : IsSound l.plan.graph l.fields;
  opens : l.fields.open_claims.spare + l.counter ≡ l.fn.fields.open_claims.spare;
  tasks : vec_len l.tasks ≤ vec_len l.fn.tasks + l.counter;
  tasks_room : vec_capacity l.fn.tasks ≤ vec_capacity l.tasks;
  bound : l.fields.claims ≤ l.plan.graph.claims;
  others : OthersStay l.fn.fields l.fields;
  count : l.fields.claims ≡ l.fn.fields.claims + l.counter;
  so_far : SoFar l.plan.graph l.fn.fields l.fields l.reading l.counter l.fn.tasks.items l.tasks.items;
  front : AreFront l.plan.graph (waiting_in l.fields.queue.events) (busy_in l.fields.open_claims.items) l.reading l.front.more (drop l.front.taken l.front.units.items);
}
