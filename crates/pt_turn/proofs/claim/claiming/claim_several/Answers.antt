use Rattle.std.proofs.Common.{◌≡◌, ◌+◌, ◌++◌, ◌∷◌, [], drop, ap, sym, subst, ◌∙◌, arith, append_assoc, length-append, rules}
use Rattle.pt_types.specs.declared.graph.Graph.{Graph}
use Rattle.pt_semantics.specs.Claiming.{Claims, after_claim}
use Rattle.pt_semantics.specs.Platform.{State}
use Rattle.pt_queue.specs.Events.{waiting_in}
use Rattle.pt_turn.specs.Fields.State.{busy_in, state_of}
use Rattle.pt_turn.specs.Claims.Fronts.{AreFront}
use Rattle.pt_turn.proofs.Claims.Fronts.{front_claimed, front_first}
use Rattle.pt_turn.proofs.Claims.Making.{SoFar, claims_push, is_next, others_on}
use Rattle.pt_turn.proofs.claim.claiming.claim_several.Goals as goal

pub loop-preserved : goal.loop-preserved
loop-preserved c =
    let items : c.push_reserved.new.self.items ≡ c.loop.tasks.items ++ c.claim-task.result ∷ [] = search rules in
    let s : SoFar c.args.plan.now.graph c.args.fields.now c.loop.fields c.args.reading c.loop.counter c.args.tasks.now.items c.loop.tasks.items = c.loop.invariant.so_far in
    let front : AreFront c.args.plan.now.graph (waiting_in c.loop.fields.queue.events) (busy_in c.loop.fields.open_claims.items) c.args.reading c.take.new.self.more (c.in-Some.next ∷ drop c.take.new.self.taken c.take.new.self.units.items) = c.in-Some.ensures in
    record {
      sound = c.claim-task.ensures.sound;
      opens = omega (arith, c.claim-task.ensures.open_claims, c.loop.invariant.opens);
      tasks = omega (arith, c.push_reserved.ensures.len, c.loop.invariant.tasks);
      tasks_room = omega (arith, c.push_reserved.ensures.capacity, c.loop.invariant.tasks_room);
      bound = omega (arith, c.claim-task.ensures.claims, c.if-fields-graph.false, ap (λ (g : Graph). g.claims) c.graph.ensures.value);
      others = others_on c.args.fields.now c.loop.fields c.claim-task.new.fields c.loop.invariant.others c.claim-task.ensures.others;
      count = omega (arith, c.claim-task.ensures.claims, c.loop.invariant.count);
      so_far = record {
        claimed = s.claimed ++ c.claim-task.result ∷ [];
        appended = items ∙ ap (λ xs. xs ++ c.claim-task.result ∷ []) s.appended ∙ append_assoc c.args.tasks.now.items s.claimed (c.claim-task.result ∷ []);
        claims = λ taken.
            subst (Claims c.args.plan.now.graph c.args.reading (state_of c.args.fields.now taken) (s.claimed ++ c.claim-task.result ∷ []))
            (ap (λ u. after_claim c.args.plan.now.graph (state_of c.loop.fields taken) u c.claim-task.result) c.claim-task.ensures.task.unit ∙ sym (c.claim-task.ensures.after taken))
            (claims_push c.args.plan.now.graph c.args.reading (state_of c.args.fields.now taken) (state_of c.loop.fields taken) s.claimed c.claim-task.result (s.claims taken)
            (is_next c.args.plan.now.graph c.loop.fields taken c.args.reading c.in-Some.next.unit c.in-Some.next.tag c.claim-task.result front.safe.0.safe
            (front_first c.args.plan.now.graph (waiting_in c.loop.fields.queue.events) (busy_in c.loop.fields.open_claims.items) c.args.reading c.take.new.self.more c.in-Some.next (drop c.take.new.self.taken c.take.new.self.units.items) front)
            c.claim-task.ensures.task));
        len = length-append s.claimed (c.claim-task.result ∷ []) ∙ ap (λ n. n + 1) s.len;
      };
      front = subst (λ (new : State). AreFront c.args.plan.now.graph new.waits new.busy c.args.reading c.take.new.self.more (drop c.take.new.self.taken c.take.new.self.units.items)) (sym (c.claim-task.ensures.after []))
          (front_claimed c.args.plan.now.graph (state_of c.loop.fields []) c.args.reading c.take.new.self.more c.in-Some.next (drop c.take.new.self.taken c.take.new.self.units.items) c.claim-task.result c.claim-task.ensures.task.tag front);
    }
