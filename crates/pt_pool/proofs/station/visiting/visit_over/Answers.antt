use Rattle.std.proofs.Common.{◌≡◌, ◌≤◌, ◌++◌, List, [], Ok, Err, Some, length, inl, inr, refl, sym, ap, subst, ◌∙◌, append-nil, arith}
use Rattle.pt_types.specs.declared.firing.Done.{Done}
use Rattle.pt_types.specs.declared.firing.Task.{Task}
use Rattle.pt_types.specs.declared.graph.Graph.{Graph}
use Rattle.pt_types.specs.Limits.{greatest_claims}
use Rattle.pt_turn.specs.Posts.Posted.{AreDone}
use Rattle.pt_turn.specs.Platforms.{PlatformView}
use Rattle.pt_pool.specs.declared.linked.VisitFault.TheVariants.{Turn}
use Rattle.pt_pool.specs.Answers.{LinkedRefused}
use Rattle.pt_pool.specs.LinkedPlatform.{plan_graph}
use Rattle.pt_pool.specs.Stations.Stations.{HavePlaced}
use Rattle.pt_pool.proofs.Stations.Collects.{done_both, have_done, have_same}
use Rattle.pt_pool.proofs.Stations.Stations.{answer_counts, few_placed, station_visited}
use Rattle.pt_pool.proofs.station.visiting.visit_over.Goals as goal

pub returns-in_default : goal.returns-in_default
returns-in_default g c = record {
  answer = record {
    collected = [];
    got = inr (refl, refl);
    done = tt;
    waiting = c.make_room.ensures.results.0 ∙ sym (append-nil c.args.results.now.items);
    refused = c.give_up.ensures;
    tasks = c.make_room.ensures.tasks;
  };
}

pub visit-requires-clause-done : goal.visit-requires-clause-done
visit-requires-clause-done g c =
    let h = plan_graph g.J.Run.plan in
    let kept = c.args.results.now.items in
    let got = c.collect_all.ensures in
    let is : c.as_slice.result.now ≡ kept ++ got.0 = c.as_slice.ensures.value ∙ got.2 ∙ ap (λ (z : List Done). z ++ got.0) c.make_room.ensures.results.0 in
    let same : h ≡ c.args.linked.now.platform.plan.graph = ap plan_graph (c.platform.ensures.plan ∙ ap (λ (p : _). Some p.plan) c.platform.ensures.platform) in
    subst (λ (z : Graph). AreDone z c.as_slice.result.now) same
    (subst (λ (ds : List Done). AreDone h ds) (sym is) (done_both h kept got.0 c.requires.done (have_done h c.args.keeper.now c.collect_all.new.keeper got.0 got.1 c.requires.graph)))

pub place_all-requires-clause-table : goal.place_all-requires-clause-table
place_all-requires-clause-table g c = (have_same c.args.keeper.now c.collect_all.new.keeper c.collect_all.ensures.0 c.collect_all.ensures.1).table ∙ c.requires.table

pub place_all-requires-clause-numbers : goal.place_all-requires-clause-numbers
place_all-requires-clause-numbers g c =
    let counts = answer_counts (Ok tt) c.args.most c.as_slice.result.now c.args.linked.now c.visit.new.self c.clear.new.self.tasks c.visit.new.tasks.tasks (λ e. cc) c.clear.ensures.tasks c.in-Ok-visit.ensures.answer in
    let limit : c.args.linked.now.platform.plan.graph.claims ≤ greatest_claims = subst (λ (v : PlatformView). v.plan.graph.claims ≤ greatest_claims) c.platform.ensures.platform c.show_admitted.ensures.lawful.few_claims in
    let few = few_placed c.args.most c.args.keeper.now c.collect_all.new.keeper c.args.linked.now c.visit.new.self c.collect_all.ensures.0 c.visit.new.tasks.tasks limit c.requires.few c.collect_all.ensures.1 counts in
    let same : length c.as_slice-in-Ok-visit.result.now ≡ length c.visit.new.tasks.tasks = ap length c.as_slice-in-Ok-visit.ensures in
    omega (arith, few, same)

pub place_all-requires-in-Err-Turn-clause-table : goal.place_all-requires-in-Err-Turn-clause-table
place_all-requires-in-Err-Turn-clause-table g c = (have_same c.args.keeper.now c.collect_all.new.keeper c.collect_all.ensures.0 c.collect_all.ensures.1).table ∙ c.requires.table

pub place_all-requires-in-Err-Turn-clause-numbers : goal.place_all-requires-in-Err-Turn-clause-numbers
place_all-requires-in-Err-Turn-clause-numbers g c =
    let counts = answer_counts (Err (Turn c.in-Err-Turn.fault)) c.args.most c.as_slice.result.now c.args.linked.now c.visit.new.self c.clear.new.self.tasks c.visit.new.tasks.tasks (λ e. cc) c.clear.ensures.tasks (rw c.in-Err-Turn.field-0-is at c.in-Err-Turn.ensures.answer) in
    let limit : c.args.linked.now.platform.plan.graph.claims ≤ greatest_claims = subst (λ (v : PlatformView). v.plan.graph.claims ≤ greatest_claims) c.platform.ensures.platform c.show_admitted.ensures.lawful.few_claims in
    let few = few_placed c.args.most c.args.keeper.now c.collect_all.new.keeper c.args.linked.now c.visit.new.self c.collect_all.ensures.0 c.visit.new.tasks.tasks limit c.requires.few c.collect_all.ensures.1 counts in
    let same : length c.as_slice-in-Err-Turn.result.now ≡ length c.visit.new.tasks.tasks = ap length c.as_slice-in-Err-Turn.ensures in
    omega (arith, few, same)

pub returns-in-Ok-visit : goal.returns-in-Ok-visit
returns-in-Ok-visit g c =
    let h = plan_graph g.J.Run.plan in
    let kept = c.args.results.now.items in
    let got = c.collect_all.ensures in
    let is : c.as_slice.result.now ≡ kept ++ got.0 = c.as_slice.ensures.value ∙ got.2 ∙ ap (λ (z : List Done). z ++ got.0) c.make_room.ensures.results.0 in
    record {
      answer = station_visited (Ok tt) c.args.most h c.args.linked.now c.visit.new.self c.args.keeper.now c.collect_all.new.keeper c.place_all.new.keeper kept c.clear-in-Ok-visit.new.self.items got.0 c.as_slice.result.now
          c.args.tasks.now.tasks c.place_all.new.left.tasks c.clear.new.self.tasks c.visit.new.tasks.tasks c.as_slice-in-Ok-visit.result.now
          got.1 (have_done h c.args.keeper.now c.collect_all.new.keeper got.0 got.1 c.requires.graph) is c.clear.ensures.tasks c.in-Ok-visit.ensures.answer c.as_slice-in-Ok-visit.ensures
          (subst (λ (z : List Task). HavePlaced c.as_slice-in-Ok-visit.result.now c.collect_all.new.keeper c.place_all.new.keeper z c.place_all.new.left.tasks) c.make_room.ensures.tasks c.place_all.ensures)
          c.clear-in-Ok-visit.ensures.items;
    }

pub returns-in-Err-Turn : goal.returns-in-Err-Turn
returns-in-Err-Turn g c =
    let h = plan_graph g.J.Run.plan in
    let kept = c.args.results.now.items in
    let got = c.collect_all.ensures in
    let is : c.as_slice.result.now ≡ kept ++ got.0 = c.as_slice.ensures.value ∙ got.2 ∙ ap (λ (z : List Done). z ++ got.0) c.make_room.ensures.results.0 in
    record {
      answer = station_visited (Err (Turn c.in-Err-Turn.fault)) c.args.most h c.args.linked.now c.visit.new.self c.args.keeper.now c.collect_all.new.keeper c.place_all-in-Err-Turn.new.keeper kept c.clear-in-Err-Turn.new.self.items got.0 c.as_slice.result.now
          c.args.tasks.now.tasks c.place_all-in-Err-Turn.new.left.tasks c.clear.new.self.tasks c.visit.new.tasks.tasks c.as_slice-in-Err-Turn.result.now
          got.1 (have_done h c.args.keeper.now c.collect_all.new.keeper got.0 got.1 c.requires.graph) is c.clear.ensures.tasks (rw c.in-Err-Turn.field-0-is at c.in-Err-Turn.ensures.answer) c.as_slice-in-Err-Turn.ensures
          (subst (λ (z : List Task). HavePlaced c.as_slice-in-Err-Turn.result.now c.collect_all.new.keeper c.place_all-in-Err-Turn.new.keeper z c.place_all-in-Err-Turn.new.left.tasks) c.make_room.ensures.tasks c.place_all-in-Err-Turn.ensures)
          c.clear-in-Err-Turn.ensures.items;
    }

pub returns-in-Err-Memory : goal.returns-in-Err-Memory
returns-in-Err-Memory g c =
    let h = plan_graph g.J.Run.plan in
    let got = c.collect_all.ensures in
    let r : LinkedRefused c.args.linked.now c.visit.new.self c.clear.new.self.tasks c.visit.new.tasks.tasks = rw c.in-Err-Memory.field-0-is at c.in-Err-Memory.ensures.answer in
    record {
      answer = record {
        collected = got.0;
        got = inl got.1;
        done = have_done h c.args.keeper.now c.collect_all.new.keeper got.0 got.1 c.requires.graph;
        waiting = got.2 ∙ ap (λ (z : List Done). z ++ got.0) c.make_room.ensures.results.0;
        refused = record { reading = r.reading; readings = r.readings; marked = r.marked; platform = r.platform; ends = r.ends; tasks = refl };
        tasks = c.make_room.ensures.tasks;
      };
    }
