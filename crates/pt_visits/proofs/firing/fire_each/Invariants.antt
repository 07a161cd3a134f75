use Rattle.std.proofs.Common.{◌≡◌, map, take}
use Rattle.pt_types.specs.declared.firing.Done.{Done as Finished}
use Rattle.pt_turn.specs.Posts.Posted.{AreDone}
use Rattle.pt_visits.proofs.firing.fire_each.Given as goal

abbrev pub invariant-loop-task : goal.invariant-loop-task
invariant-loop-task g l = record {
  tasks : map (λ (d : Finished). d.task) l.results.items ≡ take l.task-index l.tasks;
  done : AreDone l.graph l.results.items;
}
