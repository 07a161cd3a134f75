use Rattle.std.proofs.Common.{◌≡◌, map, take, Bor}
use Rattle.pt_types.specs.declared.firing.Task.{Task}
use Rattle.pt_confluence.proofs.gathering.references.Given as goal

abbrev pub invariant-loop-task : goal.invariant-loop-task
invariant-loop-task l = map (λ (task : Bor Task). task.now) l.references.items ≡ take l.task-index l.tasks
