use Rattle.std.proofs.Common.{◌≡◌, map, drop, Bor}
use Rattle.pt_types.specs.declared.firing.Task.{Task}
use Rattle.pt_confluence.specs.Joined.{neighbours_joined, whole_firing}
use Rattle.pt_confluence.specs.Making.{made}
use Rattle.pt_confluence.proofs.joining.join.Given as goal

abbrev pub invariant-loop-task : goal.invariant-loop-task
invariant-loop-task l = made l.graph l.joining (map (λ (task : Bor Task). task.now) (drop l.task-index l.tasks)) ≡ map (whole_firing l.graph) (neighbours_joined (map (λ (task : Bor Task). task.now) l.tasks))
