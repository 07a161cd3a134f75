use Rattle.std.proofs.Common.{◌≡◌, take}
use Rattle.std.specs.List.{flat_map}
use Rattle.pt_confluence.specs.Gathered.{AreLegal, claimed_tasks}
use Rattle.pt_confluence.proofs.gathering.all_tasks.Given as goal

abbrev pub invariant-loop-platform : goal.invariant-loop-platform
invariant-loop-platform l = record {
  tasks : l.tasks.items ≡ flat_map claimed_tasks (take l.platform-index l.platforms);
  legal : AreLegal (take l.platform-index l.platforms);
}
