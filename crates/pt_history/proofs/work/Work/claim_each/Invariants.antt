use Rattle.std.proofs.Common.{◌≡◌, ◌+◌, ◌++◌, drop}
use Rattle.pt_history.proofs.work.Work.claim_each.Given as goal

abbrev pub invariant-loop-task : goal.invariant-loop-task
invariant-loop-task l = record {
  tasks : l.self.tasks ++ drop l.task-index l.tasks ≡ l.fn.self.tasks ++ l.tasks;
  dones : l.self.dones ≡ l.fn.self.dones;
  claims : l.self.spare_tasks + l.task-index ≡ l.fn.self.spare_tasks;
  results : l.self.spare_dones ≡ l.fn.self.spare_dones;
}
