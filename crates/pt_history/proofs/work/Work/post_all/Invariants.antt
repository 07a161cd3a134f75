use Rattle.std.proofs.Common.{◌≡◌, ◌+◌, ◌++◌, drop}
use Rattle.pt_history.proofs.work.Work.post_all.Given as goal

abbrev pub invariant-loop-done : goal.invariant-loop-done
invariant-loop-done l = record {
  tasks : l.self.tasks ≡ l.fn.self.tasks;
  dones : l.self.dones ++ drop l.done-index l.dones ≡ l.fn.self.dones ++ l.dones;
  claims : l.self.spare_tasks ≡ l.fn.self.spare_tasks;
  results : l.self.spare_dones + l.done-index ≡ l.fn.self.spare_dones;
}
