use Rattle.std.proofs.Common.{◌≡◌, ◌+◌, ◌-◌, ◌≤◌}
use Rattle.pt_history.proofs.Repeating.{IsRepeated}
use Rattle.pt_history.proofs.indices.Indices.repeat.Given as goal

abbrev pub invariant-loop-left : goal.invariant-loop-left
invariant-loop-left l = record {
  repeated : IsRepeated l.fn.self.indices l.self.indices (l.more - l.left);
  spare : l.self.spare + (l.more - l.left) ≡ l.fn.self.spare;
  few : l.left ≤ l.more;
}

abbrev pub decreases-loop-left : goal.decreases-loop-left
decreases-loop-left l = l.left
