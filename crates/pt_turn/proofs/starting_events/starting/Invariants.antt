use Rattle.std.proofs.Common.{◌≡◌, ◌+◌, ◌≤◌, length}
use Rattle.pt_queue.specs.Groups.{AreGroups}
use Rattle.pt_queue.specs.Events.{waiting_in}
use Rattle.pt_turn.proofs.Beginning.{starts_below}
use Rattle.pt_turn.proofs.starting_events.starting.Given as goal

abbrev pub invariant-loop-number : goal.invariant-loop-number
invariant-loop-number l = record {
  groups : AreGroups l.graph l.queue.groups;
  spare : length l.graph.actors ≤ l.queue.spare + l.number;
  waits : waiting_in l.queue.events ≡ starts_below l.graph l.platform l.number;
}
