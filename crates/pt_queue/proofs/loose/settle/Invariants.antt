use Rattle.std.proofs.Common.{◌≡◌, ◌≤◌, ◌<◌, List, length}
use Rattle.std.specs.VecDeque.{deque_len, deque_capacity}
use Rattle.pt_types.specs.declared.firing.Event.{Event}
use Rattle.pt_semantics.specs.Lists.{Each}
use Rattle.pt_queue.specs.declared.groups.Groups.{Groups}
use Rattle.pt_queue.specs.Lines.{AreKept, line_of_event, with_events}
use Rattle.pt_queue.proofs.loose.settle.Given as goal

abbrev pub invariant-loop : goal.invariant-loop
invariant-loop l = record {
  settled : with_events l.lines l.loose.items ≡ with_events l.fn.lines l.fn.loose.items;
  kept : (table : List Groups) → AreKept table l.fn.lines l.fn.loose.items → AreKept table l.lines l.loose.items;
  there : Each (λ (e : Event). line_of_event e < length l.lines) l.loose.items;
  len : deque_len l.loose ≤ deque_len l.fn.loose;
  capacity : deque_capacity l.loose ≡ deque_capacity l.fn.loose;
}
