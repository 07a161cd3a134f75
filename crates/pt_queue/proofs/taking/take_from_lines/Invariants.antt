use Rattle.std.proofs.Common.{◌≡◌, ℕ, ◌+◌, ◌*◌, ◌<◌, ◌≤◌, ◌==◌, ◌++◌, None, nat_lt, not, map, filter, take}
use Rattle.pt_types.specs.Ports.{eight, when}
use Rattle.pt_types.specs.declared.firing.Event.{Event}
use Rattle.pt_queue.specs.Groups.{group_in}
use Rattle.pt_queue.specs.Events.{waiting_in}
use Rattle.pt_queue.specs.Lines.{AreInLines, all_of, line_at}
use Rattle.pt_queue.specs.Scans.{is_at, least_from}
use Rattle.pt_queue.proofs.taking.take_from_lines.Given as goal

abbrev pub invariant-loop-port : goal.invariant-loop-port
invariant-loop-port l = record {
  in_lines : AreInLines l.table l.lines;
  same : map (filter (λ (e : Event). not (is_at l.table l.unit l.tag e))) l.lines ≡ map (filter (λ (e : Event). not (is_at l.table l.unit l.tag e))) l.fn.lines;
  done : (k : ℕ) → k < l.port → filter (λ (e : Event). not (is_at l.table l.unit l.tag e)) (line_at l.lines (8 * l.unit.actor + k)) ≡ line_at l.lines (8 * l.unit.actor + k);
  later : (k : ℕ) → l.port ≤ k → line_at l.lines (8 * l.unit.actor + k) ≡ line_at l.fn.lines (8 * l.unit.actor + k);
  inputs : l.inputs ≡ eight (λ p. when (nat_lt p l.port) (when (group_in l.table l.unit.actor p == l.unit.group) (waiting_in (all_of l.fn.lines ++ l.loose.items) l.unit.actor p l.tag)));
  least : l.least ≡ least_from l.table l.unit None (all_of (take (8 * l.unit.actor + l.port) l.lines));
}
