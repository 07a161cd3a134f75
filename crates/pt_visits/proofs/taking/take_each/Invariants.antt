use Rattle.std.proofs.Common.{◌≡◌, ◌++◌, length, take, drop}
use Rattle.pt_visits.specs.Pipes.{arriving, emptied}
use Rattle.pt_visits.proofs.taking.take_each.Given as goal

abbrev pub invariant-loop-l : goal.invariant-loop-l
invariant-loop-l l = record {
  count : length l.pipes ≡ length l.initial.pipes;
  taken : l.initial.taken.items ++ arriving l.graph l.number 0 l.initial.pipes ≡ l.taken.items ++ arriving l.graph l.number l.l (drop l.l l.pipes);
  left : emptied l.graph l.number 0 l.initial.pipes ≡ take l.l l.pipes ++ emptied l.graph l.number l.l (drop l.l l.pipes);
}
