use Rattle.std.proofs.Common.{◌≡◌, ◌++◌, drop, slice_index}
use Rattle.pt_slacks.specs.Listed.{listed, listed_from}
use Rattle.pt_slacks.proofs.answer.list.Given as goal

abbrev pub invariant-loop-number : goal.invariant-loop-number
invariant-loop-number l = l.slacks.items ++ listed_from (slice_index l.needs) l.number (drop l.number l.graph.actors) ≡ listed l.graph (slice_index l.needs)
