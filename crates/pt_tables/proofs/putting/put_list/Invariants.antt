use Rattle.std.proofs.Common.{◌≡◌, Some, slice_get, take}
use Rattle.pt_io.specs.Calls.{writing}
use Rattle.pt_semantics.specs.Turn.{Turn}
use Rattle.pt_tables.specs.Putting.{IsPut}
use Rattle.pt_tables.specs.TurnLists.{all_lines, entry_lines}
use Rattle.pt_tables.proofs.putting.put_list.Given as goal

abbrev pub invariant-loop-index : goal.invariant-loop-index
invariant-loop-index g l = (turn : Turn) → slice_get l.history.turns l.lists.number ≡ Some turn → IsPut (writing g.K.Sink l.fn.out l.out) (all_lines (take l.index (entry_lines l.graph turn l.list)))
