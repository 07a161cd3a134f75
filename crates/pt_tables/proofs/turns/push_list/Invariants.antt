use Rattle.std.proofs.Common.{◌≡◌, ◌++◌, Some, slice_get, string_bytes, take}
use Rattle.pt_semantics.specs.Turn.{Turn}
use Rattle.pt_tables.specs.TurnLists.{all_lines, entry_lines}
use Rattle.pt_tables.proofs.turns.push_list.Given as goal

abbrev pub invariant-loop-index : goal.invariant-loop-index
invariant-loop-index l = (turn : Turn) → slice_get l.history.turns l.lists.number ≡ Some turn → string_bytes l.text ≡ string_bytes l.fn.text ++ all_lines (take l.index (entry_lines l.graph turn l.list))
