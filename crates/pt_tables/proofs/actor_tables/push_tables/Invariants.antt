use Rattle.std.proofs.Common.{◌≡◌, ◌++◌, drop, string_bytes}
use Rattle.std.specs.List.{concat}
use Rattle.pt_tables.proofs.actor_tables.push_tables.Given as goal

abbrev pub invariant-loop-table : goal.invariant-loop-table
invariant-loop-table l = string_bytes l.text ++ concat (drop l.table-index l.tables) ≡ string_bytes l.fn.text ++ concat l.tables
