use Rattle.std.proofs.Common.{◌≡◌, ◌++◌, drop, string_bytes}
use Rattle.std.specs.List.{flat_map}
use Rattle.pt_tables.specs.Misses.{miss_line}
use Rattle.pt_tables.proofs.miss.miss_lines.Given as goal

abbrev pub invariant-loop-miss : goal.invariant-loop-miss
invariant-loop-miss l = string_bytes l.text ++ flat_map (miss_line l.graph) (drop l.miss-index l.misses) ≡ string_bytes l.fn.text ++ flat_map (miss_line l.graph) l.misses
