use Rattle.std.proofs.Common.{◌≡◌, ◌++◌, drop, string_bytes}
use Rattle.pt_offsets.specs.Timings.{actor_offset_of, margin_in}
use Rattle.pt_tables.specs.Margins.{lines_from, margins_text}
use Rattle.pt_tables.proofs.margin_lines.margins.Given as goal

abbrev pub invariant-loop-number : goal.invariant-loop-number
invariant-loop-number l = string_bytes l.text ++ lines_from (actor_offset_of l.offsets) (margin_in l.offsets) l.number (drop l.number l.graph.actors) ≡ margins_text l.graph (actor_offset_of l.offsets) (margin_in l.offsets)
