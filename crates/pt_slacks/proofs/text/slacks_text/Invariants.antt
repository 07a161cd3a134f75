use Rattle.std.proofs.Common.{◌≡◌, ◌++◌, drop, string_bytes}
use Rattle.pt_slacks.specs.Text.{slack_lines, slacks_text}
use Rattle.pt_slacks.proofs.text.slacks_text.Given as goal

abbrev pub invariant-loop-entry : goal.invariant-loop-entry
invariant-loop-entry l = string_bytes l.text ++ slack_lines l.graph (drop l.entry-index l.slacks) ≡ slacks_text l.graph l.slacks
