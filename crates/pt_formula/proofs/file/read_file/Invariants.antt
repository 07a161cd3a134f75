use Rattle.std.proofs.Common.{◌≡◌, ◌≤◌, ◌+◌, ◌-◌, drop, length, map}
use Rattle.pt_formula.specs.Lines.{after_defined, read_from, viewed_line}
use Rattle.pt_formula.proofs.file.read_file.Given as goal

-- what is defined so far, and by the rest
abbrev pub invariant-loop-at : goal.invariant-loop-at
invariant-loop-at l = record {
  few : l.line ≤ l.at + 1;
  near : l.at ≤ length l.text + 1;
  goes_on : after_defined (map viewed_line l.defined.items) (read_from l.line 0 (drop l.at l.text)) ≡ read_from 1 0 l.text;
}

abbrev pub decreases-loop-at : goal.decreases-loop-at
decreases-loop-at l = length l.text - l.at
