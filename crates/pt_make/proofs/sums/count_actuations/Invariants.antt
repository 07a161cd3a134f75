use Rattle.std.proofs.Common.{◌≡◌, ◌≤◌, length, take}
use Rattle.pt_make.specs.Summary.{actuations, last_firing}
use Rattle.pt_make.proofs.sums.count_actuations.Given as goal

abbrev pub invariant-loop-number : goal.invariant-loop-number
invariant-loop-number l = record {
  few : l.count ≤ l.number;
  count : l.count ≡ length (actuations (take l.number l.firings));
  last : l.last ≡ last_firing (actuations (take l.number l.firings));
}
