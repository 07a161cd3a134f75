use Rattle.std.proofs.Common.{◌≡◌, ◌+◌, ◌/◌, length}
use Rattle.pt_offsets.specs.Words.{AreAtMostWords}
use Rattle.pt_offsets.proofs.words.least_by_word.Given as goal

abbrev pub invariant-loop-number : goal.invariant-loop-number
invariant-loop-number l = record {
  len : length l.words.items ≡ length l.timings / 8 + 1;
  words : AreAtMostWords l.number l.timings l.words.items;
}
