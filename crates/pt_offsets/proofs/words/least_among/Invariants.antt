use Rattle.std.proofs.Common.{◌<◌, ℕ, IfSome, get_or, None}
use Rattle.pt_offsets.specs.Words.{IsAtMostOffset}
use Rattle.pt_offsets.proofs.words.least_among.Given as goal

abbrev pub invariant-loop-offset : goal.invariant-loop-offset
invariant-loop-offset l = record {
  so_far : IfSome l.least (λ o. IsAtMostOffset o l.fn.so_far);
  offsets : IfSome l.least (λ o. (k : ℕ) → k < l.offset-index → IsAtMostOffset o (get_or l.offsets k None));
}
