use Rattle.std.proofs.Common.{slice_index_or, None}
use Rattle.pt_offsets.specs.Greatest.{HasGreatest}
use Rattle.pt_offsets.proofs.greatest.greatest.Given as goal

abbrev pub invariant-loop-number : goal.invariant-loop-number
invariant-loop-number l = HasGreatest l.number-index (λ k. slice_index_or l.numbers k None) l.found
