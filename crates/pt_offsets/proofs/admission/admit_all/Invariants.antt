use Rattle.std.proofs.Common.{◌<◌, ℕ}
use Rattle.pt_offsets.specs.Margins.{SendsInTime}
use Rattle.pt_offsets.proofs.admission.admit_all.Given as goal

abbrev pub invariant-loop-number : goal.invariant-loop-number
invariant-loop-number l = (a : ℕ) → a < l.number → SendsInTime l.graph a
