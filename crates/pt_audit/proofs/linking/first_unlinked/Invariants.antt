use Rattle.std.proofs.Common.{◌<◌, ℕ}
use Rattle.pt_turn.specs.All.{histories_of}
use Rattle.pt_audit.specs.Verdicts.{IsLinked}
use Rattle.pt_audit.proofs.linking.first_unlinked.Given as goal

abbrev pub invariant-loop-number : goal.invariant-loop-number
invariant-loop-number l = (k : ℕ) → k < l.number → IsLinked l.graph (histories_of l.platforms) k
