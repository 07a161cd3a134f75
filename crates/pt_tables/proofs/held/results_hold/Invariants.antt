use Rattle.std.proofs.Common.{◌≡◌, ◌<◌, ◌^◌, ℕ, Some, slice_get}
use Rattle.std.specs.Prelude.{option_map}
use Rattle.pt_history.specs.Tasks.{mark_of}
use Rattle.pt_history.specs.Turns.{all_dated, Dated}
use Rattle.pt_history.specs.declared.claims.Mark.{Mark}
use Rattle.pt_tables.proofs.held.results_hold.Given as goal

abbrev pub invariant-loop-number : goal.invariant-loop-number
invariant-loop-number l = (k : ℕ) (mark : Mark) → k < l.number → option_map (λ (dated : Dated). mark_of dated.done.task) (slice_get (all_dated l.history.turns) k) ≡ Some mark → mark.number < 2 ^ 64
