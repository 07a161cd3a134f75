use Rattle.std.proofs.Common.{◌≡◌, ◌<◌, ℕ, Some, slice_get}
use Rattle.pt_types.specs.declared.firing.OnLink.{OnLink}
use Rattle.pt_audit.specs.Parsing.Hints.{IsLoggableOn}
use Rattle.pt_audit.proofs.matching.are_on_links.Given as goal

abbrev pub invariant-loop-message : goal.invariant-loop-message
invariant-loop-message l = (k : ℕ) (x : OnLink) → k < l.message-index → slice_get l.messages k ≡ Some x → IsLoggableOn l.graph x
