use Rattle.std.proofs.Common.{◌≡◌, ◌<◌, ℕ, Some, slice_get}
use Rattle.pt_types.specs.declared.firing.OnLink.{OnLink}
use Rattle.pt_tables.specs.Held.{IsHeldMessage}
use Rattle.pt_tables.proofs.held.messages_hold.Given as goal

abbrev pub invariant-loop-message : goal.invariant-loop-message
invariant-loop-message l = (k : ℕ) (x : OnLink) → k < l.message-index → slice_get l.messages k ≡ Some x → IsHeldMessage x
