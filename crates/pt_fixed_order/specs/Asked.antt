-- Whether a platform has a fault.
use Rattle.std.specs.Prelude.{◌≡◌, ℕ, List, None, Some, slice_get}
use Rattle.pt_turn.specs.declared.fault.TurnFault.{TurnFault}
use Rattle.pt_turn.specs.Platforms.{PlatformView, state_at}
use Rattle.pt_turn.specs.Running.{Shows}

-- platform i has no fault
abbrev pub HasNone : List PlatformView → ℕ → Type 0
HasNone platforms i = (v : PlatformView) × (slice_get platforms i ≡ Some v) × (v.fault ≡ None)

-- platform i has this number and this fault, and its turns show the fault
abbrev pub HasOne : List PlatformView → ℕ → ℕ × TurnFault → Type 0
HasOne platforms i f = (v : PlatformView) × (slice_get platforms i ≡ Some v) × (f.0 ≡ v.number) × (v.fault ≡ Some f.1) × Shows v.plan.graph v.turns (state_at v) f.1
