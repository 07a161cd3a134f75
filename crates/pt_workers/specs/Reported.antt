-- What platforms report after a run.
use Rattle.std.specs.Prelude.{◌≡◌, ◌<◌, ℕ, List, Option, None, Some, slice_get}
use Rattle.pt_turn.specs.declared.fault.TurnFault.{TurnFault}
use Rattle.pt_turn.specs.Platforms.{PlatformView, state_at}
use Rattle.pt_turn.specs.Running.{Shows}

-- a place below n, or none
abbrev pub IsPlaceBelow : ℕ → Option ℕ → Type 0
IsPlaceBelow n None = Unit {0}
IsPlaceBelow n (Some i) = i < n

-- the fault of a platform, with the platform's number; its turns show it
abbrev pub IsReportedFault : PlatformView → Option (ℕ × TurnFault) → Type 0
IsReportedFault v None = v.fault ≡ None
IsReportedFault v (Some f) = (f.0 ≡ v.number) × (v.fault ≡ Some f.1) × Shows v.plan.graph v.turns (state_at v) f.1

-- the fault of the platform in this place; none if there is no place
abbrev pub IsReported : List PlatformView → Option ℕ → Option (ℕ × TurnFault) → Type 0
IsReported platforms None fault = fault ≡ None
IsReported platforms (Some i) fault = (v : PlatformView) × (slice_get platforms i ≡ Some v) × IsReportedFault v fault
