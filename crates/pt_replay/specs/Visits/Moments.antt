-- The next true time at which something can happen.
use Rattle.std.specs.Prelude.{◌≡◌, ◌≤◌, ◌⊎◌, ℕ, List, None, Option, Some, false, slice_get, slice_index_or}
use Rattle.pt_types.specs.declared.graph.Graph.{Graph}
use Rattle.pt_types.specs.declared.graph.Link.{Link}
use Rattle.pt_types.specs.Lookups.{platform_of}
use Rattle.pt_semantics.specs.Lists.{Each, IsIn}
use Rattle.pt_semantics.specs.Paced.{IsCandidate}
use Rattle.pt_types.specs.declared.air.Air.{Air}
use Rattle.pt_types.specs.declared.air.InAir.{InAir}
use Rattle.pt_semantics.specs.Arrivals.{AirwayView}
use Rattle.pt_turn.specs.Platforms.{PlatformView, state_at}
use Rattle.pt_semantics.specs.TrueTime.{true_time}

-- a true time at which something can happen on a platform: it is not closed, and its clock comes to a reading at which a row is
-- seen, a unit is claimed or the platform closes
abbrev pub IsReading : Air → PlatformView → ℕ → Type 0
IsReading air v time = (reading : ℕ) × (v.closed ≡ false) × IsCandidate v.plan.graph v.number (state_at v) reading × (time ≡ true_time air v.number reading)

-- a true time at which a message arrives
abbrev pub IsArrival : AirwayView → ℕ → Type 0
IsArrival a time = (m : InAir) × IsIn m a.on_way × (time ≡ m.arrives)

-- P holds for a member of the list at this time
abbrev pub OfOne : {X : Type 0} → (X → ℕ → Type 0) → List X → ℕ → Type 0
OfOne {X} P xs time = (i : ℕ) × (x : X) × (slice_get xs i ≡ Some x) × P x time

-- a true time at which something can happen on one of these platforms, or a message arrives
abbrev pub IsMoment : Air → List PlatformView → List AirwayView → ℕ → Type 0
IsMoment air platforms airways time = OfOne (IsReading air) platforms time ⊎ OfOne IsArrival airways time

-- the least number for which P holds, or None if there is no such number
abbrev pub IsLeastNumber : (ℕ → Type 0) → Option ℕ → Type 0
IsLeastNumber P None = (n : ℕ) → P n → ⊥
IsLeastNumber P (Some n) = P n × ((other : ℕ) → P other → n ≤ other)

-- no message arrives at a platform before the time that the list has for this platform, or 0 if it has none
abbrev pub ArriveFrom : Graph → List ℕ → List AirwayView → Type 0
ArriveFrom g times airways = (l : ℕ) (link : Link) (a : AirwayView) → slice_get g.links l ≡ Some link → slice_get airways l ≡ Some a →
    Each (λ (m : InAir). slice_index_or times (platform_of g link.to) 0 ≤ m.arrives) a.on_way
