-- Platforms after a run in fixed order.
use Rattle.std.specs.Prelude.{◌≡◌, ◌∷◌, [], ℕ, List, Option, None, Some, false, true}
use Rattle.pt_io.specs.Clocks.{ClockView}
use Rattle.pt_types.specs.declared.rows.Row.{Row}
use Rattle.pt_semantics.specs.FixedOrder.{AreInTurn}
use Rattle.pt_semantics.specs.Visits.{VisitRecord}
use Rattle.pt_causality.specs.Ranked.{level_of}
use Rattle.pt_offsets.specs.Plans.{Parts}
use Rattle.pt_turn.specs.declared.fault.TurnFault.{TurnFault}
use Rattle.pt_turn.specs.Platforms.{PlatformView}
use Rattle.pt_turn.specs.Turned.{is_late}
use Rattle.pt_turn.specs.All.{histories_of}
use Rattle.pt_engine.specs.Outcome.{IsOutcome as IsOutcomeByClocks}

-- after the last of these visits there is no fault; or the visited platform has this one, and if it is that of a late message,
-- the visit took the message
abbrev pub LastVisitEnds : List VisitRecord → Option (ℕ × TurnFault) → Type 0
LastVisitEnds [] fault = ⊥
LastVisitEnds (m ∷ []) None = m.fault ≡ false
LastVisitEnds (m ∷ []) (Some f) = (m.platform ≡ f.0) × (m.fault ≡ true) × (m.late ≡ is_late (Some f.1))
LastVisitEnds (m ∷ n ∷ ms) fault = LastVisitEnds (n ∷ ms) fault

-- the platforms after a run by clocks in fixed order: each platform is visited in its turn, at the next reading of its clock, and claims at
-- most `most` units a visit. The platform with the fault is the one visited last
pub record IsOutcome (plan : Parts) (rows : ℕ → List Row) (most : ℕ) (began now : List ClockView) (platforms : List PlatformView) (fault : Option (ℕ × TurnFault)) : Type 0 where
  pub by_clocks : IsOutcomeByClocks plan rows began now platforms fault
  pub in_turn : AreInTurn plan.graph (level_of plan.ranks) rows by_clocks.readings most (histories_of platforms)
  pub last : LastVisitEnds in_turn.made fault
