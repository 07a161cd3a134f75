-- Platforms after a run by clocks, with some number of workers.
use Rattle.std.specs.Prelude.{◌≡◌, ℕ, List, Option}
use Rattle.pt_io.specs.Clocks.{ClockView}
use Rattle.pt_types.specs.declared.rows.Row.{Row}
use Rattle.pt_offsets.specs.Plans.{Parts}
use Rattle.pt_turn.specs.declared.fault.TurnFault.{TurnFault}
use Rattle.pt_turn.specs.Platforms.{PlatformView}
use Rattle.pt_engine.specs.Outcome.{IsOutcome as IsOutcomeByClocks}
use Rattle.pt_run.specs.Readings.{AreVisitedInTurn}

-- the platforms after a run by clocks, one for each platform: if there is one worker, they were visited in turn
pub record IsOutcomeOfWorkers (workers : ℕ) (plan : Parts) (rows : ℕ → List Row) (began now : List ClockView) (platforms : List PlatformView) (fault : Option (ℕ × TurnFault)) : Type 0 where
  pub by_clocks : IsOutcomeByClocks plan rows began now platforms fault
  pub in_turn : workers ≡ 1 → AreVisitedInTurn plan rows platforms fault by_clocks.readings
