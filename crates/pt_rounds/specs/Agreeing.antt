-- Two paced runs over one graph and its rows.
use Rattle.std.specs.Prelude.{◌≡◌, ℕ, List, Option}
use Rattle.pt_types.specs.declared.rows.Row.{Row}
use Rattle.pt_causality.specs.Ranked.{level_of}
use Rattle.pt_offsets.specs.Plans.{Parts}
use Rattle.pt_turn.specs.declared.fault.TurnFault.{TurnFault}
use Rattle.pt_turn.specs.Platforms.{PlatformView}
use Rattle.pt_turn.specs.All.{histories_of}
use Rattle.pt_rounds.specs.Outcome.{IsOutcome}

-- they leave the same histories, and have the same fault if a platform needed more claims than it may make: no matter what made
-- them, and with how many workers
abbrev pub PacedRunsAgree : Type 0
PacedRunsAgree = (plan other : Parts) (rows : ℕ → List Row) (platforms others : List PlatformView) (fault stop : Option (ℕ × TurnFault)) → plan.graph ≡ other.graph →
    IsOutcome plan (level_of plan.ranks) rows platforms fault → IsOutcome other (level_of other.ranks) rows others stop →
    ((i : ℕ) → histories_of platforms i ≡ histories_of others i) × (fault ≡ stop)
