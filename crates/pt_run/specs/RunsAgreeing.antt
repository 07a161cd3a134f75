-- Two runs of one graph over the same files.
use Rattle.std.specs.Prelude.{◌≡◌, ◌<◌, ◌^◌, ℕ, Bool, List, Option, Some}
use Rattle.pt_types.specs.declared.graph.Graph.{Graph}
use Rattle.pt_types.specs.declared.kind.Kind.TheVariants.{Sensor}
use Rattle.pt_history.specs.declared.miss.Miss.{Miss}
use Rattle.pt_types.specs.Lookups.{kind_of}
use Rattle.pt_paced_laws.specs.FixedOrderTheorems.{count_readings}
use Rattle.pt_offsets.specs.Plans.{Parts}
use Rattle.pt_turn.specs.Platforms.{PlatformView}
use Rattle.pt_turn.specs.All.{histories_of}
use Rattle.pt_io.specs.Calls.{Contents}
use Rattle.pt_turn.specs.declared.fault.TurnFault.{TurnFault}
use Rattle.pt_words.specs.declared.orders.ClockChoice.TheVariants.{Paced, Step}
use Rattle.pt_run.specs.Readings.{RunClocks, EachOf}
use Rattle.pt_run.specs.Runs.{IsOutcomeOver, IsFinishedRun}

-- the content of each sensor's file is known
abbrev pub ReportsSensors : Contents → Graph → Type 0
ReportsSensors contents g = (a : ℕ) (file : List ℕ) (bound : ℕ) → kind_of g a ≡ Sensor file bound → (bytes : List ℕ) × (contents file ≡ Some bytes)

-- paced runs leave the same histories, and both finish or both stop at the same platform with the same fault
abbrev pub RunsAgree : Type 0
RunsAgree = (contents : Contents) (c d : RunClocks) (plan other : Parts) (platforms others : List PlatformView) (fault stop : Option (ℕ × TurnFault)) → c.choice ≡ Paced → d.choice ≡ Paced → plan.graph ≡ other.graph → ReportsSensors contents plan.graph →
    IsOutcomeOver contents c plan platforms fault → IsOutcomeOver contents d other others stop → ((i : ℕ) → histories_of platforms i ≡ histories_of others i) × (fault ≡ stop)

-- if both finish, they write the same text, the log included, and have the same misses
abbrev pub FinishedRunsAgree : Type 0
FinishedRunsAgree = (contents : Contents) (c d : RunClocks) (plan other : Parts) (log : Bool) (platforms others : List PlatformView) (misses missed : List Miss) (text written : List ℕ) → c.choice ≡ Paced → d.choice ≡ Paced → plan.graph ≡ other.graph → ReportsSensors contents plan.graph →
    IsFinishedRun contents c plan log platforms misses text → IsFinishedRun contents d other log others missed written → (text ≡ written) × (misses ≡ missed)

-- each of these platforms went by fewer than 2 ^ 64 readings
abbrev pub AreFewReadings : List PlatformView → Type 0
AreFewReadings platforms = EachOf platforms (λ i v. count_readings v.turns < 2 ^ 64)

-- runs by clocks of the same steps, if no platform goes by 2 ^ 64 readings or more, leave the same histories, a late message
-- included, and both finish or both stop at the same platform with the same fault; and if both finish, they write the same
-- text, the log included, and have the same misses
abbrev pub StepRunsAgree : Type 0
StepRunsAgree = (contents : Contents) (start step : ℕ) (c d : RunClocks) (plan other : Parts) (platforms others : List PlatformView) → c.choice ≡ Step start step → d.choice ≡ Step start step → plan.graph ≡ other.graph → ReportsSensors contents plan.graph →
    AreFewReadings platforms → AreFewReadings others →
    ((fault stop : Option (ℕ × TurnFault)) → IsOutcomeOver contents c plan platforms fault → IsOutcomeOver contents d other others stop → ((i : ℕ) → histories_of platforms i ≡ histories_of others i) × (fault ≡ stop))
    × ((log : Bool) (misses missed : List Miss) (text written : List ℕ) → IsFinishedRun contents c plan log platforms misses text → IsFinishedRun contents d other log others missed written → (text ≡ written) × (misses ≡ missed))
