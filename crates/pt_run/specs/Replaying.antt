-- How `replay` ends.
use Rattle.std.specs.Prelude.{◌≡◌, ◌≢◌, ◌↔◌, ℕ, Bool, true, false, List, [], Option, Some, None, Ok, flat_map, length}
use Rattle.pt_io.specs.Causes.{Appends, AppendsPart}
use Rattle.pt_types.specs.declared.rows.Row.{Row}
use Rattle.pt_blocks.specs.declared.blocks.Named.{Named}
use Rattle.pt_causality.specs.Ranked.{level_of}
use Rattle.pt_offsets.specs.Plans.{IsAdmitted, Parts}
use Rattle.pt_semantics.specs.Rows.{FitRows}
use Rattle.pt_sensors.specs.declared.sensor_rows.SensorRows.{SensorRows}
use Rattle.pt_sensor_files.specs.declared.recorded_fault.LateRows.TheVariants.{Refused}
use Rattle.pt_sensors.specs.Listed.{rows_for}
use Rattle.pt_sensors.specs.Places.{StandInPlace, of_run}
use Rattle.pt_sensor_files.specs.Recorded.{AllPass, AreRows}
use Rattle.pt_run.specs.declared.outputs.Outputs.{Outputs}
use Rattle.pt_run.specs.Runs.{AreOutputs, RunOver}
use Rattle.pt_turn.specs.declared.fault.TurnFault.{TurnFault}
use Rattle.pt_turn.specs.declared.fault.TurnFault.TheVariants as turn
use Rattle.pt_monitors.specs.Platforms.{missed_by}
use Rattle.pt_io.specs.Calls.{Contents, SinkCall}
use Rattle.pt_types.specs.declared.air.Air.{Air}
use Rattle.pt_air.specs.AirOf.{air_of}
use Rattle.pt_semantics.specs.RecordedTimes.{KeepsBounds}
use Rattle.pt_replay.specs.Outcome.{IsOutcome as IsReplayOutcome}
use Rattle.pt_run.specs.declared.fault.Fault.{Fault}
use Rattle.pt_run.specs.declared.fault.Fault.TheVariants as fault
use Rattle.pt_run.specs.Leaving.{PutsMeaning, RunWith}
use Rattle.pt_words.specs.Grammar.{GraphFile, Order, replay}
use Rattle.pt_run.specs.Written.{HasNothing, Leaves}
use Rattle.pt_sensor_files.specs.Bytes.{OfBytes}

-- the file `air`, if its content is known, says these lags and transits of the plan's graph, and a fact holds of the plan, of the
-- rows and of them
pub record OnAir (contents : Contents) (air : List ℕ) (Fact : Parts → (ℕ → List Row) → Air → Type 0) (plan : Parts) (rows : ℕ → List Row) : Type 0 where
  pub recorded : Air
  pub file : OfBytes (contents air) (λ bytes. air_of plan.graph bytes ≡ Ok recorded)
  -- no row breaks a stated bound exactly if the recorded times keep to the bounds
  pub bounds : (recorded.breach ≡ None) ↔ KeepsBounds plan.graph recorded
  pub fact : Fact plan rows recorded

-- the platform that stopped a replay, and its fault, by the fault of the call
abbrev pub stop_of_replay : Option Fault → Option (ℕ × TurnFault)
stop_of_replay (Some (fault.Long (Some platform))) = Some (platform, turn.Long)
stop_of_replay (Some (fault.LateAir platform actor tag reading limit row)) = Some (platform, turn.Late actor tag reading limit)
stop_of_replay _ = None

-- whether a replay that ended so ran and leaves its platforms: it wrote all, or a write failed, or a platform stopped it
abbrev pub has_replayed : Option Fault → Bool
has_replayed None = true
has_replayed (Some fault.Write) = true
has_replayed (Some (fault.Long (Some platform))) = true
has_replayed (Some (fault.LateAir platform actor tag reading limit row)) = true
has_replayed _ = false

-- a late message is reported with the first row of the recording that breaks a stated bound; so there is such a row
abbrev pub NamesBreach : Option Fault → Air → Type 0
NamesBreach (Some (fault.LateAir platform actor tag reading limit row)) recorded = recorded.breach ≡ Some row
NamesBreach _ recorded = Unit {0}

-- what a replay of this plan over these rows leaves and writes. Its platforms are those of the plan after a replayed run over these
-- rows, in which messages take their recorded transits and clocks lag as recorded (`IsReplayOutcome`): their histories are legal, they took
-- only what was sent, and they are finished and took all of it unless one stopped the replay, as its history shows
pub record LeavesReplay (log : Bool) (outcome : Option Fault) (left : Leaves) (w : SinkCall) (plan : Parts) (rows : ℕ → List Row) (recorded : Air) : Type 0 where
  pub replayed : IsReplayOutcome plan (level_of plan.ranks) rows recorded left.platforms (stop_of_replay outcome)
  -- all was written, and the misses are those of the recorded turns; or a write failed after a prefix
  pub written : outcome ≡ None → PutsMeaning plan rows log left.platforms (Appends w.written_before w.written_now)
  pub misses : outcome ≡ None → left.misses ≡ flat_map missed_by left.platforms
  pub part : outcome ≡ Some fault.Write → PutsMeaning plan rows log left.platforms (AppendsPart w.written_before w.written_now)
  -- if a platform stopped the replay, nothing is written; and unless all is written, no misses are given
  pub unwritten : stop_of_replay outcome ≢ None → w.written_now ≡ w.written_before
  pub no_misses : outcome ≢ None → left.misses ≡ []
  pub breach : NamesBreach outcome recorded

-- what holds of each replay that the words ask for: of what it leaves, if it ran; else it leaves nothing and nothing is written
pub record ReplayHeadline (outcome : Option Fault) (left : Leaves) (log : Bool) (contents : Contents) (blocks : List Named) (graph_file : GraphFile) (air : List ℕ) (w : SinkCall) : Type 0 where
  pub run : has_replayed outcome ≡ true → RunWith contents blocks graph_file (OnAir contents air (LeavesReplay log outcome left w))
  pub nothing_else : has_replayed outcome ≡ false → HasNothing left × (w.written_now ≡ w.written_before)

abbrev pub IsReplayHeadline : Option Fault → Leaves → Option Order → Contents → List Named → SinkCall → Type 0
IsReplayHeadline outcome left order contents blocks w = (workers : ℕ) (log : Bool) (graph_file : GraphFile) (air : List ℕ) → order ≡ Some (replay graph_file air workers log) → ReplayHeadline outcome left log contents blocks graph_file air w

-- A replay of a plan: what is read for it, and how it finishes.

-- the rows of a plan's sensors, none of which is late, and the lags and transits that the file `air` says
pub record IsRecorded (contents : Contents) (air : List ℕ) (plan : Parts) (entries : List SensorRows) (recorded : Air) : Type 0 where
  pub admitted : IsAdmitted plan
  pub sensors : AreRows contents plan.graph (rows_for entries)
  pub in_time : AllPass Refused plan.graph (rows_for entries)
  pub places : StandInPlace plan.graph entries
  pub fit : FitRows plan.graph (of_run plan.graph (rows_for entries))
  pub file : OfBytes (contents air) (λ bytes. air_of plan.graph bytes ≡ Ok recorded)
  pub transits : length recorded.transits ≡ length plan.graph.links
  pub bounds : (recorded.breach ≡ None) ↔ KeepsBounds plan.graph recorded

-- a replay finished with these outputs
abbrev pub FinishedReplay : Bool → Outputs → Parts → (ℕ → List Row) → Air → Type 0
FinishedReplay log ran plan rows recorded = IsReplayOutcome plan (level_of plan.ranks) rows recorded ran.platforms.items None × AreOutputs plan log ran.platforms.items ran

-- the same over the files
abbrev pub HasReplayed : Contents → List ℕ → Parts → Bool → Outputs → Type 0
HasReplayed contents air plan log ran = RunOver contents plan (OnAir contents air (FinishedReplay log ran) plan)
