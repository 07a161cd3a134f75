-- A run over the files of a plan's sensors, and why a run did not finish.
use Rattle.std.specs.Prelude.{◌≡◌, ◌⊎◌, ◌↔◌, ◌++◌, [], ℕ, Bool, List, Option, None, Some, flat_map, if◌then◌else◌, string_bytes, true}
use Rattle.pt_types.specs.declared.firing.ActorFiring.{ActorFiring}
use Rattle.pt_types.specs.declared.rows.Row.{Row}
use Rattle.pt_types.specs.declared.graph.Graph.{Graph}
use Rattle.pt_history.specs.declared.miss.Miss.{Miss}
use Rattle.pt_semantics.specs.History.{IsLegal}
use Rattle.pt_semantics.specs.Linked.{AreLinked, AreMatched}
use Rattle.pt_semantics.specs.Lists.{Each, IsIn}
use Rattle.pt_semantics.specs.Meaning.{IsMeaning}
use Rattle.pt_semantics.specs.Rows.{FitRows}
use Rattle.pt_semantics.specs.Tables.{tables_text}
use Rattle.pt_paced_laws.specs.Schedule.{IsMissedByMeaning}
use Rattle.pt_causality.specs.Ranked.{level_of, rank_of}
use Rattle.pt_offsets.specs.Plans.{IsAdmitted, Parts}
use Rattle.pt_turn.specs.declared.fault.TurnFault.{TurnFault}
use Rattle.pt_turn.specs.All.{AreAll, AreReady, histories_of}
use Rattle.pt_turn.specs.Platforms.{PlatformView, state_at}
use Rattle.pt_engine.specs.Asked.{EndsAt}
use Rattle.pt_monitors.specs.Platforms.{missed_by}
use Rattle.pt_tables.specs.Held.{IsHeldTurn}
use Rattle.pt_tables.specs.Log.{log_head, log_text}
use Rattle.pt_tables.specs.Misses.{miss_line}
use Rattle.pt_tables.specs.Platforms.{histories, platform_lines}
use Rattle.pt_confluence.specs.Gathered.{HaveFinished}
use Rattle.pt_rounds.specs.Outcome.{IsOutcome as IsPacedOutcome}
use Rattle.pt_sensor_files.specs.declared.recorded_fault.LateRows.TheVariants.{Refused}
use Rattle.pt_sensor_files.specs.declared.recorded_fault.RecordedFault.{RecordedFault}
use Rattle.pt_io.specs.Calls.{Contents, SourceCall}
use Rattle.pt_sensors.specs.Places.{of_run}
use Rattle.pt_sensor_files.specs.Recorded.{AllPass, AreRows, CauseOfRows}
use Rattle.pt_words.specs.declared.orders.ClockChoice.{ClockChoice}
use Rattle.pt_words.specs.declared.orders.ClockChoice.TheVariants.{Machine, Paced, Step}
use Rattle.pt_engine.specs.declared.rounds.Rounds.{Rounds}
use Rattle.pt_run.specs.declared.fault.Fault.{Fault}
use Rattle.pt_run.specs.declared.fault.Fault.TheVariants as fault
use Rattle.pt_run.specs.declared.outcome.Stopped.{Stopped}
use Rattle.pt_run.specs.Faults.{fault_of_rows, fault_of_turn}
use Rattle.pt_run.specs.declared.outputs.Outputs.{Outputs}
use Rattle.pt_io.specs.Clocks.{ClockView}
use Rattle.pt_run.specs.Readings.{RunClocks, EachOf, ReadBy, read_by}

-- the platforms are those of the graph, opened with these rows; each has a legal history that leads to its state; everything
-- taken was sent, and unless a platform has a fault, everything sent was taken and all are finished
pub record IsKept (plan : Parts) (rows : ℕ → List Row) (platforms : List PlatformView) (fault : Option (ℕ × TurnFault)) : Type 0 where
  pub all : AreAll plan rows platforms
  pub legal : EachOf platforms (λ i v. IsLegal plan.graph (level_of plan.ranks) i rows v.turns (state_at v))
  pub matched : AreMatched plan.graph (histories_of platforms)
  pub linked : fault ≡ None → AreLinked plan.graph (histories_of platforms)
  pub ends : EndsAt plan.graph platforms fault

-- the paced clock
abbrev pub paced_run_clocks : ℕ → RunClocks
paced_run_clocks workers = record { choice = Paced; workers = workers; before = []; now = [] }

-- clocks of steps
abbrev pub steps_by : ℕ → ℕ → ℕ → RunClocks
steps_by workers start step = record { choice = Step start step; workers = workers; before = []; now = [] }

-- clocks that were handed in
abbrev pub clocks_by : ℕ → List ClockView → List ClockView → RunClocks
clocks_by workers before now = record { choice = Machine; workers = workers; before = before; now = now }

-- a clock, with what the clocks that were handed in showed, as far as it reads them
abbrev pub read_with : ℕ → ClockChoice → List ClockView → List ClockView → RunClocks
read_with workers clock before now = record { choice = clock; workers = workers; before = read_by clock before; now = read_by clock now }

-- the platforms of a plan after a run over these rows by its clock, and the fault that stopped the run
pub record IsOutcomeBy (c : RunClocks) (plan : Parts) (rows : ℕ → List Row) (platforms : List PlatformView) (fault : Option (ℕ × TurnFault)) : Type 0 where
  pub kept : IsKept plan rows platforms fault
  pub readings : ReadBy c plan rows platforms fault
  -- what more is known of a paced run
  pub paced : c.choice ≡ Paced → IsPacedOutcome plan (level_of plan.ranks) rows platforms fault

-- an engine that was given these opened platforms leaves an outcome of a run by this clock
abbrev pub LeavesOutcome : RunClocks → List PlatformView → Rounds → Type 0
LeavesOutcome c opened rounds = (plan : Parts) (rows : ℕ → List Row) → AreReady plan rows opened → IsOutcomeBy c plan rows rounds.platforms.items rounds.fault

-- a fact of an admitted plan and of the rows of its sensors' files up to its horizon, none of which is late
pub record RunOver (contents : Contents) (plan : Parts) (Fact : (ℕ → List Row) → Type 0) : Type 0 where
  pub admitted : IsAdmitted plan
  pub rows : ℕ → List Row
  pub sensors : AreRows contents plan.graph rows
  pub in_time : AllPass Refused plan.graph rows
  pub fact : Fact (of_run plan.graph rows)

-- the platforms of a plan, just opened with these rows
abbrev pub HasOpened : Contents → Parts → List PlatformView → Type 0
HasOpened contents plan platforms = RunOver contents plan (λ rows. AreReady plan rows platforms)

-- the outcome of a run over the files of its sensors
abbrev pub IsOutcomeOver : Contents → RunClocks → Parts → List PlatformView → Option (ℕ × TurnFault) → Type 0
IsOutcomeOver contents c plan platforms fault = RunOver contents plan (λ rows. IsOutcomeBy c plan rows platforms fault)

-- the log of platforms, if it is asked for
abbrev pub log_if : Bool → Graph → List PlatformView → List ℕ
log_if log g platforms = if log then log_text g (histories platforms) else []

-- if the log is asked for, 64 bits hold the numbers in all turns of the platforms
abbrev pub AreHeldIf : Bool → List PlatformView → Type 0
AreHeldIf log platforms = log ≡ true → Each (Each IsHeldTurn) (histories platforms)

-- a run that finished, with the text that it must write: the tables of the meaning and, if asked for, the log
pub record IsFinishedRun (contents : Contents) (c : RunClocks) (plan : Parts) (log : Bool) (platforms : List PlatformView) (misses : List Miss) (text : List ℕ) : Type 0 where
  pub run : IsOutcomeOver contents c plan platforms None
  pub fit : FitRows plan.graph (of_run plan.graph run.rows)
  pub firings : List ActorFiring
  pub meaning : IsMeaning plan.graph (rank_of plan.ranks) (of_run plan.graph run.rows) firings
  pub written : text ≡ tables_text plan.graph firings ++ log_if log plan.graph platforms
  pub held : AreHeldIf log platforms
  pub missed : misses ≡ flat_map missed_by platforms
  -- in a paced run the misses are exactly the firings of actuators whose paced reading is past their tag's time plus slack
  pub missed_as_meant : c.choice ≡ Paced → (m : Miss) → IsIn m misses ↔ IsMissedByMeaning plan.graph firings m.actor m.tag m.reading m.limit

-- the log of platforms by the graphs of their plans, if it is asked for
abbrev pub asked_log : Bool → List PlatformView → List ℕ
asked_log log platforms = if log then log_head ++ flat_map platform_lines platforms else []

-- the text that a run puts: its tables and, if it is asked for, the log
abbrev pub outputs_text : Outputs → List ℕ
outputs_text ran = string_bytes ran.tables ++ asked_log ran.log ran.platforms.items

-- the text of finished platforms
abbrev pub IsText : Parts → Bool → List PlatformView → List ℕ → Type 0
IsText plan log platforms text = (rows : ℕ → List Row) → HaveFinished plan rows platforms →
    (firings : List ActorFiring) × IsMeaning plan.graph (rank_of plan.ranks) rows firings × (text ≡ tables_text plan.graph firings ++ log_if log plan.graph platforms)

-- all outputs of finished platforms
pub record AreOutputs (plan : Parts) (log : Bool) (platforms : List PlatformView) (ran : Outputs) : Type 0 where
  pub platforms_are : ran.platforms.items ≡ platforms
  pub text : IsText plan log platforms (outputs_text ran)
  pub held : AreHeldIf log platforms
  pub misses : ran.misses.items ≡ flat_map missed_by platforms
  pub lines : string_bytes ran.lines ≡ flat_map (miss_line plan.graph) ran.misses.items

-- what a finished run returns: its platforms, its text, its misses and their lines
abbrev pub HasOutputs : Contents → RunClocks → Parts → Bool → Outputs → Type 0
HasOutputs contents c plan log ran = IsFinishedRun contents c plan log ran.platforms.items ran.misses.items (outputs_text ran) × (string_bytes ran.lines ≡ flat_map (miss_line plan.graph) ran.misses.items)

-- the outputs of platforms after a run without a fault
abbrev pub IsOutput : Option (ℕ × TurnFault) → Parts → Bool → List PlatformView → Outputs → Type 0
IsOutput fault plan log platforms ran = (fault ≡ None) × AreOutputs plan log platforms ran

-- a run was stopped by this platform with this fault, and leaves its platforms; or, without one, memory ran out, and it leaves none
abbrev pub IsStop : Option ℕ → Option (ℕ × TurnFault) → List PlatformView → Stopped → Type 0
IsStop breach None platforms s = (s.fault ≡ fault.Memory) × (s.platforms.items ≡ [])
IsStop breach (Some f) platforms s = (s.fault ≡ fault_of_turn f.0 breach f.1) × (s.platforms.items ≡ platforms)

-- the sensors' files have no rows that can be used, for this cause; or memory ran out
abbrev pub LacksRows : Fault → Contents → Parts → SourceCall → Type 0
LacksRows f contents plan r = (f ≡ fault.Memory) ⊎ ((unread : RecordedFault) × (f ≡ fault_of_rows unread) × CauseOfRows Refused unread contents plan.graph [] r)

-- why a run did not finish: it has no rows, or memory ran out, and it leaves no platforms; or this platform stopped it with this fault,
-- and it leaves all platforms
abbrev pub CauseOfStop : Stopped → Contents → RunClocks → Parts → SourceCall → Type 0
CauseOfStop s contents c plan r =
    (LacksRows s.fault contents plan r × (s.platforms.items ≡ []))
    ⊎ ((f : ℕ × TurnFault) × (s.fault ≡ fault_of_turn f.0 None f.1) × IsOutcomeOver contents c plan s.platforms.items (Some f))
