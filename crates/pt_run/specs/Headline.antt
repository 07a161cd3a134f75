-- The headline: what a run has written, what it records, and why it stopped.
--
-- It is stated over a graph, the ranks and levels of its actors, rows, and each platform's number, recorded turns, state and fault. What
-- the files of a call say is a parameter, `Inputs`, and so is by which readings a run of a clock goes; `specs/OverFiles.antt` says what
-- they are for the top call.
use Rattle.std.specs.Prelude.{◌≡◌, ◌≢◌, ◌<◌, ◌++◌, [], ℕ, Bool, true, false, List, Option, None, Some, flat_map, if◌then◌else◌, length, map, option_map, slice_get, unwrap_or}
use Rattle.pt_io.specs.Causes.{Appends, AppendsPart}
use Rattle.pt_tags.specs.declared.tag.Tag.{Tag}
use Rattle.pt_types.specs.declared.firing.ActorFiring.{ActorFiring}
use Rattle.pt_types.specs.declared.graph.Graph.{Graph}
use Rattle.pt_types.specs.declared.rows.Row.{Row}
use Rattle.pt_types.specs.Lawful.{IsLawful}
use Rattle.pt_semantics.specs.Cycles.{NoFreeCycle}
use Rattle.pt_semantics.specs.History.{IsLegal}
use Rattle.pt_semantics.specs.Linked.{AreLinked, AreMatched, IsFinished}
use Rattle.pt_semantics.specs.Lists.{Each}
use Rattle.pt_semantics.specs.Meaning.{IsMeaning}
use Rattle.pt_semantics.specs.Offsets.{IsFeasible}
use Rattle.pt_semantics.specs.Platform.{State}
use Rattle.pt_semantics.specs.Ranks.{AreLevels, AreRanks}
use Rattle.pt_semantics.specs.Rows.{FitRows}
use Rattle.pt_semantics.specs.Tables.{tables_text}
use Rattle.pt_semantics.specs.Turn.{Turn}
use Rattle.pt_history.specs.declared.miss.Miss.{Miss}
use Rattle.pt_turn.specs.declared.fault.TurnFault.{TurnFault}
use Rattle.pt_turn.specs.Running.{Shows}
use Rattle.pt_monitors.specs.Misses.{missed_of}
use Rattle.pt_tables.specs.Held.{IsHeldTurn}
use Rattle.pt_tables.specs.Log.{log_text}
use Rattle.pt_words.specs.declared.orders.ClockChoice.{ClockChoice}
use Rattle.pt_words.specs.declared.orders.ClockChoice.TheVariants.{Paced}
use Rattle.pt_run.specs.declared.fault.Fault.{Fault}
use Rattle.pt_run.specs.declared.fault.Fault.TheVariants as fault
use Rattle.pt_words.specs.declared.orders.Command.TheVariants.{Run}
use Rattle.pt_io.specs.Calls.{SinkCall}
use Rattle.pt_words.specs.Grammar.{GraphFile, Order, over}
use Rattle.pt_run.specs.Written.{has_run, stop_of}

-- what the files of a call say: which graph a graph file defines; which rows the sensors of a graph have up to its
-- horizon, by the number of the actor, none of which is late; and which row is the first late one, by its sensor, its number, when it is seen and by when it should be
pub record Inputs : Type 1 where
  pub graph : GraphFile → Graph → Type 0
  pub rows : Graph → (ℕ → List Row) → Type 0
  pub late_row : Graph → ℕ → ℕ → ℕ → ℕ → Type 0

-- a platform at the end of a run: its number, its recorded turns, its state after them, and its fault
pub record AtEnd : Type 0 where
  pub number : ℕ
  pub turns : List Turn
  pub state : State
  pub fault : Option TurnFault

-- the recorded turns of each of these platforms, by its number
abbrev pub turns_at : List AtEnd → ℕ → List Turn
turns_at platforms i = unwrap_or (option_map (λ (p : AtEnd). p.turns) (slice_get platforms i)) []

-- the graph is admitted: each cycle takes time, and each sender can send in time; these are the ranks and the levels of its actors
pub record IsAdmittedWith (g : Graph) (rank level : ℕ → ℕ) : Type 0 where
  pub lawful : IsLawful g
  pub no_free_cycle : NoFreeCycle g
  pub feasible : IsFeasible g
  pub ranks : AreRanks g rank
  pub levels : AreLevels g level

-- all platforms are finished, and all that was sent was taken; or this platform stopped the run with this fault, as its turns and its
-- state show, and none before it has a fault
abbrev pub EndAs : Graph → List AtEnd → Option (ℕ × TurnFault) → Type 0
EndAs g platforms None = AreLinked g (turns_at platforms) × ((i : ℕ) (p : AtEnd) → slice_get platforms i ≡ Some p → (p.fault ≡ None) × IsFinished g i p.state)
EndAs g platforms (Some f) =
    (p : AtEnd) × (slice_get platforms f.0 ≡ Some p) × (p.fault ≡ Some f.1) × Shows g p.turns p.state f.1 × ((j : ℕ) (q : AtEnd) → j < f.0 → slice_get platforms j ≡ Some q → q.fault ≡ None)

-- these are the platforms of the graph, in order. Each has a legal history from its rows to its state; only what was sent was taken;
-- and they end so
pub record HaveHistories (g : Graph) (level : ℕ → ℕ) (rows : ℕ → List Row) (platforms : List AtEnd) (stop : Option (ℕ × TurnFault)) : Type 0 where
  pub count : length platforms ≡ length g.platforms
  pub numbers : (i : ℕ) (p : AtEnd) → slice_get platforms i ≡ Some p → p.number ≡ i
  pub legal : (i : ℕ) (p : AtEnd) → slice_get platforms i ≡ Some p → IsLegal g level i rows p.turns p.state
  pub matched : AreMatched g (turns_at platforms)
  pub ends : EndAs g platforms stop

-- what was put is the tables of the meaning and, if asked for, the log of these histories, the numbers in whose turns 64 bits hold
pub record PutsTables (g : Graph) (rank : ℕ → ℕ) (rows : ℕ → List Row) (log : Bool) (histories : List (List Turn)) (Put : List ℕ → Type 0) : Type 0 where
  pub fit : FitRows g rows
  pub firings : List ActorFiring
  pub meaning : IsMeaning g rank rows firings
  pub text : Put (tables_text g firings ++ (if log then log_text g histories else []))
  pub held : log ≡ true → Each (Each IsHeldTurn) histories

-- what a run of this graph over these rows leaves and writes, by how the call ended
pub record LeavesTurns (log : Bool) (outcome : Option Fault) (platforms : List AtEnd) (misses : List Miss) (w : SinkCall) (g : Graph) (rank level : ℕ → ℕ) (rows : ℕ → List Row) : Type 0 where
  pub admitted : IsAdmittedWith g rank level
  pub kept : HaveHistories g level rows platforms (stop_of outcome)
  -- all was written, and the misses are those of the recorded turns; or a write failed after a prefix
  pub written : outcome ≡ None → PutsTables g rank rows log (map (λ (p : AtEnd). p.turns) platforms) (Appends w.written_before w.written_now)
  pub misses_are : outcome ≡ None → misses ≡ flat_map (λ (p : AtEnd). missed_of g p.turns) platforms
  pub part : outcome ≡ Some fault.Write → PutsTables g rank rows log (map (λ (p : AtEnd). p.turns) platforms) (AppendsPart w.written_before w.written_now)
  -- if a platform stopped the run, nothing is written; and unless all is written, no misses are given
  pub unwritten : stop_of outcome ≢ None → w.written_now ≡ w.written_before
  pub no_misses : outcome ≢ None → misses ≡ []

-- by which readings the platforms of a run go, over a graph, the levels of its actors and rows, until it ends or this platform stops it
abbrev pub ByReadings : Type 1
ByReadings = Graph → (ℕ → ℕ) → (ℕ → List Row) → Option (ℕ × TurnFault) → Type 0

-- a run over this graph file: the graph that it defines, the ranks and levels of its actors, and its rows; what the run
-- leaves and writes; and by which readings it went
pub record HasRunOn (inputs : Inputs) (By : ByReadings) (graph_file : GraphFile) (log : Bool) (outcome : Option Fault) (platforms : List AtEnd) (misses : List Miss) (w : SinkCall) : Type 0 where
  pub graph : Graph
  pub rank : ℕ → ℕ
  pub level : ℕ → ℕ
  pub rows : ℕ → List Row
  pub file : inputs.graph graph_file graph
  pub sensors : inputs.rows graph rows
  pub leaves : LeavesTurns log outcome platforms misses w graph rank level rows
  pub readings : By graph level rows (stop_of outcome)

-- what holds of a run: of what it leaves, if it has platforms; else it leaves nothing and nothing is written. A paced run never ends
-- with a late message. If the fault is a late row, the row that is named is the first late one
pub record Headline (inputs : Inputs) (By : ByReadings) (graph_file : GraphFile) (clock : ClockChoice) (log : Bool) (outcome : Option Fault) (platforms : List AtEnd) (misses : List Miss) (w : SinkCall) : Type 0 where
  pub run : has_run outcome ≡ true → HasRunOn inputs By graph_file log outcome platforms misses w
  pub nothing_else : has_run outcome ≡ false → (platforms ≡ []) × (misses ≡ []) × (w.written_now ≡ w.written_before)
  pub late_message : (platform actor : ℕ) (tag : Tag) (reading limit : ℕ) → outcome ≡ Some (fault.LateMessage platform actor tag reading limit) → clock ≢ Paced
  pub late_row : (actor row seen limit : ℕ) → outcome ≡ Some (fault.LateRow actor row seen limit) → (g : Graph) × inputs.graph graph_file g × inputs.late_row g actor row seen limit

-- it holds of each run that the order asks for, by the number of its workers and its clock
abbrev pub IsHeadline : Inputs → (ℕ → ClockChoice → ByReadings) → Option Order → Option Fault → List AtEnd → List Miss → SinkCall → Type 0
IsHeadline inputs By order outcome platforms misses w =
    (workers : ℕ) (clock : ClockChoice) (log : Bool) (graph_file : GraphFile) → order ≡ Some (over (Run workers clock log) graph_file) → Headline inputs (By workers clock) graph_file clock log outcome platforms misses w
