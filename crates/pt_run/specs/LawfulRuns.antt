-- The log that a finished run or replay writes is lawful.
use Rattle.std.specs.Prelude.{◌≡◌, ◌≤◌, ℕ, List, None, Some, length, true}
use Rattle.pt_io.specs.Causes.{Appends}
use Rattle.pt_types.specs.declared.rows.Row.{Row}
use Rattle.pt_blocks.specs.declared.blocks.Named.{Named}
use Rattle.pt_history.specs.declared.miss.Miss.{Miss}
use Rattle.pt_offsets.specs.Plans.{Parts}
use Rattle.pt_turn.specs.Platforms.{PlatformView}
use Rattle.pt_io.specs.Calls.{Contents, SinkCall}
use Rattle.pt_sensors.specs.Places.{of_run}
use Rattle.pt_audit.specs.LawfulLogs.{IsLawfulLog}
use Rattle.pt_audit.specs.Limits.{log_limit}
use Rattle.pt_words.specs.declared.orders.ClockChoice.{ClockChoice}
use Rattle.pt_words.specs.declared.orders.Command.TheVariants.{Run}
use Rattle.pt_run.specs.Due.{Answer, IsDue}
use Rattle.pt_run.specs.Leaving.{RunWith}
use Rattle.pt_run.specs.Readings.{RunClocks}
use Rattle.pt_run.specs.Replaying.{ReplayHeadline}
use Rattle.pt_run.specs.Runs.{IsFinishedRun}
use Rattle.pt_words.specs.Grammar.{GraphFile, over}
use Rattle.pt_run.specs.Written.{Leaves}

-- the text of a finished run with its log is a lawful log of the run's plan over its rows, unless it is too long
abbrev pub FinishedRunsAreLawful : Type 0
FinishedRunsAreLawful = (contents : Contents) (c : RunClocks) (plan : Parts) (platforms : List PlatformView) (misses : List Miss) (text : List ℕ) →
    (done : IsFinishedRun contents c plan true platforms misses text) → length text ≤ log_limit plan.graph.claims → IsLawfulLog plan (of_run plan.graph done.run.rows) text

-- a lawful log of this plan over these rows was written, unless what was written is too long
abbrev pub WritesLawfulLog : SinkCall → Parts → (ℕ → List Row) → Type 0
WritesLawfulLog w plan rows = (text : List ℕ) × Appends w.written_before w.written_now text × (length text ≤ log_limit plan.graph.claims → IsLawfulLog plan rows text)

-- so what `run` writes with its log, by any clock, is a lawful log if the run ends without a fault, with misses or without
abbrev pub RunsWriteLawfulLogs : Type 0
RunsWriteLawfulLogs = (a : Answer) (workers : ℕ) (clock : ClockChoice) (contents : Contents) (blocks : List Named) (graph_file : GraphFile) →
    IsDue (Some (over (Run workers clock true) graph_file)) contents blocks a → a.fault ≡ None → RunWith contents blocks graph_file (WritesLawfulLog a.wrote)

-- and so is what `replay` writes with its log, whatever its recording says
abbrev pub ReplaysWriteLawfulLogs : Type 0
ReplaysWriteLawfulLogs = (left : Leaves) (contents : Contents) (blocks : List Named) (graph_file : GraphFile) (air : List ℕ) (w : SinkCall) →
    ReplayHeadline None left true contents blocks graph_file air w → RunWith contents blocks graph_file (WritesLawfulLog w)
