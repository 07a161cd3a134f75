-- How a run of a made input ends, and how any call ends.
use Rattle.std.specs.Prelude.{◌≡◌, ℕ, List, [], Option, None, Some, flat_map, length}
use Rattle.pt_blocks.specs.declared.blocks.Named.{Named}
use Rattle.pt_history.specs.declared.miss.Miss.{Miss}
use Rattle.pt_semantics.specs.Meaning.{ActorFiring, IsMeaning}
use Rattle.pt_causality.specs.Ranked.{level_of, rank_of}
use Rattle.pt_offsets.specs.Plans.{IsAdmitted, Parts}
use Rattle.pt_turn.specs.Platforms.{PlatformView}
use Rattle.pt_monitors.specs.Platforms.{missed_by}
use Rattle.pt_io.specs.Calls.{Contents, SinkCall}
use Rattle.pt_sensors.specs.Places.{of_run}
use Rattle.pt_rounds.specs.Outcome.{IsOutcome as IsPacedOutcome}
use Rattle.pt_make.specs.Input.{made_graph, made_rows}
use Rattle.pt_make.specs.Summary.{summary}
use Rattle.pt_run.specs.declared.fault.Fault.{Fault}
use Rattle.pt_run.specs.Reporting.{Reports, ReportsBy, paced_run}
use Rattle.pt_words.specs.Grammar.{Order, over, make, migrate, audit, replay}

-- what a run of the input made from n must write and leave: its platforms ran in paced rounds until all were finished and
-- missed nothing, and the text is the summary of the meaning
pub record IsMadeRun (n : ℕ) (platforms : List PlatformView) (text : List ℕ) : Type 0 where
  pub plan : Parts
  pub graph : plan.graph ≡ made_graph n
  pub admitted : IsAdmitted plan
  pub run : IsPacedOutcome plan (level_of plan.ranks) (of_run (made_graph n) (made_rows n)) platforms None
  pub firings : List ActorFiring
  pub meaning : IsMeaning (made_graph n) (rank_of plan.ranks) (of_run (made_graph n) (made_rows n)) firings
  pub none_missed : flat_map missed_by platforms ≡ []
  pub written : text ≡ summary n firings (length (flat_map missed_by platforms))

-- what is put on notes: the lines of a run of a made input and those of `migrate` have no names, and the lines of an audit and of a
-- replay have names as those of a run
abbrev pub ReportsOf : Option Fault → List Miss → List PlatformView → Option Order → Contents → List Named → SinkCall → Type 0
ReportsOf outcome misses platforms None contents blocks w = ReportsBy outcome misses platforms None contents blocks w
ReportsOf outcome misses platforms (Some (over command graph)) contents blocks w = ReportsBy outcome misses platforms (Some (command, graph)) contents blocks w
ReportsOf outcome misses platforms (Some (make number workers)) contents blocks w = Reports outcome misses None w
ReportsOf outcome misses platforms (Some (migrate graph)) contents blocks w = Reports outcome misses None w
ReportsOf outcome misses platforms (Some (audit graph log)) contents blocks w = ReportsBy outcome misses platforms (Some (paced_run, graph)) contents blocks w
ReportsOf outcome misses platforms (Some (replay graph air workers log)) contents blocks w = ReportsBy outcome misses platforms (Some (paced_run, graph)) contents blocks w
