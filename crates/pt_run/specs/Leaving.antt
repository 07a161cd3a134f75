-- What a run leaves, whatever its clock, by which readings it went, and what it writes.
use Rattle.std.specs.Prelude.{◌≡◌, ◌≢◌, ◌++◌, [], ℕ, Bool, List, Option, None, Some, Ok, flat_map}
use Rattle.pt_io.specs.Causes.{Appends, AppendsPart}
use Rattle.pt_types.specs.declared.rows.Row.{Row}
use Rattle.pt_types.specs.declared.firing.ActorFiring.{ActorFiring}
use Rattle.pt_blocks.specs.declared.blocks.Named.{Named}
use Rattle.pt_semantics.specs.Meaning.{IsMeaning}
use Rattle.pt_semantics.specs.Rows.{FitRows}
use Rattle.pt_semantics.specs.Tables.{tables_text}
use Rattle.pt_causality.specs.Ranked.{rank_of}
use Rattle.pt_offsets.specs.Plans.{Parts}
use Rattle.pt_turn.specs.Platforms.{PlatformView}
use Rattle.pt_monitors.specs.Platforms.{missed_by}
use Rattle.pt_io.specs.Calls.{Contents, SinkCall}
use Rattle.pt_run.specs.Readings.{RunClocks, ReadBy}
use Rattle.pt_run.specs.Runs.{AreHeldIf, IsKept, RunOver, log_if}
use Rattle.pt_run.specs.declared.fault.Fault.{Fault}
use Rattle.pt_run.specs.declared.fault.Fault.TheVariants as fault
use Rattle.pt_run.specs.Written.{Leaves, stop_of}
use Rattle.pt_run.specs.GraphFiles.{graph_by}
use Rattle.pt_words.specs.Grammar.{GraphFile}
use Rattle.pt_sensor_files.specs.Bytes.{OfBytes}

-- the graph file defines an admitted graph, its sensors' files have rows, none of which is late, and a fact holds of the plan
-- of the graph and of the rows up to its horizon
pub record RunWith (contents : Contents) (blocks : List Named) (graph_file : GraphFile) (Fact : Parts → (ℕ → List Row) → Type 0) : Type 0 where
  pub plan : Parts
  pub file : OfBytes (contents graph_file.name) (λ bytes. graph_by blocks graph_file bytes ≡ Ok plan.graph)
  pub over : RunOver contents plan (Fact plan)

-- what was put is the tables of the meaning and, if asked for, the log of the platforms, the numbers in whose turns 64 bits hold
pub record PutsMeaning (plan : Parts) (rows : ℕ → List Row) (log : Bool) (platforms : List PlatformView) (Put : List ℕ → Type 0) : Type 0 where
  pub fit : FitRows plan.graph rows
  pub firings : List ActorFiring
  pub meaning : IsMeaning plan.graph (rank_of plan.ranks) rows firings
  pub text : Put (tables_text plan.graph firings ++ log_if log plan.graph platforms)
  pub held : AreHeldIf log platforms

-- what a run of this plan over these rows leaves and writes. The platforms of the graph have legal histories from their rows
-- to their states, took only what was sent, and are finished and took all of it unless one stopped the run, as its history
-- shows (`IsKept`); they went by the readings of the run's clock (`ReadBy`)
pub record LeavesRun (c : RunClocks) (log : Bool) (outcome : Option Fault) (left : Leaves) (w : SinkCall) (plan : Parts) (rows : ℕ → List Row) : Type 0 where
  pub kept : IsKept plan rows left.platforms (stop_of outcome)
  pub readings : ReadBy c plan rows left.platforms (stop_of outcome)
  -- all was written, and the misses are those of the recorded turns; or a write failed after a prefix
  pub written : outcome ≡ None → PutsMeaning plan rows log left.platforms (Appends w.written_before w.written_now)
  pub misses : outcome ≡ None → left.misses ≡ flat_map missed_by left.platforms
  pub part : outcome ≡ Some fault.Write → PutsMeaning plan rows log left.platforms (AppendsPart w.written_before w.written_now)
  -- if a platform stopped the run, nothing is written; and unless all is written, no misses are given
  pub unwritten : stop_of outcome ≢ None → w.written_now ≡ w.written_before
  pub no_misses : outcome ≢ None → left.misses ≡ []
