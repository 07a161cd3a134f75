-- The log that a finished run or replay writes is lawful.
use Rattle.std.proofs.Common.{◌≡◌, ◌++◌, [], ◌∷◌, ℕ, true, List, Option, None, Some, Ok, slice_get, refl, sym, subst, inl, inr}
use Rattle.pt_io.specs.Causes.{Appends}
use Rattle.pt_types.specs.declared.graph.Graph.{Graph}
use Rattle.pt_types.specs.declared.rows.Row.{Row}
use Rattle.pt_blocks.specs.declared.blocks.Named.{Named}
use Rattle.pt_semantics.specs.History.{IsLegal}
use Rattle.pt_semantics.specs.Tables.{tables_text}
use Rattle.pt_causality.specs.Ranked.{level_of}
use Rattle.pt_offsets.specs.Plans.{IsAdmitted, Parts}
use Rattle.pt_turn.specs.Platforms.{PlatformView, state_at}
use Rattle.pt_tables.specs.Log.{log_text}
use Rattle.pt_tables.specs.Platforms.{histories}
use Rattle.pt_confluence.specs.Gathered.{HaveFinished}
use Rattle.pt_sensor_files.specs.declared.recorded_fault.LateRows.TheVariants.{Refused}
use Rattle.pt_io.specs.Calls.{Contents, SinkCall}
use Rattle.pt_sensors.specs.Places.{of_run}
use Rattle.pt_sensor_files.specs.Recorded.{AllPass, AreRows}
use Rattle.pt_audit.proofs.Printing.{printed_is_lawful}
use Rattle.pt_words.specs.declared.orders.ClockChoice.{ClockChoice}
use Rattle.pt_run.specs.declared.fault.Fault.{Fault}
use Rattle.pt_run.specs.declared.fault.Fault.TheVariants as fault
use Rattle.pt_words.specs.declared.orders.Command.TheVariants.{Run}
use Rattle.pt_run.specs.Due.{AfterAdmission, Answer, HasRunBy, IsDueTo, UnlessMemory}
use Rattle.pt_run.specs.Leaving.{PutsMeaning, RunWith}
use Rattle.pt_run.specs.LawfulRuns.{FinishedRunsAreLawful, ReplaysWriteLawfulLogs, RunsWriteLawfulLogs, WritesLawfulLog}
use Rattle.pt_run.specs.Replaying.{LeavesReplay}
use Rattle.pt_run.specs.Runs.{IsKept}
use Rattle.pt_words.specs.Grammar.{GraphFile, over}
use Rattle.pt_run.specs.Written.{Leaves, stop_of}
use Rattle.pt_run.proofs.Finished.{kept_finished}
use Rattle.pt_run.proofs.Stages.{by_admission, by_file, with_fault}
use Rattle.pt_run.specs.GraphFiles.{graph_by}
use Rattle.pt_sensor_files.specs.Bytes.{OfBytes}

pub finished_is_lawful : FinishedRunsAreLawful
finished_is_lawful contents c plan platforms misses text done short =
    let rows : ℕ → List Row = of_run plan.graph done.run.rows in
    printed_is_lawful plan rows platforms done.firings text done.run.admitted
    (kept_finished plan rows platforms done.fit done.run.fact.kept)
    done.run.fact.kept.legal (done.held refl) done.meaning done.written short

-- what was put, from finished platforms
put_lawful : (left : Leaves) (plan : Parts) (rows : ℕ → List Row) (w : SinkCall) → IsAdmitted plan → (puts : PutsMeaning plan rows true left.platforms (Appends w.written_before w.written_now)) → HaveFinished plan rows left.platforms →
    ((i : ℕ) (v : PlatformView) → slice_get left.platforms i ≡ Some v → IsLegal plan.graph (level_of plan.ranks) i rows v.turns (state_at v)) → WritesLawfulLog w plan rows
put_lawful left plan rows w admitted puts finished legal = (
  tables_text plan.graph puts.firings ++ log_text plan.graph (histories left.platforms),
  puts.text,
  λ short. printed_is_lawful plan rows left.platforms puts.firings (tables_text plan.graph puts.firings ++ log_text plan.graph (histories left.platforms)) admitted finished legal (puts.held refl) puts.meaning refl short,
)

module _ (a : Answer) (workers : ℕ) (clock : ClockChoice) (contents : Contents) (blocks : List Named) (graph_file : GraphFile) where
  abbrev Lawful : Option Fault → Type 0
  Lawful o = o ≡ None → RunWith contents blocks graph_file (WritesLawfulLog a.wrote)

  ran : (plan : Parts) (all : ℕ → List Row) → OfBytes (contents graph_file.name) (λ bytes. graph_by blocks graph_file bytes ≡ Ok plan.graph) → IsAdmitted plan → AreRows contents plan.graph all → AllPass Refused plan.graph all → HasRunBy workers clock true a plan (of_run plan.graph all) → Lawful a.fault
  ran plan all file admitted are in_time k none =
      let rows : ℕ → List Row = of_run plan.graph all in
      let puts = k.leaves.written none in
      record {
        plan = plan;
        file = file;
        over = record {
          admitted = admitted;
          rows = all;
          sensors = are;
          in_time = in_time;
          fact = put_lawful a.left plan rows a.wrote admitted puts (kept_finished plan rows a.left.platforms puts.fit (subst (λ o. IsKept plan rows a.left.platforms (stop_of o)) none k.leaves.kept)) k.leaves.kept.legal;
        };
      }

  over_graph : (g : Graph) → OfBytes (contents graph_file.name) (λ bytes. graph_by blocks graph_file bytes ≡ Ok g) → AfterAdmission contents g (graph_file.name ∷ []) a (HasRunBy workers clock true a) → Lawful a.fault
  over_graph g file h =
      by_admission contents a Lawful g (graph_file.name ∷ []) (HasRunBy workers clock true a) h (λ actors is cycle e. absurd cc) (λ free send offset slack is first e. absurd cc)
      (λ free feasible sensor is unread e. absurd cc) (λ free feasible sensor f is fails e. absurd cc) (λ free feasible actor row seen limit is tardy e. absurd cc)
      (λ plan all same admitted are in_time k. ran plan all (subst (λ h. OfBytes (contents graph_file.name) (λ bytes. graph_by blocks graph_file bytes ≡ Ok h)) (sym same) file) admitted are in_time k)

  of_due : UnlessMemory a (IsDueTo (over (Run workers clock true) graph_file) contents blocks) → Lawful a.fault
  of_due (inl h) = with_fault contents a Lawful fault.Memory h (λ e. absurd cc)
  of_due (inr h) = by_file contents a Lawful blocks graph_file (λ g. AfterAdmission contents g (graph_file.name ∷ []) a (HasRunBy workers clock true a)) h (λ is unread e. absurd cc) (λ f is fails e. absurd cc) over_graph

pub writes_lawful : RunsWriteLawfulLogs
writes_lawful = of_due

pub replay_writes_lawful : ReplaysWriteLawfulLogs
replay_writes_lawful left contents blocks graph_file air w h =
    let run = h.run refl in
    let over = run.over in
    let leaves : LeavesReplay true None left w run.plan (of_run run.plan.graph over.rows) over.fact.recorded = over.fact.fact in
    let rows : ℕ → List Row = of_run run.plan.graph over.rows in
    record {
      plan = run.plan;
      file = run.file;
      over = record {
        admitted = over.admitted;
        rows = over.rows;
        sensors = over.sensors;
        in_time = over.in_time;
        fact = put_lawful left run.plan rows w over.admitted (leaves.written refl)
            (record { all = leaves.replayed.all; fit = leaves.replayed.fit; finished = λ i v at. (leaves.replayed.ends i v at).1; linked = leaves.replayed.linked refl }) leaves.replayed.legal;
      };
    }
