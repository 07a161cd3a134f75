-- Platforms that have finished a run.
use Rattle.std.proofs.Common.{◌≡◌, ◌++◌, ℕ, Bool, true, false, List, Option, None, Some, Result, Ok, Err, IfOk, IfErr, refl, sym, ap, subst, ◌∙◌, append-nil, inl, inr}
use Rattle.std.specs.Prelude.{◌↔◌, flat_map}
use Rattle.pt_types.specs.declared.rows.Row.{Row}
use Rattle.pt_types.specs.declared.graph.Graph.{Graph}
use Rattle.pt_types.specs.declared.firing.ActorFiring.{ActorFiring}
use Rattle.pt_history.specs.declared.miss.Miss.{Miss}
use Rattle.pt_paced_laws.specs.Schedule.{IsMissedByMeaning}
use Rattle.pt_semantics.specs.Lists.{IsIn}
use Rattle.pt_semantics.specs.Meaning.{IsMeaning}
use Rattle.pt_semantics.specs.Rows.{FitRows}
use Rattle.pt_semantics.specs.Tables.{tables_text}
use Rattle.pt_causality.specs.Ranked.{level_of, rank_of}
use Rattle.pt_turn.specs.Platforms.{PlatformView}
use Rattle.pt_turn.specs.All.{AreAll, AreReady}
use Rattle.pt_tables.specs.Log.{log_head, log_text}
use Rattle.pt_tables.specs.Platforms.{AreInOrder, histories, platform_lines}
use Rattle.pt_tables.proofs.InOrder.{in_order as lines_in_order}
use Rattle.pt_monitors.specs.Platforms.{missed_by}
use Rattle.pt_confluence.specs.Gathered.{AreTables, HaveFinished}
use Rattle.pt_rounds.specs.Outcome.{IsOutcome as IsPacedOutcome}
use Rattle.pt_io.specs.Calls.{Contents, SourceCall}
use Rattle.pt_sensors.specs.Places.{of_run}
use Rattle.pt_offsets.specs.Plans.{IsAdmitted, Parts}
use Rattle.pt_turn.specs.declared.fault.TurnFault.{TurnFault}
use Rattle.pt_run.specs.declared.outputs.Outputs.{Outputs}
use Rattle.pt_run.specs.declared.outcome.Stopped.{Stopped}
use Rattle.pt_run.specs.Readings.{RunClocks}
use Rattle.pt_run.specs.Runs.{AreHeldIf, CauseOfStop, HasOpened, IsOutcomeOver, IsKept, IsOutput, HasOutputs, IsStop, IsText, AreOutputs, IsOutcomeBy, log_if, asked_log}
use Rattle.pt_run.proofs.Missed.{missed_in}

pub in_order : (plan : Parts) (rows : ℕ → List Row) (platforms : List PlatformView) → AreAll plan rows platforms → AreInOrder plan.graph platforms
in_order plan rows platforms h = record { graphs = λ i v at. ap (λ (p : Parts). p.graph) (h.plans i v at); numbers = h.numbers }

-- where no log is asked for, the text is that of the tables,
pub without_log : (plan : Parts) (platforms : List PlatformView) (text : List ℕ) → ((rows : ℕ → List Row) → HaveFinished plan rows platforms → AreTables plan rows text) → IsText plan false platforms text
without_log plan platforms text tables rows finished =
    let are = tables rows finished in (are.firings, are.meaning, are.written ∙ sym (append-nil (tables_text plan.graph are.firings)))

-- and where it is, the log follows
pub with_log : (plan : Parts) (platforms : List PlatformView) (front text : List ℕ) → ((rows : ℕ → List Row) → HaveFinished plan rows platforms → AreTables plan rows front)
    → ((g : Graph) → AreInOrder g platforms → text ≡ front ++ log_text g (histories platforms)) → IsText plan true platforms text
with_log plan platforms front text tables logged rows finished =
    let are = tables rows finished in (are.firings, are.meaning, logged plan.graph (in_order plan rows platforms finished.all) ∙ ap (λ z. z ++ log_text plan.graph (histories platforms)) are.written)

-- so it is whether or not it is asked for
pub text_of_outputs : (plan : Parts) (log : Bool) (platforms : List PlatformView) (front : List ℕ) → ((rows : ℕ → List Row) → HaveFinished plan rows platforms → AreTables plan rows front) → IsText plan log platforms (front ++ asked_log log platforms)
text_of_outputs plan false platforms front tables = subst (IsText plan false platforms) (sym (append-nil front)) (without_log plan platforms front tables)
text_of_outputs plan true platforms front tables =
    with_log plan platforms front (front ++ (log_head ++ flat_map platform_lines platforms)) tables (λ g are. ap (λ lines. front ++ (log_head ++ lines)) (lines_in_order g platforms are))

pub have_finished : (plan : Parts) (rows : ℕ → List Row) (platforms : List PlatformView) → FitRows plan.graph rows → IsPacedOutcome plan (level_of plan.ranks) rows platforms None → HaveFinished plan rows platforms
have_finished plan rows platforms fit run = record { all = run.all; fit = fit; finished = λ i v at. (run.ends i v at).1; linked = run.linked refl }

pub kept_finished : (plan : Parts) (rows : ℕ → List Row) (platforms : List PlatformView) → FitRows plan.graph rows → IsKept plan rows platforms None → HaveFinished plan rows platforms
kept_finished plan rows platforms fit kept = record { all = kept.all; fit = fit; finished = λ i v at. (kept.ends i v at).1; linked = kept.linked refl }

-- in a paced run the misses are those of the meaning
pub missed_as_meant : (plan : Parts) (rows : ℕ → List Row) (platforms : List PlatformView) (misses : List Miss) (firings : List ActorFiring) → IsAdmitted plan → IsPacedOutcome plan (level_of plan.ranks) rows platforms None → misses ≡ flat_map missed_by platforms →
    IsMeaning plan.graph (rank_of plan.ranks) rows firings → (m : Miss) → IsIn m misses ↔ IsMissedByMeaning plan.graph firings m.actor m.tag m.reading m.limit
missed_as_meant plan rows platforms misses firings admitted have missed meaning m =
    let kept = missed_in plan rows platforms have.all misses missed m in
    let meant = have.missed_as_meant refl (rank_of plan.ranks) firings admitted.ranks meaning m.actor m.tag m.reading m.limit in
    ((λ mem. meant.0 (kept.0 mem)), (λ missed. kept.1 (meant.1 missed)))

-- a run that finished, with its outputs
has_outputs : (contents : Contents) (c : RunClocks) (plan : Parts) (log : Bool) (platforms : List PlatformView) (ran : Outputs) (run : IsOutcomeOver contents c plan platforms None) → FitRows plan.graph (of_run plan.graph run.rows) → AreOutputs plan log platforms ran → HasOutputs contents c plan log ran
has_outputs contents c plan log platforms ran run fit reported =
    let rows : ℕ → List Row = of_run plan.graph run.rows in
    let text = reported.text rows (kept_finished plan rows platforms fit run.fact.kept) in (
      record {
        run = record { admitted = run.admitted; rows = run.rows; sensors = run.sensors; in_time = run.in_time; fact = subst (λ ps. IsOutcomeBy c plan rows ps None) (sym reported.platforms_are) run.fact };
        fit = fit;
        firings = text.0;
        meaning = text.1;
        written = text.2 ∙ ap (λ ps. tables_text plan.graph text.0 ++ log_if log plan.graph ps) (sym reported.platforms_are);
        held = subst (AreHeldIf log) (sym reported.platforms_are) reported.held;
        missed = reported.misses ∙ ap (flat_map missed_by) (sym reported.platforms_are);
        missed_as_meant = λ paced. missed_as_meant plan rows platforms ran.misses.items text.0 run.admitted (run.fact.paced paced) reported.misses text.1;
      },
      reported.lines,
    )

-- a run over the rows of the sensors' files, by the outcome of the platforms that were opened with them
pub run_of_outcome : (contents : Contents) (c : RunClocks) (plan : Parts) (log : Bool) (opened platforms : List PlatformView) (fault : Option (ℕ × TurnFault)) (result : Result Outputs Stopped) (r : SourceCall) →
    HasOpened contents plan opened → ((other : Parts) (rows : ℕ → List Row) → AreReady other rows opened → IsOutcomeBy c other rows platforms fault) →
    IfOk result (IsOutput fault plan log platforms) → IfErr result (IsStop None fault platforms) → IfOk result (HasOutputs contents c plan log) × IfErr result (λ s. CauseOfStop s contents c plan r)
run_of_outcome contents c plan log opened platforms fault result r has leaves output stopped = (by_output result output, by_stop fault refl result stopped)
  where
    run : (ps : List PlatformView) (f : Option (ℕ × TurnFault)) → ps ≡ platforms → fault ≡ f → IsOutcomeOver contents c plan ps f
    run ps f same is = record {
      admitted = has.admitted;
      rows = has.rows;
      sensors = has.sensors;
      in_time = has.in_time;
      fact =
          subst (λ z. IsOutcomeBy c plan (of_run plan.graph has.rows) z f) (sym same)
          (subst (λ z. IsOutcomeBy c plan (of_run plan.graph has.rows) platforms z) is (leaves plan (of_run plan.graph has.rows) has.fact));
    }

    by_output : (result : Result Outputs Stopped) → IfOk result (IsOutput fault plan log platforms) → IfOk result (HasOutputs contents c plan log)
    by_output (Ok ran) (none, reported) = has_outputs contents c plan log platforms ran (run platforms None refl none) has.fact.fit reported
    by_output (Err s) h = tt

    by_stop : (f : Option (ℕ × TurnFault)) → fault ≡ f → (result : Result Outputs Stopped) → IfErr result (IsStop None f platforms) → IfErr result (λ s. CauseOfStop s contents c plan r)
    by_stop f is (Ok ran) h = tt
    by_stop None is (Err s) h = inl (inl h.0, h.1)
    by_stop (Some f) is (Err s) h = inr (f, h.0, run s.platforms.items (Some f) h.1 is)
