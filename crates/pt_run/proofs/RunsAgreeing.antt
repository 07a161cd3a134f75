-- Two runs of one graph over the same files.
use Rattle.std.proofs.Common.{◌≡◌, ℕ, suc, Bool, true, false, List, [], ◌∷◌, ◌++◌, Option, None, Some, Result, Ok, length, arith, slice_get, refl, sym, ap, ap₂, subst, ◌∙◌}
use Rattle.std.specs.Prelude.{flat_map}
use Rattle.std.proofs.Math.Path.{fun_ext}
use Rattle.pt_types.specs.declared.graph.Graph.{Graph}
use Rattle.pt_types.specs.declared.kind.Kind.{Kind}
use Rattle.pt_types.specs.declared.kind.Kind.TheVariants.{Sensor}
use Rattle.pt_types.specs.declared.firing.ActorFiring.{ActorFiring}
use Rattle.pt_types.specs.declared.rows.Row.{Row}
use Rattle.pt_history.specs.declared.miss.Miss.{Miss}
use Rattle.pt_sensors.specs.declared.fault.RowFault.{RowFault}
use Rattle.pt_sensors.specs.RowsOf.{rows_of}
use Rattle.pt_types.specs.Lookups.{kind_of}
use Rattle.pt_semantics.specs.Meaning.{IsMeaning}
use Rattle.pt_semantics.specs.Ranks.{AreRanks}
use Rattle.pt_semantics.specs.Tables.{tables_text}
use Rattle.pt_semantics.proofs.Acyclic.{ranks_are_one}
use Rattle.pt_semantics.proofs.Lookups.{none_some}
use Rattle.pt_laws.proofs.Unique.{meaning_is_one}
use Rattle.pt_causality.specs.Ranked.{level_of, rank_of}
use Rattle.pt_offsets.specs.Plans.{Parts}
use Rattle.pt_turn.specs.Platforms.{PlatformView}
use Rattle.pt_turn.specs.All.{histories_of}
use Rattle.pt_monitors.specs.Misses.{missed_of}
use Rattle.pt_monitors.specs.Platforms.{missed_by}
use Rattle.pt_tables.specs.Log.{log_text}
use Rattle.pt_tables.specs.Platforms.{histories}
use Rattle.pt_rounds.specs.Outcome.{IsOutcome as IsPacedOutcome}
use Rattle.pt_rounds.proofs.Agreeing.{runs_agree as paced_runs_agree}
use Rattle.pt_io.specs.Calls.{Contents}
use Rattle.pt_sensors.specs.Places.{of_run}
use Rattle.pt_sensor_files.specs.Recorded.{AreRows, RowsOfKind}
use Rattle.pt_run.specs.RunsAgreeing.{FinishedRunsAgree, RunsAgree, ReportsSensors}
use Rattle.pt_run.specs.Readings.{RunClocks}
use Rattle.pt_run.specs.Runs.{IsFinishedRun, log_if}
use Rattle.pt_sensors.specs.declared.limits.FileLimits.{FileLimits}
use Rattle.pt_sensors.specs.Limits.{file_limits}
use Rattle.pt_sensor_files.specs.Bytes.{OfBytes}

-- a file with known content has one list of rows
same_ok : (rows more : List Row) → ◌≡◌ {A = Result (List Row) RowFault} (Ok rows) (Ok more) → rows ≡ more
same_ok rows more e = cc

file_rows : (limits : FileLimits) (reported : Option (List ℕ)) (bytes : List ℕ) (rows more : List Row) → reported ≡ Some bytes → OfBytes reported (λ bytes. rows_of limits bytes ≡ Ok rows) → OfBytes reported (λ bytes. rows_of limits bytes ≡ Ok more) → rows ≡ more
file_rows limits None bytes rows more e h k = absurd (none_some bytes e)
file_rows limits (Some b) bytes rows more e h k = same_ok rows more (sym h ∙ k)

kind_rows : (limits : FileLimits) (contents : Contents) (kind : Kind) (rows more : List Row) → ((file : List ℕ) (bound : ℕ) → kind ≡ Sensor file bound → (bytes : List ℕ) × (contents file ≡ Some bytes)) → RowsOfKind limits contents kind rows → RowsOfKind limits contents kind more → rows ≡ more
kind_rows limits contents (Sensor file bound) rows more reported h k = let f = reported file bound refl in file_rows limits (contents file) f.0 rows more f.1 h k
kind_rows limits contents kind rows more reported h k = h ∙ sym k

-- sensors whose files have known contents have one list of rows each
pub rows_are_one : (contents : Contents) (g : Graph) (rows more : ℕ → List Row) → ReportsSensors contents g → AreRows contents g rows → AreRows contents g more → rows ≡ more
rows_are_one contents g rows more reported h k = fun_ext (λ a. kind_rows (file_limits g.claims) contents (kind_of g a) (rows a) (more a) (reported a) (h a) (k a))

-- the rows of the other run
pub same_rows : (contents : Contents) (g other : Graph) (rows more : ℕ → List Row) → g ≡ other → ReportsSensors contents g → AreRows contents g rows → AreRows contents other more → of_run other more ≡ of_run g rows
same_rows contents g other rows more same reported h k =
    ap₂ of_run (sym same) (sym (rows_are_one contents g rows more reported h (subst (λ z. AreRows contents z more) (sym same) k)))

pub runs_agree : RunsAgree
runs_agree contents c d plan other platforms others fault stop one two same reported h k =
    paced_runs_agree plan other (of_run plan.graph h.rows) platforms others fault stop same (h.fact.paced one)
    (subst (λ rows. IsPacedOutcome other (level_of other.ranks) rows others stop) (same_rows contents plan.graph other.graph h.rows k.rows same reported h.sensors k.sensors) (k.fact.paced two))

-- the histories one by one are the list of them
pub same_list : (ps os : List PlatformView) → length ps ≡ length os → ((i : ℕ) → histories_of ps i ≡ histories_of os i) → histories ps ≡ histories os
same_list [] [] e h = refl
same_list [] (w ∷ os) e h = absurd (omega (arith, e))
same_list (v ∷ ps) [] e h = absurd (omega (arith, e))
same_list (v ∷ ps) (w ∷ os) e h =
    let first : v.turns ≡ w.turns = h 0 in
    let later : (i : ℕ) → histories_of ps i ≡ histories_of os i = λ i. h (suc i) in
    let rest : histories ps ≡ histories os = same_list ps os (omega (arith, e)) later in
    λ i. first i ∷ rest i

-- the histories of platforms of one graph determine what they missed
pub by_histories : (g : Graph) (ps : List PlatformView) → ((i : ℕ) (v : PlatformView) → slice_get ps i ≡ Some v → v.plan.graph ≡ g) → flat_map missed_by ps ≡ flat_map (missed_of g) (histories ps)
by_histories g [] are = refl
by_histories g (v ∷ ps) are = ap₂ (λ a b. a ++ b) (ap (λ z. missed_of z v.turns) (are 0 v refl)) (by_histories g ps (λ i w at. are (suc i) w at))

pub same_log : (log : Bool) (g : Graph) (ps os : List PlatformView) → histories ps ≡ histories os → log_if log g ps ≡ log_if log g os
same_log true g ps os same = ap (log_text g) same
same_log false g ps os same = refl

-- what a finished run shows of its graph
record Shows (contents : Contents) (g : Graph) (log : Bool) (platforms : List PlatformView) (misses : List Miss) (text : List ℕ) : Type 0 where
  rank : ℕ → ℕ
  ranks : AreRanks g rank
  rows : ℕ → List Row
  sensors : AreRows contents g rows
  firings : List ActorFiring
  meaning : IsMeaning g rank (of_run g rows) firings
  written : text ≡ tables_text g firings ++ log_if log g platforms
  missed : misses ≡ flat_map missed_by platforms
  graphs : (i : ℕ) (v : PlatformView) → slice_get platforms i ≡ Some v → v.plan.graph ≡ g
  count : length platforms ≡ length g.platforms

shows : (contents : Contents) (c : RunClocks) (plan : Parts) (log : Bool) (platforms : List PlatformView) (misses : List Miss) (text : List ℕ) → IsFinishedRun contents c plan log platforms misses text → Shows contents plan.graph log platforms misses text
shows contents c plan log platforms misses text h = record {
  rank = rank_of plan.ranks;
  ranks = h.run.admitted.ranks;
  rows = h.run.rows;
  sensors = h.run.sensors;
  firings = h.firings;
  meaning = h.meaning;
  written = h.written;
  missed = h.missed;
  graphs = λ i v at. ap (λ (p : Parts). p.graph) (h.run.fact.kept.all.plans i v at);
  count = h.run.fact.kept.all.count;
}

module _ (contents : Contents) (g : Graph) (log : Bool) (platforms others : List PlatformView) (misses missed : List Miss) (text written : List ℕ) (reported : ReportsSensors contents g) (same : (i : ℕ) → histories_of platforms i ≡ histories_of others i)
    (h : Shows contents g log platforms misses text) (k : Shows contents g log others missed written) where
  listed : histories platforms ≡ histories others
  listed = same_list platforms others (h.count ∙ sym k.count) same

  firings : h.firings ≡ k.firings
  firings =
      meaning_is_one g h.rank (of_run g h.rows) h.firings k.firings h.meaning
      (subst (λ rank. IsMeaning g rank (of_run g h.rows) k.firings) (ranks_are_one g k.rank h.rank k.ranks h.ranks)
      (subst (λ rows. IsMeaning g k.rank (of_run g rows) k.firings) (rows_are_one contents g k.rows h.rows reported k.sensors h.sensors) k.meaning))

  texts : text ≡ written
  texts = h.written ∙ ap₂ (λ a b. a ++ b) (ap (tables_text g) firings) (same_log log g platforms others listed) ∙ sym k.written

  all_missed : misses ≡ missed
  all_missed = h.missed ∙ by_histories g platforms h.graphs ∙ ap (flat_map (missed_of g)) listed ∙ sym (by_histories g others k.graphs) ∙ sym k.missed

  both : (text ≡ written) × (misses ≡ missed)
  both = (texts, all_missed)

-- finished runs with the same histories
pub texts_agree : (contents : Contents) (c d : RunClocks) (plan other : Parts) (log : Bool) (platforms others : List PlatformView) (misses missed : List Miss) (text written : List ℕ) → plan.graph ≡ other.graph → ReportsSensors contents plan.graph → ((i : ℕ) → histories_of platforms i ≡ histories_of others i) →
    IsFinishedRun contents c plan log platforms misses text → IsFinishedRun contents d other log others missed written → (text ≡ written) × (misses ≡ missed)
texts_agree contents c d plan other log platforms others misses missed text written same reported alike h k =
    both contents plan.graph log platforms others misses missed text written reported alike
    (shows contents c plan log platforms misses text h)
    (subst (λ g. Shows contents g log others missed written) (sym same) (shows contents d other log others missed written k))

pub finished_agree : FinishedRunsAgree
finished_agree contents c d plan other log platforms others misses missed text written one two same reported h k =
    texts_agree contents c d plan other log platforms others misses missed text written same reported (runs_agree contents c d plan other platforms others None None one two same reported h.run k.run).0 h k
