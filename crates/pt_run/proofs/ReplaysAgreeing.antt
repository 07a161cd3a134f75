-- Two replays of one recording over the same files.
use Rattle.std.proofs.Common.{◌≡◌, ◌<◌, ◌≤◌, ◌++◌, ℕ, Bool, List, Option, None, Some, Ok, false, length, arith, slice_get, refl, sym, ap, ap₂, subst, ◌∙◌, ⊎_elim}
use Rattle.std.specs.Prelude.{flat_map}
use Rattle.std.proofs.lemmas.Bool.{cases_lt}
use Rattle.std.proofs.lemmas.Option.{slice_get_within}
use Rattle.pt_io.specs.Causes.{Appends}
use Rattle.pt_types.specs.declared.graph.Graph.{Graph}
use Rattle.pt_types.specs.declared.rows.Row.{Row}
use Rattle.pt_blocks.specs.declared.blocks.Named.{Named}
use Rattle.pt_graph_text.specs.declared.fault.GraphFault.{GraphFault}
use Rattle.pt_semantics.specs.Kept.{kept}
use Rattle.pt_semantics.specs.Lists.{IsIn}
use Rattle.pt_semantics.specs.Meaning.{IsMeaning}
use Rattle.pt_semantics.specs.Ranks.{AreLevels, AreRanks}
use Rattle.pt_semantics.specs.Tables.{tables_text}
use Rattle.pt_semantics.specs.Visits.{VisitRecord}
use Rattle.pt_semantics.proofs.Acyclic.{levels_are_one, ranks_are_one}
use Rattle.pt_semantics.proofs.Lookups.{none_some, same_some}
use Rattle.pt_laws.proofs.Unique.{meaning_is_one}
use Rattle.pt_engine.specs.Asked.{EndsAt}
use Rattle.pt_engine.proofs.Listed.{member}
use Rattle.pt_causality.specs.Ranked.{level_of, rank_of}
use Rattle.pt_offsets.specs.Plans.{Parts}
use Rattle.pt_turn.specs.declared.fault.TurnFault.{TurnFault}
use Rattle.pt_turn.specs.All.{histories_of}
use Rattle.pt_turn.specs.Platforms.{PlatformView}
use Rattle.pt_monitors.specs.Misses.{missed_of}
use Rattle.pt_tables.specs.Platforms.{histories}
use Rattle.pt_io.specs.Calls.{Contents, SourceCall, SinkCall}
use Rattle.pt_sensors.specs.Places.{of_run}
use Rattle.pt_types.specs.declared.air.Air.{Air}
use Rattle.pt_air.specs.declared.fault.AirFault.{AirFault}
use Rattle.pt_air.specs.AirOf.{air_of}
use Rattle.pt_replay_laws.specs.ReplayRounds.{IsWholeReplay}
use Rattle.pt_replay_laws.specs.ReplayState.{ReplayState}
use Rattle.pt_replay_laws.proofs.OneReplay.{replays_are_one}
use Rattle.pt_replay.specs.Outcome.{IsOutcome as IsReplayOutcome, IsAfterReplay}
use Rattle.pt_run.specs.declared.fault.Fault.{Fault}
use Rattle.pt_run.specs.Agreeing.{ReportsAll}
use Rattle.pt_run.specs.Leaving.{PutsMeaning, RunWith}
use Rattle.pt_run.specs.Replaying.{LeavesReplay, OnAir, stop_of_replay}
use Rattle.pt_run.specs.ReplaysAgreeing.{AreStoppedAlike, LeaveAlike, ReplayCallsAgree, ReplaysAgree, WritesTables}
use Rattle.pt_run.specs.Runs.{IsKept, log_if}
use Rattle.pt_words.specs.Grammar.{GraphFile, replay}
use Rattle.pt_run.specs.Written.{Leaves}
use Rattle.pt_run.proofs.CallsAgreeing.{of_bytes}
use Rattle.pt_run.proofs.Complete.{same_ok}
use Rattle.pt_run.proofs.OneStop.{stop_one, turns_of}
use Rattle.pt_run.proofs.Replayed.{replay_headline}
use Rattle.pt_run.proofs.RunsAgreeing.{by_histories, same_list, same_log, same_rows}
use Rattle.pt_run.proofs.StepsAgreeing.{none_past}
use Rattle.pt_run.specs.GraphFiles.{graph_by}
use Rattle.pt_sensor_files.specs.Bytes.{OfBytes}

-- a whole replay with these turns in its last round
abbrev IsReplayOf : Graph → (ℕ → ℕ) → Air → (ℕ → List Row) → ReplayState → List VisitRecord → Type 0
IsReplayOf g level air rows y made = (run : IsWholeReplay g level air rows y) × (run.made ≡ made)

kept_of : (plan : Parts) (rows : ℕ → List Row) (air : Air) (platforms : List PlatformView) (fault : Option (ℕ × TurnFault)) → IsReplayOutcome plan (level_of plan.ranks) rows air platforms fault → IsKept plan rows platforms fault
kept_of plan rows air platforms fault h = record { all = h.all; legal = h.legal; matched = h.matched; linked = h.linked; ends = h.ends }

-- two replays with the same last round: a platform without a fault after one has none after the other
fine_too : (plan other : Parts) (rows : ℕ → List Row) (level levels : ℕ → ℕ) (air : Air) (platforms others : List PlatformView) (a : IsAfterReplay plan rows level air platforms) (b : IsAfterReplay other rows levels air others) → a.run.made ≡ b.run.made →
    (i : ℕ) (v w : PlatformView) → slice_get platforms i ≡ Some v → slice_get others i ≡ Some w → v.fault ≡ None → w.fault ≡ None
fine_too plan other rows level levels air platforms others a b same i v w at there none =
    (b.faults i w there).1 (subst (λ made. (m : VisitRecord) → IsIn m made → m.platform ≡ i → m.fault ≡ false) same ((a.faults i v at).0 none))

module _ (plan other : Parts) (rows : ℕ → List Row) (air : Air) (platforms others : List PlatformView) (fault stop : Option (ℕ × TurnFault)) (graphs : plan.graph ≡ other.graph)
    (h : IsReplayOutcome plan (level_of plan.ranks) rows air platforms fault) (k : IsReplayOutcome other (level_of other.ranks) rows air others stop) where
  levels : level_of other.ranks ≡ level_of plan.ranks
  levels = levels_are_one plan.graph (level_of other.ranks) (level_of plan.ranks) (subst (λ (g : Graph). AreLevels g (level_of other.ranks)) (sym graphs) k.admitted.levels) h.admitted.levels

  -- the other replay is one of this graph
  replayed : IsReplayOf plan.graph (level_of plan.ranks) air rows k.after.state k.after.run.made
  replayed =
      subst (λ level. IsReplayOf plan.graph level air rows k.after.state k.after.run.made) levels
      (subst (λ g. IsReplayOf g (level_of other.ranks) air rows k.after.state k.after.run.made) (sym graphs) (k.after.run, refl))

  one : (h.after.state ≡ k.after.state) × (h.after.run.made ≡ replayed.0.made)
  one = replays_are_one plan.graph (level_of plan.ranks) air rows h.after.state k.after.state h.after.run replayed.0

  made : h.after.run.made ≡ k.after.run.made
  made = one.1 ∙ replayed.1

  many : length others ≡ length platforms
  many = k.all.count ∙ ap (λ (g : Graph). length g.platforms) (sym graphs) ∙ sym h.all.count

  pub same : (i : ℕ) → histories_of platforms i ≡ histories_of others i
  same i =
      ⊎_elim
      (λ (lt : i < length platforms).
      let v = member platforms i lt in
      let w = member others i (subst (λ n. i < n) (sym many) lt) in
      turns_of platforms i v.0 v.1 ∙ h.after.kept_turns i v.0 v.1 ∙ ap (λ (y : ReplayState). kept (y.did i)) one.0 ∙ sym (k.after.kept_turns i w.0 w.1) ∙ sym (turns_of others i w.0 w.1))
      (λ (le : length platforms ≤ i). none_past platforms i le ∙ sym (none_past others i (subst (λ n. n ≤ i) (sym many) le)))
      (cases_lt i (length platforms))

  fine : (i : ℕ) (v w : PlatformView) → slice_get platforms i ≡ Some v → slice_get others i ≡ Some w → v.fault ≡ None → w.fault ≡ None
  fine = fine_too plan other rows (level_of plan.ranks) (level_of other.ranks) air platforms others h.after k.after made

  fine_back : (i : ℕ) (v w : PlatformView) → slice_get platforms i ≡ Some v → slice_get others i ≡ Some w → w.fault ≡ None → v.fault ≡ None
  fine_back i v w at there = fine_too other plan rows (level_of other.ranks) (level_of plan.ranks) air others platforms k.after h.after (sym made) i w v there at

  here : (i : ℕ) (w : PlatformView) → slice_get others i ≡ Some w → (v : PlatformView) × (slice_get platforms i ≡ Some v)
  here i w there = member platforms i (subst (λ n. i < n) many (slice_get_within others i w there))

  there : (i : ℕ) (v : PlatformView) → slice_get platforms i ≡ Some v → (w : PlatformView) × (slice_get others i ≡ Some w)
  there i v at = member others i (subst (λ n. i < n) (sym many) (slice_get_within platforms i v at))

  -- the first platform with a fault is one
  number : (f e : ℕ × TurnFault) → EndsAt plan.graph platforms (Some f) → EndsAt other.graph others (Some e) → f.0 ≡ e.0
  number f e (v, at, is, shows, before) (w, other_at, has, shown, first) =
      ⊎_elim
      (λ (sooner : f.0 < e.0). let x = there f.0 v at in absurd (none_some f.1 (sym (fine_back f.0 v x.0 at x.1 (first f.0 x.0 sooner x.1)) ∙ is)))
      (λ (le : e.0 ≤ f.0).
      ⊎_elim
      (λ (later : e.0 < f.0). let x = here e.0 w other_at in absurd (none_some e.1 (sym (fine e.0 x.0 w x.1 other_at (before e.0 x.0 later x.1)) ∙ has)))
      (λ (ge : f.0 ≤ e.0). antisym f.0 e.0 ge le)
      (cases_lt e.0 f.0))
      (cases_lt f.0 e.0)
    where
      antisym : (a b : ℕ) → a ≤ b → b ≤ a → a ≡ b
      antisym a b le ge = omega (arith, le, ge)

  pub stopped : AreStoppedAlike fault stop
  stopped = by_ends fault stop refl refl h.ends k.ends
    where
      by_ends : (f e : Option (ℕ × TurnFault)) → fault ≡ f → stop ≡ e → EndsAt plan.graph platforms f → EndsAt other.graph others e → AreStoppedAlike f e
      by_ends None None is has a b = tt
      by_ends None (Some e) is has a (w, at, faulty, shown, first) = let x = here e.0 w at in absurd (none_some e.1 (sym (fine e.0 x.0 w x.1 at (a e.0 x.0 x.1).0) ∙ faulty))
      by_ends (Some f) None is has (v, at, faulty, shows, before) b = let x = there f.0 v at in absurd (none_some f.1 (sym (fine_back f.0 v x.0 at x.1 (b f.0 x.0 x.1).0) ∙ faulty))
      by_ends (Some f) (Some e) is has a b = (
        number f e a b,
        λ kind. ap (λ (z : ℕ × TurnFault). z.1)
            (same_some f e (stop_one plan other rows rows platforms others (Some f) (Some e) graphs same (number f e a b, kind)
            (subst (IsKept plan rows platforms) is (kept_of plan rows air platforms fault h)) (subst (IsKept other rows others) has (kept_of other rows air others stop k)))),
      )

pub replays_agree : ReplaysAgree
replays_agree plan other rows air platforms others fault stop graphs h k = (
  same plan other rows air platforms others fault stop graphs h k,
  stopped plan other rows air platforms others fault stop graphs h k,
)

-- two calls that ran
module _ (log logged : Bool) (contents : Contents) (blocks : List Named) (graph_file : GraphFile) (air bytes : List ℕ) (o p : Option Fault) (left leaves : Leaves) (r q : SourceCall) (w v : SinkCall) (all : ReportsAll contents blocks graph_file) (reported : contents air ≡ Some bytes)
    (h : RunWith contents blocks graph_file (OnAir contents air (LeavesReplay log o left w))) (k : RunWith contents blocks graph_file (OnAir contents air (LeavesReplay logged p leaves v))) where
  defines : (g : Graph) → OfBytes (contents graph_file.name) (λ bytes. graph_by blocks graph_file bytes ≡ Ok g) → graph_by blocks graph_file all.bytes ≡ Ok g
  defines g file = of_bytes (contents graph_file.name) all.bytes (λ bytes. graph_by blocks graph_file bytes ≡ Ok g) all.reported file

  graphs : h.plan.graph ≡ k.plan.graph
  graphs = same_ok {E = GraphFault} h.plan.graph k.plan.graph (sym (defines h.plan.graph h.file) ∙ defines k.plan.graph k.file)

  rows : of_run k.plan.graph k.over.rows ≡ of_run h.plan.graph h.over.rows
  rows = same_rows contents h.plan.graph k.plan.graph h.over.rows k.over.rows graphs (all.files h.plan.graph (defines h.plan.graph h.file)) h.over.sensors k.over.sensors

  says : (g : Graph) (recorded : Air) → OfBytes (contents air) (λ bytes. air_of g bytes ≡ Ok recorded) → air_of g bytes ≡ Ok recorded
  says g recorded file = of_bytes (contents air) bytes (λ bytes. air_of g bytes ≡ Ok recorded) reported file

  recorded : k.over.fact.recorded ≡ h.over.fact.recorded
  recorded = same_ok {E = AirFault} k.over.fact.recorded h.over.fact.recorded
      (sym (says k.plan.graph k.over.fact.recorded k.over.fact.file) ∙ ap (λ g. air_of g bytes) (sym graphs) ∙ says h.plan.graph h.over.fact.recorded h.over.fact.file)

  outcome : IsReplayOutcome k.plan (level_of k.plan.ranks) (of_run h.plan.graph h.over.rows) h.over.fact.recorded leaves.platforms (stop_of_replay p)
  outcome =
      subst (λ a. IsReplayOutcome k.plan (level_of k.plan.ranks) (of_run h.plan.graph h.over.rows) a leaves.platforms (stop_of_replay p)) recorded
      (subst (λ rs. IsReplayOutcome k.plan (level_of k.plan.ranks) rs k.over.fact.recorded leaves.platforms (stop_of_replay p)) rows k.over.fact.fact.replayed)

  agree : ((i : ℕ) → histories_of left.platforms i ≡ histories_of leaves.platforms i) × AreStoppedAlike (stop_of_replay o) (stop_of_replay p)
  agree = replays_agree h.plan k.plan (of_run h.plan.graph h.over.rows) h.over.fact.recorded left.platforms leaves.platforms (stop_of_replay o) (stop_of_replay p) graphs h.over.fact.fact.replayed outcome

  counts : length left.platforms ≡ length leaves.platforms
  counts = h.over.fact.fact.replayed.all.count ∙ ap (λ (g : Graph). length g.platforms) graphs ∙ sym outcome.all.count

  listed : histories left.platforms ≡ histories leaves.platforms
  listed = same_list left.platforms leaves.platforms counts agree.0

  missed : o ≡ None → p ≡ None → left.misses ≡ leaves.misses
  missed eo ep =
      h.over.fact.fact.misses eo ∙ by_histories h.plan.graph left.platforms (λ i x at. ap (λ (q : Parts). q.graph) (h.over.fact.fact.replayed.all.plans i x at))
      ∙ ap₂ (λ (g : Graph) turns. flat_map (missed_of g) turns) graphs listed
      ∙ sym (by_histories k.plan.graph leaves.platforms (λ i x at. ap (λ (q : Parts). q.graph) (outcome.all.plans i x at))) ∙ sym (k.over.fact.fact.misses ep)

  -- what the other one put, of this graph and these rows
  module _ (a : PutsMeaning h.plan (of_run h.plan.graph h.over.rows) log left.platforms (Appends w.written_before w.written_now)) (b : PutsMeaning k.plan (of_run k.plan.graph k.over.rows) logged leaves.platforms (Appends v.written_before v.written_now)) where
    ranks : rank_of k.plan.ranks ≡ rank_of h.plan.ranks
    ranks = ranks_are_one h.plan.graph (rank_of k.plan.ranks) (rank_of h.plan.ranks) (subst (λ (g : Graph). AreRanks g (rank_of k.plan.ranks)) (sym graphs) k.over.admitted.ranks) h.over.admitted.ranks

    firings : b.firings ≡ a.firings
    firings = meaning_is_one h.plan.graph (rank_of h.plan.ranks) (of_run h.plan.graph h.over.rows) b.firings a.firings
        (subst (λ rank. IsMeaning h.plan.graph rank (of_run h.plan.graph h.over.rows) b.firings) ranks
        (subst (λ rs. IsMeaning h.plan.graph (rank_of k.plan.ranks) rs b.firings) rows
        (subst (λ g. IsMeaning g (rank_of k.plan.ranks) (of_run k.plan.graph k.over.rows) b.firings) (sym graphs) b.meaning))) a.meaning

    written : WritesTables v h.plan.graph a.firings logged left.platforms
    written =
        subst (Appends v.written_before v.written_now)
        (ap₂ (λ (g : Graph) xs. tables_text g xs ++ log_if logged g leaves.platforms) (sym graphs) firings
        ∙ ap (λ text. tables_text h.plan.graph a.firings ++ text) (sym (same_log logged h.plan.graph left.platforms leaves.platforms listed))) b.text

  alike : LeaveAlike log logged (record { fault = o; left = left; read = r; wrote = w }) (record { fault = p; left = leaves; read = q; wrote = v })
  alike = record {
    histories = agree.0;
    stop = agree.1;
    misses = missed;
    text = λ eo ep.
        let a = h.over.fact.fact.written eo in
        let b = k.over.fact.fact.written ep in
        (h.plan.graph, a.firings, a.text, written a b);
  }

pub replay_calls_agree : ReplayCallsAgree
replay_calls_agree workers others log logged contents blocks graph_file air bytes a b all reported ran too due more =
    let order = replay graph_file air workers log in
    let asked = replay graph_file air others logged in
    alike log logged contents blocks graph_file air bytes a.fault b.fault a.left b.left a.read b.read a.wrote b.wrote all reported
    ((replay_headline (Some order) contents blocks a due workers log graph_file air refl).run ran)
    ((replay_headline (Some asked) contents blocks b more others logged graph_file air refl).run too)
