-- After a replayed run within the stated bounds the platforms have done what they do in the paced run.
use Rattle.std.proofs.Common.{◌≡◌, ◌∙◌, ℕ, ◌<◌, ◌≤◌, ◌++◌, true, false, List, Option, None, Some, length, slice_get, refl, sym, ap, subst, ⊎_elim, arith}
use Rattle.std.proofs.lemmas.Bool.{cases_Bool, cases_lt}
use Rattle.pt_tags.specs.declared.tag.Tag.{Tag}
use Rattle.pt_types.specs.declared.graph.Unit.{Unit}
use Rattle.pt_types.specs.declared.rows.Row.{Row}
use Rattle.pt_types.specs.Lookups.{platform_of}
use Rattle.pt_semantics.specs.Counts.{unit_firings}
use Rattle.pt_semantics.specs.History.{LegalOnTime, claims_of}
use Rattle.pt_semantics.specs.Kept.{kept}
use Rattle.pt_semantics.specs.Linked.{IsFinished, all_claims}
use Rattle.pt_semantics.specs.Lists.{Each, IsIn}
use Rattle.pt_semantics.specs.Parts.{parts}
use Rattle.pt_semantics.specs.Platform.{opened}
use Rattle.pt_semantics.specs.Turn.{Turn}
use Rattle.pt_semantics.specs.Visits.{AreFinished, VisitRecord, RunState}
use Rattle.pt_semantics.specs.Wired.{IsWired}
use Rattle.pt_semantics.proofs.LawfulEdges.{wired}
use Rattle.pt_semantics.proofs.Lookups.{Each-in, none_some}
use Rattle.pt_paced_laws.specs.NearClocks.{KeepsPace, OfMeaning}
use Rattle.pt_paced_laws.specs.Schedule.{IsOnSchedule, SendsWithinSlack}
use Rattle.pt_paced_laws.specs.WholeRuns.{kept_by}
use Rattle.pt_causality.specs.Ranked.{level_of}
use Rattle.pt_offsets.specs.Plans.{Parts}
use Rattle.pt_offsets.specs.Timings.{offset_of}
use Rattle.pt_turn.specs.declared.fault.TurnFault.{TurnFault}
use Rattle.pt_turn.specs.declared.fault.TurnFault.TheVariants.{Late}
use Rattle.pt_turn.specs.All.{histories_of}
use Rattle.pt_turn.specs.Platforms.{PlatformView, state_at}
use Rattle.pt_engine.specs.Asked.{EndsAt}
use Rattle.pt_engine.specs.Shown.{AreThere}
use Rattle.pt_engine.proofs.Views.{below, history, view}
use Rattle.pt_types.specs.declared.air.Air.{Air}
use Rattle.pt_semantics.specs.RecordedTimes.{KeepsBounds}
use Rattle.pt_replay_laws.specs.InBounds.InBounds.{IsInBounds, without_arrivals}
use Rattle.pt_replay_laws.proofs.InBounds.Replays.{faults_are_long, replays_keep_pace}
use Rattle.pt_rounds.specs.Outcome.{InMeaning, IsLongOn}
use Rattle.pt_replay.specs.Outcome.{IsOutcome as IsReplayOutcome}
use Rattle.pt_run.specs.InBounds.{DoAsPaced}
use Rattle.pt_run.proofs.LateTurns.{on_time_shows_none}

module _ (plan : Parts) (rows : ℕ → List Row) (air : Air) (platforms : List PlatformView) (stop : Option (ℕ × TurnFault)) (outcome : IsReplayOutcome plan (level_of plan.ranks) rows air platforms stop) (bounds : KeepsBounds plan.graph air) where
  is_wired : IsWired plan.graph
  is_wired = wired plan.graph outcome.admitted.lawful

  inside : IsInBounds plan.graph (level_of plan.ranks) air rows
  inside = record {
    wired = is_wired;
    levels = outcome.admitted.levels;
    fit = outcome.fit;
    feasible = outcome.admitted.feasible;
    offset = offset_of plan.offsets;
    offsets = outcome.admitted.offsets.units;
    bounds = bounds;
  }

  abbrev end : RunState
  end = without_arrivals outcome.after.state

  pace : KeepsPace plan.graph (level_of plan.ranks) rows end
  pace = replays_keep_pace plan.graph (level_of plan.ranks) air rows outcome.after.state inside outcome.after.run

  there : AreThere plan rows end platforms
  there = record { all = outcome.all; states = outcome.after.states; kept_turns = outcome.after.kept_turns }

  none_late : (i : ℕ) (v : PlatformView) → slice_get platforms i ≡ Some v → LegalOnTime plan.graph (level_of plan.ranks) i (opened plan.graph i rows) v.turns (state_at v)
  none_late i v at =
      subst (λ turns. LegalOnTime plan.graph (level_of plan.ranks) i (opened plan.graph i rows) turns (state_at v)) (sym (outcome.after.kept_turns i v at))
      (subst (LegalOnTime plan.graph (level_of plan.ranks) i (opened plan.graph i rows) (kept (outcome.after.state.did i))) (outcome.after.states i v at)
      (pace.none_late i (below plan rows end platforms there i v at)))

  -- so none shows a late message
  pub never_late : (i actor : ℕ) (tag : Tag) (reading limit : ℕ) → stop ≡ Some (i, Late actor tag reading limit) → ⊥
  never_late i actor tag reading limit e =
      let (v, at, is, shows, before) = subst (EndsAt plan.graph platforms) e outcome.ends in
      on_time_shows_none plan.graph (level_of plan.ranks) i rows v.turns (state_at v) actor tag reading limit (none_late i v at) shows

  finished : stop ≡ None → AreFinished plan.graph end
  finished none i lt =
      let one = view plan rows end platforms there i lt in
      subst (IsFinished plan.graph i) (sym (outcome.after.states i one.0 one.1)) (subst (EndsAt plan.graph platforms) none outcome.ends i one.0 one.1).1

  claims : (u : Unit) → all_claims plan.graph (histories_of platforms) u ≡ all_claims plan.graph (kept_by end) u
  claims u = ap (λ (turns : List Turn). claims_of plan.graph turns u) (history plan rows end platforms there (platform_of plan.graph u.actor) (is_wired.homes u.actor))

  -- a platform with a fault has more firings of units than it may claim
  long_at : (i : ℕ) (v : PlatformView) (f : TurnFault) → slice_get platforms i ≡ Some v → v.fault ≡ Some f → OfMeaning plan.graph rows (λ xs. plan.graph.claims < unit_firings plan.graph i (parts plan.graph xs))
  long_at i v f at is rank xs ranks meaning = ⊎_elim
      (λ (more : plan.graph.claims < unit_firings plan.graph i (parts plan.graph xs)). more)
      (λ (few : unit_firings plan.graph i (parts plan.graph xs) ≤ plan.graph.claims). absurd (none_some f (sym ((outcome.after.faults i v at).1 (fine few)) ∙ is)))
      (cases_lt plan.graph.claims (unit_firings plan.graph i (parts plan.graph xs)))
    where
      long : Each (λ (m : VisitRecord). m.fault ≡ true → plan.graph.claims < unit_firings plan.graph m.platform (parts plan.graph xs)) outcome.after.run.made
      long = faults_are_long plan.graph (level_of plan.ranks) air rows outcome.after.run.rounds outcome.after.run.now (length plan.graph.platforms) outcome.after.run.made outcome.after.state inside
          (record { before = outcome.after.run.before; run = outcome.after.run.run; some = omega arith; round = outcome.after.run.round }) rank xs ranks meaning

      clash : (n : ℕ) → plan.graph.claims < n → n ≤ plan.graph.claims → ⊥
      clash n over le = omega arith

      fine : unit_firings plan.graph i (parts plan.graph xs) ≤ plan.graph.claims → (m : VisitRecord) → IsIn m outcome.after.run.made → m.platform ≡ i → m.fault ≡ false
      fine few m mem home = ⊎_elim
          (λ (faulty : m.fault ≡ true).
          absurd (clash (unit_firings plan.graph i (parts plan.graph xs))
          (subst (λ p. plan.graph.claims < unit_firings plan.graph p (parts plan.graph xs)) home
          (Each-in (λ (z : VisitRecord). z.fault ≡ true → plan.graph.claims < unit_firings plan.graph z.platform (parts plan.graph xs)) outcome.after.run.made long m mem faulty)) few))
          (λ (none : m.fault ≡ false). none)
          (cases_Bool m.fault)

  is_long : (s : Option (ℕ × TurnFault)) → stop ≡ s → InMeaning plan.graph rows (λ xs. IsLongOn plan.graph xs s)
  is_long None e = pace.none_long (finished e)
  is_long (Some f) e = let (v, at, is, shows, before) = subst (EndsAt plan.graph platforms) e outcome.ends in long_at f.0 v f.1 at is

  pub do_as_paced : DoAsPaced plan rows platforms stop
  do_as_paced = record {
    none_late = none_late;
    on_schedule = λ i v at. subst (Each (IsOnSchedule plan.graph)) (sym (outcome.after.kept_turns i v at)) (pace.on_schedule i (below plan rows end platforms there i v at));
    within_slack = λ i v at. subst (Each (SendsWithinSlack plan.graph)) (sym (outcome.after.kept_turns i v at)) (pace.within_slack i (below plan rows end platforms there i v at));
    claimed_as_meant = λ rank xs ranks meaning u.
        let front = pace.claimed_as_meant rank xs ranks meaning u in
        (front.0, front.1 ∙ ap (λ z. z ++ front.0) (sym (claims u)));
    all_claimed = λ none rank xs ranks meaning u. claims u ∙ pace.all_claimed (finished none) rank xs ranks meaning u;
    missed_as_meant = λ none rank xs ranks meaning a t reading limit.
        let both = pace.missed_as_meant (finished none) rank xs ranks meaning a t reading limit in (
          (λ missed. both.0 (missed.0, missed.1, missed.2, subst (IsIn missed.2) (history plan rows end platforms there missed.0 missed.1) missed.3, missed.4, missed.5)),
          (λ meant. let missed = both.1 meant in (missed.0, missed.1, missed.2, subst (IsIn missed.2) (sym (history plan rows end platforms there missed.0 missed.1)) missed.3, missed.4, missed.5)),
        );
    long = is_long stop refl;
  }
