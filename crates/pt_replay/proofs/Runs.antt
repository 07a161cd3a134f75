-- After a whole round.
use Rattle.std.proofs.Common.{◌≡◌, ◌∙◌, ℕ, ◌+◌, ◌<◌, ◌⊎◌, Bool, true, false, List, [], ◌∷◌, ◌++◌, Option, Some, None, length, slice_get, length-append, refl, sym, ap, subst, inl, inr, ⊎_elim}
use Rattle.std.proofs.lemmas.Bool.{cases_Bool, false≢true}
use Rattle.std.proofs.lemmas.Option.{slice_get_within}
use Rattle.pt_types.specs.declared.firing.Done.{Done}
use Rattle.pt_types.specs.declared.rows.Row.{Row}
use Rattle.pt_types.specs.Lookups.{platform_of}
use Rattle.pt_semantics.specs.History.{IsLegal}
use Rattle.pt_semantics.specs.Kept.{kept}
use Rattle.pt_semantics.specs.Linked.{AreLinked, AreMatched, all_sent, all_taken}
use Rattle.pt_semantics.specs.Lists.{Each, IsIn}
use Rattle.pt_semantics.specs.Turn.{Turn, is_quiet}
use Rattle.pt_semantics.specs.Visits.{VisitRecord}
use Rattle.pt_semantics.specs.Wired.{IsWired}
use Rattle.pt_semantics.proofs.LawfulEdges.{wired}
use Rattle.pt_semantics.proofs.Lookups.{Each-in, none_some}
use Rattle.pt_causality.specs.Ranked.{level_of}
use Rattle.pt_offsets.specs.Plans.{Parts}
use Rattle.pt_types.specs.declared.air.Air.{Air}
use Rattle.pt_semantics.specs.Arrivals.{AirwayView}
use Rattle.pt_turn.specs.declared.fault.TurnFault.{TurnFault}
use Rattle.pt_turn.specs.All.{histories_of}
use Rattle.pt_turn.specs.Platforms.{PlatformView, state_at}
use Rattle.pt_replay.specs.Visits.Moments.{IsLeastNumber, IsMoment}
use Rattle.pt_replay_laws.specs.ReplayRounds.{ReplayRound, FollowsAt, IsQuiet, IsWholeReplay}
use Rattle.pt_replay_laws.specs.ReplayState.{AllFinished, replay_at_start}
use Rattle.pt_replay_laws.proofs.Ended.{quiet_ends_replay}
use Rattle.pt_replay_laws.proofs.Replays.{replays_are_legal}
use Rattle.pt_engine.specs.Asked.{AreAllFinished, EndsAt, HaveNoFault, IsFirstFault}
use Rattle.pt_engine.specs.Shown.{AreThere, is_fault}
use Rattle.pt_engine.proofs.Faults.{ends_at_first}
use Rattle.pt_engine.proofs.Views.{finished_here, history}
use Rattle.pt_replay.specs.Outcome.{IsOutcome}
use Rattle.pt_replay.specs.Passing.{HasAnswered, HavePassed, IsBeforeRound}
use Rattle.pt_replay.proofs.Moments.{all_done, are_there, each_done, moment, next_is, platforms_in}
use Rattle.pt_replay.proofs.Steps.{one_round}

-- a platform has no fault if there is none to see
none_is : (fault : Option TurnFault) → is_fault fault ≡ false → fault ≡ None
none_is None e = refl
none_is (Some fault) e = absurd (false≢true (sym e))

module _ (plan : Parts) (rows : ℕ → List Row) (air : Air) (count now : ℕ) (olds : List PlatformView) (old_airways : List AirwayView) (old_results : List (List Done)) (s : IsBeforeRound plan rows air count now olds old_airways old_results)
    (platforms : List PlatformView) (airways : List AirwayView) (results : List (List Done)) (quiet : Bool) (h : HavePassed plan rows air now s.state (length olds) platforms airways results quiet) where
  is_wired : IsWired plan.graph
  is_wired = wired plan.graph s.admitted.lawful

  whole_round : ReplayRound plan.graph (level_of plan.ranks) air now (length plan.graph.platforms) 0 s.state h.made h.state
  whole_round = subst (λ n. ReplayRound plan.graph (level_of plan.ranks) air now n 0 s.state h.made h.state) s.shown.all.count h.round

  there : AreThere plan rows (platforms_in h.state) platforms
  there = are_there plan rows air h.state platforms airways results h.shown

  turns_of : (p : ℕ) → p < length plan.graph.platforms → histories_of platforms p ≡ kept (h.state.did p)
  turns_of p lt = history plan rows (platforms_in h.state) platforms there p lt

  -- where no turn in this round had a fault a platform has none
  none_answered : (i : ℕ) (v : PlatformView) → slice_get platforms i ≡ Some v → ((m : VisitRecord) → IsIn m h.made → m.platform ≡ i → m.fault ≡ false) → v.fault ≡ None
  none_answered i v at fine =
      ⊎_elim
      (λ (none : v.fault ≡ None). none)
      (λ (answered : (i < length olds) × HasAnswered h.made i). absurd (false≢true (sym (fine answered.1.0 answered.1.1 answered.1.2) ∙ answered.1.3)))
      (h.faults i v at)

  -- the end of a run, in what the platforms show
  ended : AllFinished plan.graph h.state ⊎ (Each (λ (m : VisitRecord). m.fault ≡ false) h.made → ⊥) → (fault : Option (ℕ × TurnFault)) → EndsAt plan.graph platforms fault → (fault ≡ None → AllFinished plan.graph h.state) → IsOutcome plan (level_of plan.ranks) rows air platforms fault
  ended ends fault so done = record {
    admitted = s.admitted;
    fit = s.fit;
    all = h.shown.all;
    after = record {
      state = h.state;
      run = run;
      kept_turns = h.shown.kept_turns;
      states = h.shown.states;
      faults = λ i v at. ((λ none m mem home. (h.answered i v at m mem home).0 ∙ ap is_fault none), none_answered i v at);
      late = λ i v at m mem home. (h.answered i v at m mem home).1;
    };
    ends = so;
    legal = λ i v at.
        subst (λ turns. IsLegal plan.graph (level_of plan.ranks) i rows turns (state_at v)) (sym (h.shown.kept_turns i v at))
        (subst (IsLegal plan.graph (level_of plan.ranks) i rows (kept (h.state.did i))) (h.shown.states i v at)
        (laws.0 i (subst (λ n. i < n) h.shown.all.count (slice_get_within platforms i v at))));
    matched = λ l link at.
        let m = laws.1 l link at in (
          m.0,
          ap (all_sent l) (turns_of (platform_of plan.graph link.from) (is_wired.homes link.from)) ∙ m.1
              ∙ ap (λ (turns : List Turn). all_taken l turns ++ m.0) (sym (turns_of (platform_of plan.graph link.to) (is_wired.homes link.to))),
        );
    linked = λ none l link at.
        ap (all_sent l) (turns_of (platform_of plan.graph link.from) (is_wired.homes link.from)) ∙ laws.2 (done none) l link at
        ∙ ap (all_taken l) (sym (turns_of (platform_of plan.graph link.to) (is_wired.homes link.to)));
  }
    where
      run : IsWholeReplay plan.graph (level_of plan.ranks) air rows h.state
      run = record { rounds = s.rounds; now = now; before = s.state; run = s.run; made = h.made; round = whole_round; ends = ends }

      laws : ((p : ℕ) → p < length plan.graph.platforms → IsLegal plan.graph (level_of plan.ranks) p rows (kept (h.state.did p)) (h.state.at p))
          × AreMatched plan.graph (λ p. kept (h.state.did p)) × (AllFinished plan.graph h.state → AreLinked plan.graph (λ p. kept (h.state.did p)))
      laws = replays_are_legal plan.graph (level_of plan.ranks) air rows h.state is_wired s.admitted.levels s.fit run

  pub ended_finished : HaveNoFault platforms → AreAllFinished platforms → IsOutcome plan (level_of plan.ranks) rows air platforms None
  ended_finished none done =
      let all = all_done plan rows air h.state platforms airways results h.shown done in
      ended (inl all) None
      (λ i v at. (none i v at, finished_here plan rows (platforms_in h.state) platforms there done i v at))
      (λ e. all)

  pub ended_fault : (fault : ℕ × TurnFault) → IsFirstFault platforms fault → IsOutcome plan (level_of plan.ranks) rows air platforms (Some fault)
  ended_fault fault first =
      ended
      (inr (λ fine. none_some fault.1 (sym (none_answered first.place first.view first.at (λ m mem home. Each-in (λ (m : VisitRecord). m.fault ≡ false) h.made fine m mem)) ∙ first.is)))
      (Some fault) (ends_at_first plan rows platforms h.shown.all fault first)
      (λ e. absurd (none_some fault (sym e)))

  pub moment_after_quiet : quiet ≡ true → HaveNoFault platforms → (AreAllFinished platforms → ⊥) → ((time : ℕ) → IsMoment air platforms airways time → ⊥) → ⊥
  moment_after_quiet calm none going never = going (each_done plan rows air h.state platforms airways results h.shown
      (quiet_ends_replay plan.graph (level_of plan.ranks) air rows s.rounds now s.state h.made h.state is_wired s.admitted.levels s.fit s.run whole_round (h.fine none) (h.is_quiet_round calm)
      (λ time can. never time (moment plan rows air h.state platforms airways results h.shown is_wired none time can))))

  -- a round in which something was done is not quiet
  moved : quiet ≡ false → IsQuiet s.state h.made h.state → ⊥
  moved noisy calm =
      ⊎_elim
      (λ (one : (m : VisitRecord) × IsIn m h.made × (is_quiet m.turn ≡ false)). false≢true (sym one.2 ∙ Each-in (λ (m : VisitRecord). is_quiet m.turn ≡ true) h.made calm.quiet one.0 one.1))
      (λ (one : (j : ℕ) × (j < length olds) × ((h.state.at j).closed ≡ (s.state.at j).closed → ⊥)). one.2 (calm.closed one.0))
      (h.no_quiet_round noisy)

  pub stands_next : (next : ℕ) → HaveNoFault platforms → (AreAllFinished platforms → ⊥) → (quiet ≡ true → IsLeastNumber (IsMoment air platforms airways) (Some next)) → (quiet ≡ false → next ≡ now) → IsBeforeRound plan rows air (count + 1) next platforms airways results
  stands_next next none going rises stays = record {
    admitted = s.admitted;
    fit = s.fit;
    transits = s.transits;
    rounds = s.rounds ++ h.made ∷ [];
    rounds_made = length-append s.rounds (h.made ∷ []) ∙ ap (λ n. n + 1) s.rounds_made;
    state = h.state;
    run = record {
      begins = s.run.begins;
      begins_at = s.run.begins_at;
      goes = one_round plan.graph (level_of plan.ranks) air s.rounds s.run.begins now next (replay_at_start plan.graph rows) s.state h.state h.made s.run.goes whole_round (h.fine none)
          (λ done. going (each_done plan rows air h.state platforms airways results h.shown done)) follows;
    };
    shown = h.shown;
    no_fault = none;
  }
    where
      follows : FollowsAt plan.graph air now s.state h.made h.state next
      follows =
          ⊎_elim
          (λ (calm : quiet ≡ true). inl (h.is_quiet_round calm, next_is plan rows air h.state platforms airways results h.shown is_wired none next (rises calm)))
          (λ (noisy : quiet ≡ false). inr (moved noisy, stays noisy))
          (cases_Bool quiet)
