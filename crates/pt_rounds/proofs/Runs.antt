-- After a whole round.
use Rattle.std.proofs.Common.{◌≡◌, ℕ, ◌+◌, ◌<◌, ◌⊎◌, Bool, true, false, List, [], ◌∷◌, ◌++◌, Option, Some, None, length, slice_get, length-append, refl, sym, ap, subst, ◌∙◌, arith, inl, inr, ⊎_elim}
use Rattle.std.specs.Prelude.{IfSome}
use Rattle.std.proofs.lemmas.Bool.{cases_Bool, false≢true}
use Rattle.std.proofs.lemmas.Option.{slice_get_within}
use Rattle.pt_tags.specs.declared.message.Message.{Message}
use Rattle.pt_types.specs.declared.firing.Done.{Done}
use Rattle.pt_types.specs.declared.graph.Unit.{Unit}
use Rattle.pt_types.specs.declared.rows.Row.{Row}
use Rattle.pt_types.specs.Lookups.{platform_of}
use Rattle.pt_semantics.specs.History.{IsLegal, LegalOnTime, claims_of}
use Rattle.pt_semantics.specs.Kept.{kept}
use Rattle.pt_semantics.specs.Linked.{AreLinked, AreMatched, all_claims, all_sent, all_taken}
use Rattle.pt_semantics.specs.Lists.{Each, IsIn}
use Rattle.pt_semantics.specs.Meaning.{ActorFiring, IsMeaning}
use Rattle.pt_semantics.specs.Paced.{IsCandidate}
use Rattle.pt_semantics.specs.Platform.{State, opened}
use Rattle.pt_semantics.specs.Ranks.{AreRanks}
use Rattle.pt_semantics.specs.Rounds.{Follows, IsLeastNext, IsQuietRound, IsRunInRound, IsWholeRun, Round}
use Rattle.pt_semantics.specs.Turn.{Turn, is_quiet}
use Rattle.pt_semantics.specs.Visits.{AreFinished, VisitRecord, RunState, run_at_start}
use Rattle.pt_semantics.specs.Counts.{unit_firings}
use Rattle.pt_semantics.specs.Parts.{parts}
use Rattle.pt_semantics.specs.Wired.{IsWired}
use Rattle.pt_paced_laws.proofs.Long.{long_exactly}
use Rattle.pt_semantics.proofs.Lookups.{Each-in, none_some, same_some}
use Rattle.pt_paced_laws.proofs.PacedKept.{paced_are_legal}
use Rattle.pt_paced_laws.proofs.Quiet.{quiet_ends}
use Rattle.pt_paced_laws.specs.Schedule.{IsOnSchedule, SendsWithinSlack}
use Rattle.pt_paced_laws.specs.WholeRuns.{IsEnd, kept_by}
use Rattle.pt_paced_laws.proofs.Existing.{meanings_exist}
use Rattle.pt_paced_laws.proofs.Kept.{all_on_schedule, all_within_slack, claimed_as_meant, missed_as_meant, none_is_late}
use Rattle.pt_semantics.proofs.LawfulEdges.{wired}
use Rattle.pt_causality.specs.Ranked.{level_of, rank_of}
use Rattle.pt_offsets.specs.Plans.{Parts}
use Rattle.pt_offsets.specs.Timings.{offset_of}
use Rattle.pt_turn.specs.declared.fault.TurnFault.{TurnFault}
use Rattle.pt_turn.specs.declared.fault.TurnFault.TheVariants.{Long}
use Rattle.pt_turn.specs.All.{histories_of}
use Rattle.pt_turn.specs.Platforms.{PlatformView, state_at}
use Rattle.pt_engine.specs.Asked.{AreAllFinished, EndsAt, HaveNoFault, IsFirstFault}
use Rattle.pt_rounds.specs.Asked.{IsLeastOf, NoneIsOpen}
use Rattle.pt_rounds.specs.Outcome.{IsOutcome, IsLongOn}
use Rattle.pt_rounds.specs.Passing.{HavePassed, IsLong, IsBeforeRound}
use Rattle.pt_engine.specs.Shown.{AreShown, AreThere}
use Rattle.pt_engine.proofs.Faults.{ends_at_first}
use Rattle.pt_engine.proofs.First.{AreOpened, shown_first}
use Rattle.pt_engine.proofs.Views.{all_finished, each_finished, finished_here, from_view, history, there_of, to_view, view}
use Rattle.pt_rounds.proofs.Steps.{one_round}

-- facts on all platforms together, from their views
module _ (plan : Parts) (rows : ℕ → List Row) (x : RunState) (platforms : List PlatformView) (pipes : List (List Message)) (results : List (List Done)) (shown : AreShown plan rows x platforms pipes results) where
  are : AreThere plan rows x platforms
  are = there_of plan rows x platforms pipes results shown

  pub all_closed : NoneIsOpen (length platforms) platforms → (i : ℕ) → i < length plan.graph.platforms → (x.at i).closed ≡ true
  all_closed closed i lt =
      let one = view plan rows x platforms are i lt in
      from_view plan rows x platforms are (λ (p : Parts) k (s : State). s.closed ≡ true) i one.0 one.1 (closed i one.0 (slice_get_within platforms i one.0 one.1) one.1)

  pub least_next_is : (b : ℕ) → IsLeastOf (length platforms) platforms b → IsLeastNext plan.graph x b
  least_next_is b h = record {
    one = (
      h.number,
      subst (λ n. h.number < n) shown.all.count h.below,
      from_view plan rows x platforms are (λ (p : Parts) k (s : State). s.closed ≡ false) h.number h.view h.at h.is_open,
      from_view plan rows x platforms are (λ (p : Parts) k s. IsCandidate p.graph k s b) h.number h.view h.at h.is,
    );
    least = λ i d lt e cand.
        let one = view plan rows x platforms are i lt in
        h.least i d one.0 (slice_get_within platforms i one.0 one.1) one.1
        (to_view plan rows x platforms are (λ (p : Parts) k (s : State). s.closed ≡ false) i one.0 one.1 e)
        (to_view plan rows x platforms are (λ (p : Parts) k s. IsCandidate p.graph k s d) i one.0 one.1 cand);
  }

-- before the first round
module _ (plan : Parts) (rows : ℕ → List Row) (platforms : List PlatformView) (pipes : List (List Message)) (results : List (List Done)) (new : AreOpened plan rows platforms pipes results) where
  shown_here : AreShown plan rows (run_at_start plan.graph rows) platforms pipes results
  shown_here = shown_first plan rows platforms pipes results new

  pub some_open : NoneIsOpen (length platforms) platforms → ⊥
  some_open closed = false≢true (all_closed plan rows (run_at_start plan.graph rows) platforms pipes results shown_here closed 0 (subst (λ n. 0 < n) new.ready.all.count new.some))

  pub stands_first : (b : ℕ) → IsLeastOf (length platforms) platforms b → IsBeforeRound plan rows 0 b platforms pipes results
  stands_first b least = record {
    admitted = new.admitted;
    fit = new.ready.fit;
    rounds = [];
    rounds_made = refl;
    together = run_at_start plan.graph rows;
    run = record {
      begins = b;
      begins_at = least_next_is plan rows (run_at_start plan.graph rows) platforms pipes results shown_here b least;
      goes = (refl, refl);
    };
    shown = shown_here;
    no_fault = new.ready.fresh.faults;
  }

module _ (plan : Parts) (rows : ℕ → List Row) (count c : ℕ) (olds : List PlatformView) (old_pipes : List (List Message)) (old_results : List (List Done)) (s : IsBeforeRound plan rows count c olds old_pipes old_results)
    (platforms : List PlatformView) (pipes : List (List Message)) (results : List (List Done)) (quiet : Bool) (h : HavePassed plan rows c s.together (length olds) platforms pipes results quiet) where
  is_wired : IsWired plan.graph
  is_wired = wired plan.graph s.admitted.lawful

  whole_round : Round plan.graph (level_of plan.ranks) c (length plan.graph.platforms) 0 s.together h.made h.together
  whole_round = subst (λ n. Round plan.graph (level_of plan.ranks) c n 0 s.together h.made h.together) s.shown.all.count h.round

  in_round : IsRunInRound plan.graph (level_of plan.ranks) rows s.rounds c (length plan.graph.platforms) h.made h.together
  in_round = record { before = s.together; run = s.run; some = omega arith; round = whole_round }

  are_there : AreThere plan rows h.together platforms
  are_there = there_of plan rows h.together platforms pipes results h.shown

  -- the end of a run, in what the platforms show
  ended : AreFinished plan.graph h.together ⊎ (Each (λ (m : VisitRecord). m.fault ≡ false) h.made → ⊥) → (fault : Option (ℕ × TurnFault)) → EndsAt plan.graph platforms fault → IfSome fault (λ (f : ℕ × TurnFault). f.1 ≡ Long) → (fault ≡ None → AreFinished plan.graph h.together) →
      ((rank : ℕ → ℕ) (xs : List ActorFiring) → AreRanks plan.graph rank → IsMeaning plan.graph rank rows xs → IsLongOn plan.graph xs fault) → IsOutcome plan (level_of plan.ranks) rows platforms fault
  ended ends fault so only done long = record {
    admitted = s.admitted;
    fit = s.fit;
    all = h.shown.all;
    after = record { together = h.together; run = run; kept_turns = h.shown.kept_turns; states = h.shown.states; faults = λ i v there. (h.answered i v there, none_answered i v there) };
    ends = so;
    all_claims_made = only;
    matched = λ l link at.
        let m = laws.1 l link at in (
          m.0,
          ap (all_sent l) (history plan rows h.together platforms are_there (platform_of plan.graph link.from) (is_wired.homes link.from)) ∙ m.1
              ∙ ap (λ (turns : List Turn). all_taken l turns ++ m.0) (sym (history plan rows h.together platforms are_there (platform_of plan.graph link.to) (is_wired.homes link.to))),
        );
    linked = λ none l link at.
        ap (all_sent l) (history plan rows h.together platforms are_there (platform_of plan.graph link.from) (is_wired.homes link.from)) ∙ laws.2 (done none) l link at
        ∙ ap (all_taken l) (sym (history plan rows h.together platforms are_there (platform_of plan.graph link.to) (is_wired.homes link.to)));
    none_late = λ i v there.
        subst (λ turns. LegalOnTime plan.graph (level_of plan.ranks) i (opened plan.graph i rows) turns (state_at v)) (sym (h.shown.kept_turns i v there))
        (subst (LegalOnTime plan.graph (level_of plan.ranks) i (opened plan.graph i rows) (kept (h.together.did i))) (h.shown.states i v there)
        (none_is_late plan.graph (level_of plan.ranks) rows h.together end i (below i v there)));
    on_schedule = λ i v there. subst (Each (IsOnSchedule plan.graph)) (sym (h.shown.kept_turns i v there)) (all_on_schedule plan.graph (level_of plan.ranks) rows h.together end i (below i v there));
    within_slack = λ i v there. subst (Each (SendsWithinSlack plan.graph)) (sym (h.shown.kept_turns i v there)) (all_within_slack plan.graph (level_of plan.ranks) rows h.together end i (below i v there));
    meaning = meanings_exist plan.graph (level_of plan.ranks) (rank_of plan.ranks) rows is_wired s.admitted.levels s.admitted.ranks s.fit;
    claimed_as_meant = λ rank xs ranks meaning u.
        let front = (claimed_as_meant plan.graph (level_of plan.ranks) rank rows h.together xs end ranks meaning).0 u in
        (front.0, front.1 ∙ ap (λ z. z ++ front.0) (sym (claims u)));
    all_claimed = λ none rank xs ranks meaning u. claims u ∙ (claimed_as_meant plan.graph (level_of plan.ranks) rank rows h.together xs end ranks meaning).1 (done none) u;
    missed_as_meant = λ none rank xs ranks meaning a t reading limit.
        let both = missed_as_meant plan.graph (level_of plan.ranks) rank rows h.together xs end (done none) ranks meaning a t reading limit in (
          (λ missed. both.0 (missed.0, missed.1, missed.2, subst (IsIn missed.2) (history plan rows h.together platforms are_there missed.0 missed.1) missed.3, missed.4, missed.5)),
          (λ meant. let missed = both.1 meant in (missed.0, missed.1, missed.2, subst (IsIn missed.2) (sym (history plan rows h.together platforms are_there missed.0 missed.1)) missed.3, missed.4, missed.5)),
        );
    long = long;
  }
    where
      run : IsWholeRun plan.graph (level_of plan.ranks) rows h.together
      run = record { rounds = s.rounds; reading = c; before = s.together; run = s.run; made = h.made; round = whole_round; ends = ends }

      end : IsEnd plan.graph (level_of plan.ranks) rows h.together
      end = record { wired = is_wired; levels = s.admitted.levels; fit = s.fit; feasible = s.admitted.feasible; offset = offset_of plan.offsets; offsets = s.admitted.offsets.units; run = run }

      laws : ((i : ℕ) → i < length plan.graph.platforms → IsLegal plan.graph (level_of plan.ranks) i rows (kept (h.together.did i)) (h.together.at i))
          × AreMatched plan.graph (λ i. kept (h.together.did i)) × (AreFinished plan.graph h.together → AreLinked plan.graph (λ i. kept (h.together.did i)))
      laws = paced_are_legal plan.graph (level_of plan.ranks) rows (offset_of plan.offsets) h.together is_wired s.admitted.levels s.fit s.admitted.feasible s.admitted.offsets.units run

      below : (i : ℕ) (v : PlatformView) → slice_get platforms i ≡ Some v → i < length plan.graph.platforms
      below i v there = subst (λ n. i < n) h.shown.all.count (slice_get_within platforms i v there)

      claims : (u : Unit) → all_claims plan.graph (histories_of platforms) u ≡ all_claims plan.graph (kept_by h.together) u
      claims u = ap (λ (turns : List Turn). claims_of plan.graph turns u) (history plan rows h.together platforms are_there (platform_of plan.graph u.actor) (is_wired.homes u.actor))

      -- where its turn answered no fault a platform has none
      none_answered : (i : ℕ) (v : PlatformView) → slice_get platforms i ≡ Some v → ((m : VisitRecord) → IsIn m h.made → m.platform ≡ i → m.fault ≡ false) → v.fault ≡ None
      none_answered i v there fine =
          ⊎_elim
          (λ (none : v.fault ≡ None). none)
          (λ (long : (i < length olds) × IsLong h.made i v). absurd (false≢true (sym (fine long.1.turn long.1.there long.1.platform) ∙ long.1.answers)))
          (h.faults i v there)

  pub ended_finished : HaveNoFault platforms → AreAllFinished platforms → IsOutcome plan (level_of plan.ranks) rows platforms None
  ended_finished none done =
      let all = all_finished plan rows h.together platforms are_there done in
      ended (inl all) None
      (λ i v there. (none i v there, finished_here plan rows h.together platforms are_there done i v there))
      tt
      (λ e. all)
      (λ rank xs ranks meaning.
      (long_exactly plan.graph (level_of plan.ranks) rank rows (offset_of plan.offsets) s.rounds c (length plan.graph.platforms) h.made h.together xs is_wired s.admitted.levels ranks s.fit s.admitted.feasible s.admitted.offsets.units in_round meaning).1 all)

  pub ended_long : (fault : ℕ × TurnFault) → IsFirstFault platforms fault → IsOutcome plan (level_of plan.ranks) rows platforms (Some fault)
  ended_long fault first =
      let number_is : first.place ≡ fault.0 = sym (h.shown.all.numbers first.place first.view first.at) ∙ sym first.number in
      ⊎_elim
      (λ (none : first.view.fault ≡ None). absurd (none_some fault.1 (sym none ∙ first.is)))
      (λ (long : (first.place < length olds) × IsLong h.made first.place first.view).
      ended (inr (λ fine. false≢true (sym (Each-in (λ (m : VisitRecord). m.fault ≡ false) h.made fine long.1.turn long.1.there) ∙ long.1.answers)))
      (Some fault) (ends_at_first plan rows platforms h.shown.all fault first)
      (same_some fault.1 Long (sym first.is ∙ long.1.all_claims))
      (λ e. absurd (none_some fault (sym e)))
      (λ rank xs ranks meaning.
      subst (λ k. plan.graph.claims < unit_firings plan.graph k (parts plan.graph xs)) (long.1.platform ∙ number_is)
      (Each-in (λ (m : VisitRecord). m.fault ≡ true → plan.graph.claims < unit_firings plan.graph m.platform (parts plan.graph xs)) h.made
      (long_exactly plan.graph (level_of plan.ranks) rank rows (offset_of plan.offsets) s.rounds c (length plan.graph.platforms) h.made h.together xs is_wired s.admitted.levels ranks s.fit s.admitted.feasible s.admitted.offsets.units in_round meaning).0
      long.1.turn long.1.there long.1.answers)))
      (h.faults first.place first.view first.at)

  pub open_after_quiet : quiet ≡ true → HaveNoFault platforms → (AreAllFinished platforms → ⊥) → NoneIsOpen (length platforms) platforms → ⊥
  open_after_quiet calm none going closed = going (each_finished plan rows h.together platforms are_there
      (quiet_ends plan.graph (level_of plan.ranks) rows (offset_of plan.offsets) s.rounds c h.made s.together h.together is_wired s.admitted.levels s.fit s.admitted.feasible s.admitted.offsets.units s.run whole_round (h.fine none) (h.is_quiet_round calm)
      (all_closed plan rows h.together platforms pipes results h.shown closed)))

  -- a round in which something was done is not quiet
  moved : quiet ≡ false → IsQuietRound s.together h.made h.together → ⊥
  moved noisy calm =
      ⊎_elim
      (λ (one : (m : VisitRecord) × IsIn m h.made × (is_quiet m.turn ≡ false)). false≢true (sym one.2 ∙ Each-in (λ (m : VisitRecord). is_quiet m.turn ≡ true) h.made calm.quiet one.0 one.1))
      (λ (one : (j : ℕ) × (j < length olds) × ((h.together.at j).closed ≡ (s.together.at j).closed → ⊥)). one.2 (calm.closed one.0))
      (h.no_quiet_round noisy)

  pub stands_next : (b : ℕ) → HaveNoFault platforms → (AreAllFinished platforms → ⊥) → (quiet ≡ true → IsLeastOf (length platforms) platforms b) → (quiet ≡ false → b ≡ c) → IsBeforeRound plan rows (count + 1) b platforms pipes results
  stands_next b none going rises stays = record {
    admitted = s.admitted;
    fit = s.fit;
    rounds = s.rounds ++ h.made ∷ [];
    rounds_made = length-append s.rounds (h.made ∷ []) ∙ ap (λ n. n + 1) s.rounds_made;
    together = h.together;
    run = record {
      begins = s.run.begins;
      begins_at = s.run.begins_at;
      goes = one_round plan.graph (level_of plan.ranks) s.rounds s.run.begins c b (run_at_start plan.graph rows) s.together h.together h.made s.run.goes whole_round (h.fine none)
          (λ done. going (each_finished plan rows h.together platforms are_there done)) follows;
    };
    shown = h.shown;
    no_fault = none;
  }
    where
      follows : Follows plan.graph c s.together h.made h.together b
      follows =
          ⊎_elim
          (λ (calm : quiet ≡ true). inl (h.is_quiet_round calm, least_next_is plan rows h.together platforms pipes results h.shown b (rises calm)))
          (λ (noisy : quiet ≡ false). inr (moved noisy, stays noisy))
          (cases_Bool quiet)
