-- A round passes one platform more.
use Rattle.std.proofs.Common.{◌≡◌, ◌≢◌, ◌∙◌, ℕ, suc, ◌+◌, ◌<◌, ◌≤◌, ◌^◌, ◌⊎◌, Bool, true, false, List, [], ◌∷◌, ◌++◌, Option, Some, None, length, set, slice_get, refl, sym, ap, ap₂, subst, arith, inl, inr, ⊎_elim, append_assoc}
use Rattle.std.proofs.lemmas.Bool.{false≢true}
use Rattle.std.proofs.lemmas.Option.{slice_get_within}
use Rattle.pt_tags.specs.declared.message.Message.{Message}
use Rattle.pt_types.specs.declared.firing.Done.{Done}
use Rattle.pt_types.specs.declared.rows.Row.{Row}
use Rattle.pt_types.specs.Lookups.{platform_of}
use Rattle.pt_semantics.specs.Linked.{IsFinished, all_sent, all_taken}
use Rattle.pt_semantics.specs.Lists.{Each, IsIn}
use Rattle.pt_semantics.specs.Platform.{State}
use Rattle.pt_semantics.specs.Turn.{is_quiet}
use Rattle.pt_semantics.specs.Visits.{VisitRecord}
use Rattle.pt_semantics.proofs.LawfulEdges.{wired}
use Rattle.pt_semantics.proofs.Lookups.{Each-append, IsIn-append, IsIn-append_left, IsIn-append_right}
use Rattle.pt_laws.proofs.Onward.{cases_same}
use Rattle.pt_causality.specs.Ranked.{level_of}
use Rattle.pt_offsets.specs.Plans.{Parts}
use Rattle.pt_types.specs.declared.air.Air.{Air}
use Rattle.pt_semantics.specs.Arrivals.{AirwayView}
use Rattle.pt_turn.specs.declared.fault.TurnFault.{TurnFault}
use Rattle.pt_turn.specs.Platforms.{PlatformView, level_at, state_at}
use Rattle.pt_turn.specs.Turned.{MayCome, is_late}
use Rattle.pt_visits.specs.Pipes.{arriving}
use Rattle.pt_semantics.specs.TrueTime.{come_on, map_from}
use Rattle.pt_replay_laws.specs.Between.{AreBetween}
use Rattle.pt_replay_laws.specs.ReplayRounds.{IsQuiet}
use Rattle.pt_replay_laws.specs.ReplayState.{come_to}
use Rattle.pt_replay_laws.proofs.Replays.{visits_keep}
use Rattle.pt_replay_laws.proofs.Ways.{come_front}
use Rattle.pt_engine.specs.Asked.{HaveNoFault}
use Rattle.pt_engine.specs.Shown.{AreThere, is_fault}
use Rattle.pt_engine.specs.Showing.{OnTimeSoFar}
use Rattle.pt_engine.proofs.Changed.{set_here}
use Rattle.pt_engine.proofs.Passing.{IsNoisy, closed_still, is_new, is_old, no_fault_before, noisy_by, noisy_now, noisy_still}
use Rattle.pt_engine.proofs.Showing.{orderly_front}
use Rattle.pt_engine.proofs.Views.{from_view, to_view}
use Rattle.pt_replay.specs.Passing.{HasAnswered, WasVisitedInRound, HavePassed, IsBeforeRound}
use Rattle.pt_replay.proofs.Showing.{ShowsVisitAt, visit_at_shows, may_come}
use Rattle.pt_replay.proofs.Moments.{are_there, platforms_in}
use Rattle.pt_replay.proofs.Steps.{visited_below, visit_one, pass_by}

-- a fault or none
fault_is : (fault : Option TurnFault) → (fault ≡ None) ⊎ (is_fault fault ≡ true)
fault_is None = inl refl
fault_is (Some fault) = inr refl

module _ (plan : Parts) (rows : ℕ → List Row) (air : Air) (count now : ℕ) (olds : List PlatformView) (old_airways : List AirwayView) (old_results : List (List Done)) (s : IsBeforeRound plan rows air count now olds old_airways old_results) where
  pub none_passed : HavePassed plan rows air now s.state 0 olds old_airways old_results true
  none_passed = record {
    made = [];
    state = s.state;
    round = (refl, refl);
    shown = s.shown;
    rest_stays = λ j le. refl;
    is_quiet_round = λ e. record { quiet = tt; closed = λ i. refl };
    no_quiet_round = λ e. absurd (false≢true (sym e));
    faults = λ j v at. inl (s.no_fault j v at);
    fine = λ none. tt;
    answered = λ j v at m mem home. absurd mem;
  }

  module _ (n : ℕ) (platforms : List PlatformView) (airways : List AirwayView) (results : List (List Done)) (quiet : Bool) (h : HavePassed plan rows air now s.state n platforms airways results quiet) where
    -- in the round so far all is as the laws on visits say
    pub between : n ≤ length platforms → AreBetween plan.graph (level_of plan.ranks) air rows now h.made h.state
    between le =
        visits_keep plan.graph (level_of plan.ranks) air rows s.rounds now n h.made h.state (wired plan.graph s.admitted.lawful) s.admitted.levels s.fit
        (record { before = s.state; run = s.run; some = subst (λ k. n ≤ k) h.shown.all.count le; round = h.round })

    module _ (v : PlatformView) (there : slice_get platforms n ≡ Some v) where
      below : n < length platforms
      below = slice_get_within platforms n v there

      in_graph : n < length plan.graph.platforms
      in_graph = subst (λ k. n < k) h.shown.all.count below

      are : AreBetween plan.graph (level_of plan.ranks) air rows now h.made h.state
      are = between (let lt = below in omega (arith, lt))

      there_all : AreThere plan rows (platforms_in h.state) platforms
      there_all = are_there plan rows air h.state platforms airways results h.shown

      -- what a platform answers is so of all platforms together
      finished_here : IsFinished v.plan.graph v.number (state_at v) → IsFinished plan.graph n (h.state.at n)
      finished_here = from_view plan rows (platforms_in h.state) platforms there_all (λ (p : Parts) k s. IsFinished p.graph k s) n v there

      going_here : (IsFinished v.plan.graph v.number (state_at v) → ⊥) → IsFinished plan.graph n (h.state.at n) → ⊥
      going_here going done = going (to_view plan rows (platforms_in h.state) platforms there_all (λ (p : Parts) k s. IsFinished p.graph k s) n v there done)

      pub not_faulty : v.fault ≡ None
      not_faulty = ⊎_elim (λ (e : v.fault ≡ None). e) (λ (answered : (n < n) × HasAnswered h.made n). absurd (apart n answered.0)) (h.faults n v there)
        where
          apart : (k : ℕ) → k < k → ⊥
          apart k lt = omega arith

      -- a platform that was not visited yet in this round is on time
      so_far : OnTimeSoFar plan.graph (level_of plan.ranks) rows n (come_to plan.graph n now h.state)
      so_far = record {
        legal = are.on_time n in_graph (λ m mem home. (h.answered n v there m mem home).1 ∙ ap is_late not_faulty);
        own = are.own n in_graph;
        orderly = λ l link at home.
            let from : ℕ = platform_of plan.graph link.from in
            orderly_front plan.graph (level_of plan.ranks) link (all_sent l (h.state.did from)) ((h.state.at from).outbox l) (are.orderly l link at);
        linked = λ l link at home.
            let (behind, split) = come_front plan.graph n now l (h.state.airways l) in (
              behind,
              are.linked l link at
                  ∙ ap₂ (λ (a b : List Message). a ++ b) (ap (λ p. all_taken l (h.state.did p)) home) split
                  ∙ sym (append_assoc (all_taken l (h.state.did n)) (come_on plan.graph n now l (h.state.airways l)) behind),
            );
      }

      pub comes : MayCome v.plan.graph (level_at v) v.number (state_at v) (arriving v.plan.graph v.number 0 (map_from (come_on v.plan.graph v.number now) 0 airways))
      comes = may_come plan rows now h.state platforms airways results s.admitted s.fit h.shown n v there not_faulty so_far

      pub one_by : IsFinished v.plan.graph v.number (state_at v) → HavePassed plan rows air now s.state (suc n) platforms airways results quiet
      one_by done = record {
        made = h.made;
        state = h.state;
        round = pass_by plan.graph (level_of plan.ranks) air now n 0 n s.state h.state h.made (omega arith) h.round (finished_here done);
        shown = h.shown;
        rest_stays = λ j le. h.rest_stays j (omega (arith, le));
        is_quiet_round = h.is_quiet_round;
        no_quiet_round = λ e. noisy_by s.state.at h.made n h.state.at (h.no_quiet_round e);
        faults = λ j w at.
            ⊎_elim
            (λ (none : w.fault ≡ None). inl none)
            (λ (answered : (j < n) × HasAnswered h.made j). inr ((let lt : j < n = answered.0 in omega arith), answered.1))
            (h.faults j w at);
        fine = h.fine;
        answered = h.answered;
      }

      module _ (w : PlatformView) (dones next : List Done) (after_airways : List AirwayView) (still after : Bool) (small : now < 2 ^ 64) (mine : slice_get results n ≡ Some dones) (going : IsFinished v.plan.graph v.number (state_at v) → ⊥)
          (was : WasVisitedInRound air now dones next v w airways after_airways still) (if_quiet : after ≡ true → (quiet ≡ true) × (still ≡ true)) (if_not : after ≡ false → (quiet ≡ false) ⊎ (still ≡ false)) where
        shows : ShowsVisitAt plan rows air now n h.state w was.visit.visited.turn (set platforms n w) after_airways (set results n next)
        shows = visit_at_shows plan rows now h.state platforms airways results s.admitted s.fit h.shown n v there not_faulty so_far air w dones next after_airways mine was.visit
            (λ p e. are.readings n p in_graph (ap (λ (z : State). z.reading) (h.shown.states n v there) ∙ e))
            (omega (arith, small))

        stays : (j : ℕ) → j ≢ n → shows.state.at j ≡ h.state.at j
        stays j ne = ap (λ (at : ℕ → State). at j) shows.is_visit.states ∙ (shows.is_visit.visit.others j (λ e. ne (e ∙ shows.platform))).0

        changed : slice_get (set platforms n w) n ≡ Some w
        changed = set_here platforms n w v there

        -- whether the platform closed
        closes_here : (shows.state.at n).closed ≡ w.closed
        closes_here = ap (λ (z : State). z.closed) (shows.shown.states n w changed)

        closed_before : (h.state.at n).closed ≡ v.closed
        closed_before = ap (λ (z : State). z.closed) (h.shown.states n v there)

        quiet_now : after ≡ true → IsQuiet s.state (h.made ++ shows.made ∷ []) shows.state
        quiet_now e =
            let so = was.still_is.0 (if_quiet e).1 in
            let before = h.is_quiet_round (if_quiet e).0 in
            record {
              quiet = Each-append (λ (m : VisitRecord). is_quiet m.turn ≡ true) h.made (shows.made ∷ []) before.quiet (ap is_quiet shows.turn_is ∙ so.0, tt);
              closed = closed_still s.state.at h.state.at shows.state.at h.made shows.made n v.closed w.closed closed_before closes_here stays so.1 before.closed;
            }

        not_quiet : after ≡ false → IsNoisy s.state.at (h.made ++ shows.made ∷ []) (suc n) shows.state.at
        not_quiet e =
            ⊎_elim
            (λ (noisy : quiet ≡ false). noisy_still s.state.at h.state.at shows.state.at h.made shows.made n v.closed w.closed closed_before closes_here stays (h.no_quiet_round noisy))
            (λ (moved : still ≡ false).
            noisy_now s.state.at h.state.at shows.state.at h.made shows.made n v.closed w.closed closed_before closes_here stays (h.rest_stays n (omega arith))
            (λ calm same. false≢true (sym moved ∙ was.still_is.1 (ap is_quiet (sym shows.turn_is) ∙ calm, same))))
            (if_not e)

        faults_now : (j : ℕ) (u : PlatformView) → slice_get (set platforms n w) j ≡ Some u → (u.fault ≡ None) ⊎ ((j < suc n) × HasAnswered (h.made ++ shows.made ∷ []) j)
        faults_now j u at =
            ⊎_elim
            (λ (here : j ≡ n).
            ⊎_elim
            (λ (none : u.fault ≡ None). inl none)
            (λ (some : is_fault u.fault ≡ true).
            inr (
              omega (arith, here),
              (
                shows.made,
                IsIn-append_right shows.made h.made (shows.made ∷ []) (inl refl),
                shows.platform ∙ sym here,
                shows.fault ∙ ap (λ (z : PlatformView). is_fault z.fault) (sym (is_new platforms n v w there j u here at)) ∙ some,
              ),
            ))
            (fault_is u.fault))
            (λ (other : j ≢ n).
            ⊎_elim
            (λ (none : u.fault ≡ None). inl none)
            (λ (answered : (j < n) × HasAnswered h.made j).
            let lt : j < n = answered.0 in
            inr (omega arith, (answered.1.0, IsIn-append_left answered.1.0 h.made (shows.made ∷ []) answered.1.1, answered.1.2, answered.1.3)))
            (h.faults j u (is_old platforms n v w there j u other at)))
            (cases_same j n)

        fine_now : HaveNoFault (set platforms n w) → Each (λ (m : VisitRecord). m.fault ≡ false) (h.made ++ shows.made ∷ [])
        fine_now none =
            Each-append (λ (m : VisitRecord). m.fault ≡ false) h.made (shows.made ∷ [])
            (h.fine (no_fault_before platforms n v w there not_faulty none))
            (shows.fault ∙ ap is_fault (none n w changed), tt)

        -- a platform that is visited was not visited before in this round
        none_before : (m : VisitRecord) → IsIn m h.made → m.platform ≡ n → ⊥
        none_before m mem home = past m.platform n (visited_below plan.graph (level_of plan.ranks) air now n 0 s.state h.state h.made h.round m mem) home
          where
            past : (j k : ℕ) → j < k + 0 → j ≡ k → ⊥
            past j k lt e = omega arith

        answered_now : (j : ℕ) (u : PlatformView) → slice_get (set platforms n w) j ≡ Some u → (m : VisitRecord) → IsIn m (h.made ++ shows.made ∷ []) → m.platform ≡ j → (m.fault ≡ is_fault u.fault) × (m.late ≡ is_late u.fault)
        answered_now j u at m mem home =
            ⊎_elim
            (λ (old : IsIn m h.made).
            ⊎_elim
            (λ (here : j ≡ n). absurd (none_before m old (home ∙ here)))
            (λ (other : j ≢ n). h.answered j u (is_old platforms n v w there j u other at) m old home)
            (cases_same j n))
            (λ (new : IsIn m (shows.made ∷ [])).
            ⊎_elim
            (λ (e : m ≡ shows.made).
            let here : j ≡ n = sym home ∙ ap (λ (z : VisitRecord). z.platform) e ∙ shows.platform in
            let same : w ≡ u = sym (is_new platforms n v w there j u here at) in
            (ap (λ (z : VisitRecord). z.fault) e ∙ shows.fault ∙ ap (λ (z : PlatformView). is_fault z.fault) same, ap (λ (z : VisitRecord). z.late) e ∙ shows.late ∙ ap (λ (z : PlatformView). is_late z.fault) same))
            (λ (never : ⊥). absurd never)
            new)
            (IsIn-append m h.made (shows.made ∷ []) mem)

        pub one_visited : HavePassed plan rows air now s.state (suc n) (set platforms n w) after_airways (set results n next) after
        one_visited = record {
          made = h.made ++ shows.made ∷ [];
          state = shows.state;
          round = visit_one plan.graph (level_of plan.ranks) air now n 0 s.state h.state shows.state h.made shows.made (let e = shows.platform in omega (arith, e)) h.round
              (λ done. going_here going (subst (λ k. IsFinished plan.graph k (h.state.at k)) shows.platform done)) shows.is_visit;
          shown = shows.shown;
          rest_stays = λ j le. stays j (λ e. past j n le e) ∙ h.rest_stays j (omega (arith, le));
          is_quiet_round = quiet_now;
          no_quiet_round = not_quiet;
          faults = faults_now;
          fine = fine_now;
          answered = answered_now;
        }
          where
            past : (j k : ℕ) → suc k ≤ j → j ≡ k → ⊥
            past j k le e = omega arith
