-- A round passes one platform more.
use Rattle.std.proofs.Common.{◌≡◌, ℕ, suc, ◌<◌, ◌≤◌, ◌^◌, ◌⊎◌, ◌≢◌, Bool, true, false, List, [], ◌∷◌, ◌++◌, Option, Some, None, length, set, slice_get, refl, sym, ap, subst, ◌∙◌, arith, inl, inr, ⊎_elim}
use Rattle.std.proofs.lemmas.Bool.{false≢true}
use Rattle.std.proofs.lemmas.Option.{slice_get_within}
use Rattle.pt_tags.specs.declared.message.Message.{Message}
use Rattle.pt_types.specs.declared.firing.Done.{Done}
use Rattle.pt_types.specs.declared.rows.Row.{Row}
use Rattle.pt_semantics.specs.Linked.{IsFinished}
use Rattle.pt_semantics.specs.Lists.{Each, IsIn}
use Rattle.pt_semantics.specs.Platform.{State}
use Rattle.pt_semantics.specs.Rounds.{IsQuietRound}
use Rattle.pt_semantics.specs.Turn.{is_quiet}
use Rattle.pt_semantics.specs.Visits.{VisitRecord}
use Rattle.pt_semantics.proofs.Lookups.{Each-append, IsIn-append, IsIn-append_left, IsIn-append_right}
use Rattle.pt_laws.proofs.Onward.{Onward, cases_same, round_onward}
use Rattle.pt_paced_laws.proofs.PacedRuns.{run_onward}
use Rattle.pt_semantics.proofs.LawfulEdges.{wired}
use Rattle.pt_causality.specs.Ranked.{level_of}
use Rattle.pt_offsets.specs.Plans.{Parts}
use Rattle.pt_offsets.specs.Timings.{offset_of}
use Rattle.pt_turn.specs.declared.fault.TurnFault.{TurnFault}
use Rattle.pt_turn.specs.declared.fault.TurnFault.TheVariants.{Late, Long}
use Rattle.pt_turn.specs.Platforms.{PlatformView, state_at}
use Rattle.pt_turn.specs.Turned.{is_late}
use Rattle.pt_engine.specs.Asked.{HaveNoFault}
use Rattle.pt_rounds.specs.Passing.{HavePassed, IsLong, IsBeforeRound, WasVisitedInRound}
use Rattle.pt_engine.specs.Shown.{AreThere, is_fault}
use Rattle.pt_engine.proofs.Changed.{set_here}
use Rattle.pt_engine.proofs.Passing.{IsNoisy, closed_still, is_new, is_old, no_fault_before, noisy_by, noisy_now, noisy_still}
use Rattle.pt_engine.proofs.Views.{from_view, there_of, to_view}
use Rattle.pt_rounds.proofs.Showing.{Shows, visit_shows}
use Rattle.pt_rounds.proofs.Steps.{make_one, pass_by}

-- a fault that is no late message
fault_is : (fault : Option TurnFault) → is_late fault ≡ false → (fault ≡ None) ⊎ ((fault ≡ Some Long) × (is_fault fault ≡ true))
fault_is None e = inl refl
fault_is (Some (Late actor tag reading limit)) e = absurd (false≢true (sym e))
fault_is (Some Long) e = inr (refl, refl)

-- where no platform has a fault, none has one after one of them is replaced by one without
pub fine_with : (platforms : List PlatformView) (n : ℕ) (v w : PlatformView) → slice_get platforms n ≡ Some v → w.fault ≡ None → HaveNoFault platforms → HaveNoFault (set platforms n w)
fine_with platforms n v w there none before j u at =
    ⊎_elim
    (λ (here : j ≡ n). ap (λ (z : PlatformView). z.fault) (is_new platforms n v w there j u here at) ∙ none)
    (λ (other : j ≢ n). before j u (is_old platforms n v w there j u other at))
    (cases_same j n)

module _ (plan : Parts) (rows : ℕ → List Row) (count c : ℕ) (olds : List PlatformView) (old_pipes : List (List Message)) (old_results : List (List Done)) (s : IsBeforeRound plan rows count c olds old_pipes old_results) where
  pub none_passed : HavePassed plan rows c s.together 0 olds old_pipes old_results true
  none_passed = record {
    made = [];
    together = s.together;
    round = (refl, refl);
    shown = s.shown;
    rest_stays = λ j le. refl;
    is_quiet_round = λ e. record { quiet = tt; closed = λ i. refl };
    no_quiet_round = λ e. absurd (false≢true (sym e));
    faults = λ j v at. inl (s.no_fault j v at);
    fine = λ none. tt;
    answered = λ j v at none m mem home. absurd mem;
  }

  module _ (n : ℕ) (platforms : List PlatformView) (pipes : List (List Message)) (results : List (List Done)) (quiet : Bool) (h : HavePassed plan rows c s.together n platforms pipes results quiet) where
    pub passed_onward : n ≤ length platforms → Onward plan.graph (level_of plan.ranks) rows (offset_of plan.offsets) c h.together
    passed_onward le =
        let in_graph : n ≤ length plan.graph.platforms = subst (λ k. n ≤ k) h.shown.all.count le in
        let is_wired = wired plan.graph s.admitted.lawful in
        (round_onward plan.graph (level_of plan.ranks) rows (offset_of plan.offsets) s.admitted.offsets.units is_wired s.admitted.feasible c n 0 s.together h.together h.made (omega arith)
        (run_onward plan.graph (level_of plan.ranks) rows (offset_of plan.offsets) is_wired s.admitted.levels s.fit s.admitted.feasible s.admitted.offsets.units s.rounds c s.together s.run)
        h.round).1

    module _ (v : PlatformView) (there : slice_get platforms n ≡ Some v) where
      are_there : AreThere plan rows h.together platforms
      are_there = there_of plan rows h.together platforms pipes results h.shown

      -- what a platform answers is so of all platforms together
      finished_here : IsFinished v.plan.graph v.number (state_at v) → IsFinished plan.graph n (h.together.at n)
      finished_here = from_view plan rows h.together platforms are_there (λ (p : Parts) k s. IsFinished p.graph k s) n v there

      going_here : (IsFinished v.plan.graph v.number (state_at v) → ⊥) → IsFinished plan.graph n (h.together.at n) → ⊥
      going_here going done = going (to_view plan rows h.together platforms are_there (λ (p : Parts) k s. IsFinished p.graph k s) n v there done)

      pub not_faulty : v.fault ≡ None
      not_faulty = ⊎_elim (λ (e : v.fault ≡ None). e) (λ (long : (n < n) × IsLong h.made n v). absurd (apart n long.0)) (h.faults n v there)
        where
          apart : (k : ℕ) → k < k → ⊥
          apart k lt = omega arith

      pub one_by : IsFinished v.plan.graph v.number (state_at v) → HavePassed plan rows c s.together (suc n) platforms pipes results quiet
      one_by done = record {
        made = h.made;
        together = h.together;
        round = pass_by plan.graph (level_of plan.ranks) c n 0 n s.together h.together h.made (omega arith) h.round (finished_here done);
        shown = h.shown;
        rest_stays = λ j le. h.rest_stays j (omega (arith, le));
        is_quiet_round = h.is_quiet_round;
        no_quiet_round = λ e. noisy_by s.together.at h.made n h.together.at (h.no_quiet_round e);
        faults = λ j w at.
            ⊎_elim
            (λ (none : w.fault ≡ None). inl none)
            (λ (long : (j < n) × IsLong h.made j w). inr ((let lt : j < n = long.0 in omega arith), long.1))
            (h.faults j w at);
        fine = h.fine;
        answered = h.answered;
      }

      module _ (w : PlatformView) (dones next : List Done) (piped : List (List Message)) (still after : Bool) (small : c < 2 ^ 64) (hand : slice_get results n ≡ Some dones) (going : IsFinished v.plan.graph v.number (state_at v) → ⊥)
          (was : WasVisitedInRound c dones next v w pipes piped still) (if_quiet : after ≡ true → (quiet ≡ true) × (still ≡ true)) (if_not : after ≡ false → (quiet ≡ false) ⊎ (still ≡ false)) where
        shows : Shows plan rows c n h.together w was.visited.turn (set platforms n w) piped (set results n next)
        shows = visit_shows plan rows c h.together platforms pipes results s.admitted s.fit (passed_onward (let lt = slice_get_within platforms n v there in omega (arith, lt))) h.shown n v w dones next piped there hand small was.visited

        stays : (j : ℕ) → j ≢ n → shows.together.at j ≡ h.together.at j
        stays j ne = (shows.makes.others j (λ e. ne (e ∙ shows.platform))).0

        changed : slice_get (set platforms n w) n ≡ Some w
        changed = set_here platforms n w v there

        -- whether the visited platform closed
        closes_here : (shows.together.at n).closed ≡ w.closed
        closes_here = ap (λ (z : State). z.closed) (shows.shown.states n w changed)

        closed_before : (h.together.at n).closed ≡ v.closed
        closed_before = ap (λ (z : State). z.closed) (h.shown.states n v there)

        quiet_now : after ≡ true → IsQuietRound s.together (h.made ++ shows.made ∷ []) shows.together
        quiet_now e =
            let so = was.still_is.0 (if_quiet e).1 in
            let before = h.is_quiet_round (if_quiet e).0 in
            record {
              quiet = Each-append (λ (m : VisitRecord). is_quiet m.turn ≡ true) h.made (shows.made ∷ []) before.quiet (ap is_quiet shows.turn_is ∙ so.0, tt);
              closed = closed_still s.together.at h.together.at shows.together.at h.made shows.made n v.closed w.closed closed_before closes_here stays so.1 before.closed;
            }

        not_quiet : after ≡ false → IsNoisy s.together.at (h.made ++ shows.made ∷ []) (suc n) shows.together.at
        not_quiet e =
            ⊎_elim
            (λ (noisy : quiet ≡ false). noisy_still s.together.at h.together.at shows.together.at h.made shows.made n v.closed w.closed closed_before closes_here stays (h.no_quiet_round noisy))
            (λ (moved : still ≡ false).
            noisy_now s.together.at h.together.at shows.together.at h.made shows.made n v.closed w.closed closed_before closes_here stays (h.rest_stays n (omega arith))
            (λ calm same. false≢true (sym moved ∙ was.still_is.1 (ap is_quiet (sym shows.turn_is) ∙ calm, same))))
            (if_not e)

        long_here : (u : PlatformView) → u ≡ w → (u.fault ≡ None) ⊎ ((n < suc n) × IsLong (h.made ++ shows.made ∷ []) n u)
        long_here u same =
            ⊎_elim
            (λ (none : w.fault ≡ None). inl (ap (λ (z : PlatformView). z.fault) same ∙ none))
            (λ (long : (w.fault ≡ Some Long) × (is_fault w.fault ≡ true)).
            inr (
              omega arith,
              record {
                all_claims = ap (λ (z : PlatformView). z.fault) same ∙ long.0;
                turn = shows.made;
                there = IsIn-append_right shows.made h.made (shows.made ∷ []) (inl refl);
                platform = shows.platform;
                answers = shows.fault ∙ long.1;
              },
            ))
            (fault_is w.fault shows.in_time)

        faults_now : (j : ℕ) (u : PlatformView) → slice_get (set platforms n w) j ≡ Some u → (u.fault ≡ None) ⊎ ((j < suc n) × IsLong (h.made ++ shows.made ∷ []) j u)
        faults_now j u at =
            ⊎_elim
            (λ (here : j ≡ n).
            subst (λ k. (u.fault ≡ None) ⊎ ((k < suc n) × IsLong (h.made ++ shows.made ∷ []) k u)) (sym here)
            (long_here u (is_new platforms n v w there j u here at)))
            (λ (other : j ≢ n).
            ⊎_elim
            (λ (none : u.fault ≡ None). inl none)
            (λ (long : (j < n) × IsLong h.made j u).
            let lt : j < n = long.0 in
            inr (
              omega arith,
              record {
                all_claims = long.1.all_claims;
                turn = long.1.turn;
                there = IsIn-append_left long.1.turn h.made (shows.made ∷ []) long.1.there;
                platform = long.1.platform;
                answers = long.1.answers;
              },
            ))
            (h.faults j u (is_old platforms n v w there j u other at)))
            (cases_same j n)

        fine_now : HaveNoFault (set platforms n w) → Each (λ (m : VisitRecord). m.fault ≡ false) (h.made ++ shows.made ∷ [])
        fine_now none =
            Each-append (λ (m : VisitRecord). m.fault ≡ false) h.made (shows.made ∷ [])
            (h.fine (no_fault_before platforms n v w there not_faulty none))
            (shows.fault ∙ ap is_fault (none n w changed), tt)

        answered_now : (j : ℕ) (u : PlatformView) → slice_get (set platforms n w) j ≡ Some u → u.fault ≡ None → (m : VisitRecord) → IsIn m (h.made ++ shows.made ∷ []) → m.platform ≡ j → m.fault ≡ false
        answered_now j u at none m mem home =
            ⊎_elim
            (λ (old : IsIn m h.made).
            ⊎_elim
            (λ (here : j ≡ n). h.answered n v there not_faulty m old (home ∙ here))
            (λ (other : j ≢ n). h.answered j u (is_old platforms n v w there j u other at) none m old home)
            (cases_same j n))
            (λ (new : IsIn m (shows.made ∷ [])).
            ⊎_elim
            (λ (e : m ≡ shows.made).
            let here : j ≡ n = sym home ∙ ap (λ (z : VisitRecord). z.platform) e ∙ shows.platform in
            let same : u ≡ w = is_new platforms n v w there j u here at in
            ap (λ (z : VisitRecord). z.fault) e ∙ shows.fault ∙ ap is_fault (ap (λ (z : PlatformView). z.fault) (sym same) ∙ none))
            (λ (never : ⊥). absurd never)
            new)
            (IsIn-append m h.made (shows.made ∷ []) mem)

        pub one_visited : HavePassed plan rows c s.together (suc n) (set platforms n w) piped (set results n next) after
        one_visited = record {
          made = h.made ++ shows.made ∷ [];
          together = shows.together;
          round = make_one plan.graph (level_of plan.ranks) c n 0 s.together h.together shows.together h.made shows.made (let e = shows.platform in omega (arith, e)) h.round
              (λ done. going_here going (subst (λ k. IsFinished plan.graph k (h.together.at k)) shows.platform done)) shows.makes;
          shown = shows.shown;
          rest_stays = λ j le. stays j (λ e. past j n le e) ∙ h.rest_stays j (omega (arith, le));
          is_quiet_round = quiet_now;
          no_quiet_round = not_quiet;
          faults = faults_now;
          fine = fine_now;
          answered = answered_now;
        }
          where
            past : (j k : ℕ) → suc k ≤ j → j ≡ k → ⊥
            past j k le e = omega arith
