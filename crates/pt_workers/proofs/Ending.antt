-- What a run is known to be, from its linked platforms at its end.
use Rattle.std.proofs.Common.{◌≡◌, ℕ, ◌<◌, ◌==◌, true, false, List, [], ◌∷◌, None, Some, Option, length, get_or, map, refl, sym, ap, subst, ◌∙◌, ⊎_elim, arith, eqb-true, cond}
use Rattle.std.proofs.Math.Path.{fun_ext}
use Rattle.std.specs.Prelude.{IfSome, option_map, slice_get, slice_index_or, unwrap_or}
use Rattle.std.proofs.lemmas.Bool.{cases_Bool, cond-false}
use Rattle.std.proofs.lemmas.List.{length-map}
use Rattle.std.proofs.lemmas.Option.{slice_get_within}
use Rattle.pt_io.specs.Clocks.{AreAsAhead, ClockView, HandedOut, viewed}
use Rattle.pt_types.specs.declared.graph.Graph.{Graph}
use Rattle.pt_types.specs.declared.rows.Row.{Row}
use Rattle.pt_types.specs.Lookups.{platform_of}
use Rattle.pt_semantics.specs.History.{IsLegal, Legal}
use Rattle.pt_semantics.specs.Linked.{AreLinked, AreMatched, IsFinished}
use Rattle.pt_semantics.specs.Platform.{State, opened}
use Rattle.pt_semantics.specs.Readings.{IsReadBy}
use Rattle.pt_semantics.specs.Wired.{IsWired}
use Rattle.pt_semantics.proofs.LawfulEdges.{wired}
use Rattle.pt_causality.specs.Ranked.{level_of}
use Rattle.pt_offsets.specs.Plans.{IsAdmitted, Parts}
use Rattle.pt_turn.specs.declared.fault.TurnFault.{TurnFault}
use Rattle.pt_turn.specs.All.{AreAll, AreReady, histories_of}
use Rattle.pt_turn.specs.Platforms.{PlatformView, rows_at, state_at}
use Rattle.pt_turn.specs.Running.{Shows}
use Rattle.pt_fixed_order_laws.proofs.Whole.{linked_if_finished}
use Rattle.pt_engine.specs.Asked.{HaveLegalHistories, EndsAt}
use Rattle.pt_links.specs.Ends.{LinkId}
use Rattle.pt_pool.specs.LinkedPlatform.{AreRead, LinkedPlatformView}
use Rattle.pt_pool.proofs.Lanes.{get_here, get_map, got_map, same_some}
use Rattle.pt_workers.specs.Working.Orders.{AllDone, AreUnmarked, HasFailed}
use Rattle.pt_workers.specs.LinkEnds.Settled.{AreByNumber, AreLinkedPlatforms, IsLinkedPlatform, platform_in, readings_in}
use Rattle.pt_engine.specs.Outcome.{IsOutcome}
use Rattle.pt_workers.specs.Opened.{AreBegun}
use Rattle.pt_workers.specs.Reported.{IsReported}

same_opened : (g : Graph) (i : ℕ) (some others : ℕ → List Row) → ((a : ℕ) → platform_of g a ≡ i → some a ≡ others a) → opened g i some ≡ opened g i others
same_opened g i some others same =
    ap (λ (left : ℕ → List Row). record (opened g i some) { left = left })
    (fun_ext (λ a.
    ⊎_elim
    (λ (here : (platform_of g a == i) ≡ true). ap (λ z. cond (platform_of g a == i) z []) (same a (eqb-true (platform_of g a) i here)))
    (λ (other : (platform_of g a == i) ≡ false). cond-false (platform_of g a == i) (some a) [] other ∙ sym (cond-false (platform_of g a == i) (others a) [] other))
    (cases_Bool (platform_of g a == i))))

-- a legal history with the same rows on its own platform
legal_with : (g : Graph) (level : ℕ → ℕ) (i : ℕ) (some others : ℕ → List Row) (v : PlatformView) → ((a : ℕ) → platform_of g a ≡ i → some a ≡ others a) → IsLegal g level i some v.turns (state_at v) → IsLegal g level i others v.turns (state_at v)
legal_with g level i some others v same legal = record {
  leads = subst (λ (start : State). Legal g level i start v.turns (state_at v)) (same_opened g i some others same) legal.leads;
  counted = legal.counted;
  joined = legal.joined;
}

at_index : {A : Type 0} (xs : List A) (i : ℕ) (x d : A) → slice_get xs i ≡ Some x → slice_index_or xs i d ≡ x
at_index xs i x d at = same_some (slice_index_or xs i d) x (sym (get_here xs i d (slice_get_within xs i x at)) ∙ at)

some_at : {A : Type 0} (xs : List A) (k : ℕ) → k < length xs → (x : A) × (slice_get xs k ≡ Some x)
some_at [] k lt = absurd (omega (arith, lt))
some_at (x ∷ xs) k lt = (get_or (x ∷ xs) k x, get_here (x ∷ xs) k x lt)

-- the value of what is there, and none if there is nothing
abbrev chosen : {X Y : Type 0} (P : X → List Y → Type 0) (o : Option X) → ((x : X) → o ≡ Some x → (ys : List Y) × P x ys) → List Y
chosen P None f = []
chosen P (Some x) f = (f x refl).0

chosen_is : {X Y : Type 0} (P : X → List Y → Type 0) (o : Option X) (f : (x : X) → o ≡ Some x → (ys : List Y) × P x ys) (x : X) → o ≡ Some x → P x (chosen P o f)
chosen_is P None f x e = absurd (none_some x e)
  where
    none_some : {X : Type 0} (x : X) → None ≡ Some x → ⊥
    none_some x e = cc
chosen_is P (Some y) f x e = subst (λ z. P z (f y refl).0) (same_some y x e) (f y refl).1

-- the readings that clocks gave, from their views
pub readings_at : {X : Type 0} (reported : X → Option (List ℕ)) (ahead : X → Option (ℕ → ℕ)) (xs : List X) (linked_platforms : List LinkedPlatformView) → map reported xs ≡ map readings_in linked_platforms → (i : ℕ) (n : ClockView) → slice_get (viewed reported ahead xs) i ≡ Some n → slice_get (map readings_in linked_platforms) i ≡ Some n.readings
readings_at reported ahead xs linked_platforms same i n at =
    let p = got_map (λ x. record { readings = reported x; ahead = ahead x }) xs i n at in
    ap (λ (ts : List (Option (List ℕ))). slice_get ts i) (sym same) ∙ get_map reported xs i p.0 p.1 ∙ ap (λ (z : ClockView). Some z.readings) p.2

pub readings_count : {X : Type 0} (reported : X → Option (List ℕ)) (ahead : X → Option (ℕ → ℕ)) (xs : List X) (linked_platforms : List LinkedPlatformView) → map reported xs ≡ map readings_in linked_platforms → length (viewed reported ahead xs) ≡ length linked_platforms
readings_count reported ahead xs linked_platforms same =
    length-map xs (λ x. record { readings = reported x; ahead = ahead x }) ∙ sym (length-map xs reported) ∙ ap length same ∙ length-map linked_platforms readings_in

module _ (plan : Parts) (whole : Option Parts) (own_rows : ℕ → List Row) (link : ℕ → LinkId) (began : ℕ → Option (List ℕ)) (fixed : ℕ → Option (ℕ → ℕ)) (whole_is : whole ≡ Some plan) (admitted : IsAdmitted plan)
    (opened_at : List PlatformView) (clocks now : List ClockView) (all : AreAll plan own_rows opened_at) (begun : AreBegun began fixed clocks)
    (linked_platforms : List LinkedPlatformView) (count : length linked_platforms ≡ length plan.graph.platforms) (order : AreByNumber linked_platforms) (are : AreLinkedPlatforms whole own_rows link began fixed 0 linked_platforms) (unmarked : AreUnmarked linked_platforms)
    (now_count : length now ≡ length linked_platforms) (now_readings : (i : ℕ) (n : ClockView) → slice_get now i ≡ Some n → slice_get (map readings_in linked_platforms) i ≡ Some n.readings)
    (platforms : List PlatformView) (platforms_are : platforms ≡ map platform_in linked_platforms) (legal : HaveLegalHistories platforms) (matched : AreMatched plan.graph (histories_of platforms)) where
  is_wired : IsWired plan.graph
  is_wired = wired plan.graph admitted.lawful

  linked_of : (i : ℕ) (v : PlatformView) → slice_get platforms i ≡ Some v → (s : LinkedPlatformView) × (slice_get linked_platforms i ≡ Some s) × (s.platform ≡ v)
  linked_of i v at = got_map platform_in linked_platforms i v (ap (λ (ps : List PlatformView). slice_get ps i) (sym platforms_are) ∙ at)

  platform_at : (i : ℕ) (s : LinkedPlatformView) → slice_get linked_platforms i ≡ Some s → slice_get platforms i ≡ Some s.platform
  platform_at i s at = ap (λ (ps : List PlatformView). slice_get ps i) platforms_are ∙ get_map platform_in linked_platforms i s at

  as_many : length platforms ≡ length linked_platforms
  as_many = ap length platforms_are ∙ length-map linked_platforms platform_in

  of_run : (i : ℕ) (s : LinkedPlatformView) → slice_get linked_platforms i ≡ Some s → IsLinkedPlatform whole own_rows link began fixed s
  of_run i s at = are i s (omega arith) at

  plan_is : (i : ℕ) (v : PlatformView) → slice_get platforms i ≡ Some v → v.plan ≡ plan
  plan_is i v at = let w = linked_of i v at in ap (λ (z : PlatformView). z.plan) (sym w.2) ∙ same_some w.0.platform.plan plan (sym (of_run i w.0 w.1).of_run.plan_is ∙ whole_is)

  number_is : (i : ℕ) (v : PlatformView) → slice_get platforms i ≡ Some v → v.number ≡ i
  number_is i v at = let w = linked_of i v at in ap (λ (z : PlatformView). z.number) (sym w.2) ∙ order i w.0 w.1

  linked_index : (i : ℕ) (d s : LinkedPlatformView) → slice_get linked_platforms i ≡ Some s → slice_index_or linked_platforms i d ≡ s
  linked_index i d s at = at_index linked_platforms i s d at

  within : (i : ℕ) (s : LinkedPlatformView) → slice_get linked_platforms i ≡ Some s → i < length linked_platforms
  within i s at = slice_get_within linked_platforms i s at

  finished : AllDone linked_platforms → (i : ℕ) (v : PlatformView) → slice_get platforms i ≡ Some v → IsFinished plan.graph i (state_at v)
  finished done i v at =
      let w = linked_of i v at in
      subst (λ (n : ℕ). IsFinished plan.graph n (state_at v)) (number_is i v at)
      (subst (λ (p : Parts). IsFinished p.graph v.number (state_at v)) (plan_is i v at)
      (subst (λ (z : PlatformView). IsFinished z.plan.graph z.number (state_at z)) w.2
      (subst (λ (z : LinkedPlatformView). IsFinished z.platform.plan.graph z.platform.number (state_at z.platform)) (linked_index i w.0 w.0 w.1) (done i w.0 (within i w.0 w.1)).0)))

  -- a fault of a linked platform is one of its platform
  same_fault : (i : ℕ) (v : PlatformView) → slice_get platforms i ≡ Some v → (s : LinkedPlatformView) × ((slice_index_or linked_platforms i s).platform.fault ≡ v.fault) × (i < length linked_platforms)
  same_fault i v at = let w = linked_of i v at in (w.0, ap (λ (z : LinkedPlatformView). z.platform.fault) (linked_index i w.0 w.0 w.1) ∙ ap (λ (z : PlatformView). z.fault) w.2, within i w.0 w.1)

  none_done : AllDone linked_platforms → (i : ℕ) (v : PlatformView) → slice_get platforms i ≡ Some v → v.fault ≡ None
  none_done done i v at = let f = same_fault i v at in sym f.1 ∙ (done i f.0 f.2).1

  none_before : (k : ℕ) → HasFailed linked_platforms k → (i : ℕ) (v : PlatformView) → i < k → slice_get platforms i ≡ Some v → v.fault ≡ None
  none_before k failed i v lt at = let f = same_fault i v at in sym f.1 ∙ failed.2 i f.0 lt

  some_failed : (k : ℕ) → HasFailed linked_platforms k → (v : PlatformView) → slice_get platforms k ≡ Some v → v.fault ≡ None → ⊥
  some_failed k failed v at none = let f = same_fault k v at in failed.1 f.0 (f.1 ∙ none)

  -- how the run ended, from the place of the platform with a fault and what that platform reports
  ends_at : (failed : Option ℕ) (fault : Option (ℕ × TurnFault)) → (failed ≡ None → AllDone linked_platforms) → IfSome failed (HasFailed linked_platforms) → IsReported platforms failed fault → EndsAt plan.graph platforms fault × (fault ≡ None → AllDone linked_platforms)
  ends_at None fault done first reported = subst (λ (f : Option (ℕ × TurnFault)). EndsAt plan.graph platforms f × (f ≡ None → AllDone linked_platforms)) (sym reported)
      (λ i v at. (none_done (done refl) i v at, finished (done refl) i v at), λ e. done refl)
  ends_at (Some k) None done first reported = absurd (some_failed k first reported.0 reported.1 reported.2)
  ends_at (Some k) (Some f) done first reported =
      let v = reported.0 in
      let shown : (f.0 ≡ v.number) × (v.fault ≡ Some f.1) × Shows v.plan.graph v.turns (state_at v) f.1 = reported.2 in
      let here : f.0 ≡ k = shown.0 ∙ number_is k v reported.1 in (
        (
          v,
          ap (slice_get platforms) here ∙ reported.1,
          shown.1,
          subst (λ (p : Parts). Shows p.graph v.turns (state_at v) f.1) (plan_is k v reported.1) shown.2,
          λ j w lt at. none_before k first j w (subst (λ (n : ℕ). j < n) here lt) at,
        ),
        λ e. absurd (not_none f e),
      )
    where
      not_none : (x : ℕ × TurnFault) → Some x ≡ None → ⊥
      not_none x e = cc

  -- the readings of a linked platform, as its clock handed them out
  abbrev ReadAs : ℕ → LinkedPlatformView → List ℕ → Type 0
  ReadAs i s rs = HandedOut (began i) s.readings rs × AreAsAhead (fixed i) (began i) s.readings rs × IsReadBy s.platform.turns rs

  read_at : (i : ℕ) (s : LinkedPlatformView) → slice_get linked_platforms i ≡ Some s → (rs : List ℕ) × ReadAs i s rs
  read_at i s at = let r = subst (λ (n : ℕ). AreRead (fixed n) (began n) s.readings s.platform.turns) (order i s at) ((of_run i s at).of_run.reads (ap (λ (z : LinkedPlatformView). z.marked) (sym (at_index linked_platforms i s s at)) ∙ unmarked i s (slice_get_within linked_platforms i s at))) in (r.0, (r.1, r.2, r.3))

  abbrev readings : ℕ → List ℕ
  readings i = chosen (ReadAs i) (slice_get linked_platforms i) (read_at i)

  reads : (i : ℕ) (s : LinkedPlatformView) → slice_get linked_platforms i ≡ Some s → ReadAs i s (readings i)
  reads i s at = chosen_is (ReadAs i) (slice_get linked_platforms i) (read_at i) s at

  abbrev state_of : (ℕ → List Row) → ℕ → State
  state_of rows i = unwrap_or (option_map state_at (slice_get platforms i)) (opened plan.graph i rows)

  module _ (rows : ℕ → List Row) (ready : AreReady plan rows opened_at) where
    same_rows : (a : ℕ) → own_rows a ≡ rows a
    same_rows a =
        let i = platform_of plan.graph a in
        let lt = is_wired.homes a in
        let v = some_at opened_at i (omega (arith, lt, all.count)) in
        sym (all.opened i a v.0 v.1 refl) ∙ ready.all.opened i a v.0 v.1 refl

    rows_are : (i a : ℕ) (v : PlatformView) → slice_get platforms i ≡ Some v → platform_of plan.graph a ≡ i → rows_at v a ≡ rows a
    rows_are i a v at home =
        let w = linked_of i v at in
        ap (λ (z : PlatformView). rows_at z a) (sym w.2)
        ∙ (of_run i w.0 w.1).of_run.opened a (ap (λ (z : PlatformView). platform_of z.plan.graph a) w.2 ∙ ap (λ (p : Parts). platform_of p.graph a) (plan_is i v at) ∙ home ∙ sym (order i w.0 w.1))
        ∙ same_rows a

    legal_at : (i : ℕ) (v : PlatformView) → slice_get platforms i ≡ Some v → IsLegal plan.graph (level_of plan.ranks) i rows v.turns (state_at v)
    legal_at i v at = legal_with plan.graph (level_of plan.ranks) i (rows_at v) rows v (λ a home. rows_are i a v at home)
        (subst (λ (n : ℕ). IsLegal plan.graph (level_of plan.ranks) n (rows_at v) v.turns (state_at v)) (number_is i v at)
        (subst (λ (p : Parts). IsLegal p.graph (level_of p.ranks) v.number (rows_at v) v.turns (state_at v)) (plan_is i v at) (legal i v at)))

    -- if all are finished, all that was sent was taken
    linked : AllDone linked_platforms → AreLinked plan.graph (histories_of platforms)
    linked done = linked_if_finished plan.graph (level_of plan.ranks) rows (histories_of platforms) (state_of rows) is_wired admitted.levels ready.fit
        (λ i lt. let v = there i lt in
        subst (λ s. IsLegal plan.graph (level_of plan.ranks) i rows (histories_of platforms i) s) (sym (state_is i v.0 v.1))
        (subst (λ ts. IsLegal plan.graph (level_of plan.ranks) i rows ts (state_at v.0)) (sym (history_is i v.0 v.1)) (legal_at i v.0 v.1)))
        (λ i lt. let v = there i lt in subst (IsFinished plan.graph i) (sym (state_is i v.0 v.1)) (finished done i v.0 v.1))
        matched
      where
        there : (i : ℕ) → i < length plan.graph.platforms → (v : PlatformView) × (slice_get platforms i ≡ Some v)
        there i lt = some_at platforms i (omega (arith, lt, as_many, count))

        state_is : (i : ℕ) (v : PlatformView) → slice_get platforms i ≡ Some v → state_of rows i ≡ state_at v
        state_is i v at = ap (λ (z : Option PlatformView). unwrap_or (option_map state_at z) (opened plan.graph i rows)) at

        history_is : (i : ℕ) (v : PlatformView) → slice_get platforms i ≡ Some v → histories_of platforms i ≡ v.turns
        history_is i v at = ap (λ (z : Option PlatformView). unwrap_or (option_map (λ (u : PlatformView). u.turns) z) []) at

    is_outcome : (fault : Option (ℕ × TurnFault)) → EndsAt plan.graph platforms fault → (fault ≡ None → AllDone linked_platforms) → IsOutcome plan rows clocks now platforms fault
    is_outcome fault ends done = record {
      admitted = admitted;
      fit = ready.fit;
      all = record {
        count = as_many ∙ count;
        plans = plan_is;
        numbers = number_is;
        opened = rows_are;
      };
      count = now_count ∙ sym as_many;
      readings = readings;
      handed = λ i b n at_b at_n.
          let p = got_map readings_in linked_platforms i n.readings (now_readings i n at_n) in
          let h = reads i p.0 p.1 in
          let is = begun i b at_b in
          subst (λ (z : Option (ℕ → ℕ)). HandedOut b.readings n.readings (readings i) × AreAsAhead z b.readings n.readings (readings i)) is.1
          (subst (λ (z : Option (List ℕ)). HandedOut z n.readings (readings i) × AreAsAhead (fixed i) z n.readings (readings i)) is.0
          (subst (λ (z : Option (List ℕ)). HandedOut (began i) z (readings i) × AreAsAhead (fixed i) (began i) z (readings i)) p.2 (h.0, h.1)));
      read = λ i v at. let w = linked_of i v at in subst (λ (z : PlatformView). IsReadBy z.turns (readings i)) w.2 (reads i w.0 w.1).2;
      legal = legal_at;
      matched = matched;
      linked = λ none. linked (done none);
      ends = ends;
    }

  -- the plan is that of its platforms
  same_plan : (p : Parts) (rows : ℕ → List Row) → AreReady p rows opened_at → plan ≡ p
  same_plan p rows ready =
      let v = some_at opened_at 0 (omega (arith, all.count, admitted.lawful.some_platform)) in
      sym (all.plans 0 v.0 v.1) ∙ ready.all.plans 0 v.0 v.1

  pub all_is_outcome : (failed : Option ℕ) (fault : Option (ℕ × TurnFault)) → (failed ≡ None → AllDone linked_platforms) → IfSome failed (HasFailed linked_platforms) → IsReported platforms failed fault → (p : Parts) (rows : ℕ → List Row) → AreReady p rows opened_at → IsOutcome p rows clocks now platforms fault
  all_is_outcome failed fault done first reported p rows ready =
      let same = same_plan p rows ready in
      let ends = ends_at failed fault done first reported in
      subst (λ (q : Parts). IsOutcome q rows clocks now platforms fault) same
      (is_outcome rows (subst (λ (q : Parts). AreReady q rows opened_at) (sym same) ready) fault ends.0 ends.1)
