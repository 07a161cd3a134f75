-- One visit in fixed order.
use Rattle.std.proofs.Common.{◌≡◌, ◌≢◌, ℕ, suc, ◌-◌, ◌<◌, ◌≤◌, ◌^◌, ◌==◌, true, false, List, [], ◌∷◌, ◌++◌, Option, Some, None, length, length-set, set, slice_get, sym, ap, subst, ◌∙◌, inl, inr, ⊎_elim, arith, eq-eqb}
use Rattle.std.proofs.lemmas.Bool.{cases_Bool, cond-true, cond-false, ne_eqb, false≢true}
use Rattle.std.proofs.lemmas.Option.{slice_get_within}
use Rattle.pt_tags.specs.declared.message.Message.{Message}
use Rattle.pt_io.specs.Clocks.{AreAsAhead, ClockView, HandedOut, IsAsAhead, ReportsOneMore}
use Rattle.pt_io.proofs.Stepping.{ahead_more, handed_more}
use Rattle.pt_types.specs.declared.firing.Done.{Done}
use Rattle.pt_types.specs.declared.graph.Graph.{Graph}
use Rattle.pt_types.specs.declared.graph.Link.{Link}
use Rattle.pt_types.specs.declared.rows.Row.{Row}
use Rattle.pt_types.specs.Lookups.{platform_of}
use Rattle.pt_semantics.specs.FixedOrder.{IsOver, platform_after}
use Rattle.pt_semantics.specs.History.{IsLegal}
use Rattle.pt_semantics.specs.Kept.{kept}
use Rattle.pt_semantics.specs.Linked.{AreLinked, AreMatched, all_sent, all_taken}
use Rattle.pt_semantics.specs.Readings.{IsReadBy, greatest_of, later_of}
use Rattle.pt_semantics.specs.Rows.{FitRows}
use Rattle.pt_semantics.specs.Turn.{Turn}
use Rattle.pt_semantics.specs.Platform.{opened}
use Rattle.pt_semantics.specs.Visits.{AreFinished, IsVisit, VisitRecord, RunState}
use Rattle.pt_semantics.specs.Wired.{IsWired}
use Rattle.pt_semantics.proofs.Lookups.{same_some}
use Rattle.pt_laws.proofs.Onward.{cases_same}
use Rattle.pt_laws.proofs.Read.{read_on}
use Rattle.pt_types.proofs.LawfulEnds.{joined}
use Rattle.pt_semantics.proofs.LawfulEdges.{wired}
use Rattle.pt_causality.specs.Ranked.{level_of}
use Rattle.pt_offsets.specs.Plans.{IsAdmitted, Parts}
use Rattle.pt_turn.specs.declared.fault.TurnFault.{TurnFault}
use Rattle.pt_turn.specs.Platforms.{PlatformView, level_at, raised_to, state_at}
use Rattle.pt_turn.specs.Running.{Shows}
use Rattle.pt_turn.specs.Turned.{is_late}
use Rattle.pt_visits.specs.Visited.{IsVisited}
use Rattle.pt_fixed_order_laws.specs.SoFar.{WholeRun, with_reading}
use Rattle.pt_fixed_order_laws.proofs.SoFar.{links_are_free, links_stay_free, visits_end, visits_go_on}
use Rattle.pt_fixed_order_laws.specs.Sound.{Sound}
use Rattle.pt_fixed_order_laws.proofs.Sound.{Own, goes_on_time, own_turn, sound_after, turn_reading}
use Rattle.pt_fixed_order_laws.proofs.Whole.{fixed_order_is_legal}
use Rattle.pt_engine.specs.Shown.{is_fault}
use Rattle.pt_engine.proofs.Changed.{set_cases, set_elsewhere, set_here}
use Rattle.pt_engine.specs.Showing.{OnTimeSoFar, ShowsVisit}
use Rattle.pt_engine.proofs.Showing.{all_on_time, visit_shows}
use Rattle.pt_engine.proofs.Views.{all_finished, below, each_finished, finished_here, history}
use Rattle.pt_engine.specs.Asked.{AreAllFinished, EndsAt}
use Rattle.pt_fixed_order.specs.Outcome.{IsOutcome, LastVisitEnds}
use Rattle.pt_fixed_order.specs.Between.{WereReadBetween, IsLastOf, BeforeVisit, AfterVisit}
use Rattle.pt_fixed_order.proofs.Counting.{last_more, raised_is, raised_small, with_here, with_there}

-- between two visits in fixed order all is as between two visits of any engine
pub so_far : (plan : Parts) (rows : ℕ → List Row) (x : RunState) → IsAdmitted plan → FitRows plan.graph rows → Sound plan.graph (level_of plan.ranks) rows x → (i : ℕ) → i < length plan.graph.platforms → OnTimeSoFar plan.graph (level_of plan.ranks) rows i x
so_far plan rows x admitted fits s i lt =
    all_on_time plan.graph (level_of plan.ranks) rows x (wired plan.graph admitted.lawful) admitted.levels fits
    (λ p within. goes_on_time plan.graph (level_of plan.ranks) p (x.did p) (opened plan.graph p rows) (x.at p) (s.goes p)) s.linked i lt (s.own i)

-- the two platforms of a link
homes : (g : Graph) → IsWired g → ((l : ℕ) (link : Link) → slice_get g.links l ≡ Some link → platform_of g link.from ≡ platform_of g link.to → ⊥) →
    (l : ℕ) (link : Link) → slice_get g.links l ≡ Some link → (platform_of g link.from < length g.platforms) × (platform_of g link.to < length g.platforms) × (platform_of g link.from ≡ platform_of g link.to → ⊥)
homes g w apart l link at = (w.homes link.from, w.homes link.to, apart l link at)

plan_homes : (plan : Parts) → IsAdmitted plan → (l : ℕ) (link : Link) → slice_get plan.graph.links l ≡ Some link → (platform_of plan.graph link.from < length plan.graph.platforms) × (platform_of plan.graph link.to < length plan.graph.platforms) × (platform_of plan.graph link.from ≡ platform_of plan.graph link.to → ⊥)
plan_homes plan admitted = homes plan.graph (wired plan.graph admitted.lawful) (λ l link at. ((joined plan.graph admitted.lawful).linked l link at).elsewhere)

past_end : (n j i : ℕ) → j < n → n ≤ i → i ≢ j
past_end n j i lt le e = omega arith

module _ (plan : Parts) (rows : ℕ → List Row) (most j : ℕ) (began now : List ClockView) (platforms : List PlatformView) (pipes : List (List Message)) (results : List (List Done)) (s : BeforeVisit plan rows most j began now platforms pipes results)
    (v w : PlatformView) (there : slice_get platforms j ≡ Some v) (dones next : List Done) (pending : slice_get results j ≡ Some dones) (piped : List (List Message)) (r : ℕ) (small : r < 2 ^ 64) (visited : IsVisited most r dones next v w pipes piped)
    (old new : ClockView) (clock : slice_get now j ≡ Some old) (reported : ReportsOneMore old.readings r new.readings) (ahead : new.ahead ≡ old.ahead) (as_ahead : IsAsAhead old.ahead old.readings r) where
  last : IsLastOf (s.readings j) v.reading
  last = s.clocks.last j v there

  raised : raised_to v.reading r ≡ later_of (greatest_of 0 (s.readings j)) r
  raised = raised_is (s.readings j) v.reading r last

  -- nothing that the platform sent before is on its way, so each pipe is empty
  showing : ShowsVisit plan rows most (λ l. 64) (raised_to v.reading r) j s.together w visited.turn (set platforms j w) piped (set results j next)
  showing = visit_shows plan rows s.together platforms pipes results s.admitted s.fit s.shown most r j v w dones next piped there pending (so_far plan rows s.together s.admitted s.fit s.sound j s.next)
      (λ l. 64) (λ l link at home. sym (ap (λ (z : List Message). 64 - length z) (links_are_free plan.graph j s.together (plan_homes plan s.admitted) s.free l link at home))) (raised_small (s.readings j) v.reading r last small) visited

  visit_64 : IsVisit plan.graph (level_of plan.ranks) most (λ l. 64) (later_of (greatest_of 0 (s.readings j)) r) s.together showing.made showing.together
  visit_64 = subst (λ n. IsVisit plan.graph (level_of plan.ranks) most (λ l. 64) n s.together showing.made showing.together) raised showing.makes

  one_clock : (i : ℕ) (b n : ClockView) → slice_get began i ≡ Some b → slice_get (set now j new) i ≡ Some n → (n.ahead ≡ b.ahead) × HandedOut b.readings n.readings (with_reading s.readings j r i) × AreAsAhead b.ahead b.readings n.readings (with_reading s.readings j r i)
  one_clock i b n at_b at_n = ⊎_elim
      (λ (here : (i ≡ j) × (n ≡ new)).
      let at_old : slice_get now i ≡ Some old = ap (slice_get now) here.0 ∙ clock in
      let same : old.ahead ≡ b.ahead = s.clocks.ahead i b old at_b at_old in
      let before = s.clocks.handed i b old at_b at_old in
      let r_is : with_reading s.readings j r i ≡ s.readings i ++ r ∷ [] = ap (with_reading s.readings j r) here.0 ∙ with_here s.readings j r ∙ ap (λ k. s.readings k ++ r ∷ []) (sym here.0) in
      subst (λ (z : ClockView). (z.ahead ≡ b.ahead) × HandedOut b.readings z.readings (with_reading s.readings j r i) × AreAsAhead b.ahead b.readings z.readings (with_reading s.readings j r i)) (sym here.1)
      (subst (λ z. (new.ahead ≡ b.ahead) × HandedOut b.readings new.readings z × AreAsAhead b.ahead b.readings new.readings z) (sym r_is) (
        ahead ∙ same,
        handed_more b.readings old.readings new.readings (s.readings i) r before.0 reported,
        ahead_more b.ahead b.readings old.readings new.readings (s.readings i) r before.0 before.1 (subst (λ z. IsAsAhead z old.readings r) same as_ahead) reported,
      )))
      (λ (other : (i ≢ j) × (slice_get now i ≡ Some n)).
      subst (λ z. (n.ahead ≡ b.ahead) × HandedOut b.readings n.readings z × AreAsAhead b.ahead b.readings n.readings z) (sym (with_there s.readings j r i other.0))
      (s.clocks.ahead i b n at_b other.1, (s.clocks.handed i b n at_b other.1).0, (s.clocks.handed i b n at_b other.1).1))
      (set_cases now j i new old n clock at_n)

  read_here : IsReadBy w.turns (s.readings j ++ r ∷ [])
  read_here = subst (λ ts. IsReadBy ts (s.readings j ++ r ∷ [])) (sym visited.turns)
      (read_on v.turns visited.turn (s.readings j) r (s.clocks.read j v there) visited.at.2 (visited.at.0 ∙ sym visited.at.1) (visited.at.1 ∙ raised))

  last_here : IsLastOf (s.readings j ++ r ∷ []) w.reading
  last_here = last_more (s.readings j) v.reading w.reading r last small
      (turn_reading v.plan.graph (level_at v) v.number (state_at v) (state_at w) visited.turn (is_late w.fault) visited.is ∙ ap Some visited.at.1)

  one_platform : (i : ℕ) (u : PlatformView) → slice_get (set platforms j w) i ≡ Some u → IsReadBy u.turns (with_reading s.readings j r i) × IsLastOf (with_reading s.readings j r i) u.reading
  one_platform i u at = ⊎_elim
      (λ (here : (i ≡ j) × (u ≡ w)).
      subst (λ (z : PlatformView). IsReadBy z.turns (with_reading s.readings j r i) × IsLastOf (with_reading s.readings j r i) z.reading) (sym here.1)
      (subst (λ z. IsReadBy w.turns z × IsLastOf z w.reading) (sym (ap (with_reading s.readings j r) here.0 ∙ with_here s.readings j r)) (read_here, last_here)))
      (λ (other : (i ≢ j) × (slice_get platforms i ≡ Some u)).
      subst (λ z. IsReadBy u.turns z × IsLastOf z u.reading) (sym (with_there s.readings j r i other.0)) (s.clocks.read i u other.1, s.clocks.last i u other.1))
      (set_cases platforms j i w v u there at)

  in_list : j < length platforms
  in_list = slice_get_within platforms j v there

  clocks_after : WereReadBetween began (set now j new) (set platforms j w) (with_reading s.readings j r)
  clocks_after = record {
    count = length-set now j new ∙ s.clocks.count ∙ sym (length-set platforms j w);
    ahead = λ i b n at_b at_n. (one_clock i b n at_b at_n).0;
    handed = λ i b n at_b at_n. ((one_clock i b n at_b at_n).1, (one_clock i b n at_b at_n).2);
    read = λ i u at. (one_platform i u at).0;
    last = λ i u at. (one_platform i u at).1;
    none_past = λ i le.
        let past : length platforms ≤ i = subst (λ n. n ≤ i) (length-set platforms j w) le in
        with_there s.readings j r i (past_end (length platforms) j i in_list past) ∙ s.clocks.none_past i past;
  }

  pub after_visit : AfterVisit plan rows most j began (set now j new) (set platforms j w) piped (set results j next)
  after_visit = record {
    admitted = s.admitted;
    fit = s.fit;
    before = s.together;
    readings = s.readings;
    next = s.next;
    goes = s.goes;
    free = s.free;
    sound = s.sound;
    reading = r;
    made = showing.made;
    together = showing.together;
    platform = showing.platform;
    visit = visit_64;
    there = showing.there;
    shown = λ on_time. showing.shown (sym showing.late ∙ on_time);
    none_past = λ i le. s.clocks.none_past i (subst (λ n. n ≤ i) (sym s.shown.all.count) le);
    clocks = clocks_after;
    fault = λ u at.
        let same : w ≡ u = sym (same_some u w (sym at ∙ set_here platforms j w v there)) in
        (showing.fault ∙ ap (λ (z : PlatformView). is_fault z.fault) same, showing.late ∙ ap (λ (z : PlatformView). is_late z.fault) same);
    others = λ i u ne at. s.no_fault i u (sym (set_elsewhere platforms j i w ne) ∙ at);
  }

-- the last of some visits
last_visit : (ms : List VisitRecord) (m : VisitRecord) (fault : Option (ℕ × TurnFault)) → LastVisitEnds (m ∷ []) fault → LastVisitEnds (ms ++ m ∷ []) fault
last_visit [] m fault h = h
last_visit (n ∷ []) m fault h = h
last_visit (n ∷ p ∷ ms) m fault h = last_visit (p ∷ ms) m fault h

-- after a visit
module _ (plan : Parts) (rows : ℕ → List Row) (most j : ℕ) (began now : List ClockView) (platforms : List PlatformView) (pipes : List (List Message)) (results : List (List Done)) (a : AfterVisit plan rows most j began now platforms pipes results) where
  is_wired : IsWired plan.graph
  is_wired = wired plan.graph a.admitted.lawful

  -- the end of a run
  ended : IsOver plan.graph a.made a.together → (fault : Option (ℕ × TurnFault)) → EndsAt plan.graph platforms fault → LastVisitEnds (a.made ∷ []) fault → (fault ≡ None → AreFinished plan.graph a.together) → IsOutcome plan rows most began now platforms fault
  ended over fault ends last done = record {
    by_clocks = record {
      admitted = a.admitted;
      fit = a.fit;
      all = a.there.all;
      count = a.clocks.count;
      readings = with_reading a.readings j a.reading;
      handed = a.clocks.handed;
      read = a.clocks.read;
      legal = λ i v at.
          subst (λ ts. IsLegal plan.graph (level_of plan.ranks) i rows ts (state_at v)) (sym (a.there.kept_turns i v at))
          (subst (IsLegal plan.graph (level_of plan.ranks) i rows (kept (a.together.did i))) (a.there.states i v at) (laws.0 i (below plan rows a.together platforms a.there i v at)));
      matched = λ l link at.
          let m = laws.1 l link at in (
            m.0,
            ap (all_sent l) (history plan rows a.together platforms a.there (platform_of plan.graph link.from) (is_wired.homes link.from)) ∙ m.1
                ∙ ap (λ (turns : List Turn). all_taken l turns ++ m.0) (sym (history plan rows a.together platforms a.there (platform_of plan.graph link.to) (is_wired.homes link.to))),
          );
      linked = λ none l link at.
          ap (all_sent l) (history plan rows a.together platforms a.there (platform_of plan.graph link.from) (is_wired.homes link.from)) ∙ laws.2 (done none) l link at
          ∙ ap (all_taken l) (sym (history plan rows a.together platforms a.there (platform_of plan.graph link.to) (is_wired.homes link.to)));
      ends = ends;
    };
    in_turn = record { made = went.0.made; end = a.together; visits = went.0.visits; kept_are = history plan rows a.together platforms a.there };
    last = subst (λ (ms : List VisitRecord). LastVisitEnds ms fault) (sym went.1) (last_visit a.goes.made a.made fault last);
  }
    where
      went : (whole : WholeRun plan.graph (level_of plan.ranks) rows most (with_reading a.readings j a.reading) a.together) × (whole.made ≡ a.goes.made ++ a.made ∷ [])
      went = visits_end plan.graph (level_of plan.ranks) rows most a.readings j a.reading a.before a.together a.made a.goes a.platform a.visit over a.none_past a.next

      laws : ((i : ℕ) → i < length plan.graph.platforms → IsLegal plan.graph (level_of plan.ranks) i rows (kept (a.together.did i)) (a.together.at i))
          × AreMatched plan.graph (λ i. kept (a.together.did i)) × (AreFinished plan.graph a.together → AreLinked plan.graph (λ i. kept (a.together.did i)))
      laws = fixed_order_is_legal plan.graph (level_of plan.ranks) rows most (with_reading a.readings j a.reading) a.together is_wired a.admitted.levels a.fit went.0

  none_some_fault : {X : Type 0} (x : X) → Some x ≡ None → ⊥
  none_some_fault x e = cc

  module _ (v : PlatformView) (at : slice_get platforms j ≡ Some v) where
    pub ended_fault : (fault : TurnFault) → v.fault ≡ Some fault → Shows v.plan.graph v.turns (state_at v) fault → IsOutcome plan rows most began now platforms (Some (j, fault))
    ended_fault fault is shows = ended (inr ((a.fault v at).0 ∙ ap is_fault is)) (Some (j, fault))
        (v, at, is, subst (λ (p : Parts). Shows p.graph v.turns (state_at v) fault) (a.there.all.plans j v at) shows, λ i w lt there. a.others i w (λ e. less i e lt) there)
        (a.platform, (a.fault v at).0 ∙ ap is_fault is, (a.fault v at).1 ∙ ap is_late is)
        (λ e. absurd (none_some_fault (j, fault) e))
      where
        less : (i : ℕ) → i ≡ j → i < j → ⊥
        less i e lt = omega arith

    none_has : v.fault ≡ None → (i : ℕ) (w : PlatformView) → slice_get platforms i ≡ Some w → w.fault ≡ None
    none_has none i w there = ⊎_elim
        (λ (here : i ≡ j). ap (λ (z : PlatformView). z.fault) (same_some w v (sym there ∙ ap (slice_get platforms) here ∙ at)) ∙ none)
        (λ (other : i ≢ j). a.others i w other there)
        (cases_same i j)

    fine : v.fault ≡ None → a.made.fault ≡ false
    fine none = (a.fault v at).0 ∙ ap is_fault none

    pub ended_finished : v.fault ≡ None → AreAllFinished platforms → IsOutcome plan rows most began now platforms None
    ended_finished none done =
        ended (inl (all_finished plan rows a.together platforms a.there done)) None (λ i w there. (none_has none i w there, finished_here plan rows a.together platforms a.there done i w there)) (fine none) (λ e. all_finished plan rows a.together platforms a.there done)

    on_time : v.fault ≡ None → a.made.late ≡ false
    on_time none = ⊎_elim (λ (e : a.made.late ≡ true). absurd (false≢true (sym (fine none) ∙ a.visit.faults.0 (inl e)))) (λ (e : a.made.late ≡ false). e) (cases_Bool a.made.late)

    after_below : platform_after plan.graph j < length plan.graph.platforms
    after_below = ⊎_elim
        (λ (e : suc j ≡ length plan.graph.platforms). subst (λ n. n < length plan.graph.platforms) (sym (cond-true (suc j == length plan.graph.platforms) 0 (suc j) (eq-eqb (suc j) (length plan.graph.platforms) e))) (some j (length plan.graph.platforms) e))
        (λ (ne : suc j ≢ length plan.graph.platforms). subst (λ n. n < length plan.graph.platforms) (sym (cond-false (suc j == length plan.graph.platforms) 0 (suc j) (ne_eqb (suc j) (length plan.graph.platforms) ne))) (more j (length plan.graph.platforms) a.next ne))
        (cases_same (suc j) (length plan.graph.platforms))
      where
        some : (j n : ℕ) → suc j ≡ n → 0 < n
        some j n e = omega arith

        more : (j n : ℕ) → j < n → suc j ≢ n → suc j < n
        more j n lt ne = omega arith

    pub before_next : v.fault ≡ None → (AreAllFinished platforms → ⊥) → BeforeVisit plan rows most (platform_after plan.graph j) began now platforms pipes results
    before_next none going = record {
      admitted = a.admitted;
      fit = a.fit;
      together = a.together;
      readings = with_reading a.readings j a.reading;
      next = after_below;
      goes = visits_go_on plan.graph (level_of plan.ranks) rows most a.readings j a.reading a.before a.together a.made a.goes a.platform a.visit goes_still;
      free = links_stay_free plan.graph (level_of plan.ranks) most (later_of (greatest_of 0 (a.readings j)) a.reading) j a.before a.together a.made (λ l. 64) a.free a.next a.visit a.platform (on_time none)
          (λ l link there away. own.sent l (λ other at2 e. away (ap (λ (z : Link). platform_of plan.graph z.from) (same_some link other (sym there ∙ at2)) ∙ e ∙ a.platform)))
          (plan_homes plan a.admitted);
      sound = sound_after plan.graph (level_of plan.ranks) rows is_wired a.admitted.levels a.fit most (later_of (greatest_of 0 (a.readings j)) a.reading) (λ l. 64) a.before a.together a.made a.sound a.visit (fine none);
      shown = a.shown (on_time none);
      clocks = a.clocks;
      no_fault = none_has none;
    }
      where
        goes_still : IsOver plan.graph a.made a.together → ⊥
        goes_still over = ⊎_elim
            (λ (done : AreFinished plan.graph a.together). going (each_finished plan rows a.together platforms a.there done))
            (λ (bad : a.made.fault ≡ true). false≢true (sym (fine none) ∙ bad))
            over

        own : Own plan.graph (level_of plan.ranks) a.made.platform (a.before.at a.made.platform) a.made.turn (a.together.at a.made.platform)
        own = own_turn plan.graph (level_of plan.ranks) rows is_wired a.admitted.levels a.fit most (later_of (greatest_of 0 (a.readings j)) a.reading) (λ l. 64) a.before a.together a.made a.sound a.visit
