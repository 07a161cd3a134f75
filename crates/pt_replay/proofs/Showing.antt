-- A visit of an engine is a visit by the definitions.
use Rattle.std.proofs.Common.{◌≡◌, ◌≢◌, ◌∙◌, ℕ, zero, suc, ◌+◌, ◌-◌, ◌<◌, ◌≤◌, ◌^◌, true, false, List, [], ◌∷◌, ◌++◌, Some, None, length, map, set, take, drop, slice_get, option_map, refl, sym, ap, ap₂, subst, arith, ⊎_elim, append-nil}
use Rattle.std.proofs.lemmas.Bool.{cases_Bool, cond-true, cond-false}
use Rattle.std.proofs.lemmas.List.{length-map}
use Rattle.pt_tags.specs.declared.message.Message.{Message}
use Rattle.pt_types.specs.declared.firing.Done.{Done}
use Rattle.pt_types.specs.declared.graph.Graph.{Graph}
use Rattle.pt_types.specs.declared.graph.Link.{Link}
use Rattle.pt_types.specs.declared.rows.Row.{Row}
use Rattle.pt_types.specs.Lookups.{platform_of}
use Rattle.pt_types.proofs.LawfulEnds.{joined}
use Rattle.pt_semantics.specs.Closing.{on_link}
use Rattle.pt_semantics.specs.Rows.{FitRows}
use Rattle.pt_semantics.specs.Turn.{Turn}
use Rattle.pt_semantics.specs.Visits.{IsVisit, VisitRecord, leads_to}
use Rattle.pt_semantics.proofs.Lookups.{none_some, same_some}
use Rattle.pt_causality.specs.Ranked.{level_of}
use Rattle.pt_offsets.specs.Plans.{IsAdmitted, Parts}
use Rattle.pt_types.specs.declared.air.Air.{Air}
use Rattle.pt_types.specs.declared.air.InAir.{InAir}
use Rattle.pt_semantics.specs.Arrivals.{AirwayView}
use Rattle.pt_turn.specs.Platforms.{PlatformView, level_at, raised_to, state_at}
use Rattle.pt_turn.specs.Turned.{MayCome, is_late}
use Rattle.pt_visits.specs.Pipes.{arriving}
use Rattle.pt_replay.specs.Visits.Visits.{WasVisitedAt, airway_after}
use Rattle.pt_semantics.specs.TrueTime.{came, come_on, left_on, map_from, put_link, reading_at}
use Rattle.pt_replay.proofs.Visits.Replacing.{length-map_from}
use Rattle.pt_replay_laws.specs.ReplayState.{IsVisitAt, ReplayState, come_to, taken_off}
use Rattle.pt_engine.specs.Shown.{AreShown, is_fault}
use Rattle.pt_engine.specs.Showing.{OnTimeSoFar, ShowsVisit}
use Rattle.pt_engine.proofs.Changed.{set_cases}
use Rattle.pt_engine.proofs.Passing.{raised_same}
use Rattle.pt_engine.proofs.Piping.{lead_of, leads_elsewhere, leads_there, there_or_not}
use Rattle.pt_engine.proofs.Showing.{may_come as comes, visit_shows}
use Rattle.pt_replay.specs.Shown.{AreShownInReplay}

-- a visit of platform i, and what the platforms, airways and results represent after it
pub record ShowsVisitAt (plan : Parts) (rows : ℕ → List Row) (air : Air) (now i : ℕ) (x : ReplayState) (w : PlatformView) (turn : Turn) (platforms : List PlatformView) (airways : List AirwayView) (results : List (List Done)) : Type 0 where
  pub made : VisitRecord
  pub state : ReplayState
  pub platform : made.platform ≡ i
  pub turn_is : made.turn ≡ turn
  pub late : made.late ≡ is_late w.fault
  pub fault : made.fault ≡ is_fault w.fault
  pub is_visit : IsVisitAt plan.graph (level_of plan.ranks) air now x made state
  pub shown : AreShownInReplay plan rows state platforms airways results

-- the item at a place
get_map_from : {A B : Type 0} (f : ℕ → A → B) (n k l : ℕ) (xs : List A) → l ≡ k + n → slice_get (map_from f n xs) k ≡ option_map (f l) (slice_get xs k)
get_map_from f n k l [] e = refl
get_map_from f n zero l (x ∷ xs) e = let at : n ≡ l = omega arith in ap (λ j. Some (f j x)) at
get_map_from f n (suc k) l (x ∷ xs) e = get_map_from f (suc n) k l xs (omega arith)

from_map : {A B : Type 0} (f : ℕ → A → B) (l : ℕ) (xs : List A) (y : B) → slice_get (map_from f 0 xs) l ≡ Some y → (x : A) × (slice_get xs l ≡ Some x) × (y ≡ f l x)
from_map {A} f l xs y at =
    let get = get_map_from f 0 l l xs (omega arith) in
    ⊎_elim
    (λ (none : slice_get xs l ≡ None). absurd (none_some y (sym (ap (option_map (f l)) none) ∙ sym get ∙ at)))
    (λ (one : (x : A) × (slice_get xs l ≡ Some x)). (one.0, one.1, sym (same_some (f l one.0) y (sym (ap (option_map (f l)) one.1) ∙ sym get ∙ at))))
    (there_or_not (slice_get xs l))

none_in_map : {A B : Type 0} (f : ℕ → A → B) (l : ℕ) (xs : List A) → slice_get (map_from f 0 xs) l ≡ None → slice_get xs l ≡ None
none_in_map {A} f l xs at =
    ⊎_elim
    (λ (none : slice_get xs l ≡ None). none)
    (λ (one : (x : A) × (slice_get xs l ≡ Some x)). absurd (none_some (f l one.0) (sym at ∙ get_map_from f 0 l l xs (omega arith) ∙ ap (option_map (f l)) one.1)))
    (there_or_not (slice_get xs l))

none_past : {A B : Type 0} (xs : List A) (ys : List B) (l : ℕ) → length xs ≡ length ys → slice_get xs l ≡ None → slice_get ys l ≡ None
none_past [] [] l e none = refl
none_past [] (y ∷ ys) l e none = absurd (omega (arith, e))
none_past (x ∷ xs) [] l e none = refl
none_past (x ∷ xs) (y ∷ ys) zero e none = absurd (none_some x (sym none))
none_past (x ∷ xs) (y ∷ ys) (suc l) e none = none_past xs ys l (omega (arith, e)) none

-- what is taken is as long as what had come
drop_taken : {X : Type 0} (k : ℕ) (xs : List X) → drop (length (take k xs)) xs ≡ drop k xs
drop_taken zero xs = refl
drop_taken (suc k) [] = refl
drop_taken (suc k) (x ∷ xs) = drop_taken k xs

no_front : {X : Type 0} (xs ys : List X) → [] ≡ xs ++ ys → xs ≡ []
no_front [] ys e = refl
no_front (x ∷ xs) ys e = absurd (differ (sym e))
  where
    differ : x ∷ (xs ++ ys) ≡ [] → ⊥
    differ e = cc

-- what had come on a link, and what is left of it
module _ (g : Graph) (i now l : ℕ) (a : AirwayView) where
  comes_there : leads_to g i (slice_get g.links l) ≡ true → come_on g i now l a ≡ map (λ (m : InAir). m.message) (take (came now a.on_way) a.on_way)
  comes_there leads = cond-true (leads_to g i (slice_get g.links l)) (map (λ (m : InAir). m.message) (take (came now a.on_way) a.on_way)) [] leads

  none_comes : leads_to g i (slice_get g.links l) ≡ false → come_on g i now l a ≡ []
  none_comes leads = cond-false (leads_to g i (slice_get g.links l)) (map (λ (m : InAir). m.message) (take (came now a.on_way) a.on_way)) [] leads

  all_taken_off : leads_to g i (slice_get g.links l) ≡ true → taken_off (come_on g i now l a) a ≡ left_on g i now l a
  all_taken_off leads =
      ap (λ ms. taken_off ms a) (comes_there leads)
      ∙ ap (λ (z : List InAir). record a { on_way = z }) (ap (λ n. drop n a.on_way) (length-map (take (came now a.on_way) a.on_way) (λ (m : InAir). m.message)) ∙ drop_taken (came now a.on_way) a.on_way)
      ∙ sym (cond-true (leads_to g i (slice_get g.links l)) (record a { on_way = drop (came now a.on_way) a.on_way }) a leads)

  all_left : leads_to g i (slice_get g.links l) ≡ false → a ≡ left_on g i now l a
  all_left leads = sym (cond-false (leads_to g i (slice_get g.links l)) (record a { on_way = drop (came now a.on_way) a.on_way }) a leads)

-- before a visit of the platform with this view
record IsBefore (rows : ℕ → List Row) (now : ℕ) (x : ReplayState) (platforms : List PlatformView) (airways : List AirwayView) (results : List (List Done)) (v : PlatformView) : Type 0 where
  admitted : IsAdmitted v.plan
  fits : FitRows v.plan.graph rows
  shown : AreShownInReplay v.plan rows x platforms airways results
  there : slice_get platforms v.number ≡ Some v
  no_fault : v.fault ≡ None
  so_far : OnTimeSoFar v.plan.graph (level_at v) rows v.number (come_to v.plan.graph v.number now x)

module _ (rows : ℕ → List Row) (now : ℕ) (x : ReplayState) (platforms : List PlatformView) (airways : List AirwayView) (results : List (List Done)) (v : PlatformView) (h : IsBefore rows now x platforms airways results v) where
  abbrev seen : List (List Message)
  seen = map_from (come_on v.plan.graph v.number now) 0 airways

  -- the pipes hold what had come
  shown_here : AreShown v.plan rows (come_to v.plan.graph v.number now x) platforms seen results
  shown_here = record {
    all = h.shown.all;
    states = h.shown.states;
    kept_turns = h.shown.kept_turns;
    links = length-map_from (come_on v.plan.graph v.number now) 0 airways ∙ h.shown.links;
    on_way = λ l pipe at.
        let one = from_map (come_on v.plan.graph v.number now) l airways pipe at in
        ⊎_elim
        (λ (leads : leads_to v.plan.graph v.number (slice_get v.plan.graph.links l) ≡ true).
        let link = lead_of v.plan.graph v.number (slice_get v.plan.graph.links l) leads in
        ap (come_on v.plan.graph v.number now l) (h.shown.ways l link.0 v one.0 link.1 (ap (slice_get platforms) link.2 ∙ h.there) h.no_fault one.1) ∙ sym one.2)
        (λ (away : leads_to v.plan.graph v.number (slice_get v.plan.graph.links l) ≡ false). none_comes v.plan.graph v.number now l (x.airways l) away ∙ sym (none_comes v.plan.graph v.number now l one.0 away) ∙ sym one.2)
        (cases_Bool (leads_to v.plan.graph v.number (slice_get v.plan.graph.links l)));
    nowhere_else = λ l none.
        none_comes v.plan.graph v.number now l (x.airways l) (ap (leads_to v.plan.graph v.number) (none_past airways v.plan.graph.links l h.shown.links (none_in_map (come_on v.plan.graph v.number now) l airways none)));
    count = h.shown.pending.count;
    pending = h.shown.pending.each;
  }

  comes_here : MayCome v.plan.graph (level_at v) v.number (state_at v) (arriving v.plan.graph v.number 0 seen)
  comes_here = comes v.plan rows (come_to v.plan.graph v.number now x) platforms seen results h.admitted h.fits shown_here v.number v h.there h.so_far

module _ (rows : ℕ → List Row) (now : ℕ) (x : ReplayState) (platforms : List PlatformView) (airways : List AirwayView) (results : List (List Done)) (v : PlatformView) (h : IsBefore rows now x platforms airways results v)
    (air : Air) (w : PlatformView) (dones next : List Done) (after : List AirwayView) (mine_at : slice_get results v.number ≡ Some dones) (k : WasVisitedAt air now dones next v w airways after)
    (last : (p : ℕ) → v.reading ≡ Some p → p ≤ reading_at air v.number now) (small : reading_at air v.number now < 2 ^ 64) where
  at_reading : raised_to v.reading (reading_at air v.number now) ≡ reading_at air v.number now
  at_reading = raised_same v.reading (reading_at air v.number now) last

  -- nothing has come on a link that leads elsewhere
  elsewhere : (l : ℕ) (link : Link) → slice_get v.plan.graph.links l ≡ Some link → (platform_of v.plan.graph link.to ≡ v.number → ⊥) → (a : AirwayView) → come_on v.plan.graph v.number now l a ≡ []
  elsewhere l link at other a = none_comes v.plan.graph v.number now l a (leads_elsewhere v.plan.graph v.number (slice_get v.plan.graph.links l) link at other)

  visit : ShowsVisit v.plan rows 64 (λ l. 64) (reading_at air v.number now) v.number (come_to v.plan.graph v.number now x) w k.visited.turn (set platforms v.number w) k.piped (set results v.number next)
  visit =
      subst (λ r. ShowsVisit v.plan rows 64 (λ l. 64) r v.number (come_to v.plan.graph v.number now x) w k.visited.turn (set platforms v.number w) k.piped (set results v.number next)) at_reading
      (visit_shows v.plan rows (come_to v.plan.graph v.number now x) platforms (seen rows now x platforms airways results v h) results h.admitted h.fits (shown_here rows now x platforms airways results v h)
      64 (reading_at air v.number now) v.number v w dones next k.piped h.there mine_at h.so_far
      (λ l. 64) (λ l link at home. sym (ap (λ (ms : List Message). 64 - length ms) (elsewhere l link at (λ there. ((joined v.plan.graph h.admitted.lawful).linked l link at).elsewhere (home ∙ sym there)) (x.airways l))))
      (subst (λ r. r < 2 ^ 64) (sym at_reading) small) k.visited)

  abbrev state_after : ReplayState
  state_after = record {
    at = visit.together.at;
    did = visit.together.did;
    airways = λ l. put_link air v.plan.graph now l (on_link l visit.made.turn.sent) (taken_off (on_link l visit.made.turn.taken) (x.airways l));
  }

  is_visit_here : IsVisitAt v.plan.graph (level_at v) air now x visit.made state_after
  is_visit_here = record {
    after = visit.together;
    visit = subst (λ n. IsVisit v.plan.graph (level_at v) 64 (λ l. 64) (reading_at air n now) (come_to v.plan.graph n now x) visit.made visit.together) (sym visit.platform) visit.makes;
    states = refl;
    turns = refl;
    airways = λ l. refl;
  }

  -- what is left on a link is what the engine left there
  left_there : (l : ℕ) (link : Link) (u : PlatformView) (b : AirwayView) → slice_get v.plan.graph.links l ≡ Some link → slice_get (set platforms v.number w) (platform_of v.plan.graph link.to) ≡ Some u → u.fault ≡ None →
      slice_get airways l ≡ Some b → taken_off (on_link l visit.made.turn.taken) (x.airways l) ≡ left_on v.plan.graph v.number now l b
  left_there l link u b at there none at_b =
      ⊎_elim
      (λ (here : (platform_of v.plan.graph link.to ≡ v.number) × (u ≡ w)).
      let same : x.airways l ≡ b = h.shown.ways l link v b at (ap (slice_get platforms) here.0 ∙ h.there) h.no_fault at_b in
      let on_time : visit.made.late ≡ false = visit.late ∙ ap is_late (ap (λ (z : PlatformView). z.fault) (sym here.1) ∙ none) in
      let taken : on_link l visit.made.turn.taken ≡ come_on v.plan.graph v.number now l (x.airways l) =
      sym (visit.makes.takes l ∙ ap (λ z. on_link l visit.made.turn.taken ++ z) (visit.makes.takes_all on_time l link at (here.0 ∙ sym visit.platform)) ∙ append-nil (on_link l visit.made.turn.taken)) in
      ap (λ ms. taken_off ms (x.airways l)) taken
      ∙ all_taken_off v.plan.graph v.number now l (x.airways l) (leads_there v.plan.graph v.number (slice_get v.plan.graph.links l) link at here.0)
      ∙ ap (left_on v.plan.graph v.number now l) same)
      (λ (other : (platform_of v.plan.graph link.to ≢ v.number) × (slice_get platforms (platform_of v.plan.graph link.to) ≡ Some u)).
      let same : x.airways l ≡ b = h.shown.ways l link u b at other.1 none at_b in
      let taken : on_link l visit.made.turn.taken ≡ [] =
      no_front (on_link l visit.made.turn.taken) (visit.makes.rest l) (sym (elsewhere l link at other.0 (x.airways l)) ∙ visit.makes.takes l) in
      ap (λ ms. taken_off ms (x.airways l)) taken
      ∙ same
      ∙ all_left v.plan.graph v.number now l b (leads_elsewhere v.plan.graph v.number (slice_get v.plan.graph.links l) link at other.0))
      (set_cases platforms v.number (platform_of v.plan.graph link.to) w v u h.there there)

  shows_here : ShowsVisitAt v.plan rows air now v.number x w k.visited.turn (set platforms v.number w) after (set results v.number next)
  shows_here = record {
    made = visit.made;
    state = state_after;
    platform = visit.platform;
    turn_is = visit.turn_is;
    late = visit.late;
    fault = visit.fault;
    is_visit = is_visit_here;
    shown = record {
      all = visit.there.all;
      states = visit.there.states;
      kept_turns = visit.there.kept_turns;
      links = ap length k.airways ∙ length-map_from (airway_after air v.plan.graph v.number now k.visited.turn.sent) 0 airways ∙ h.shown.links;
      ways = λ l link u a at there none at_a.
          let one = from_map (airway_after air v.plan.graph v.number now k.visited.turn.sent) l airways a (sym (ap (λ (z : List AirwayView). slice_get z l) k.airways) ∙ at_a) in
          ap₂ (λ (ms : List Message) (z : AirwayView). put_link air v.plan.graph now l ms z) (ap (λ (t : Turn). on_link l t.sent) visit.turn_is) (left_there l link u one.0 at there none one.1)
          ∙ sym one.2;
      pending = visit.pending;
    };
  }

-- the same by the plan and the number of the platform's view
module _ (plan : Parts) (rows : ℕ → List Row) (now : ℕ) (x : ReplayState) (platforms : List PlatformView) (airways : List AirwayView) (results : List (List Done)) (admitted : IsAdmitted plan) (fits : FitRows plan.graph rows)
    (shown : AreShownInReplay plan rows x platforms airways results) (i : ℕ) (v : PlatformView) (there : slice_get platforms i ≡ Some v) (no_fault : v.fault ≡ None) (so_far : OnTimeSoFar plan.graph (level_of plan.ranks) rows i (come_to plan.graph i now x)) where
  plan_is : plan ≡ v.plan
  plan_is = sym (shown.all.plans i v there)

  number_is : i ≡ v.number
  number_is = sym (shown.all.numbers i v there)

  before_of : IsBefore rows now x platforms airways results v
  before_of = record {
    admitted = subst IsAdmitted plan_is admitted;
    fits = subst (λ (p : Parts). FitRows p.graph rows) plan_is fits;
    shown = subst (λ (p : Parts). AreShownInReplay p rows x platforms airways results) plan_is shown;
    there = subst (λ n. slice_get platforms n ≡ Some v) number_is there;
    no_fault = no_fault;
    so_far = subst (λ (p : Parts). OnTimeSoFar p.graph (level_of p.ranks) rows v.number (come_to p.graph v.number now x)) plan_is
        (subst (λ n. OnTimeSoFar plan.graph (level_of plan.ranks) rows n (come_to plan.graph n now x)) number_is so_far);
  }

  -- a platform may take the messages that have come to it
  pub may_come : MayCome v.plan.graph (level_at v) v.number (state_at v) (arriving v.plan.graph v.number 0 (map_from (come_on v.plan.graph v.number now) 0 airways))
  may_come = comes_here rows now x platforms airways results v before_of

  pub visit_at_shows : (air : Air) (w : PlatformView) (dones next : List Done) (after : List AirwayView) → slice_get results i ≡ Some dones → (visit : WasVisitedAt air now dones next v w airways after) →
      ((p : ℕ) → v.reading ≡ Some p → p ≤ reading_at air i now) → reading_at air i now < 2 ^ 64 →
      ShowsVisitAt plan rows air now i x w visit.visited.turn (set platforms i w) after (set results i next)
  visit_at_shows air w dones next after mine_at visit last small =
      subst (λ (p : Parts). ShowsVisitAt p rows air now i x w visit.visited.turn (set platforms i w) after (set results i next)) (sym plan_is)
      (subst (λ n. ShowsVisitAt v.plan rows air now n x w visit.visited.turn (set platforms n w) after (set results n next)) (sym number_is)
      (shows_here rows now x platforms airways results v before_of air w dones next after (subst (λ n. slice_get results n ≡ Some dones) number_is mine_at) visit
      (subst (λ n. (p : ℕ) → v.reading ≡ Some p → p ≤ reading_at air n now) number_is last) (subst (λ n. reading_at air n now < 2 ^ 64) number_is small)))
