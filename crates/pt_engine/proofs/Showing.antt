-- The lemma of one visit among all platforms.
use Rattle.std.proofs.Common.{◌≡◌, ℕ, ◌-◌, ◌<◌, ◌≤◌, ◌^◌, ◌⊎◌, ◌≢◌, ◌==◌, if◌then◌else◌, Bool, true, false, cond, List, [], ◌∷◌, ◌++◌, Option, Some, None, length, length-set, set, take, slice_get, refl, sym, ap, ap₂, subst, ◌∙◌, ⊎_elim, append-nil, append_assoc, eq-eqb, eqb-true}
use Rattle.std.proofs.Math.Path.{fun_ext}
use Rattle.std.proofs.Math.Seq.{take-nil}
use Rattle.std.proofs.lemmas.Bool.{cases_Bool, cond-true, cond-false, false≢true, ne_eqb}
use Rattle.std.proofs.lemmas.Option.{slice_get-get_or, slice_get_within}
use Rattle.pt_tags.specs.declared.message.Message.{Message}
use Rattle.pt_types.specs.declared.firing.Done.{Done}
use Rattle.pt_types.specs.declared.firing.OnLink.{OnLink}
use Rattle.pt_types.specs.declared.firing.Task.{Task}
use Rattle.pt_types.specs.declared.graph.Graph.{Graph}
use Rattle.pt_types.specs.declared.graph.Link.{Link}
use Rattle.pt_types.specs.declared.graph.Unit.{Unit}
use Rattle.pt_types.specs.declared.rows.Row.{Row}
use Rattle.pt_semantics.specs.Claiming.{Claims}
use Rattle.pt_semantics.specs.Closing.{CanClose, Sends, on_link, shut}
use Rattle.pt_types.specs.Lookups.{platform_of}
use Rattle.pt_semantics.specs.Entering.{after_rows, all_due}
use Rattle.pt_semantics.specs.History.{Legal, LegalOnTime}
use Rattle.pt_semantics.specs.Kept.{kept, kept_with}
use Rattle.pt_semantics.specs.Linked.{all_sent, all_taken}
use Rattle.pt_semantics.specs.Lists.{Each}
use Rattle.pt_semantics.specs.Orderly.{ComesAfter, FitsStep, InOrder, IsOrderly}
use Rattle.pt_semantics.specs.Platform.{State, opened, raised}
use Rattle.pt_semantics.specs.Posting.{Posts}
use Rattle.pt_semantics.specs.Ranks.{AreLevels}
use Rattle.pt_semantics.specs.Rows.{FitRows}
use Rattle.pt_semantics.specs.Safe.{NothingSafe}
use Rattle.pt_semantics.specs.Turn.{IsLast, IsTurn, Turn}
use Rattle.pt_semantics.specs.Visits.{IsVisit, LinkByLink, VisitRecord, NumbersRise, RunState, leads_to}
use Rattle.pt_semantics.specs.Wired.{IsWired}
use Rattle.pt_laws.proofs.Bounds.{outgoing_orderly}
use Rattle.pt_laws.proofs.Home.{home_on_time}
use Rattle.pt_semantics.proofs.Longest.{levels_grow}
use Rattle.pt_semantics.proofs.Lookups.{none_some, same_some}
use Rattle.pt_laws.proofs.Onward.{cases_same}
use Rattle.pt_laws.proofs.Walks.{on_time_history}
use Rattle.pt_types.proofs.LawfulEnds.{joined}
use Rattle.pt_semantics.proofs.LawfulEdges.{wired}
use Rattle.pt_causality.specs.Ranked.{level_of}
use Rattle.pt_offsets.specs.Plans.{IsAdmitted, Parts}
use Rattle.pt_turn.specs.Fields.State.{busy_in}
use Rattle.pt_history.proofs.Gathered.{kept-push}
use Rattle.pt_turn.specs.declared.fault.TurnFault.{TurnFault}
use Rattle.pt_turn.specs.Platforms.{PlatformView, level_at, raised_to, rows_at, state_at}
use Rattle.pt_turn.specs.Turned.{FaultsIfLast, MayCome, is_late}
use Rattle.pt_turn.proofs.Coming.{on_append}
use Rattle.pt_turn.specs.All.{AreAll}
use Rattle.pt_visits.specs.Pipes.{arriving, emptied}
use Rattle.pt_visits.specs.Visited.{IsVisited}
use Rattle.pt_fixed_order_laws.proofs.Fronts.{fronts_are_by_link}
use Rattle.pt_fixed_order_laws.specs.Sound.{IsForeign, SendsNothingElse}
use Rattle.pt_fixed_order_laws.proofs.Sound.{Own, turn_own}
use Rattle.pt_engine.specs.Shown.{AreOpen, ArePending, AreResults, AreShown, AreThere, is_fault}
use Rattle.pt_engine.specs.Showing.{IsRoomFrom, MayComeTo, OnTimeSoFar, ShowsVisit, StartShows, VisitShows}
use Rattle.pt_engine.proofs.Changed.{set_cases, set_elsewhere, set_here}
use Rattle.pt_engine.proofs.Piping.{both_parts, by_link, held, held_emptied, held_none, held_pushed, held_some, in_arriving, lead_of, leads_elsewhere, leads_there, length-emptied, on_arriving, there_or_not}
use Rattle.pt_engine.proofs.Opening.{all_posted, claims_open, none_open, numbers_rise, takes_busy, tasks_of}

-- a front of an orderly list is orderly
each_front : {X : Type 0} (P : X → Type 0) (xs ys : List X) → Each P (xs ++ ys) → Each P xs
each_front P [] ys h = tt
each_front P (x ∷ xs) ys h = (h.0, each_front P xs ys h.1)

order_front : (xs ys : List Message) → InOrder (xs ++ ys) → InOrder xs
order_front [] ys h = tt
order_front (x ∷ xs) ys h = (each_front (ComesAfter x) xs ys h.0, order_front xs ys h.1)

pub orderly_front : (g : Graph) (level : ℕ → ℕ) (link : Link) (xs ys : List Message) → IsOrderly g level link (xs ++ ys) → IsOrderly g level link xs
orderly_front g level link xs ys h = (order_front xs ys h.0, each_front (FitsStep g.until (length g.actors) (level link.to)) xs ys h.1)

-- and a front of messages that are sorted by link is sorted by link
link_front : (xs ys : List OnLink) → LinkByLink (xs ++ ys) → LinkByLink xs
link_front [] ys h = tt
link_front (x ∷ xs) ys h = (each_of (λ (n : OnLink). x.link ≤ n.link) xs ys h.0, link_front xs ys h.1)
  where
    each_of : (P : OnLink → Type 0) (xs ys : List OnLink) → Each P (xs ++ ys) → Each P xs
    each_of P [] ys h = tt
    each_of P (x ∷ xs) ys h = (h.0, each_of P xs ys h.1)

-- a turn ends with a fault exactly if it is a last one
fault_if_last : (fault : Option TurnFault) (X : Type 0) → FaultsIfLast fault X → (X → is_fault fault ≡ true) × (is_fault fault ≡ true → X)
fault_if_last None X h = ((λ last. absurd (h last)), (λ e. absurd (false≢true e)))
fault_if_last (Some fault) X h = ((λ last. refl), (λ e. h))

-- a turn between states that are the same
abbrev same_turn : (g : Graph) (level : ℕ → ℕ) (i : ℕ) (s t new end : State) (turn : Turn) (late : Bool) → s ≡ t → new ≡ end → IsTurn g level i s turn late new → IsTurn g level i t turn late end
same_turn g level i s t new end turn late e f is = record {
  rises = λ p q. is.rises p (ap (λ (z : State). z.reading) e ∙ q);
  span = is.span;
  posted = is.posted;
  posts = subst (λ (z : State). Posts g z turn.posted is.posted) e is.posts;
  rows = subst (λ (z : State). turn.rows ≡ all_due g turn.last z.left) e is.rows;
  got = is.got;
  takes = is.takes;
  ready = is.ready;
  claims = is.claims;
  idle_if_late = is.idle_if_late;
  greedy = λ h. subst (λ (z : State). (late ≡ true) ⊎ (NothingSafe g is.ready.waits is.ready.busy turn.last ⊎ (g.claims ≤ z.claims))) e (is.greedy h);
  at_most = is.at_most;
  done = is.done;
  closes = is.closes;
  sends = subst (λ (z : State). Sends is.done turn.sent z) f is.sends;
}

-- the messages on the way on a link are those in its pipe
way_is : (plan : Parts) (rows : ℕ → List Row) (x : RunState) (platforms : List PlatformView) (pipes : List (List Message)) (results : List (List Done)) → AreShown plan rows x platforms pipes results → (l : ℕ) → x.on_way l ≡ held pipes l
way_is plan rows x platforms pipes results shown l =
    ⊎_elim
    (λ (none : slice_get pipes l ≡ None). shown.nowhere_else l none ∙ sym (held_none pipes l none))
    (λ (at : (pipe : List Message) × (slice_get pipes l ≡ Some pipe)). shown.on_way l at.0 at.1 ∙ sym (held_some pipes l at.0 at.1))
    (there_or_not (slice_get pipes l))

-- no platform took a late message so far, and a visit sees all that is on its way
module _ (g : Graph) (level : ℕ → ℕ) (rows : ℕ → List Row) (x : RunState) (is_wired : IsWired g) (are : AreLevels g level) (fits : FitRows g rows)
    (legal : (p : ℕ) → p < length g.platforms → LegalOnTime g level p (opened g p rows) (x.did p) (x.at p))
    (linked : (l : ℕ) (link : Link) → slice_get g.links l ≡ Some link → all_sent l (x.did (platform_of g link.from)) ≡ all_taken l (x.did (platform_of g link.to)) ++ x.on_way l) where
  pub all_on_time : (i : ℕ) → i < length g.platforms → SendsNothingElse g i (x.at i) → OnTimeSoFar g level rows i x
  all_on_time i lt own = record {
    legal = legal i lt;
    own = own;
    orderly = λ l link at home.
        let from : ℕ = platform_of g link.from in
        orderly_front g level link (all_sent l (x.did from)) ((x.at from).outbox l) (outgoing_orderly g level from rows (x.did from) (x.at from) is_wired are fits (legal from (is_wired.homes link.from)) l link at refl);
    linked = λ l link at home. ([], linked l link at ∙ ap (λ n. all_taken l (x.did n) ++ x.on_way l) home ∙ sym (append-nil (all_taken l (x.did i) ++ x.on_way l)));
  }

-- all platforms before a visit of the one with this view
record IsBefore (rows : ℕ → List Row) (x : RunState) (platforms : List PlatformView) (pipes : List (List Message)) (results : List (List Done)) (v : PlatformView) : Type 0 where
  admitted : IsAdmitted v.plan
  fits : FitRows v.plan.graph rows
  so_far : OnTimeSoFar v.plan.graph (level_at v) rows v.number x
  shown : AreShown v.plan rows x platforms pipes results
  there : slice_get platforms v.number ≡ Some v

module _ (rows : ℕ → List Row) (x : RunState) (platforms : List PlatformView) (pipes : List (List Message)) (results : List (List Done)) (v : PlatformView) (h : IsBefore rows x platforms pipes results v) where
  graph_wired : IsWired v.plan.graph
  graph_wired = wired v.plan.graph h.admitted.lawful

  on_graph : v.number < length v.plan.graph.platforms
  on_graph = subst (λ n. v.number < n) h.shown.all.count (slice_get_within platforms v.number v h.there)

  state_is : x.at v.number ≡ state_at v
  state_is = h.shown.states v.number v h.there

  way : (l : ℕ) → x.on_way l ≡ held pipes l
  way l = way_is v.plan rows x platforms pipes results h.shown l

  -- what arrives on a link that leads here is all that is on its way
  arrives : (l : ℕ) → leads_to v.plan.graph v.number (slice_get v.plan.graph.links l) ≡ true → on_link l (arriving v.plan.graph v.number 0 pipes) ≡ x.on_way l
  arrives l leads =
      on_arriving v.plan.graph v.number pipes l
      ∙ cond-true (leads_to v.plan.graph v.number (slice_get v.plan.graph.links l)) (held pipes l) [] leads
      ∙ sym (way l)

  comes : MayCome v.plan.graph (level_at v) v.number (state_at v) (arriving v.plan.graph v.number 0 pipes)
  comes = record {
    links = λ m mem. lead_of v.plan.graph v.number (slice_get v.plan.graph.links m.link) (in_arriving v.plan.graph v.number 0 pipes m mem);
    orderly = λ l link at home.
        let (behind, linked) = h.so_far.linked l link at home in
        let taken : (x.at v.number).taken l ≡ all_taken l (x.did v.number) =
        (on_time_history v.plan.graph (level_at v) v.number rows graph_wired (levels_grow v.plan.graph (level_at v) h.admitted.levels) h.fits (x.did v.number) (x.at v.number) h.so_far.legal).keeps.taken_is l in
        let same : all_taken l (x.did v.number) ++ x.on_way l ≡ (state_at v).taken l ++ on_link l (arriving v.plan.graph v.number 0 pipes) =
        ap (λ z. z ++ x.on_way l) (sym taken ∙ ap (λ (z : State). z.taken l) state_is)
        ∙ ap (λ z. (state_at v).taken l ++ z) (sym (arrives l (leads_there v.plan.graph v.number (slice_get v.plan.graph.links l) link at home))) in
        subst (IsOrderly v.plan.graph (level_at v) link) same
        (orderly_front v.plan.graph (level_at v) link (all_taken l (x.did v.number) ++ x.on_way l) behind (subst (IsOrderly v.plan.graph (level_at v) link) linked (h.so_far.orderly l link at home)));
  }

module _ (rows : ℕ → List Row) (x : RunState) (platforms : List PlatformView) (pipes : List (List Message)) (results : List (List Done)) (v : PlatformView) (h : IsBefore rows x platforms pipes results v)
    (most c : ℕ) (room : ℕ → ℕ) (rooms : IsRoomFrom v.plan.graph v.number x room) (small : raised_to v.reading c < 2 ^ 64) (w : PlatformView) (dones next : List Done) (piped : List (List Message)) (mine_at : slice_get results v.number ≡ Some dones) (k : IsVisited most c dones next v w pipes piped) where
  -- the messages of a link that stay there: those that arrived and were not taken, or, if it leads elsewhere, all
  abbrev stays : ℕ → List Message
  stays l = on_link l k.taken.rest ++ held (emptied v.plan.graph v.number 0 pipes) l

  abbrev after : RunState
  after = record {
    at = λ j. if j == v.number then state_at w else x.at j;
    did = λ j. if j == v.number then x.did v.number ++ k.turn ∷ [] else x.did j;
    on_way = λ l. stays l ++ on_link l k.turn.sent;
  }

  abbrev visit_made : VisitRecord
  visit_made = record { platform = v.number; turn = k.turn; late = is_late w.fault; fault = is_fault w.fault }

  same_number : (v.number == v.number) ≡ true
  same_number = eq-eqb v.number v.number refl

  at_here : after.at v.number ≡ state_at w
  at_here = cond-true (v.number == v.number) (state_at w) (x.at v.number) same_number

  at_there : (j : ℕ) → j ≢ v.number → after.at j ≡ x.at j
  at_there j ne = cond-false (j == v.number) (state_at w) (x.at j) (ne_eqb j v.number ne)

  did_here : after.did v.number ≡ x.did v.number ++ k.turn ∷ []
  did_here = cond-true (v.number == v.number) (x.did v.number ++ k.turn ∷ []) (x.did v.number) same_number

  did_there : (j : ℕ) → j ≢ v.number → after.did j ≡ x.did j
  did_there j ne = cond-false (j == v.number) (x.did v.number ++ k.turn ∷ []) (x.did j) (ne_eqb j v.number ne)

  is_wired : IsWired v.plan.graph
  is_wired = graph_wired rows x platforms pipes results v h

  is_there : v.number < length v.plan.graph.platforms
  is_there = on_graph rows x platforms pipes results v h

  was : x.at v.number ≡ state_at v
  was = state_is rows x platforms pipes results v h

  held_way : (l : ℕ) → x.on_way l ≡ held pipes l
  held_way l = way rows x platforms pipes results v h l

  last_is : k.turn.last ≡ raised_to v.reading c
  last_is = k.at.1

  abbrev turn_is : IsTurn v.plan.graph (level_at v) v.number (x.at v.number) k.turn (is_late w.fault) (after.at v.number)
  turn_is = same_turn v.plan.graph (level_at v) v.number (state_at v) (x.at v.number) (state_at w) (after.at v.number) k.turn (is_late w.fault) (sym was) (sym at_here) k.is

  own_turn : Own v.plan.graph (level_at v) v.number (x.at v.number) k.turn (after.at v.number)
  own_turn = turn_own v.plan.graph (level_at v) v.number (x.at v.number) (after.at v.number) k.turn (is_late w.fault)
      (home_on_time v.plan.graph (level_at v) v.number rows (x.did v.number) (x.at v.number) is_wired (levels_grow v.plan.graph (level_at v) h.admitted.levels) h.fits h.so_far.legal).busy
      h.so_far.own turn_is

  in_order : LinkByLink (k.turn.taken ++ k.taken.rest)
  in_order = subst LinkByLink k.taken.front (by_link v.plan.graph v.number pipes)

  none_left : is_late w.fault ≡ false → (l : ℕ) → on_link l k.taken.rest ≡ []
  none_left on_time l = ap (on_link l) (k.taken.all on_time)

  nothing_stays : (l : ℕ) (link : Link) → slice_get v.plan.graph.links l ≡ Some link → platform_of v.plan.graph link.to ≡ v.number → held (emptied v.plan.graph v.number 0 pipes) l ≡ []
  nothing_stays l link at home =
      held_emptied v.plan.graph v.number pipes l
      ∙ cond-true (leads_to v.plan.graph v.number (slice_get v.plan.graph.links l)) [] (held pipes l) (leads_there v.plan.graph v.number (slice_get v.plan.graph.links l) link at home)

  taken_and_rest : (l : ℕ) → x.on_way l ≡ on_link l k.turn.taken ++ stays l
  taken_and_rest l =
      held_way l
      ∙ both_parts (leads_to v.plan.graph v.number (slice_get v.plan.graph.links l)) (held pipes l)
      ∙ ap₂ (λ (a b : List Message). a ++ b)
      (sym (on_arriving v.plan.graph v.number pipes l) ∙ ap (on_link l) k.taken.front ∙ on_append l k.turn.taken k.taken.rest)
      (sym (held_emptied v.plan.graph v.number pipes l))
      ∙ append_assoc (on_link l k.turn.taken) (on_link l k.taken.rest) (held (emptied v.plan.graph v.number 0 pipes) l)

  takes_first : (l j : ℕ) (link : Link) → slice_get v.plan.graph.links l ≡ Some link → platform_of v.plan.graph link.to ≡ v.number → l < j → (on_link j k.turn.taken ≡ [] → ⊥) → stays l ≡ []
  takes_first l j link at home lt more = ap₂ (λ (a b : List Message). a ++ b) (fronts_are_by_link k.turn.taken k.taken.rest l j in_order lt more) (nothing_stays l link at home)

  -- the pending results are those of all open claims
  pending_here : AreResults v.plan.graph v dones
  pending_here = h.shown.pending v.number v dones h.there mine_at

  posted_is : k.turn.posted ≡ dones
  posted_is = all_posted v.plan.graph (busy_in v.open_claims) dones k.turn.posted pending_here.open_claims k.posted

  all_free : (u : Unit) → k.is.posted.busy u ≡ None
  all_free u = none_open v.plan.graph k.turn.posted (state_at v) k.is.posted (subst (λ ds. AreOpen v.plan.graph (busy_in v.open_claims) (tasks_of ds)) (sym posted_is) pending_here.open_claims) k.is.posts u

  -- on a link of another platform nothing was to be sent
  foreign_outbox : (l : ℕ) → IsForeign v.plan.graph v.number l → k.is.done.outbox l ≡ []
  foreign_outbox l foreign =
      turn_is.sends.2 l
      ∙ ap (λ z. z ++ turn_is.sends.0 l) (own_turn.sent l foreign)
      ∙ sym (ap (λ (z : State). z.outbox l) turn_is.sends.1)
      ∙ own_turn.left l foreign

  sent_foreign : (l : ℕ) → IsForeign v.plan.graph v.number l → on_link l k.turn.sent ≡ take (room l) (k.is.done.outbox l)
  sent_foreign l foreign = own_turn.sent l foreign ∙ sym (ap (take (room l)) (foreign_outbox l foreign) ∙ take-nil (room l))

  sent_own : (l : ℕ) (link : Link) → slice_get v.plan.graph.links l ≡ Some link → platform_of v.plan.graph link.from ≡ v.number → on_link l k.turn.sent ≡ take (room l) (k.is.done.outbox l)
  sent_own l link at home =
      let elsewhere : platform_of v.plan.graph link.to ≡ v.number → ⊥ = λ e. ((joined v.plan.graph h.admitted.lawful).linked l link at).elsewhere (home ∙ sym e) in
      let kept_there : held (emptied v.plan.graph v.number 0 pipes) l ≡ held pipes l =
      held_emptied v.plan.graph v.number pipes l
      ∙ cond-false (leads_to v.plan.graph v.number (slice_get v.plan.graph.links l)) [] (held pipes l) (leads_elsewhere v.plan.graph v.number (slice_get v.plan.graph.links l) link at elsewhere) in
      let lt : l < length v.plan.graph.links = slice_get_within v.plan.graph.links l link at in
      let longs : length (emptied v.plan.graph v.number 0 pipes) ≡ length v.plan.graph.links = length-emptied v.plan.graph v.number 0 pipes ∙ h.shown.links in
      let within : l < length (emptied v.plan.graph v.number 0 pipes) = subst (λ n. l < n) (sym longs) lt in
      ⊎_elim
      (λ (none : slice_get (emptied v.plan.graph v.number 0 pipes) l ≡ None). absurd (none_some _ (sym none ∙ slice_get-get_or (emptied v.plan.graph v.number 0 pipes) l [] within)))
      (λ (pipe : (ms : List Message) × (slice_get (emptied v.plan.graph v.number 0 pipes) l ≡ Some ms)).
      k.sent.first l pipe.0 pipe.1
      ∙ ap (λ (z : List Message). take (64 - length z) (k.is.done.outbox l)) (sym (held_some (emptied v.plan.graph v.number 0 pipes) l pipe.0 pipe.1) ∙ kept_there ∙ sym (held_way l))
      ∙ ap (λ n. take n (k.is.done.outbox l)) (sym (rooms l link at home)))
      (there_or_not (slice_get (emptied v.plan.graph v.number 0 pipes) l))

  sent_all : (l : ℕ) → on_link l k.turn.sent ≡ take (room l) (k.is.done.outbox l)
  sent_all l =
      ⊎_elim
      (λ (none : slice_get v.plan.graph.links l ≡ None). sent_foreign l (λ link at home. none_some link (sym none ∙ at)))
      (λ (at : (link : Link) × (slice_get v.plan.graph.links l ≡ Some link)).
      ⊎_elim
      (λ (home : platform_of v.plan.graph at.0.from ≡ v.number). sent_own l at.0 at.1 home)
      (λ (away : platform_of v.plan.graph at.0.from ≢ v.number). sent_foreign l (λ link there home. away (ap (λ (z : Link). platform_of v.plan.graph z.from) (same_some at.0 link (sym at.1 ∙ there)) ∙ home)))
      (cases_same (platform_of v.plan.graph at.0.from) v.number))
      (there_or_not (slice_get v.plan.graph.links l))

  ends_so : (IsLast v.plan.graph (x.at v.number) (raised_to v.reading c) (is_late w.fault) k.is.ready → is_fault w.fault ≡ true) × (is_fault w.fault ≡ true → IsLast v.plan.graph (x.at v.number) (raised_to v.reading c) (is_late w.fault) k.is.ready)
  ends_so =
      fault_if_last w.fault (IsLast v.plan.graph (x.at v.number) (raised_to v.reading c) (is_late w.fault) k.is.ready)
      (subst (λ n. FaultsIfLast w.fault (IsLast v.plan.graph (x.at v.number) n (is_late w.fault) k.is.ready)) last_is
      (subst (λ (z : State). FaultsIfLast w.fault (IsLast v.plan.graph z k.turn.last (is_late w.fault) k.is.ready)) (sym was) k.last))

  makes_it : IsVisit v.plan.graph (level_at v) most room (raised_to v.reading c) x visit_made after
  makes_it = record {
    fits = small;
    once = k.at.2;
    first = k.at.0;
    last = last_is;
    is = turn_is;
    faults = ends_so;
    others = λ j ne. (at_there j ne, did_there j ne);
    joins = did_here;
    handed = all_free;
    in_order = subst NumbersRise (sym posted_is) pending_here.rise;
    rest = stays;
    takes = taken_and_rest;
    takes_all = λ on_time l link at home. ap₂ (λ (a b : List Message). a ++ b) (none_left on_time l) (nothing_stays l link at home);
    takes_first = takes_first;
    takes_by_link = link_front k.turn.taken k.taken.rest in_order;
    claims_most = k.few;
    claims_all = λ on_time. subst (λ n. NothingSafe v.plan.graph k.is.ready.waits k.is.ready.busy n ⊎ ((most ≤ length k.turn.claimed) ⊎ (v.plan.graph.claims ≤ k.is.ready.claims))) last_is (k.all_or on_time);
    sends = λ l. refl;
    sends_all = sent_all;
    sends_by_link = k.sent.by_link;
  }

  -- what is open after the visit are its claims
  busy_after : (state_at w).busy ≡ k.is.ready.busy
  busy_after =
      ap (λ (z : State). z.busy) k.is.sends.1
      ∙ ⊎_elim
      (λ (shuts : CanClose v.plan.graph v.number k.is.ready k.turn.last × (is_late w.fault ≡ false) × (k.is.done ≡ shut v.plan.graph v.number k.is.ready)). ap (λ (z : State). z.busy) shuts.2)
      (λ (open_still : (CanClose v.plan.graph v.number k.is.ready k.turn.last → is_late w.fault ≡ true) × (k.is.done ≡ k.is.ready)). ap (λ (z : State). z.busy) open_still.1)
      k.is.closes

  free_to_claim : (u : Unit) → k.is.got.busy u ≡ None
  free_to_claim u =
      ap (λ (busy : Unit → Option Task). busy u) (takes_busy v.plan.graph (level_at v) v.number k.turn.taken (is_late w.fault) (after_rows k.is.posted k.turn.last) k.is.got k.is.takes)
      ∙ all_free u

  results_after : AreResults v.plan.graph w next
  results_after = record {
    done = k.done;
    open_claims = subst (AreOpen v.plan.graph (busy_in w.open_claims)) (sym k.fired)
        (subst (λ busy. AreOpen v.plan.graph busy k.turn.claimed) (sym busy_after)
        (claims_open v.plan.graph k.turn.last k.turn.claimed (raised k.is.got k.turn.last) k.is.ready free_to_claim k.is.claims));
    rise = numbers_rise v.plan.graph k.turn.last next (raised k.is.got k.turn.last) k.is.ready
        (subst (λ tasks. Claims v.plan.graph k.turn.last (raised k.is.got k.turn.last) tasks k.is.ready) (sym k.fired) k.is.claims);
  }

  -- a platform after the visit is the one that was visited, or as it was before
  after_cases : (j : ℕ) (u : PlatformView) → slice_get (set platforms v.number w) j ≡ Some u → ((j ≡ v.number) × (u ≡ w)) ⊎ ((j ≢ v.number) × (slice_get platforms j ≡ Some u))
  after_cases j u at = set_cases platforms v.number j w v u h.there at

  all_after : AreAll v.plan rows (set platforms v.number w)
  all_after = record {
    count = length-set platforms v.number w ∙ h.shown.all.count;
    plans = λ j u at.
        ⊎_elim
        (λ (here : (j ≡ v.number) × (u ≡ w)). ap (λ (z : PlatformView). z.plan) here.1 ∙ k.stays.plan)
        (λ (other : (j ≢ v.number) × (slice_get platforms j ≡ Some u)). h.shown.all.plans j u other.1)
        (after_cases j u at);
    numbers = λ j u at.
        ⊎_elim
        (λ (here : (j ≡ v.number) × (u ≡ w)). ap (λ (z : PlatformView). z.number) here.1 ∙ k.stays.number ∙ sym here.0)
        (λ (other : (j ≢ v.number) × (slice_get platforms j ≡ Some u)). h.shown.all.numbers j u other.1)
        (after_cases j u at);
    opened = λ j a u at home.
        ⊎_elim
        (λ (here : (j ≡ v.number) × (u ≡ w)). ap (λ (z : PlatformView). rows_at z a) here.1 ∙ ap (λ (f : ℕ → List Row). f a) k.stays.rows ∙ h.shown.all.opened v.number a v h.there (home ∙ here.0))
        (λ (other : (j ≢ v.number) × (slice_get platforms j ≡ Some u)). h.shown.all.opened j a u other.1 home)
        (after_cases j u at);
  }

  there_after : AreThere v.plan rows after (set platforms v.number w)
  there_after = record {
    all = all_after;
    states = λ j u at.
        ⊎_elim
        (λ (here : (j ≡ v.number) × (u ≡ w)). ap (λ n. after.at n) here.0 ∙ at_here ∙ ap state_at (sym here.1))
        (λ (other : (j ≢ v.number) × (slice_get platforms j ≡ Some u)). at_there j other.0 ∙ h.shown.states j u other.1)
        (after_cases j u at);
    kept_turns = λ j u at.
        ⊎_elim
        (λ (here : (j ≡ v.number) × (u ≡ w)).
        ap (λ (z : PlatformView). z.turns) here.1 ∙ k.turns
        ∙ ap (λ ts. kept_with ts k.turn) (h.shown.kept_turns v.number v h.there)
        ∙ sym (kept-push (x.did v.number) k.turn)
        ∙ ap kept (sym (ap (λ n. after.did n) here.0 ∙ did_here)))
        (λ (other : (j ≢ v.number) × (slice_get platforms j ≡ Some u)). h.shown.kept_turns j u other.1 ∙ ap kept (sym (did_there j other.0)))
        (after_cases j u at);
  }

  way_after : is_late w.fault ≡ false → (l : ℕ) → after.on_way l ≡ held piped l
  way_after on_time l =
      ap (λ z. (z ++ held (emptied v.plan.graph v.number 0 pipes) l) ++ on_link l k.turn.sent) (none_left on_time l)
      ∙ sym (held_pushed k.is.done.outbox (emptied v.plan.graph v.number 0 pipes) piped k.turn.sent k.sent l)

  pending_after : ArePending v.plan.graph (set platforms v.number w) (set results v.number next)
  pending_after = record {
    count = length-set results v.number next ∙ h.shown.count ∙ sym (length-set platforms v.number w);
    each = λ j u ds at mine.
        ⊎_elim
        (λ (here : (j ≡ v.number) × (u ≡ w)).
        let same : ds ≡ next = same_some ds next (sym mine ∙ ap (slice_get (set results v.number next)) here.0 ∙ set_here results v.number next dones mine_at) in
        subst (λ (z : PlatformView). AreResults v.plan.graph z ds) (sym here.1) (subst (AreResults v.plan.graph w) (sym same) results_after))
        (λ (other : (j ≢ v.number) × (slice_get platforms j ≡ Some u)). h.shown.pending j u ds other.1 (sym (set_elsewhere results v.number j next other.0) ∙ mine))
        (after_cases j u at);
  }

  shown_after : is_late w.fault ≡ false → AreShown v.plan rows after (set platforms v.number w) piped (set results v.number next)
  shown_after on_time = record {
    all = all_after;
    states = there_after.states;
    kept_turns = there_after.kept_turns;
    links = k.sent.count ∙ length-emptied v.plan.graph v.number 0 pipes ∙ h.shown.links;
    on_way = λ l pipe at. way_after on_time l ∙ held_some piped l pipe at;
    nowhere_else = λ l none. way_after on_time l ∙ held_none piped l none;
    count = pending_after.count;
    pending = pending_after.each;
  }

  shows_here : ShowsVisit v.plan rows most room (raised_to v.reading c) v.number x w k.turn (set platforms v.number w) piped (set results v.number next)
  shows_here = record {
    made = visit_made;
    together = after;
    platform = refl;
    turn_is = refl;
    late = refl;
    fault = refl;
    makes = makes_it;
    there = there_after;
    pending = pending_after;
    shown = shown_after;
  }

-- the same by the plan and the number of the platform's view
before_of : (plan : Parts) (rows : ℕ → List Row) (x : RunState) (platforms : List PlatformView) (pipes : List (List Message)) (results : List (List Done)) → IsAdmitted plan → FitRows plan.graph rows → AreShown plan rows x platforms pipes results → (i : ℕ) (v : PlatformView) → slice_get platforms i ≡ Some v → OnTimeSoFar plan.graph (level_of plan.ranks) rows i x → IsBefore rows x platforms pipes results v
before_of plan rows x platforms pipes results admitted fits shown i v there so_far =
    let plan_is : plan ≡ v.plan = sym (shown.all.plans i v there) in
    let number_is : i ≡ v.number = sym (shown.all.numbers i v there) in
    record {
      admitted = subst IsAdmitted plan_is admitted;
      fits = subst (λ (p : Parts). FitRows p.graph rows) plan_is fits;
      so_far = subst (λ (p : Parts). OnTimeSoFar p.graph (level_of p.ranks) rows v.number x) plan_is (subst (λ n. OnTimeSoFar plan.graph (level_of plan.ranks) rows n x) number_is so_far);
      shown = subst (λ (p : Parts). AreShown p rows x platforms pipes results) plan_is shown;
      there = subst (λ n. slice_get platforms n ≡ Some v) number_is there;
    }

pub may_come : MayComeTo
may_come plan rows x platforms pipes results admitted fits shown i v there so_far = comes rows x platforms pipes results v (before_of plan rows x platforms pipes results admitted fits shown i v there so_far)

-- a visit of a platform by an engine is one by the definitions
pub visit_shows : VisitShows
visit_shows plan rows x platforms pipes results admitted fits shown most c i v w dones next piped there mine_at so_far room rooms small visited =
    let plan_is : plan ≡ v.plan = sym (shown.all.plans i v there) in
    let number_is : v.number ≡ i = shown.all.numbers i v there in
    let rooms_here : IsRoomFrom v.plan.graph v.number x room = subst (λ (p : Parts). IsRoomFrom p.graph v.number x room) plan_is (subst (λ n. IsRoomFrom plan.graph n x room) (sym number_is) rooms) in
    subst (λ (p : Parts). ShowsVisit p rows most room (raised_to v.reading c) i x w visited.turn (set platforms i w) piped (set results i next)) (sym plan_is)
    (subst (λ n. ShowsVisit v.plan rows most room (raised_to v.reading c) n x w visited.turn (set platforms n w) piped (set results n next)) number_is
    (shows_here rows x platforms pipes results v (before_of plan rows x platforms pipes results admitted fits shown i v there so_far) most c room rooms_here small w dones next piped (subst (λ n. slice_get results n ≡ Some dones) (sym number_is) mine_at) visited))

pub same_opened : (g : Graph) (i : ℕ) (some others : ℕ → List Row) → ((a : ℕ) → platform_of g a ≡ i → some a ≡ others a) → opened g i some ≡ opened g i others
same_opened g i some others same =
    ap (λ (left : ℕ → List Row). record (opened g i some) { left = left })
    (fun_ext (λ a.
    ⊎_elim
    (λ (here : (platform_of g a == i) ≡ true). ap (λ z. cond (platform_of g a == i) z []) (same a (eqb-true (platform_of g a) i here)))
    (λ (other : (platform_of g a == i) ≡ false). cond-false (platform_of g a == i) (some a) [] other ∙ sym (cond-false (platform_of g a == i) (others a) [] other))
    (cases_Bool (platform_of g a == i))))

pub start_shows : StartShows
start_shows plan rows platforms pipes results ready legal links empty count none = record {
  all = ready.all;
  states = λ i v there. sym (at_start i v there);
  kept_turns = λ i v there. ready.fresh.turns i v there;
  links = links;
  on_way = λ l pipe at. sym (empty l pipe at);
  nowhere_else = λ l at. refl;
  count = count;
  pending = λ i v dones there mine. subst (AreResults plan.graph v) (sym (none i dones mine)) (record {
    done = tt;
    open_claims = λ u. ap (λ (z : State). z.busy u) (at_start i v there);
    rise = tt;
  });
}
  where
    at_start : (i : ℕ) (v : PlatformView) → slice_get platforms i ≡ Some v → state_at v ≡ opened plan.graph i rows
    at_start i v there =
        let leads : Legal v.plan.graph (level_at v) v.number (opened v.plan.graph v.number (rows_at v)) [] (state_at v) =
        subst (λ ts. Legal v.plan.graph (level_at v) v.number (opened v.plan.graph v.number (rows_at v)) ts (state_at v)) (ready.fresh.turns i v there) (legal i v there).leads in
        leads
        ∙ ap (λ (p : Parts). opened p.graph v.number (rows_at v)) (ready.all.plans i v there)
        ∙ ap (λ n. opened plan.graph n (rows_at v)) (ready.all.numbers i v there)
        ∙ same_opened plan.graph i (rows_at v) rows (λ a home. ready.all.opened i a v there home)
