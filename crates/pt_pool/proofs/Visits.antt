-- What a visit needs, and what it makes.
use Rattle.std.proofs.Common.{◌≡◌, ℕ, List, ◌++◌, Some, None, Option, refl, sym, ap, subst, ◌∙◌}
use Rattle.std.specs.Prelude.{option_map, slice_get}
use Rattle.std.proofs.lemmas.Option.{slice_get_within}
use Rattle.pt_tags.specs.declared.message.Message.{Message}
use Rattle.pt_types.specs.declared.graph.Link.{Link}
use Rattle.pt_types.specs.declared.firing.Done.{Done}
use Rattle.pt_types.specs.declared.firing.OnLink.{OnLink}
use Rattle.pt_types.specs.declared.firing.Task.{Task}
use Rattle.pt_semantics.proofs.LawfulEdges.{wired}
use Rattle.pt_semantics.specs.Closing.{on_link}
use Rattle.pt_types.specs.Lookups.{platform_of}
use Rattle.pt_semantics.specs.History.{LegalOnTime}
use Rattle.pt_semantics.specs.Linked.{all_sent}
use Rattle.pt_semantics.specs.Orderly.{IsOrderly}
use Rattle.pt_semantics.specs.Platform.{opened}
use Rattle.pt_laws.specs.HistoryTheorems.{OutgoingOrderlyAfter}
use Rattle.pt_links.specs.declared.rule.Bounds.{Bounds}
use Rattle.pt_links.specs.Ends.{SentBy, TakenBy}
use Rattle.pt_links.specs.Line.{IsOrderlyBy}
use Rattle.pt_offsets.specs.Plans.{Parts}
use Rattle.pt_turn.specs.declared.room.Room.{Room}
use Rattle.pt_turn.specs.Laws.{IsRunning}
use Rattle.pt_turn.specs.Platforms.{PlatformView, level_at, messages_of, rows_at, state_at}
use Rattle.pt_turn.specs.Turned.{IsTurned, MayCome, is_late}
use Rattle.pt_visits.proofs.Visits.{MakesTurn, without_room}
use Rattle.pt_pool.specs.Ends.{End, end_in, end_out, limits_at, limits_of}
use Rattle.pt_pool.specs.Lanes.{ArePut, AreTaken, Took}
use Rattle.pt_pool.specs.LinkedPlatform.{BelongTogether, WasVisited}
use Rattle.pt_pool.proofs.Lanes.{get_map, got_map}

-- what is orderly by the bounds of a plan's link
pub orderly_by : (plan : Parts) (l : ℕ) (link : Link) (b : Option Bounds) (ms : List Message) → slice_get plan.graph.links l ≡ Some link → b ≡ limits_at plan l → IsOrderlyBy b ms → IsOrderlyBy (Some (limits_of plan link)) ms
orderly_by plan l link b ms at is h = subst (λ (z : Option Bounds). IsOrderlyBy z ms) (is ∙ ap (option_map (limits_of plan)) at) h

pub by_orderly : (plan : Parts) (l : ℕ) (link : Link) (b : Option Bounds) (ms : List Message) → slice_get plan.graph.links l ≡ Some link → b ≡ limits_at plan l → IsOrderlyBy (Some (limits_of plan link)) ms → IsOrderlyBy b ms
by_orderly plan l link b ms at is h = subst (λ (z : Option Bounds). IsOrderlyBy z ms) (sym (is ∙ ap (option_map (limits_of plan)) at)) h

-- the same end before and after
pub record Pair (ins ins' : List (ℕ × TakenBy)) (given : List OnLink) (l : ℕ) : Type 0 where
  pub i : ℕ
  pub e : ℕ × TakenBy
  pub f : ℕ × TakenBy
  pub at : slice_get ins i ≡ Some e
  pub now : slice_get ins' i ≡ Some f
  pub number : e.0 ≡ l
  pub took : Took e.0 e.1 f.1 (on_link e.0 given)

pub pair_at : (ins ins' : List (ℕ × TakenBy)) (given : List OnLink) (i : ℕ) (e : ℕ × TakenBy) → AreTaken ins ins' given → slice_get ins i ≡ Some e → Pair ins ins' given e.0
pair_at ins ins' given i e h at =
    let f = got_map end_in ins' i (end_in e) (ap (λ (z : List End). slice_get z i) h.ends ∙ get_map end_in ins i e at) in
    record { i = i; e = e; f = f.0; at = at; now = f.1; number = refl; took = h.below i e f.0 (slice_get_within ins i e at) at f.1 }

pub pair_of : (v : PlatformView) (outs : List (ℕ × SentBy)) (ins ins' : List (ℕ × TakenBy)) (given : List OnLink) (l : ℕ) (link : Link) → BelongTogether v outs ins → AreTaken ins ins' given → slice_get v.plan.graph.links l ≡ Some link → platform_of v.plan.graph link.to ≡ v.number → Pair ins ins' given l
pair_of v outs ins ins' given l link fits h at home =
    let x = fits.ins_are.each l link at home in
    let e = got_map end_in ins x.0 x.1 x.2 in
    let p = pair_at ins ins' given x.0 e.0 h e.1 in
    let num : e.0.0 ≡ l = ap (λ (z : End). z.number) e.2 ∙ x.3 in
    record { i = p.i; e = p.e; f = p.f; at = p.at; now = p.now; number = p.number ∙ num; took = p.took }

-- what was taken may come
pub may_come : (v : PlatformView) (outs : List (ℕ × SentBy)) (ins ins' : List (ℕ × TakenBy)) (given : List OnLink) → BelongTogether v outs ins → v.fault ≡ None → AreTaken ins ins' given → MayCome v.plan.graph (level_at v) v.number (state_at v) given
may_come v outs ins ins' given fits none h = record {
  links = λ m inside.
      let w = h.members m inside in
      let o = fits.ins_are.own w.0 (end_in w.2) (get_map end_in ins w.0 w.2 w.3) in
      (o.0, subst (λ (n : ℕ). slice_get v.plan.graph.links n ≡ Some o.0) w.4 o.1, o.2);
  orderly = λ l link at home.
      let p = pair_of v outs ins ins' given l link fits h at home in
      let limits : p.e.1.limits ≡ limits_at v.plan l = fits.ins_are.limits p.i (end_in p.e) (get_map end_in ins p.i p.e p.at) ∙ ap (limits_at v.plan) p.number in
      let all : p.f.1.taken ≡ on_link l (messages_of v.turns) ++ on_link l given =
      p.took.taken ∙ ap (λ (z : List Message). z ++ on_link p.e.0 given) (fits.taken none p.i p.e p.at) ∙ ap (λ (n : ℕ). on_link n (messages_of v.turns) ++ on_link n given) p.number in
      subst (IsOrderly v.plan.graph (level_at v) link) all (orderly_by v.plan l link p.e.1.limits p.f.1.taken at limits (p.took.orderly (fits.orderly p.i p.e p.at)));
}

-- what is pending after the turn may be sent
pub may_go_out : OutgoingOrderlyAfter → (v mid : PlatformView) (outs : List (ℕ × SentBy)) (ins : List (ℕ × TakenBy)) (r most : ℕ) (dones : List Done) (given : List OnLink) → BelongTogether v outs ins → IsRunning v → LegalOnTime v.plan.graph (level_at v) v.number (opened v.plan.graph v.number (rows_at v)) v.turns (state_at v)
    → (made : IsTurned v mid r most dones given) → (i : ℕ) (e : ℕ × SentBy) → slice_get outs i ≡ Some e → IsOrderlyBy e.1.limits (e.1.sent ++ on_link e.0 mid.outbox)
may_go_out theorem v mid outs ins r most dones given fits runs legal made i e at =
    let g = v.plan.graph in
    let E = get_map end_out outs i e at in
    let o = fits.outs_are.own i (end_out e) E in
    let h : IsOrderly g (level_at v) o.0 (all_sent e.0 v.turns ++ (on_link e.0 made.turn.sent ++ on_link e.0 mid.outbox)) =
    theorem g (level_at v) v.number (rows_at v) v.turns made.turn (state_at v) (state_at mid) (is_late mid.fault) (wired g runs.admitted.lawful) runs.admitted.levels runs.rows legal made.is e.0 o.0 o.1 o.2 in
    let all : all_sent e.0 v.turns ++ (on_link e.0 made.turn.sent ++ on_link e.0 mid.outbox) ≡ e.1.sent ++ on_link e.0 mid.outbox =
    ap (λ (z : List OnLink). all_sent e.0 v.turns ++ (on_link e.0 z ++ on_link e.0 mid.outbox)) made.at.3 ∙ ap (λ (z : List Message). z ++ on_link e.0 mid.outbox) (sym (fits.sent i e at)) in
    by_orderly v.plan e.0 o.0 e.1.limits (e.1.sent ++ on_link e.0 mid.outbox) o.1 (fits.outs_are.limits i (end_out e) E) (subst (IsOrderly g (level_at v) o.0) all h)

-- the reserved memory makes no difference to the turn that was made
pub any_room : {o : Option Room} (old q new : PlatformView) (r most : ℕ) (dones : List Done) (messages : List OnLink) (handed tasks : List Task) → q ≡ record old { room = o } → MakesTurn most q new r dones messages handed tasks → MakesTurn most old new r dones messages handed tasks
any_room {o} old q new r most dones messages handed tasks e h = without_room most old new o r dones messages handed tasks (subst (λ (p : PlatformView). MakesTurn most p new r dones messages handed tasks) e h)

pub was_visited : (r most : ℕ) (dones : List Done) (old mid new : PlatformView) (outs outs' : List (ℕ × SentBy)) (ins ins' : List (ℕ × TakenBy)) (given : List OnLink) (handed tasks : List Task) → MakesTurn most old mid r dones given handed tasks → AreTaken ins ins' given → ArePut mid new outs outs' → WasVisited r most dones old new outs outs' ins ins' handed tasks
was_visited r most dones old mid new outs outs' ins ins' given handed tasks h took put = record { given = given; took = took; mid = mid; made = h.0; stays = h.2; tasks = h.1; put = put }
