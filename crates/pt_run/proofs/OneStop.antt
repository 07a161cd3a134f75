-- The fault that stopped a run whose platforms were visited in turn.
use Rattle.std.proofs.Common.{◌≡◌, ℕ, ℤ, ◌+◌, List, [], ◌∷◌, Option, None, Some, slice_get, refl, sym, ap, ap₂, subst, ◌∙◌}
use Rattle.std.specs.Prelude.{option_map, unwrap_or}
use Rattle.std.proofs.lemmas.Bool.{false≢true}
use Rattle.std.proofs.lemmas.List.{same_from_push}
use Rattle.pt_tags.specs.declared.tag.Tag.{Tag}
use Rattle.pt_tags.specs.declared.message.Message.{Message}
use Rattle.pt_tags.specs.declared.message.Message.TheVariants.{Event}
use Rattle.pt_types.specs.declared.firing.OnLink.{OnLink}
use Rattle.pt_types.specs.declared.graph.Graph.{Graph}
use Rattle.pt_types.specs.declared.graph.Link.{Link}
use Rattle.pt_types.specs.declared.rows.Row.{Row}
use Rattle.pt_semantics.specs.Bounds.{link_bound}
use Rattle.pt_semantics.specs.Platform.{State}
use Rattle.pt_semantics.specs.Turn.{Turn}
use Rattle.pt_semantics.specs.Visits.{VisitRecord}
use Rattle.pt_semantics.proofs.Lookups.{same_some}
use Rattle.pt_offsets.specs.Plans.{Parts}
use Rattle.pt_turn.specs.declared.fault.TurnFault.{TurnFault}
use Rattle.pt_turn.specs.declared.fault.TurnFault.TheVariants.{Late, Long}
use Rattle.pt_turn.specs.All.{histories_of}
use Rattle.pt_turn.specs.Platforms.{PlatformView, state_at}
use Rattle.pt_turn.specs.Running.{Shows, ShowsLate, last_reading}
use Rattle.pt_turn.specs.Turned.{is_late}
use Rattle.pt_fixed_order.specs.Outcome.{LastVisitEnds}
use Rattle.pt_run.specs.Runs.{IsKept}

-- a message is of one tag
same_event : (t u : Tag) (x y : ℤ) → ◌≡◌ {A = Message} (Event t x) (Event u y) → t ≡ u
same_event t u x y e = cc

-- an event on a link
abbrev event_on : ℕ → Tag → ℤ → OnLink
event_on l t x = record { link = l; message = Event t x }

-- recorded turns show one late message
module _ (g : Graph) (turns : List Turn) (a b : ℕ) (t u : Tag) (r q l m : ℕ) (h : ShowsLate g turns a t r l) (k : ShowsLate g turns b u q m) where
  turn : (h.before ≡ k.before) × (h.turn ≡ k.turn)
  turn = same_from_push h.before k.before h.turn k.turn (sym h.ends ∙ k.ends)

  message : event_on h.late.number t h.late.value ≡ event_on k.late.number u k.late.value
  message = (same_from_push h.late.before k.late.before (event_on h.late.number t h.late.value) (event_on k.late.number u k.late.value) (sym h.late.ends ∙ ap (λ (x : Turn). x.taken) turn.1 ∙ k.late.ends)).1

  tag : t ≡ u
  tag = same_event t u h.late.value k.late.value (ap (λ (x : OnLink). x.message) message)

  link : h.late.link ≡ k.late.link
  link = same_some h.late.link k.late.link (sym h.late.at ∙ ap (λ (x : OnLink). slice_get g.links x.link) message ∙ k.late.at)

  actor : a ≡ b
  actor = sym h.late.receiver ∙ ap (λ (x : Link). x.to) link ∙ k.late.receiver

  reading : r ≡ q
  reading = same_some r q (sym h.late.read ∙ ap last_reading turn.0 ∙ k.late.read)

  limit : l ≡ m
  limit = h.late.limit_is ∙ ap₂ (λ (x : Tag) (z : Link). x.time + link_bound g z) tag link ∙ sym k.late.limit_is

  late_one : ◌≡◌ {A = TurnFault} (Late a t r l) (Late b u q m)
  late_one = λ i. Late (actor i) (tag i) (reading i) (limit i)

-- they show one fault of each kind
shown_one : (g : Graph) (turns : List Turn) (s z : State) (f e : TurnFault) → is_late (Some f) ≡ is_late (Some e) → Shows g turns s f → Shows g turns z e → f ≡ e
shown_one g turns s z (Late a t r l) (Late b u q m) same h k = late_one g turns a b t u r q l m h k
shown_one g turns s z (Late a t r l) Long same h k = absurd (false≢true (sym same))
shown_one g turns s z Long (Late b u q m) same h k = absurd (false≢true same)
shown_one g turns s z Long Long same h k = refl

-- no platform stopped two runs, or the same one by a fault of the same kind
abbrev pub StopAlike : Option (ℕ × TurnFault) → Option (ℕ × TurnFault) → Type 0
StopAlike None None = Unit {0}
StopAlike (Some f) (Some e) = (f.0 ≡ e.0) × (is_late (Some f.1) ≡ is_late (Some e.1))
StopAlike _ _ = ⊥

-- runs with the same visits
pub stop_alike : (made : List VisitRecord) (fault stop : Option (ℕ × TurnFault)) → LastVisitEnds made fault → LastVisitEnds made stop → StopAlike fault stop
stop_alike [] fault stop h k = absurd h
stop_alike (m ∷ []) None None h k = tt
stop_alike (m ∷ []) None (Some e) h k = absurd (false≢true (sym h ∙ k.1))
stop_alike (m ∷ []) (Some f) None h k = absurd (false≢true (sym k ∙ h.1))
stop_alike (m ∷ []) (Some f) (Some e) h k = (sym h.0 ∙ k.0, sym h.2 ∙ k.2)
stop_alike (m ∷ n ∷ ms) fault stop h k = stop_alike (n ∷ ms) fault stop h k

pub turns_of : (platforms : List PlatformView) (i : ℕ) (v : PlatformView) → slice_get platforms i ≡ Some v → histories_of platforms i ≡ v.turns
turns_of platforms i v at = ap (λ (o : Option PlatformView). unwrap_or (option_map (λ (v : PlatformView). v.turns) o) []) at

-- they have the same fault, if their histories are the same
pub stop_one : (plan other : Parts) (rows more : ℕ → List Row) (platforms others : List PlatformView) (fault stop : Option (ℕ × TurnFault)) → plan.graph ≡ other.graph → ((i : ℕ) → histories_of platforms i ≡ histories_of others i) →
    StopAlike fault stop → IsKept plan rows platforms fault → IsKept other more others stop → fault ≡ stop
stop_one plan other rows more platforms others None None graphs same alike h k = refl
stop_one plan other rows more platforms others None (Some e) graphs same alike h k = absurd alike
stop_one plan other rows more platforms others (Some f) None graphs same alike h k = absurd alike
stop_one plan other rows more platforms others (Some (i, f)) (Some (j, e)) graphs same (number, kind) h k =
    let (v, at, is, shows, before) = h.ends in
    let (w, there, has, shown, first) = k.ends in
    let turns : v.turns ≡ w.turns = sym (turns_of platforms i v at) ∙ same i ∙ ap (histories_of others) number ∙ turns_of others j w there in
    let here : Shows plan.graph v.turns (state_at w) e =
    subst (λ (g : Graph). Shows g v.turns (state_at w) e) (sym graphs) (subst (λ (ts : List Turn). Shows other.graph ts (state_at w) e) (sym turns) shown) in
    let fault : f ≡ e = shown_one plan.graph v.turns (state_at v) (state_at w) f e kind shows here in
    λ x. Some (number x, fault x)
