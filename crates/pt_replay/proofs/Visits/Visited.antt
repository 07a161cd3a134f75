-- What a visit sent is on its way, and the pipes are empty again.
use Rattle.std.proofs.Common.{◌≡◌, ◌-◌, ℕ, zero, suc, ◌<◌, ◌≤◌, Bool, true, false, List, [], ◌∷◌, ◌++◌, Some, None, ⊎_elim, length, map, take, get_or, refl, sym, ap, ap₂, subst, ◌∙◌, arith}
use Rattle.std.specs.Prelude.{if◌then◌else◌, slice_get, slice_index_or}
use Rattle.std.proofs.lemmas.List.{get_or_past}
use Rattle.std.proofs.lemmas.Option.{get_or_from_slice_get, slice_get-get_or, slice_get_cases}
use Rattle.pt_tags.specs.declared.message.Message.{Message}
use Rattle.pt_types.specs.declared.graph.Graph.{Graph}
use Rattle.pt_types.specs.declared.firing.Done.{Done}
use Rattle.pt_types.specs.declared.firing.OnLink.{OnLink}
use Rattle.pt_semantics.specs.Closing.{on_link}
use Rattle.pt_semantics.specs.Lists.{Each}
use Rattle.pt_types.specs.declared.air.Air.{Air}
use Rattle.pt_types.specs.declared.air.InAir.{InAir}
use Rattle.pt_semantics.specs.Arrivals.{AirwayView}
use Rattle.pt_turn.specs.Platforms.{PlatformView}
use Rattle.pt_visits.specs.Pipes.{HavePushed, emptied}
use Rattle.pt_semantics.specs.Visits.{leads_to}
use Rattle.pt_visits.specs.Visited.{IsVisited}
use Rattle.pt_semantics.specs.TrueTime.{came, come_on, left_on, map_from, put_link, reading_at}
use Rattle.pt_replay.specs.Visits.Visits.{WasVisitedAt, airway_after}
use Rattle.pt_replay.proofs.Visits.Replacing.{length-map_from, map_alike, map_both}

each_at : {X : Type 0} (P : X → Type 0) (xs : List X) (l : ℕ) (x : X) → Each P xs → slice_get xs l ≡ Some x → P x
each_at P [] l x h at = cc
each_at P (y ∷ ys) zero x h at = let same : y ≡ x = cc in subst P same h.0
each_at P (y ∷ ys) (suc l) x h at = each_at P ys l x h.1 at

-- the pipes are empty after the platform took what had come
none_left : (g : Graph) (i now n : ℕ) (airways : List AirwayView) → Each (λ pipe. pipe ≡ []) (emptied g i n (map_from (come_on g i now) n airways))
none_left g i now n [] = tt
none_left g i now n (a ∷ airways) = (either (leads_to g i (slice_get g.links n)) (map (λ (m : InAir). m.message) (take (came now a.on_way) a.on_way)), none_left g i now (suc n) airways)
  where
    either : {X : Type 0} (b : Bool) (xs : List X) → ◌≡◌ {A = List X} (if b then [] else (if b then xs else [])) []
    either true xs = refl
    either false xs = refl

pub length-emptied : (g : Graph) (i n : ℕ) (pipes : List (List Message)) → length (emptied g i n pipes) ≡ length pipes
length-emptied g i n [] = refl
length-emptied g i n (pipe ∷ pipes) = ap suc (length-emptied g i (suc n) pipes)

-- each pipe then holds what was sent
pub sent_on : (outbox : ℕ → List Message) (old new : List (List Message)) (sent : List OnLink) → HavePushed outbox old new sent → Each (λ pipe. pipe ≡ []) old → (l : ℕ) → slice_index_or new l [] ≡ on_link l sent
sent_on outbox old new sent h empty l =
    ⊎_elim
    (λ (there : (pipe : List Message) × (l < length old) × (slice_get old l ≡ Some pipe) × (get_or old l pipe ≡ pipe)).
    get_or_from_slice_get new l (there.0 ++ on_link l sent) [] (h.pipes l there.0 there.2) ∙ ap (λ (z : List Message). z ++ on_link l sent) (each_at (λ (pipe : List Message). pipe ≡ []) old l there.0 empty there.2))
    (λ (past : (length old ≤ l) × (slice_get old l ≡ None)). get_or_past new l [] (omega (arith, h.count, past.0)) ∙ sym (h.nowhere_else l past.1))
    (slice_get_cases old l).1

pub visit_of : (air : Air) (now : ℕ) (dones results : List Done) (old new : PlatformView) (before after : List AirwayView) (piped : List (List Message))
    → IsVisited 64 (reading_at air old.number now) dones results old new (map_from (come_on old.plan.graph old.number now) 0 before) piped
    → after ≡ map_from (λ k. put_link air old.plan.graph now k (slice_index_or piped k [])) 0 (map_from (left_on old.plan.graph old.number now) 0 before)
    → WasVisitedAt air now dones results old new before after
visit_of air now dones results old new before after piped v put = record {
  piped = piped;
  visited = v;
  airways =
      put
      ∙ map_both (λ k. put_link air old.plan.graph now k (slice_index_or piped k [])) (left_on old.plan.graph old.number now) 0 before
      ∙ map_alike (λ l a. put_link air old.plan.graph now l (slice_index_or piped l []) (left_on old.plan.graph old.number now l a)) (airway_after air old.plan.graph old.number now v.turn.sent)
      (λ l a. ap (λ (ms : List Message). put_link air old.plan.graph now l ms (left_on old.plan.graph old.number now l a)) (sent_on v.is.done.outbox (emptied old.plan.graph old.number 0 (map_from (come_on old.plan.graph old.number now) 0 before)) piped v.turn.sent v.sent (none_left old.plan.graph old.number now 0 before) l))
      0 before;
}

-- empty pipes are as they were
pub as_before : (piped pipes : List (List Message)) → Each (λ pipe. pipe ≡ []) pipes → length piped ≡ length pipes → map (λ pipe. []) piped ≡ pipes
as_before [] [] h count = refl
as_before [] (p ∷ pipes) h count = absurd (omega (arith, count))
as_before (q ∷ piped) [] h count = absurd (omega (arith, count))
as_before (q ∷ piped) (p ∷ pipes) h count = ap₂ (λ (x : List Message) (xs : List (List Message)). x ∷ xs) (sym h.0) (as_before piped pipes h.1 (omega (arith, count)))

-- on each link a visit sends the first 64 messages of the outbox, or all
pub sends_first : (air : Air) (now : ℕ) (dones results : List Done) (old new : PlatformView) (before after : List AirwayView) → (h : WasVisitedAt air now dones results old new before after)
    → (l : ℕ) → l < length before → on_link l h.visited.turn.sent ≡ take 64 (h.visited.is.done.outbox l)
sends_first air now dones results old new before after h l below =
    let came_on = map_from (come_on old.plan.graph old.number now) 0 before in
    let pipes = emptied old.plan.graph old.number 0 came_on in
    let count : length pipes ≡ length before = length-emptied old.plan.graph old.number 0 came_on ∙ length-map_from (come_on old.plan.graph old.number now) 0 before in
    let at : slice_get pipes l ≡ Some (get_or pipes l []) = slice_get-get_or pipes l [] (omega (arith, below, count)) in
    let none : get_or pipes l [] ≡ [] = each_at (λ (pipe : List Message). pipe ≡ []) pipes l (get_or pipes l []) (none_left old.plan.graph old.number now 0 before) at in
    h.visited.sent.first l (get_or pipes l []) at ∙ ap (λ (pipe : List Message). take (64 - length pipe) (h.visited.is.done.outbox l)) none
