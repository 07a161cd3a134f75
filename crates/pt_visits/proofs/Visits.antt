-- A turn and what is sent after it are a visit.
use Rattle.std.proofs.Common.{◌≡◌, ℕ, min, ◌+◌, ◌-◌, ◌<◌, ◌≤◌, List, [], ◌∷◌, ◌++◌, Option, Some, length, map, take, zero, suc, refl, inl, inr, append-nil, sym, ap, subst, ◌∙◌, length-append, arith}
use Rattle.std.proofs.lemmas.List.{length-take}
use Rattle.std.proofs.lemmas.Option.{slice_get_cases}
use Rattle.pt_tags.specs.declared.message.Message.{Message}
use Rattle.pt_types.specs.declared.graph.Graph.{Graph}
use Rattle.pt_types.specs.declared.firing.Done.{Done}
use Rattle.pt_types.specs.declared.firing.OnLink.{OnLink}
use Rattle.pt_types.specs.declared.firing.Task.{Task}
use Rattle.pt_offsets.specs.Plans.{Parts}
use Rattle.pt_turn.specs.declared.room.Room.{Room}
use Rattle.pt_history.specs.Lists.{on_last}
use Rattle.pt_history.proofs.LastMember.{on_last-push}
use Rattle.pt_semantics.specs.Closing.{Sends, on_link, unsent}
use Rattle.pt_semantics.specs.Kept.{kept_with, settled}
use Rattle.pt_semantics.specs.Platform.{State}
use Rattle.pt_semantics.specs.Turn.{Turn}
use Rattle.pt_history.specs.Turns.{sending}
use Rattle.pt_turn.specs.Posts.Posted.{AreDone}
use Rattle.pt_turn.specs.Gone.{last_sent}
use Rattle.pt_turn.specs.Platforms.{PlatformView, level_at, state_at}
use Rattle.pt_turn.specs.Rested.{HasRested}
use Rattle.pt_turn.specs.Turned.{IsTurned, StaysThere, is_late}
use Rattle.pt_turn.proofs.Sending.{last_sent_pushed, taken_still, turn_more}
use Rattle.pt_visits.specs.Pipes.{HavePushed, arriving, emptied}
use Rattle.pt_visits.specs.Pushing.{ArePushed}
use Rattle.pt_visits.specs.Visited.{IsVisited}
use Rattle.pt_laws.proofs.SameTurns.{turn_to}
use Rattle.pt_visits.proofs.Sent.{sent_none}

-- the outbox before sending is that of the platform after its turn
outbox_is : (done mid : State) (sent : List OnLink) → sent ≡ [] → Sends done sent mid → (l : ℕ) → done.outbox l ≡ mid.outbox l
outbox_is done mid sent none s l = s.2 l ∙ ap (λ (z : List OnLink). on_link l z ++ s.0 l) none ∙ sym (ap (λ (z : State). z.outbox l) s.1)

pushed_from : (outbox from : ℕ → List Message) (old new : List (List Message)) (sent : List OnLink) → ((l : ℕ) → from l ≡ outbox l) → HavePushed outbox old new sent → HavePushed from old new sent
pushed_from outbox from old new sent same h = record {
  count = h.count;
  pipes = h.pipes;
  first = λ l pipe at. h.first l pipe at ∙ ap (take (64 - length pipe)) (sym (same l));
  nowhere_else = h.nowhere_else;
  by_link = h.by_link;
}

-- the platform after it sent these messages, with this outbox left
abbrev with_sent : PlatformView → List OnLink → List OnLink → PlatformView
with_sent mid ms outbox = record mid { turns = on_last (sending ms) mid.turns; outbox = outbox }

state_after : (mid : PlatformView) (ms outbox : List OnLink) → state_at (with_sent mid ms outbox) ≡ unsent (state_at mid) (λ (l : ℕ). on_link l outbox)
state_after mid ms outbox = ap (λ (z : List OnLink). record (state_at mid) { outbox = λ l. on_link l outbox; taken = λ l. on_link l z }) (taken_still mid.turns ms)

pub begun : (before after : List Turn) (turn : Turn) → after ≡ kept_with before turn → 0 < length after
begun before after turn is = let n : length after ≡ length (settled before) + 1 = ap length is ∙ length-append (settled before) (turn ∷ []) in omega (arith, n)

pub nothing_sent : (before after : List Turn) (turn : Turn) → after ≡ kept_with before turn → turn.sent ≡ [] → last_sent after ≡ []
nothing_sent before after turn is none = ap last_sent is ∙ last_sent_pushed (settled before) turn ∙ none

few_sent : (outbox : ℕ → List Message) (old new : List (List Message)) (sent : List OnLink) → HavePushed outbox old new sent → (l : ℕ) → length (on_link l sent) ≤ 64
few_sent outbox old new sent h l = elim (slice_get_cases old l).1 [
  | inl found ↦ some found.0 (h.first l found.0 found.2)
  | inr none ↦ let n : length (on_link l sent) ≡ 0 = ap length (h.nowhere_else l none.1) in omega (arith, n)
]
  where
    some : (pipe : List Message) → on_link l sent ≡ take (64 - length pipe) (outbox l) → length (on_link l sent) ≤ 64
    some pipe e = let n : length (on_link l sent) ≡ min (64 - length pipe) (length (outbox l)) = ap length e ∙ length-take (64 - length pipe) (outbox l) in omega (arith, n)

module _ (most r : ℕ) (dones results : List Done) (old mid : PlatformView) (pipes piped : List (List Message)) (made : IsTurned old mid r most dones (arriving old.plan.graph old.number 0 pipes)) (stays : StaysThere old mid) (fired : map (λ (d : Done). d.task) results ≡ made.turn.claimed) (are : AreDone old.plan.graph results) where
  visited_sent : (ms outbox : List OnLink) → ((l : ℕ) → on_link l mid.outbox ≡ on_link l ms ++ on_link l outbox) → HavePushed (λ (l : ℕ). on_link l mid.outbox) (emptied old.plan.graph old.number 0 pipes) piped ms → IsVisited most r dones results old (with_sent mid ms outbox) pipes piped
  visited_sent ms outbox splits pushed = record {
    turn = sending ms made.turn;
    at = (made.at.0, made.at.1, made.at.2);
    is = turn_to old.plan.graph (level_at old) old.number (state_at old) (unsent (state_at mid) (λ (l : ℕ). on_link l outbox)) (state_at (with_sent mid ms outbox)) (sending ms made.turn) (is_late mid.fault) (sym (state_after mid ms outbox))
        (turn_more old.plan.graph (level_at old) old.number (state_at old) (state_at mid) made.turn (is_late mid.fault) ms (λ (l : ℕ). on_link l outbox) made.is splits
        (λ l before. subst (λ (z : List OnLink). length (on_link l (z ++ ms)) ≤ 64) (sym made.at.3) (few_sent (λ (l : ℕ). on_link l mid.outbox) (emptied old.plan.graph old.number 0 pipes) piped ms pushed l)));
    posted = made.posted;
    taken = made.taken;
    few = made.few;
    all_or = made.all_or;
    last = made.last;
    turns = ap (on_last (sending ms)) made.turns ∙ on_last-push (sending ms) (settled old.turns) made.turn;
    sent = pushed_from (λ (l : ℕ). on_link l mid.outbox) made.is.done.outbox (emptied old.plan.graph old.number 0 pipes) piped (made.turn.sent ++ ms) (outbox_is made.is.done (state_at mid) made.turn.sent made.at.3 made.is.sends)
        (subst (λ (z : List OnLink). HavePushed (λ (l : ℕ). on_link l mid.outbox) (emptied old.plan.graph old.number 0 pipes) piped (z ++ ms)) (sym made.at.3) pushed);
    stays = record { plan = stays.plan; number = stays.number; rows = stays.rows };
    fired = fired;
    done = are;
  }

  pub visited : (new : PlatformView) → ArePushed mid new (emptied old.plan.graph old.number 0 pipes) piped → IsVisited most r dones results old new pipes piped
  visited new p =
      let is : new ≡ with_sent mid p.sent new.outbox = p.gone.stays ∙ ap (λ (ts : List Turn). record mid { turns = ts; outbox = new.outbox }) p.gone.turns in
      subst (λ (v : PlatformView). IsVisited most r dones results old v pipes piped) (sym is) (visited_sent p.sent new.outbox p.gone.rest p.pushed)

-- a turn was made, and what it claimed was handed out
abbrev pub MakesTurn : ℕ → PlatformView → PlatformView → ℕ → List Done → List OnLink → List Task → List Task → Type 0
MakesTurn most old new r dones messages handed tasks = (made : IsTurned old new r most dones messages) × (tasks ≡ handed ++ made.turn.claimed) × StaysThere old new

-- for what it had memory makes no difference
pub without_room : (most : ℕ) (old new : PlatformView) (room : Option Room) (r : ℕ) (dones : List Done) (messages : List OnLink) (handed tasks : List Task) → MakesTurn most (record old { room = room }) new r dones messages handed tasks → MakesTurn most old new r dones messages handed tasks
without_room most old new room r dones messages handed tasks h = (
  record {
    turn = h.0.turn;
    at = h.0.at;
    is = h.0.is;
    posted = h.0.posted;
    taken = h.0.taken;
    few = h.0.few;
    all_or = h.0.all_or;
    last = h.0.last;
    turns = h.0.turns;
  },
  h.1,
  record { plan = h.2.plan; number = h.2.number; rows = h.2.rows },
)

pub is_visited : (most r : ℕ) (dones given results : List Done) (old mid new : PlatformView) (pipes between piped : List (List Message)) (messages : List OnLink) (handed tasks : List Task) → MakesTurn most old mid r given messages handed tasks → given ≡ dones → messages ≡ arriving old.plan.graph old.number 0 pipes → handed ≡ [] → ArePushed mid new between piped
    → between ≡ emptied old.plan.graph old.number 0 pipes → map (λ (d : Done). d.task) results ≡ tasks → AreDone new.plan.graph results → IsVisited most r dones results old new pipes piped
is_visited most r dones given results old mid new pipes between piped messages handed tasks h given_is messages_are handed_are pushed between_are fired are =
    let one : MakesTurn most old mid r dones messages handed tasks = subst (λ (ds : List Done). MakesTurn most old mid r ds messages handed tasks) given_is h in
    let two : MakesTurn most old mid r dones (arriving old.plan.graph old.number 0 pipes) handed tasks = subst (λ (ms : List OnLink). MakesTurn most old mid r dones ms handed tasks) messages_are one in
    let all : MakesTurn most old mid r dones (arriving old.plan.graph old.number 0 pipes) [] tasks = subst (λ (ts : List Task). MakesTurn most old mid r dones (arriving old.plan.graph old.number 0 pipes) ts tasks) handed_are two in
    let graph_is : new.plan.graph ≡ old.plan.graph = ap (λ (v : PlatformView). v.plan.graph) pushed.gone.stays ∙ ap (λ (p : Parts). p.graph) all.2.plan in
    visited most r dones results old mid pipes piped all.0 all.2 (fired ∙ all.1) (subst (λ (g : Graph). AreDone g results) graph_is are) new (subst (λ (ps : List (List Message)). ArePushed mid new ps piped) between_are pushed)

-- a visit in which nothing is done
nothing_pushed : (v : PlatformView) (pipes : List (List Message)) → v.outbox ≡ [] → ArePushed v v pipes pipes
nothing_pushed v pipes none = record {
  sent = [];
  gone = sent_none v;
  pushed = record {
    count = refl;
    pipes = λ l pipe at. at ∙ ap Some (sym (append-nil pipe));
    first = λ l pipe at. sym (ap (λ (ms : List OnLink). take (64 - length pipe) (on_link l ms)) none ∙ take-nil (64 - length pipe));
    nowhere_else = λ l at. refl;
    by_link = tt;
  };
}
  where
    take-nil : (n : ℕ) → take {A = Message} n [] ≡ []
    take-nil zero = refl
    take-nil (suc n) = refl

pub rested_visit : (most r : ℕ) (dones : List Done) (old new : PlatformView) (pipes piped : List (List Message)) (taken : List OnLink) → dones ≡ [] → taken ≡ [] → taken ≡ arriving old.plan.graph old.number 0 pipes → piped ≡ emptied old.plan.graph old.number 0 pipes → HasRested old new r → IsVisited most r dones dones old new pipes piped
rested_visit most r dones old new pipes piped taken no_dones none are emptied_are h =
    let turned : (made : IsTurned old new r most [] (arriving old.plan.graph old.number 0 pipes)) × (made.turn.claimed ≡ []) = subst (λ (ms : List OnLink). (made : IsTurned old new r most [] ms) × (made.turn.claimed ≡ [])) (sym none ∙ are) (h.made most, h.idle most) in
    subst (λ (ds : List Done). IsVisited most r ds ds old new pipes piped) (sym no_dones)
    (subst (λ (ps : List (List Message)). IsVisited most r [] [] old new pipes ps) (sym emptied_are)
    (visited most r [] [] old new pipes (emptied old.plan.graph old.number 0 pipes) turned.0 h.stays (sym turned.1) tt new (nothing_pushed new (emptied old.plan.graph old.number 0 pipes) h.sent_all)))
