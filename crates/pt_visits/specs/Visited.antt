-- A visit of a platform by an engine that owns it and all links.
use Rattle.std.specs.Prelude.{◌≡◌, ◌≤◌, ◌⊎◌, ◌++◌, ℕ, false, List, length, map}
use Rattle.pt_tags.specs.declared.message.Message.{Message}
use Rattle.pt_types.specs.declared.firing.Done.{Done}
use Rattle.pt_types.specs.declared.firing.OnLink.{OnLink}
use Rattle.pt_history.specs.Lists.{on_last}
use Rattle.pt_semantics.specs.Closing.{on_link}
use Rattle.pt_semantics.specs.Kept.{kept_with}
use Rattle.pt_semantics.specs.Safe.{NothingSafe}
use Rattle.pt_semantics.specs.Turn.{IsLast, IsTurn, Turn}
use Rattle.pt_turn.specs.Fields.State.{busy_in}
use Rattle.pt_history.specs.Turns.{sending}
use Rattle.pt_turn.specs.Posts.Posted.{AreDone, ArePosted}
use Rattle.pt_turn.specs.Steps.{IsFront}
use Rattle.pt_turn.specs.Platforms.{PlatformView, level_at, raised_to, state_at}
use Rattle.pt_turn.specs.Turned.{FaultsIfLast, StaysThere, is_late}
use Rattle.pt_visits.specs.Pipes.{HavePushed, arriving, emptied}

-- after its last turn a platform sent these messages, and the rest of each outbox remains
pub record HasSent (old new : PlatformView) (sent : List OnLink) : Type 0 where
  pub rest : (l : ℕ) → on_link l old.outbox ≡ on_link l sent ++ on_link l new.outbox
  pub turns : new.turns ≡ on_last (sending sent) old.turns
  pub stays : new ≡ record old { turns = new.turns; outbox = new.outbox }

-- a platform was visited at reading r with these results: it took the messages that had arrived, made one turn with at most
-- `most` claims, and sent what the pipes had room for; its next results are those of the tasks that it claimed
pub record IsVisited (most r : ℕ) (dones results : List Done) (old new : PlatformView) (pipes piped : List (List Message)) : Type 0 where
  pub turn : Turn
  pub at : (turn.first ≡ raised_to old.reading r) × (turn.last ≡ raised_to old.reading r) × (turn.count ≡ 1)
  pub is : IsTurn old.plan.graph (level_at old) old.number (state_at old) turn (is_late new.fault) (state_at new)
  pub posted : ArePosted old.plan.graph (busy_in old.open_claims) dones turn.posted
  pub taken : IsFront (arriving old.plan.graph old.number 0 pipes) turn.taken (is_late new.fault)
  pub few : length turn.claimed ≤ most
  pub all_or : is_late new.fault ≡ false → NothingSafe old.plan.graph is.ready.waits is.ready.busy turn.last ⊎ ((most ≤ length turn.claimed) ⊎ (old.plan.graph.claims ≤ is.ready.claims))
  pub last : FaultsIfLast new.fault (IsLast old.plan.graph (state_at old) turn.last (is_late new.fault) is.ready)
  pub turns : new.turns ≡ kept_with old.turns turn
  pub sent : HavePushed is.done.outbox (emptied old.plan.graph old.number 0 pipes) piped turn.sent
  pub stays : StaysThere old new
  pub fired : map (λ (d : Done). d.task) results ≡ turn.claimed
  pub done : AreDone old.plan.graph results
